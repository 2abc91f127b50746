-- How far tables were written where memory lacked, of lists that are those of disks taken out of a vector and put back.
use Rattle.std.proofs.Common.{◌≡◌, ℕ, List, [], subst}
use Rattle.volume_files.specs.block_device.DiskSeen.{DiskSeen}
use Rattle.volume_files.specs.block_device.StreamSeen.{SinkSeen}
use Rattle.volume_files.specs.vnode_files.declared.vnode.FileInfo.{FileInfo}
use Rattle.volume_files.specs.stored_files.Texts.{Wrote}
use Rattle.volume_files.specs.stored_files.Written.{WriteTables}
use Rattle.run_endings.specs.declared.ending.Ending.{Ending}
use Rattle.run_endings.specs.declared.ending.Ending.TheVariants as ending
use Rattle.run_report.specs.ReportEnds.{LacksTable, TablesLeft}

pub lacks-kept : (infos : List FileInfo) (k0 k1 : SinkSeen) (low mid old new : List (ℕ × DiskSeen)) (how : Ending) → how ≡ ending.Memory → TablesLeft infos low mid → low ≡ old → mid ≡ new
    → WriteTables old new → Wrote k0 k1 [] → LacksTable infos k0 k1 old new how
lacks-kept infos k0 k1 low mid old new how memory tables was is writes wrote = record {
  memory = memory;
  writes = writes;
  tables = subst (λ (d : List (ℕ × DiskSeen)). TablesLeft infos d new) was (subst (TablesLeft infos low) is tables);
  wrote = wrote;
}
