use Rattle.std.proofs.Common.{sym, subst}
use Rattle.volume_format.specs.vnode_files.Files.{FilesSeen}
use Rattle.volume_files.specs.Placing.{AreSet, attached_numbers}
use Rattle.volume_files.proofs.MountLemmas.{set-all}
use Rattle.volume_files.proofs.table_files.mount.Goals as goal

pub add_tables-requires-clause-set : goal.add_tables-requires-clause-set
add_tables-requires-clause-set g c =
    subst (λ (s : FilesSeen). AreSet s.disks (attached_numbers c.args.disks.now)) (sym c.in_ok-files.ensures) (set-all g.D.Disk.seen c.args.disks.now)
