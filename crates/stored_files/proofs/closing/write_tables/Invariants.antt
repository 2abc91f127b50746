use Rattle.stored_files.specs.Written.{paired_seen}
use Rattle.stored_files.specs.Written.{infos_made}
use Rattle.stored_files.specs.DiskTables.{TablesSoFar}
use Rattle.stored_files.proofs.closing.write_tables.Given as goal

abbrev pub invariant-loop-place : goal.invariant-loop-place
invariant-loop-place g l = TablesSoFar (infos_made l.files) l.place (paired_seen g.D.Disk.seen l.fn.disks) (paired_seen g.D.Disk.seen l.disks)
