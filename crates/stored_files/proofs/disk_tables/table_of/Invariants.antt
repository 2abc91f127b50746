use Rattle.stored_files.specs.DiskTables.{TableSoFar}
use Rattle.stored_files.proofs.disk_tables.table_of.Given as goal

abbrev pub invariant-loop-file : goal.invariant-loop-file
invariant-loop-file l = TableSoFar l.files l.disk l.file l.table
