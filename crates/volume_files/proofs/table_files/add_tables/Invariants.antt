use Rattle.std.specs.Prelude.{◌≡◌, drop}
use Rattle.volume_files.specs.Opened.{mounted_infos}
use Rattle.volume_files.specs.Placing.{with_infos, attached_numbers}
use Rattle.volume_files.proofs.table_files.add_tables.Given as goal

-- the files so far and those to come are all files
abbrev pub invariant-loop-i : goal.invariant-loop-i
invariant-loop-i g l = record {
  disks : l.files.disks ≡ l.fn.files.disks;
  rest : with_infos l.files (mounted_infos (drop l.i (attached_numbers l.disks)) (drop l.i l.tables)) ≡ with_infos l.fn.files (mounted_infos (attached_numbers l.disks) l.tables);
}
