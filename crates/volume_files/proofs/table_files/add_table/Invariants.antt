use Rattle.std.specs.Prelude.{◌≡◌, map, take}
use Rattle.stored_files.specs.Closed.{info_on}
use Rattle.volume_files.specs.Placing.{with_infos}
use Rattle.volume_files.proofs.table_files.add_table.Given as goal

-- the files so far
abbrev pub invariant-loop-entry : goal.invariant-loop-entry
invariant-loop-entry l = l.files ≡ with_infos l.fn.files (map (info_on l.disk) (take l.entry-index l.entry-items))
