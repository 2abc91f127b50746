use Rattle.std.specs.Prelude.{◌≡◌, ◌==◌, ◌++◌, filter, map, take}
use Rattle.std.specs.List.{flat_map}
use Rattle.flat_state.specs.Cells.{flat_file}
use Rattle.flat_state.proofs.growth.push_extents.Given as goal

-- the extents of the files so far
abbrev pub invariant-loop-file : goal.invariant-loop-file
invariant-loop-file l =
    l.all.items ≡ l.fn.all.items ++ flat_map (λ f. f.extents) (filter (λ f. f.disk == l.disk) (map flat_file (take l.file-index l.files)))
