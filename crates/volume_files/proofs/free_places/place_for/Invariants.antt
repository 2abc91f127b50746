use Rattle.std.specs.Prelude.{◌≡◌, ◌-◌}
use Rattle.std.specs.List.{find, range_with_len}
use Rattle.volume_files.specs.Opened.{is_free_run}
use Rattle.volume_files.proofs.free_places.place_for.Given as goal

-- it is among the blocks that are left
abbrev pub invariant-loop-start : goal.invariant-loop-start
invariant-loop-start l =
    find (is_free_run l.blocks l.extents l.pages) (range_with_len l.start (l.blocks - l.start))
    ≡ find (is_free_run l.blocks l.extents l.pages) (range_with_len 1 (l.blocks - 1))
