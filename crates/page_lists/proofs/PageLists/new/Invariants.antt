use Rattle.std.proofs.Common.{◌≡◌, []}
use Rattle.std.specs.List.{range_with_len}
use Rattle.page_lists.proofs.PageLists.new.Given as goal

abbrev pub invariant-loop-frame : goal.invariant-loop-frame
invariant-loop-frame l = record {
  free : l.free ≡ record { frames = l.frames; order = range_with_len 0 l.frame };
  cached : l.cached ≡ record { frames = l.frames; order = [] };
}
