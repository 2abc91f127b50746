use Rattle.std.proofs.Common.{◌≡◌, ◌*◌, ◌-◌, ◌++◌, length, replicate}
use Rattle.flat_model.specs.Words.{pages_in}
use Rattle.flat_state.specs.Cells.{pages_in_vec}
use Rattle.flat_model.specs.Parts.{pages_of_bytes}
use Rattle.flat_state.proofs.file_pages.pages_from.Given as goal

-- the pages so far
abbrev pub invariant-loop-i : goal.invariant-loop-i
invariant-loop-i l = pages_in_vec l.pages ≡ pages_of_bytes l.i (l.bytes ++ replicate (4096 * pages_in (length l.bytes) - length l.bytes) 0)
