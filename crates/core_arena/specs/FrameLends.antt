-- What a frame ends as, once its bytes were written. Public clauses cite this.
use Rattle.std.specs.Prelude.{ℕ, List}
use Rattle.std.specs.Borrow.{Lends, MutBor, Fml, Array, u8}
use Rattle.core_arena.specs.Bytes.{slice_after_write}
use Rattle.core_arena.specs.Seen.{FrameSeen}
use Rattle.core_arena.specs.contracts.frame.Frame.{the_row}

-- the frame has the bytes that were left, and keeps its origin and its number
abbrev pub lends_frame : MutBor FrameSeen → MutBor (List ℕ) → Fml
lends_frame f r = Lends the_row (Array u8 0) f r (λ w. record f.now { bytes = slice_after_write f.now.bytes w })
