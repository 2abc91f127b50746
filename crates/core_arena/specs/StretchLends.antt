-- What a stretch ends as, once its bytes were written. Inside: no public clause cites this.
use Rattle.std.specs.Prelude.{ℕ, List}
use Rattle.std.specs.Borrow.{Lends, MutBor, Fml, Array, u8}
use Rattle.core_arena.specs.Bytes.{slice_after_write}
use Rattle.core_arena.specs.declared.region.Stretch.{Stretch}
use Rattle.core_arena.specs.contracts.region.Stretch.{the_row}

-- it has the bytes that were left, at the place where it was
abbrev pub lends_stretch : MutBor Stretch → MutBor (List ℕ) → Fml
lends_stretch s r = Lends the_row (Array u8 0) s r (λ w. record s.now { bytes = slice_after_write s.now.bytes w })
