-- What a space ends as, once a `&mut` to one of its pieces has ended. Public clauses cite this.
use Rattle.std.specs.Prelude.{ℕ, Option}
use Rattle.std.specs.Borrow.{LendsIf, Fml, RattleType, MutBor}
use Rattle.addr_space.specs.Space.{RangesSeen, with_new_piece}
use Rattle.addr_space.specs.contracts.ranges.Ranges.{the_row}

-- the part that has the page has the last piece written through r, and all else stays; at `None` all stays
abbrev pub lends_piece : (T : RattleType) → MutBor (RangesSeen T.Denot) → ℕ → Option (MutBor T.Denot) → Fml
lends_piece T s page r = LendsIf (the_row T) T s r (λ w. record s.now { parts = with_new_piece page w s.now.parts }) s.now
