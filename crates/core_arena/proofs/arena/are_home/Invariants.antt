use Rattle.std.proofs.Common.{◌≡◌, ℕ, ◌<◌, None, is_some, true, slice_index_or}
use Rattle.core_arena.proofs.arena.are_home.Given as goal

abbrev pub invariant-loop-page : goal.invariant-loop-page
invariant-loop-page l = (i : ℕ) → i < l.page-index → is_some (slice_index_or l.pages i None) ≡ true
