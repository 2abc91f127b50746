use Rattle.std.proofs.Common.{◌≡◌, ◌<◌, ◌≤◌, ℕ, length, get_or, eqb, true, not}
use Rattle.volume_format.proofs.rules.text_before_zero.Given as goal

abbrev pub invariant-loop-i : goal.invariant-loop-i
invariant-loop-i l = (l.i ≤ length l.field) × ((k : ℕ) → k < l.i → not (eqb (get_or l.field k 0) 0) ≡ true)
