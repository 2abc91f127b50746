use Rattle.std.proofs.Common.{ℕ, ◌<◌, ◌≤◌}
use Rattle.page_store.specs.Waits.{IsVictim}
use Rattle.page_store.proofs.store.Store.victim_in.Given as goal

abbrev pub invariant-loop-frame : goal.invariant-loop-frame
invariant-loop-frame g l = (k : ℕ) → l.fn.from ≤ k → k < l.frame → IsVictim l.self k → ⊥
