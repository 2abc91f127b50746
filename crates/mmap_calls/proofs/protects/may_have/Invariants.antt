use Rattle.std.proofs.Common.{◌≡◌, true, ◌≤◌, ◌<◌, ◌-◌, ℕ}
use Rattle.mmap_calls.specs.Protections.{lets, most_at}
use Rattle.mmap_calls.proofs.protects.may_have.Given as goal

abbrev pub decreases-loop-page : goal.decreases-loop-page
decreases-loop-page l = l.end - l.page

abbrev pub invariant-loop-page : goal.invariant-loop-page
invariant-loop-page l = record {
  low : l.first ≤ l.page;
  each : (q : ℕ) → l.first ≤ q → q < l.page → lets l.prot (most_at l.space.parts q) ≡ true;
}
