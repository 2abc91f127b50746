use Rattle.std.proofs.Common.{◌≤◌, ◌<◌, ◌-◌, ℕ}
use Rattle.std.specs.Prelude.{IsSome}
use Rattle.mmap_calls.specs.Protections.{most_at}
use Rattle.mmap_calls.proofs.protects.are_mapped.Given as goal

abbrev pub decreases-loop-page : goal.decreases-loop-page
decreases-loop-page l = l.end - l.page

abbrev pub invariant-loop-page : goal.invariant-loop-page
invariant-loop-page l = record {
  low : l.first ≤ l.page;
  each : (q : ℕ) → l.first ≤ q → q < l.page → IsSome (most_at l.space.parts q);
}
