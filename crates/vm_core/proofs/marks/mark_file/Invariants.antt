use Rattle.std.proofs.Common.{ℕ}
use Rattle.vm_core.specs.Marks.{AreMarkedTo}
use Rattle.vm_core.proofs.marks.mark_file.Given as goal

abbrev pub invariant-loop-page : goal.invariant-loop-page
invariant-loop-page l = record {
  marked : (seats : ℕ) → AreMarkedTo l.files seats l.fn.marks l.file 0 → AreMarkedTo l.files seats l.marks l.file l.page;
}
