use Rattle.vm_core.specs.Marks.{AreMarkedTo}
use Rattle.vm_core.proofs.marks.opening_marks.Given as goal

abbrev pub invariant-loop-file : goal.invariant-loop-file
invariant-loop-file l = record {
  marked : AreMarkedTo l.files l.seats l.marks l.file 0;
}
