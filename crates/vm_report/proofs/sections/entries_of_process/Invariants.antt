use Rattle.std.proofs.Common.{◌≡◌, ◌++◌, length, drop}
use Rattle.vm_script.specs.flat_model.Told.{entries_of}
use Rattle.vm_report.specs.Runs.{AreWithin, runs_seen}
use Rattle.vm_report.proofs.sections.entries_of_process.Given as goal

abbrev pub invariant-loop-index : goal.invariant-loop-index
invariant-loop-index l = record {
  seen : runs_seen l.history l.own ++ entries_of (drop l.index l.history) l.process ≡ entries_of l.history l.process;
  within : AreWithin (length l.history) l.own;
}
