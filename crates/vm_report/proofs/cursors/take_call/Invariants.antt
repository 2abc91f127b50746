use Rattle.std.proofs.Common.{◌≡◌, ◌++◌, [], drop, length, take}
use Rattle.std.specs.Prelude.{All}
use Rattle.vm_script.specs.vm_types.WellFormed.{IsWellFormed}
use Rattle.vm_report.specs.Report.{call_length}
use Rattle.vm_report.specs.Runs.{entries_left}
use Rattle.vm_report.proofs.cursors.take_call.Given as goal

abbrev pub invariant-loop-entry : goal.invariant-loop-entry
invariant-loop-entry l =
    let left = entries_left l.history l.runs l.at in
    let all = entries_left l.history l.runs l.initial.at in
    record {
      taken : l.call ++ take (call_length left) left ≡ take (call_length all) all;
      behind : drop (call_length left) left ≡ drop (call_length all) all;
      well_formed : All (λ e. IsWellFormed e.call) left;
      whole : l.at.front ≡ [] → left ≡ [];
    }

abbrev pub decreases-loop-entry : goal.decreases-loop-entry
decreases-loop-entry l = length (entries_left l.history l.runs l.at)
