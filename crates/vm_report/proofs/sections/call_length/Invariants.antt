use Rattle.std.proofs.Common.{◌≡◌, ◌+◌, ◌++◌, List, drop}
use Rattle.vm_script.specs.vm_types.declared.call.Entry.{Entry}
use Rattle.vm_report.specs.Report.{call_length}
use Rattle.vm_report.proofs.sections.call_length.Given as goal

abbrev pub invariant-loop-place : goal.invariant-loop-place
invariant-loop-place l = (behind : List Entry) → l.place + call_length (drop l.place l.entries ++ behind) ≡ call_length (l.entries ++ behind)
