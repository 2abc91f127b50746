use Rattle.std.proofs.Common.{◌≡◌, ◌+◌, ◌++◌, [], false, cond}
use Rattle.vm_report.specs.Report.{process_sections}
use Rattle.vm_report.proofs.pieces.process_sections.Given as goal

abbrev pub invariant-loop-more : goal.invariant-loop-more
invariant-loop-more l = record {
  so_far : l.out.items ++ l.left.text ≡ l.initial.out.items ++ process_sections l.plan l.history;
  end : l.more ≡ false → l.left.text ≡ [];
}

abbrev pub decreases-loop-more : goal.decreases-loop-more
decreases-loop-more l = cond l.more (l.left.pieces + 1) 0
