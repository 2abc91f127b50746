use Rattle.std.proofs.Common.{◌≡◌, ◌+◌, ◌++◌, [], false, cond}
use Rattle.volume_files.specs.vm_report.Report.{process_sections}
use Rattle.run_report.specs.ReportEnds.{KeptBack}
use Rattle.run_report.proofs.reporting.write_sections.Given as goal

abbrev pub invariant-loop-more : goal.invariant-loop-more
invariant-loop-more g l = record {
  kept : KeptBack (g.K.Sink.seen l.fn.out) (g.K.Sink.seen l.out) (l.fn.text.items ++ process_sections l.plan l.history) (l.text.items ++ l.left.text);
  end : l.more ≡ false → l.left.text ≡ [];
  steady : (g.K.Sink.seen l.out).faults ≡ (g.K.Sink.seen l.fn.out).faults;
}

-- Each piece leaves fewer.
abbrev pub decreases-loop-more : goal.decreases-loop-more
decreases-loop-more g l = cond l.more (l.left.pieces + 1) 0
