use Rattle.std.proofs.Common.{◌∙◌, arith}
use Rattle.vm_script.specs.declared.plan.PlanLine.{PlanLine}
use Rattle.vm_report.proofs.Grouped.{member_length, member_on}
use Rattle.vm_report.proofs.groups.lines_by_process.Goals as goal

pub loop-line-preserved : goal.loop-line-preserved
loop-line-preserved c = record {
  count = member_length _ _ _ _ c.in_ok-add_to.ensures ∙ c.loop-line.invariant.count;
  each =
      λ p lt. member_on (λ (l : PlanLine). l.process) c.loop-line.groups.items _ c.args.lines.now _ c.loop-line.line-index
      c.line-item.result p c.loop-line-test.true c.line-item.is c.in_ok-add_to.ensures
      (omega (arith, c.loop-line.invariant.count)) (c.loop-line.invariant.each p lt);
}
