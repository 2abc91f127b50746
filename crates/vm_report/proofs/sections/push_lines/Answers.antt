use Rattle.std.proofs.Common.{◌∙◌, ◌<◌, ◌^◌, ◌++◌, List, Bor, ap, length, map, subst, sym, arith}
use Rattle.std.specs.Prelude.{All}
use Rattle.vm_script.specs.declared.plan.PlanLine.{PlanLine}
use Rattle.vm_script.specs.vm_types.declared.call.Entry.{Entry}
use Rattle.vm_script.specs.vm_types.WellFormed.{IsWellFormed}
use Rattle.vm_report.specs.Report.{lines_text}
use Rattle.vm_report.proofs.RunEntries.{left-few, left-well}
use Rattle.vm_report.proofs.sections.push_lines.Goals as goal

pub loop-line-init : goal.loop-line-init
loop-line-init c =
    let all = c.first_place-place.ensures.left in
    record {
      so_far = ap (λ (es : List Entry). c.args.out.now.items ++ lines_text (map (λ (l : Bor PlanLine). l.now) c.args.lines.now) es) all;
      within = omega arith;
      few = subst (λ (es : List Entry). length es < 2 ^ 32) (sym all) c.requires.few;
      well_formed = subst (All (λ (e : Entry). IsWellFormed e.call)) (sym all) c.requires.well_formed;
      whole = c.first_place-place.ensures.whole;
    }

pub loop-line-preserved : goal.loop-line-preserved
loop-line-preserved c =
    let left = c.in_ok-line.ensures.left in
    record {
      so_far = c.in_ok-line.ensures.text ∙ c.loop-line.invariant.so_far;
      within = c.in_ok-line.ensures.inside;
      few = left-few c.args.history.now c.args.runs.now c.loop-line.place c.in_ok-line.field-0-1 left c.loop-line.invariant.few;
      well_formed = left-well c.args.history.now c.args.runs.now c.loop-line.place c.in_ok-line.field-0-1 left c.loop-line.invariant.well_formed;
      whole = left.whole;
    }
