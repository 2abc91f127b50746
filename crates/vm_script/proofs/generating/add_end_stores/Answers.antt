use Rattle.std.proofs.Common.{◌+◌, ◌∙◌, ap}
use Rattle.flat_model.specs.vm_types.declared.call.Call.TheVariants as call
use Rattle.vm_script.specs.declared.plan.PlanAct.TheVariants as act
use Rattle.vm_script.specs.Plans.{with_line}
use Rattle.vm_script.specs.Generated.{end_store}
use Rattle.vm_script.proofs.Generations.{pushed, none_yet}
use Rattle.vm_script.proofs.generating.add_end_stores.Goals as goal

pub loop-j-init : goal.loop-j-init
loop-j-init c = none_yet c.args.growing.now c.args.line end_store

pub loop-j-preserved : goal.loop-j-preserved
loop-j-preserved c =
    let line = c.args.line + c.loop-j.j + 1 in
    let grew = c.in_ok-add_line.ensures.new ∙ ap (λ a. with_line c.loop-j.growing line (act.Call (call.Store a 4 1))) c.page_end.ensures in
    pushed c.args.growing.now c.args.line c.loop-j.j end_store c.loop-j.growing c.add_line.new.self c.loop-j.invariant grew
