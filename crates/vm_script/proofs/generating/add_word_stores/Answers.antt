use Rattle.std.proofs.Common.{◌+◌, ◌∙◌, ap}
use Rattle.flat_model.specs.vm_types.declared.call.Call.TheVariants as call
use Rattle.vm_script.specs.declared.plan.PlanAct.TheVariants as act
use Rattle.vm_script.specs.Plans.{with_line}
use Rattle.vm_script.specs.Generated.{word_store}
use Rattle.vm_script.proofs.Generations.{pushed, none_yet}
use Rattle.vm_script.proofs.generating.add_word_stores.Goals as goal

pub loop-k-init : goal.loop-k-init
loop-k-init c = none_yet c.args.growing.now c.args.line (word_store c.args.n c.args.i)

pub loop-k-preserved : goal.loop-k-preserved
loop-k-preserved c =
    let line = c.args.line + c.loop-k.k + 1 in
    let grew = c.in_ok-add_line.ensures.new ∙ ap (λ a. with_line c.loop-k.growing line (act.Call (call.Store a 4 (c.loop-k.k + c.args.i)))) c.word_address.ensures in
    pushed c.args.growing.now c.args.line c.loop-k.k (word_store c.args.n c.args.i) c.loop-k.growing c.add_line.new.self c.loop-k.invariant grew
