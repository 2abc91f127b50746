use Rattle.flat_model.specs.vm_types.declared.call.Call.TheVariants as call
use Rattle.vm_script.proofs.QuickLines.{reads_quick}
use Rattle.vm_script.proofs.parsing.quick_line.Goals as goal

pub returns-in-Some-clause-some : goal.returns-in-Some-clause-some
returns-in-Some-clause-some c =
    reads_quick c.args.line c.args.growing.now c.add_line.new.self c.args.text.now c.in-Some.rest.now (call.Load c.in-Some.addr c.in-Some.size)
    c.requires.inside c.in-Some.ensures c.in_ok-add_line.ensures.new

pub returns-in-Some-quick_store-clause-some : goal.returns-in-Some-quick_store-clause-some
returns-in-Some-quick_store-clause-some c =
    reads_quick c.args.line c.args.growing.now c.add_line-in-Some-quick_store.new.self c.args.text.now c.in-Some-quick_store.rest.now
    (call.Store c.in-Some-quick_store.addr c.in-Some-quick_store.size c.in-Some-quick_store.value)
    c.requires.inside c.in-Some-quick_store.ensures c.in_ok-add_line-2.ensures.new
