use Rattle.std.proofs.Common.{◌<◌, length, arith}
use Rattle.vm_report.proofs.Grouped.{entry-added}
use Rattle.vm_report.proofs.groups.add_entry.Goals as goal

pub returns-in_ok-add-clause-seen : goal.returns-in_ok-add-clause-seen
returns-in_ok-add-clause-seen c = λ H e lt is.
    let within : c.args.process < length c.args.groups.now.items = grind (arith, c.in-Some.ensures.variant) in
    entry-added H c.args.groups.now.items c.args.process c.in-Some.group.now c.add.new.self e within c.in-Some.ensures.item.1 (c.in_ok-add.ensures.seen H e lt is)
