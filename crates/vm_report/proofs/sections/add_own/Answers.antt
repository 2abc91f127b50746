use Rattle.std.proofs.Common.{◌∙◌, sym}
use Rattle.entry_list.specs.Rows.{entry_seen}
use Rattle.vm_report.specs.Runs.{runs_seen}
use Rattle.vm_report.proofs.Grouped.{own_no, own_yes}
use Rattle.vm_report.proofs.sections.add_own.Goals as goal

pub returns-in_ok-add-clause-seen : goal.returns-in_ok-add-clause-seen
returns-in_ok-add-clause-seen c = λ H lt is.
    let e = entry_seen c.args.entry in
    own_yes e c.args.process (runs_seen H c.args.runs.now) (runs_seen H c.add.new.self) (sym c.process.ensures ∙ c.if-process.true) (c.in_ok-add.ensures.seen H e lt is)

pub returns-else-process-clause-seen : goal.returns-else-process-clause-seen
returns-else-process-clause-seen c = λ H lt is. own_no (entry_seen c.args.entry) c.args.process (runs_seen H c.args.runs.now) (λ own. c.if-process.false (c.process.ensures ∙ own))
