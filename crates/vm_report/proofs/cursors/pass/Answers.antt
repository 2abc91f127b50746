use Rattle.std.proofs.Common.{◌∙◌, drop}
use Rattle.vm_report.specs.Runs.{runs_seen}
use Rattle.vm_report.proofs.RunEntries.{front-passed}
use Rattle.vm_report.proofs.cursors.pass.Goals as goal

pub returns-then-is_empty-clause-left : goal.returns-then-is_empty-clause-left
returns-then-is_empty-clause-left c =
    c.onward.ensures.left
    ∙ front-passed c.args.count c.args.at.front (runs_seen c.args.history.now (drop c.args.at.next c.args.runs.now)) c.split_at-front.result.1 c.requires.count c.split_at-front.ensures.back

pub returns-clause-left : goal.returns-clause-left
returns-clause-left c =
    front-passed c.args.count c.args.at.front (runs_seen c.args.history.now (drop c.args.at.next c.args.runs.now)) c.split_at-front.result.1 c.requires.count c.split_at-front.ensures.back
