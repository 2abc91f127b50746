use Rattle.std.proofs.Common.{drop}
use Rattle.plan_runs.proofs.Alone.{AloneLines}
use Rattle.plan_runs.proofs.lines.make_lines.Given as goal

abbrev pub invariant-loop-line : goal.invariant-loop-line
invariant-loop-line g l = AloneLines l.initial.state l.state l.lines (drop l.line-index l.lines)
