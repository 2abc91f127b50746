use Rattle.plan_runs.proofs.Rounds.{GoesOn}
use Rattle.plan_runs.proofs.making.make_access.Given as goal

abbrev pub invariant-loop-round : goal.invariant-loop-round
invariant-loop-round g l = GoesOn l.initial.state l.state l.call l.frames l._round
