use Rattle.std.proofs.Common.{ℕ, List, Option, None, Some, subst}
use Rattle.std.specs.Prelude.{MatchOption}
use Rattle.trace_check.specs.Judging.{HasTaken}
use Rattle.trace_check.specs.Verdicts.{IsFirstIllegal}
use Rattle.trace_check.proofs.judge.Judge.verdict.Goals as goal

pub returns-in-None : goal.returns-in-None
returns-in-None c = λ F H h.
    let taken = subst (λ (o : Option ℕ). MatchOption o (HasTaken F H c.args.self.now) (IsFirstIllegal F H)) c.in-None.is h in
    (taken.legal, taken.count)

pub returns-in-Some : goal.returns-in-Some
returns-in-Some c = λ F H h. subst (λ (o : Option ℕ). MatchOption o (HasTaken F H c.args.self.now) (IsFirstIllegal F H)) c.in-Some.is h
