use Rattle.std.proofs.Common.{◌+◌, ◌++◌, ◌∷◌, [], List, sym, ap, ◌∙◌, subst, arith, get_or}
use Rattle.vm_report.specs.Runs.{AreWithin, runs_seen}
use Rattle.vm_report.specs.declared.runs.Run.{Run}
use Rattle.vm_report.proofs.RunEntries.{runs-begun, runs-grown, within-begun, within-grown}
use Rattle.vm_report.proofs.runs.Runs.add.Goals as goal

-- the entry comes behind the last run
pub returns-then-first-count-clause-seen : goal.returns-then-first-count-clause-seen
returns-then-first-count-clause-seen c = λ H e lt is.
    let last = c.self.inside.last in
    let at = c.if-first-count.true in
    runs-grown H c.self.inside.done.items last.first last.count e (omega (arith, at, lt)) (is ∙ ap (λ k. get_or H k e) (sym at))
    ∙ ap (λ (rs : List Run). runs_seen H rs ++ e ∷ []) c.self.view_is

pub returns-then-first-count-clause-within : goal.returns-then-first-count-clause-within
returns-then-first-count-clause-within c = λ n lt all.
    let last = c.self.inside.last in
    let at = c.if-first-count.true in
    within-grown n c.self.inside.done.items last (record { first = last.first; count = last.count + 1 }) (omega (arith, at, lt)) (subst (AreWithin n) (sym c.self.view_is) all)

-- it begins a run of its own
pub returns-clause-seen : goal.returns-clause-seen
returns-clause-seen c = λ H e lt is.
    let one : Run = record { first = c.args.index; count = 1 } in
    ap (λ (rs : List Run). runs_seen H (rs ++ one ∷ [])) c.in_ok-push.ensures.items
    ∙ runs-begun H (c.self.inside.done.items ++ c.self.inside.last ∷ []) c.args.index e lt is ∙ ap (λ (rs : List Run). runs_seen H rs ++ e ∷ []) c.self.view_is

pub returns-clause-within : goal.returns-clause-within
returns-clause-within c = λ n lt all.
    let one : Run = record { first = c.args.index; count = 1 } in
    subst (λ (rs : List Run). AreWithin n (rs ++ one ∷ [])) (sym c.in_ok-push.ensures.items)
    (within-begun n (c.self.inside.done.items ++ c.self.inside.last ∷ []) one (omega (arith, lt)) (subst (AreWithin n) (sym c.self.view_is) all))
