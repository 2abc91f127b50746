use Rattle.std.proofs.Common.{ap, sym, subst}
use Rattle.flat_model.specs.Flat.{Flat}
use Rattle.flat_model.specs.Step.{IsDue, after_act}
use Rattle.flat_state.proofs.Steps.{bits_all, exact_of, next_of, step_is}
use Rattle.flat_state.proofs.state.FlatParts.step.Goals as goal

pub returns-clause-exact : goal.returns-clause-exact
returns-clause-exact c =
    let F = c.args.self.now in
    let e = c.args.entry.now in
    let is = step_is F e (c.may_step.ensures.0 c.if-not-may_step.false) in
    let alike = bits_all F e.cleared in
    exact_of _ _ c.act_cleared.result c.act_cleared.ensures.exact (λ due. is.0 (subst (λ (G : Flat). IsDue G e) alike due), λ h. subst (λ (G : Flat). IsDue G e) (sym alike) (is.1 h))

pub returns-clause-next : goal.returns-clause-next
returns-clause-next c =
    let F = c.args.self.now in
    let e = c.args.entry.now in
    next_of _ _ _ c.act_cleared.result c.act_cleared.ensures.next (ap (λ (G : Flat). after_act G e) (bits_all F e.cleared))
