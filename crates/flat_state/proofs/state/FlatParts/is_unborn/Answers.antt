use Rattle.std.proofs.Common.{◌≡◌, Bool, true, false, not, sym, ap, subst, ◌∙◌, refl}
use Rattle.std.specs.FinSet as set
use Rattle.flat_model.specs.vm_types.declared.call.Call.{Call}
use Rattle.flat_model.specs.Flat.{Flat}
use Rattle.flat_model.specs.Step.{IsUnborn}
use Rattle.flat_state.proofs.Trees.{has_key}
use Rattle.flat_state.proofs.state.FlatParts.is_unborn.Goals as goal

false_of : (b : Bool) → not b ≡ true → b ≡ false
false_of true is = absurd cc
false_of false is = refl

pub returns-in-Fork : goal.returns-in-Fork
returns-in-Fork c =
    let same : set.contains c.args.self.now.born c.in-Fork.child ≡ c.contains_key.result =
    ap (λ (F : Flat). set.contains F.born c.in-Fork.child) (sym c.self.view_is) ∙ has_key c.self.inside.born.entries c.in-Fork.child ∙ sym c.contains_key.ensures in (
      λ t. subst (λ (x : Call). IsUnborn c.args.self.now x) (sym c.in-Fork.is) (same ∙ false_of c.contains_key.result t),
      λ u. ap not (sym same ∙ subst (λ (x : Call). IsUnborn c.args.self.now x) c.in-Fork.is u),
    )
