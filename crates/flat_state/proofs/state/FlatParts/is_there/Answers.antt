use Rattle.std.proofs.Common.{◌∙◌, ap, sym}
use Rattle.std.specs.Prelude.{is_some}
use Rattle.std.specs.FinMap as finite
use Rattle.flat_model.specs.Mapping.{is_there}
use Rattle.flat_state.proofs.Maps.{get_at}
use Rattle.flat_state.proofs.state.FlatParts.is_there.Goals as goal

pub returns-in-Zero : goal.returns-in-Zero
returns-in-Zero c =
    c.contains_key.ensures ∙ ap is_some (sym (get_at c.self.inside.zeros.entries c.in-Zero.zero))
    ∙ ap (λ F. is_some (finite.get F.zeros c.in-Zero.zero)) c.self.view_is ∙ ap (is_there c.args.self.now) (sym c.in-Zero.is)
