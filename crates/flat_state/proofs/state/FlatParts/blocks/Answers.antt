use Rattle.std.proofs.Common.{ℕ, ◌∙◌, ap, sym}
use Rattle.std.specs.Prelude.{Option, unwrap_or}
use Rattle.std.specs.FinMap as finite
use Rattle.flat_model.specs.Flat.{Flat}
use Rattle.flat_state.proofs.Maps.{get_at}
use Rattle.flat_state.proofs.state.FlatParts.blocks.Goals as goal

pub returns-in-Some : goal.returns-in-Some
returns-in-Some c = ap (λ (o : Option ℕ). unwrap_or o 0) (c.in-Some.ensures.value ∙ sym (get_at c.self.inside.disks.entries c.args.disk) ∙ ap (λ (F : Flat). finite.get F.disks c.args.disk) c.self.view_is)

pub returns-in-None : goal.returns-in-None
returns-in-None c = ap (λ (o : Option ℕ). unwrap_or o 0) (c.in-None.ensures.value ∙ sym (get_at c.self.inside.disks.entries c.args.disk) ∙ ap (λ (F : Flat). finite.get F.disks c.args.disk) c.self.view_is)
