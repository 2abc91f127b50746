use Rattle.std.proofs.Common.{◌∙◌, ap, sym}
use Rattle.std.specs.Prelude.{is_some}
use Rattle.std.specs.FinMap as map
use Rattle.flat_state.proofs.Maps.{get_at}
use Rattle.flat_state.proofs.spaces.Spaces.is_alive.Goals as goal

pub returns : goal.returns
returns c = c.contains_key.ensures ∙ ap is_some (sym (get_at c.self.inside.spaces.entries c.args.process)) ∙ ap (λ m. is_some (map.get m c.args.process)) c.self.view_is
