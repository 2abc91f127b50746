use Rattle.std.proofs.lemmas.Iterator.Adapters.{option_map_id as mapped_same}
use Rattle.std.proofs.Common.{◌∙◌, ap, sym}
use Rattle.std.specs.FinMap as map
use Rattle.flat_state.proofs.Maps.{get_at, mapped_copied}
use Rattle.flat_state.proofs.spaces.Spaces.get.Goals as goal

pub returns : goal.returns
returns c = mapped_copied (λ x. x) c.get.result ∙ mapped_same _ ∙ c.get.ensures.value ∙ sym (get_at c.self.inside.spaces.entries c.args.process) ∙ ap (λ m. map.get m c.args.process) c.self.view_is
