use Rattle.std.proofs.Common.{◌∙◌, ap}
use Rattle.std.specs.FinMap as map
use Rattle.flat_state.proofs.Trees.{plain_remove}
use Rattle.flat_state.proofs.spaces.Spaces.remove.Goals as goal

pub returns : goal.returns
returns c = plain_remove c.self.inside.spaces.entries c.remove-cells.new.self.entries c.args.process c.remove-cells.ensures.updates.0 ∙ ap (λ m. map.remove m c.args.process) c.self.view_is
