use Rattle.std.proofs.Common.{◌∙◌, ap}
use Rattle.std.specs.FinMap as map
use Rattle.flat_state.proofs.Maps.{insert_at}
use Rattle.flat_state.proofs.spaces.Spaces.insert.Goals as goal

pub returns-clause-ok : goal.returns-clause-ok
returns-clause-ok c = insert_at c.self.inside.spaces.entries c.insert.new.self.entries c.args.process c.args.cells c.in_ok-insert.ensures.updates.0 ∙ ap (λ m. map.insert m c.args.process c.args.cells) c.self.view_is
