use Rattle.std.proofs.Common.{◌∙◌, ap}
use Rattle.std.specs.Ordering.{nat_cmp}
use Rattle.std.specs.FinMap as finite
use Rattle.flat_model.specs.Flat.{Flat}
use Rattle.flat_state.specs.FlatState.{flat_of, with_blocks}
use Rattle.flat_state.proofs.Maps.{insert_at}
use Rattle.flat_state.proofs.state.FlatParts.disk.Goals as goal

pub returns-clause-ok : goal.returns-clause-ok
returns-clause-ok c =
    ap (λ (m : finite.FinMap nat_cmp _). record (flat_of c.self.inside) { disks = m }) (insert_at c.self.inside.disks.entries c.insert.new.self.entries c.args.number c.args.blocks c.in_ok-insert.ensures.updates.0)
    ∙ ap (λ (F : Flat). with_blocks F c.args.number c.args.blocks) c.self.view_is
