use Rattle.std.proofs.Common.{◌∙◌, ap, sym}
use Rattle.std.specs.FinMap as finite
use Rattle.flat_state.specs.Cells.{zeros_in}
use Rattle.flat_state.specs.Mapped.{with_new_zeros}
use Rattle.flat_state.proofs.Maps.{insert_at}
use Rattle.flat_state.proofs.zeros.with_new_zeros.Goals as goal

pub returns : goal.returns
returns c =
    insert_at c.in_ok-new.new.entries c.insert.new.self.entries c.in-Some.zero c.new.result c.in_ok-insert.ensures.updates.0
    ∙ ap (λ m. finite.insert m c.in-Some.zero c.new.result) c.in_ok-new.ensures
    ∙ ap (finite.insert (zeros_in c.args.zeros.now) c.in-Some.zero) c.new.ensures
    ∙ ap (λ made. with_new_zeros (zeros_in c.args.zeros.now) made c.args.count) (sym c.in-Some.is)
