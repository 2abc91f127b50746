use Rattle.std.proofs.Common.{◌∙◌, ap}
use Rattle.flat_model.specs.Flat.{Flat}
use Rattle.flat_state.specs.Cells.{flat_cell, zeros_in}
use Rattle.flat_state.specs.Mapped.{request_of, with_new_zeros}
use Rattle.flat_state.proofs.Assembled.{assembled}
use Rattle.flat_state.proofs.state.FlatParts.with_mapping.Goals as goal

pub returns-clause-flat : goal.returns-clause-flat
returns-clause-flat c =
    let zeros = c.in_ok-zeros.ensures ∙ ap (λ (F : Flat). with_new_zeros F.zeros c.in_ok-made.made c.pages_in-count.result) c.self.view_is in
    assembled c.args.self.now c.args.process (request_of c.args.map.now) c.args.first c.args.cleared c.in_ok-made.made (flat_cell c.first_cell-cell.result) (zeros_in c.in_ok-zeros.zeros) c.pages_in-count.result c.put_in.new.self (zeros_in c.keep_named.new.zeros)
    c.requires.cleared c.in_ok-made.ensures c.first_cell-cell.ensures.cell c.pages_in-count.ensures.pages zeros c.in_ok-put_in.ensures c.keep_named.ensures
