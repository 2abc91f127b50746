use Rattle.hat_layer.proofs.TableLemmas.{clear-table}
use Rattle.hat_layer.proofs.table.TranslationTable.clear_bits.Goals as goal

pub invariant_of-self : goal.invariant_of-self
invariant_of-self c =
    let i = c.self.inside in
    clear-table i.cells.items i.slots i.by_page i.by_frame c.self.invariant c.args.frame c.clear_all.new.cells.items c.clear_all.ensures.places

pub returns-clause-distinct : goal.returns-clause-distinct
returns-clause-distinct c =
    let i = c.self.inside in
    (clear-table i.cells.items i.slots i.by_page i.by_frame c.self.invariant c.args.frame c.clear_all.new.cells.items c.clear_all.ensures.places).distinct
