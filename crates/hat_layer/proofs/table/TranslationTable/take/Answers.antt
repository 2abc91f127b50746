use Rattle.std.proofs.Common.{None, ◌∙◌, ap, set, get_or}
use Rattle.hat_layer.specs.Table.{Rows, IsSoundTable}
use Rattle.hat_layer.proofs.TableLemmas.{take-table}
use Rattle.hat_layer.proofs.table.TranslationTable.take.Goals.{After-unlink-2}
use Rattle.hat_layer.proofs.table.TranslationTable.take.Goals as goal

taken : (c : After-unlink-2) → IsSoundTable (set c.self.inside.cells.items c.args.place None) c.self.inside.slots c.unlink.new.self c.unlink-2.new.self
taken c =
    let i = c.self.inside in
    take-table i.cells.items i.slots i.by_page i.by_frame c.self.invariant c.args.place c.slot_of_pair.result c.args.old
    (ap (λ (r : Rows). get_or r.places c.args.place None) c.self.view_is ∙ c.requires) c.slot_of_pair.ensures.slot
    c.unlink.new.self c.unlink-2.new.self c.unlink.ensures.order c.unlink.ensures.size c.unlink-2.ensures.order c.unlink-2.ensures.size

pub invariant_of-self : goal.invariant_of-self
invariant_of-self c = taken (goal.at.invariant_of-self c).After-unlink-2

pub returns-clause-distinct : goal.returns-clause-distinct
returns-clause-distinct c = (taken (goal.at.returns-clause-distinct c).After-unlink-2).distinct
