use Rattle.std.proofs.Common.{None, ◌∙◌, ap, get_or, Some, set}
use Rattle.hat_layer.specs.Table.{Rows, IsSoundTable}
use Rattle.hat_layer.proofs.TableLemmas.{change-table}
use Rattle.hat_layer.proofs.table.TranslationTable.change.Goals.{After-index_mut}
use Rattle.hat_layer.proofs.table.TranslationTable.change.Goals as goal

changed : (c : After-index_mut) → IsSoundTable (set c.self.inside.cells.items c.args.place (Some c.args.new)) c.self.inside.slots c.self.inside.by_page c.self.inside.by_frame
changed c = change-table c.self.inside.cells.items c.self.inside.slots c.self.inside.by_page c.self.inside.by_frame c.self.invariant c.args.place 0 c.args.old c.args.new
    (ap (λ (r : Rows). get_or r.places c.args.place None) c.self.view_is ∙ c.requires.old) c.requires.same

pub invariant_of-self : goal.invariant_of-self
invariant_of-self c = changed (goal.at.invariant_of-self c).After-index_mut

pub returns-clause-distinct : goal.returns-clause-distinct
returns-clause-distinct c = (changed (goal.at.returns-clause-distinct c).After-index_mut).distinct
