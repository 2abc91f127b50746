use Rattle.std.proofs.Common.{◌<◌, Some, None, sym, ◌∙◌, ap, subst, set, length, get_or, arith}
use Rattle.hat_layer.specs.Pool.{holds}
use Rattle.hat_layer.specs.Table.{Rows, IsSoundTable}
use Rattle.hat_layer.proofs.TableLemmas.{put-table}
use Rattle.hat_layer.proofs.table.TranslationTable.put.Goals.{After-link-2}
use Rattle.hat_layer.proofs.table.TranslationTable.put.Goals as goal

put : (c : After-link-2) → IsSoundTable (set c.self.inside.cells.items c.args.place (Some c.args.new)) c.self.inside.slots c.link.new.self c.link-2.new.self
put c =
    let i = c.self.inside in
    let v = c.self.view_is in
    put-table i.cells.items i.slots i.by_page i.by_frame c.self.invariant c.args.place c.slot_of_pair.result c.args.new c.link.new.self c.link-2.new.self
    (subst (λ (r : Rows). c.args.place < length r.places) (sym v) c.requires.place)
    (ap (λ (r : Rows). get_or r.places c.args.place None) v ∙ c.requires.empty)
    (λ k. ap (λ (r : Rows). holds c.args.new.space c.args.new.page (get_or r.places k None)) v ∙ c.requires.absent k)
    c.slot_of_pair.ensures.slot c.slot_of_pair.ensures.within (let m = ap (λ (r : Rows). r.frames) v in let f = c.requires.frame in omega arith)
    c.link.ensures.order c.link.ensures.size c.link-2.ensures.order c.link-2.ensures.size

pub invariant_of-self : goal.invariant_of-self
invariant_of-self c = put (goal.at.invariant_of-self c).After-link-2

pub returns-clause-distinct : goal.returns-clause-distinct
returns-clause-distinct c = (put (goal.at.returns-clause-distinct c).After-link-2).distinct
