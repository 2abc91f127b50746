use Rattle.std.proofs.Common.{◌<◌, None, sym, subst, length, get_or}
use Rattle.std.specs.Prelude.{option_map}
use Rattle.hat_layer.specs.declared.translation.Translation.{Translation}
use Rattle.hat_layer.specs.Table.{Rows, LeadsToFrame}
use Rattle.hat_layer.proofs.TableLemmas.{leads-none, leads-some, leads-within}
use Rattle.hat_layer.proofs.table.TranslationTable.first.Goals as goal

pub returns-in_err-place-clause-leads : goal.returns-in_err-place-clause-leads
returns-in_err-place-clause-leads c =
    let i = c.self.inside in
    rw c.from_residual.ensures (subst (λ (r : Rows). LeadsToFrame r.places c.args.frame None) c.self.view_is
    (leads-none i.cells.items i.by_frame.order c.args.frame c.self.invariant.frames (sym c.in_err-place.ensures.first)))

pub entry-requires : goal.entry-requires
entry-requires c =
    let i = c.self.inside in
    subst (λ (r : Rows). c.in_ok-place.place < length r.places) c.self.view_is
    (leads-within i.cells.items i.by_frame.order c.args.frame c.self.invariant.frames c.in_ok-place.place (sym c.in_ok-place.ensures.first))

pub returns-clause-leads : goal.returns-clause-leads
returns-clause-leads c =
    let i = c.self.inside in
    subst (λ (r : _). LeadsToFrame c.args.self.now.places c.args.frame r) (sym c.entry.ensures)
    (subst (λ (r : Rows). LeadsToFrame r.places c.args.frame (option_map (λ (t : Translation). (c.in_ok-place.place, t)) (get_or r.places c.in_ok-place.place None))) c.self.view_is
    (leads-some i.cells.items i.by_frame.order c.args.frame c.self.invariant.frames c.in_ok-place.place (sym c.in_ok-place.ensures.first)))
