use Rattle.std.proofs.Common.{◌∙◌, ◌++◌, ◌∷◌, [], List, ap, ap₂, append_assoc, sym, take}
use Rattle.std.proofs.lemmas.List.{take_more}
use Rattle.std.proofs.lemmas.Option.{get_or_from_slice_get, slice_get_within}
use Rattle.entry_list.specs.vm_types.declared.call.Entry.{Entry}
use Rattle.entry_list.specs.Rows.{entry_seen}
use Rattle.entry_list.proofs.entries.Entries.push_to.Goals as goal

pub loop-place-preserved : goal.loop-place-preserved
loop-place-preserved c =
    let es = c.args.self.now in
    let i = c.loop-place.place in
    let e = entry_seen c.at.result in
    c.in_ok-push.ensures.items
    ∙ (ap₂ (λ (ys : List Entry) (y : Entry). ys ++ y ∷ []) c.loop-place.invariant c.entry-process.ensures
    ∙ (append_assoc c.args.to.now.items (take i es) (e ∷ [])
    ∙ ap (λ (ys : List Entry). c.args.to.now.items ++ ys)
    (ap (λ (y : Entry). take i es ++ y ∷ []) (sym (get_or_from_slice_get es i e e c.at.ensures)) ∙ sym (take_more es i e (slice_get_within es i e c.at.ensures)))))
