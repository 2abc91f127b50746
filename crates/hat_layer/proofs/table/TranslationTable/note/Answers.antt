use Rattle.std.proofs.Common.{◌≡◌, Option, Some, None, ◌∙◌, ap, sym, subst, get_or, set, refl}
use Rattle.std.specs.Prelude.{option_map}
use Rattle.std.proofs.lemmas.List.{get_or_read}
use Rattle.hash_chains.proofs.OwnerLaws.{some-within}
use Rattle.hat_layer.specs.declared.translation.Translation.{Translation}
use Rattle.hat_layer.specs.Pool.{after_access}
use Rattle.hat_layer.specs.Table.{Rows, IsSoundTable}
use Rattle.hat_layer.proofs.TableLemmas.{change-table}
use Rattle.hat_layer.proofs.table.TranslationTable.note.Goals.{After-note_in}
use Rattle.hat_layer.proofs.table.TranslationTable.note.Goals as goal

-- the place had its translation
here : (c : After-note_in) → get_or c.self.inside.cells.items c.args.place None ≡ Some c.args.old
here c = ap (λ (r : Rows). get_or r.places c.args.place None) c.self.view_is ∙ c.requires

noted : (c : After-note_in) → c.note_in.new.cell ≡ Some (after_access c.args.write c.args.old)
noted c =
    let cells = c.self.inside.cells.items in
    let within = some-within cells c.args.place c.args.old (here c) in
    c.note_in.ensures ∙ ap (option_map (after_access c.args.write)) (get_or_read cells c.args.place c.index_mut.result.now within c.index_mut.ensures.value None ∙ here c)

changed : (c : After-note_in) → IsSoundTable (set c.self.inside.cells.items c.args.place c.note_in.new.cell) c.self.inside.slots c.self.inside.by_page c.self.inside.by_frame
changed c = subst (λ (x : Option Translation). IsSoundTable (set c.self.inside.cells.items c.args.place x) c.self.inside.slots c.self.inside.by_page c.self.inside.by_frame) (sym (noted c))
    (change-table c.self.inside.cells.items c.self.inside.slots c.self.inside.by_page c.self.inside.by_frame c.self.invariant c.args.place 0 c.args.old (after_access c.args.write c.args.old)
    (here c) (record { space = refl; page = refl; frame = refl }))

pub invariant_of-self : goal.invariant_of-self
invariant_of-self c = changed (goal.at.invariant_of-self c).After-note_in

pub returns-clause-distinct : goal.returns-clause-distinct
returns-clause-distinct c = (changed (goal.at.returns-clause-distinct c).After-note_in).distinct
