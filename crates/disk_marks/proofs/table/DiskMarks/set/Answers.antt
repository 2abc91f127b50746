use Rattle.std.proofs.Common.{◌≡◌, ◌<◌, ℕ, List, map, length, [], sym, ap, subst, ◌∙◌}
use Rattle.std.specs.Prelude.{slice_set, slice_index_or}
use Rattle.std.proofs.lemmas.List.{map-set, get_or-map, length-map}
use Rattle.disk_marks.specs.declared.marks.MarkRow.{MarkRow}
use Rattle.disk_marks.specs.Marks.{MarksSeen, with_mark_row}
use Rattle.disk_marks.proofs.table.DiskMarks.set.Goals as goal

pub returns-then-has_row : goal.returns-then-has_row
returns-then-has_row c =
    let rows = c.self.inside.rows.items in
    let inner = c.index_mut.result.now in
    let lt : c.args.disk < length rows = subst (λ (n : ℕ). c.args.disk < n) (length-map rows (λ r. r.items)) (subst (λ (m : MarksSeen). c.args.disk < length m.rows) (sym c.self.view_is) (c.has_row.ensures.0 c.if-has_row.true).0) in
    let same : slice_index_or (map (λ r. r.items) rows) c.args.disk [] ≡ inner.items = get_or-map (λ r. r.items) rows c.args.disk inner [] lt ∙ ap (λ r. r.items) (sym c.index_mut.ensures.value) in
    ap (λ (l : List (List MarkRow)). record { rows = l; pushes = c.self.inside.pushes.items })
    (map-set (λ r. r.items) rows c.args.disk _ ∙ ap (λ (l : List MarkRow). slice_set (map (λ r. r.items) rows) c.args.disk (slice_set l c.args.block c.args.row)) (sym same))
    ∙ ap (λ (m : MarksSeen). with_mark_row m c.args.disk c.args.block c.args.row) c.self.view_is
