use Rattle.std.proofs.Common.{◌≡◌, ◌∙◌, ◌++◌, ◌∷◌, [], ℕ, List, ap, ap₂, length, arith}
use Rattle.entry_list.specs.vm_types.declared.call.Entry.{Entry}
use Rattle.entry_list.specs.declared.row.Row.{Row}
use Rattle.entry_list.specs.declared.row.Row.TheVariants as row
use Rattle.entry_list.specs.Rows.{row_entries}
use Rattle.entry_list.proofs.RowLaws.{rows_push_whole}
use Rattle.entry_list.proofs.entries.Entries.push_whole.Goals as goal

pub returns : goal.returns
returns c =
    let rows = c.self.inside.rows.items in
    let whole = c.self.inside.whole.items in
    let reads = c.self.inside.reads.items in
    let e = c.args.entry.now in
    let place : c.len-place.result ≡ length whole = let is = c.len-place.ensures in let size = c.self.inside.whole.ok.0 in omega (arith, is, size) in
    ap₂ (λ (es : List Entry) (rs : List Row). row_entries es reads rs) c.in_ok-push.ensures.items
    (c.in_ok-push-2.ensures.items ∙ ap (λ (n : ℕ). rows ++ row.Whole n ∷ []) place)
    ∙ (rows_push_whole whole reads rows e c.self.invariant ∙ ap (λ (es : List Entry). es ++ e ∷ []) c.self.view_is)
