use Rattle.std.proofs.Common.{◌≡◌, ◌∙◌, ◌++◌, ◌∷◌, [], ℕ, List, ap, ap₂, length, arith}
use Rattle.entry_list.specs.vm_types.declared.call.Entry.{Entry}
use Rattle.entry_list.specs.declared.row.Row.TheVariants as row
use Rattle.entry_list.specs.Rows.{part_entry, row_entries}
use Rattle.entry_list.proofs.RowLaws.{rows_push_read}
use Rattle.entry_list.proofs.entries.Entries.push_read.Goals as goal

pub returns : goal.returns
returns c =
    let rows = c.self.inside.rows.items in
    let whole = c.self.inside.whole.items in
    let reads = c.self.inside.reads.items in
    let process = c.args.process in
    let p = c.args.part in
    let place : c.len-place.result ≡ length reads = let is = c.len-place.ensures in let size = c.self.inside.reads.ok.0 in omega (arith, is, size) in
    ap₂ (row_entries whole) c.in_ok-push.ensures.items (c.in_ok-push-2.ensures.items ∙ ap (λ (n : ℕ). rows ++ row.Read process n ∷ []) place)
    ∙ (rows_push_read whole reads rows process p c.self.invariant ∙ ap (λ (es : List Entry). es ++ part_entry process p ∷ []) c.self.view_is)
