use Rattle.std.proofs.Common.{◌≡◌, ◌∙◌, ◌++◌, ◌∷◌, [], ℕ, ap, ap₂, length, arith}
use Rattle.entry_list.specs.Recorded.{RecordingSeen}
use Rattle.entry_list.specs.Rows.{part_entry, row_entries}
use Rattle.entry_list.specs.declared.row.Row.TheVariants as row
use Rattle.entry_list.proofs.RowLaws.{rows_push_read}
use Rattle.entry_list.proofs.recording.Recording.push_read.Goals as goal

pub returns-clause-entries : goal.returns-clause-entries
returns-clause-entries c =
    let rows = c.self.inside.rows.items in
    let whole = c.self.inside.whole.items in
    let reads = c.self.inside.reads.items in
    let process = c.args.process in
    let p = c.args.part in
    let place : c.len-place.result ≡ length reads = let is = c.len-place.ensures in let size = c.self.inside.reads.ok.0 in omega (arith, is, size) in
    ap₂ (row_entries whole) c.push_reserved.ensures.items (c.push_reserved-2.ensures.items ∙ ap (λ (n : ℕ). rows ++ row.Read process n ∷ []) place)
    ∙ (rows_push_read whole reads rows process p c.self.invariant.within ∙ ap (λ (s : RecordingSeen). s.entries ++ part_entry process p ∷ []) c.self.view_is)
