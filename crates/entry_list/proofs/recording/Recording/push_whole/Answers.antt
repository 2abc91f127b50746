use Rattle.std.proofs.Common.{◌≡◌, ◌∙◌, ◌++◌, ◌∷◌, [], ℕ, List, ap, ap₂, length, arith}
use Rattle.entry_list.specs.vm_types.declared.call.Entry.{Entry}
use Rattle.entry_list.specs.Recorded.{RecordingSeen}
use Rattle.entry_list.specs.Rows.{row_entries}
use Rattle.entry_list.specs.declared.row.Row.{Row}
use Rattle.entry_list.specs.declared.row.Row.TheVariants as row
use Rattle.entry_list.proofs.RowLaws.{rows_push_whole}
use Rattle.entry_list.proofs.recording.Recording.push_whole.Goals as goal

pub returns-clause-entries : goal.returns-clause-entries
returns-clause-entries c =
    let rows = c.self.inside.rows.items in
    let whole = c.self.inside.whole.items in
    let reads = c.self.inside.reads.items in
    let e : Entry = record { process = c.args.process; call = c.args.call.now; reply = c.args.reply.now; cleared = c.args.cleared } in
    let place : c.len-place.result ≡ length whole = let is = c.len-place.ensures in let size = c.self.inside.whole.ok.0 in omega (arith, is, size) in
    ap₂ (λ (es : List Entry) (rs : List Row). row_entries es reads rs) c.push_reserved.ensures.items
    (c.push_reserved-2.ensures.items ∙ ap (λ (n : ℕ). rows ++ row.Whole n ∷ []) place)
    ∙ (rows_push_whole whole reads rows e c.self.invariant.within ∙ ap (λ (s : RecordingSeen). s.entries ++ e ∷ []) c.self.view_is)
