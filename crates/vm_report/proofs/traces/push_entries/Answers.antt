use Rattle.std.proofs.Common.{◌≡◌, ◌∙◌, ◌<◌, ◌++◌, ap, length, subst, sym, arith}
use Rattle.std.proofs.lemmas.List.Elements.{All-get_or}
use Rattle.std.proofs.lemmas.Option.{get_or_from_slice_get}
use Rattle.vm_script.specs.vm_types.declared.call.Entry.{Entry}
use Rattle.vm_script.specs.vm_types.WellFormed.{IsWellFormed}
use Rattle.entry_list.specs.Rows.{entry_seen}
use Rattle.vm_report.specs.Trace.{entry_text}
use Rattle.vm_report.proofs.Appending.{flat_more}
use Rattle.vm_report.proofs.traces.push_entries.Goals as goal
use Rattle.vm_report.proofs.traces.push_entries.Goals.{After-at}

inside : (c : After-at) → c.loop-place.place < length c.args.history.now
inside c =
    let lt = c.loop-place-test.true in
    let size = c.len-place-end.ensures in
    omega (arith, lt, size)

pub trace_entry-requires : goal.trace_entry-requires
trace_entry-requires c =
    let d = (goal.at.trace_entry-requires c).After-at in
    let e = entry_seen c.at.result in
    subst (λ (x : Entry). IsWellFormed x.call) (get_or_from_slice_get c.args.history.now c.loop-place.place e e c.at.ensures ∙ sym c.entry.ensures)
    (All-get_or (λ (x : Entry). IsWellFormed x.call) c.args.history.now c.loop-place.place e (inside d) c.requires)

pub loop-place-preserved : goal.loop-place-preserved
loop-place-preserved c =
    let d = (goal.at.loop-place-preserved c).After-at in
    let e = entry_seen c.at.result in
    flat_more entry_text c.args.out.now.items _ _ c.args.history.now c.loop-place.place e (inside d) (sym (get_or_from_slice_get c.args.history.now c.loop-place.place e e c.at.ensures)) c.loop-place.invariant
    (c.in_ok-trace_entry.ensures.new ∙ ap (λ (x : Entry). c.loop-place.out.items ++ entry_text x) c.entry.ensures)
