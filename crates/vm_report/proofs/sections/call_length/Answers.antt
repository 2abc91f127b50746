use Rattle.std.proofs.Common.{◌≡◌, ◌∙◌, ◌<◌, length, sym, subst, true, false, arith}
use Rattle.std.proofs.lemmas.Option.{get_or_from_slice_get}
use Rattle.std.proofs.lemmas.List.Elements.{All-get_or}
use Rattle.vm_script.specs.vm_types.declared.call.Entry.{Entry}
use Rattle.vm_script.specs.vm_types.WellFormed.{IsWellFormed}
use Rattle.entry_list.specs.Rows.{entry_seen}
use Rattle.vm_report.proofs.Blocks.{call_behind}
use Rattle.vm_report.proofs.sections.call_length.Goals as goal
use Rattle.vm_report.proofs.sections.call_length.Goals.{After-at}

inside : (c : After-at) → c.loop-place.place < length c.args.entries.now
inside c =
    let lt = c.loop-place-test.true in
    let size = c.len-place-end.ensures in
    omega (arith, lt, size)

pub ends_call_at-requires : goal.ends_call_at-requires
ends_call_at-requires c =
    let d = (goal.at.ends_call_at-requires c).After-at in
    let e = entry_seen c.at.result in
    subst (λ (x : Entry). IsWellFormed x.call) (get_or_from_slice_get c.args.entries.now c.loop-place.place e e c.at.ensures)
    (All-get_or (λ (x : Entry). IsWellFormed x.call) c.args.entries.now c.loop-place.place e (inside d) c.requires.well_formed)

pub returns-then-ends_call_at-clause-made : goal.returns-then-ends_call_at-clause-made
returns-then-ends_call_at-clause-made c = λ behind.
    let d = (goal.at.returns-then-ends_call_at-clause-made c).After-at in
    let e = entry_seen c.at.result in
    let is = sym (get_or_from_slice_get c.args.entries.now c.loop-place.place e e c.at.ensures) in
    let step = call_behind c.args.entries.now c.loop-place.place e true behind (inside d) is (sym c.ends_call_at.ensures ∙ c.if-ends_call_at.true) in
    let before = c.loop-place.invariant behind in
    omega (arith, step, before)

pub loop-place-preserved : goal.loop-place-preserved
loop-place-preserved c = λ behind.
    let d = (goal.at.loop-place-preserved c).After-at in
    let e = entry_seen c.at.result in
    let is = sym (get_or_from_slice_get c.args.entries.now c.loop-place.place e e c.at.ensures) in
    let step = call_behind c.args.entries.now c.loop-place.place e false behind (inside d) is (sym c.ends_call_at.ensures ∙ c.if-ends_call_at.false) in
    let before = c.loop-place.invariant behind in
    omega (arith, step, before)
