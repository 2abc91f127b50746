use Rattle.std.proofs.Common.{◌≡◌, ◌∙◌, ◌++◌, ◌∷◌, List, ap, drop, refl, sym}
use Rattle.vm_script.specs.vm_types.declared.call.Entry.{Entry}
use Rattle.entry_list.specs.Rows.{entry_seen}
use Rattle.entry_list.specs.declared.row.EntryAt.{EntryAt}
use Rattle.vm_report.specs.Report.{own_text}
use Rattle.vm_report.specs.Runs.{entries_left, runs_seen}
use Rattle.vm_report.proofs.Blocks.{load_made, load_text, made_one, store_made, store_text}
use Rattle.vm_report.proofs.RunEntries.{left-first}
use Rattle.vm_report.proofs.sections.push_next.Goals as goal
use Rattle.vm_report.proofs.sections.push_next.Goals.{In-Some}

-- the entry is the first of those that are left
first : (c : In-Some) → entries_left c.args.history.now c.args.runs.now c.args.at ≡ entry_seen c.in-Some.entry ∷ (c.in-Some._rest ++ runs_seen c.args.history.now (drop c.args.at.next c.args.runs.now))
first c = left-first c.args.history.now c.args.runs.now c.args.at (entry_seen c.in-Some.entry) c.in-Some._rest c.in-Some.ensures

pub returns-in-Load-clause-text : goal.returns-in-Load-clause-text
returns-in-Load-clause-text c =
    let d = (goal.at.returns-in-Load-clause-text c).In-Some in
    let l = c.args.line.now in
    let e = entry_seen c.in-Some.entry in
    let call = ap (λ (x : EntryAt). (entry_seen x).call) c.in-Load.is in
    let reply = ap (λ (x : EntryAt). (entry_seen x).reply) c.in-Load.is in
    let calls = c.if-is_load.ensures.call refl in
    let made = made_one l (entries_left c.args.history.now c.args.runs.now c.args.at) e _ (first d) (load_made l e _ c.in-Load.addr c.in-Load.size c.in-Load.word calls call reply) in
    load_text l e c.in-Load.addr c.in-Load.size c.in-Load.word c.args.out.now.items c.push_loaded.new.out.items calls (c.if-is_load.ensures.word refl) call reply c.in_ok-push_loaded-in-Load.ensures
    ∙ ap (λ (es : List Entry). c.args.out.now.items ++ own_text l es) (sym made.0)

pub returns-in-Load-clause-left : goal.returns-in-Load-clause-left
returns-in-Load-clause-left c =
    let d = (goal.at.returns-in-Load-clause-left c).In-Some in
    let l = c.args.line.now in
    let e = entry_seen c.in-Some.entry in
    let call = ap (λ (x : EntryAt). (entry_seen x).call) c.in-Load.is in
    let reply = ap (λ (x : EntryAt). (entry_seen x).reply) c.in-Load.is in
    let made =
    made_one l (entries_left c.args.history.now c.args.runs.now c.args.at) e _ (first d)
    (load_made l e _ c.in-Load.addr c.in-Load.size c.in-Load.word (c.if-is_load.ensures.call refl) call reply) in
    c.pass.ensures.left ∙ made.1

pub returns-in-Store-clause-text : goal.returns-in-Store-clause-text
returns-in-Store-clause-text c =
    let d = (goal.at.returns-in-Store-clause-text c).In-Some in
    let l = c.args.line.now in
    let e = entry_seen c.in-Some.entry in
    let call = ap (λ (x : EntryAt). (entry_seen x).call) c.in-Store.is in
    let reply = ap (λ (x : EntryAt). (entry_seen x).reply) c.in-Store.is in
    let calls = c.if-is_store.ensures.call refl in
    let made = made_one l (entries_left c.args.history.now c.args.runs.now c.args.at) e _ (first d) (store_made l e _ c.in-Store.addr c.in-Store.size c.in-Store.value calls call reply) in
    store_text l e c.in-Store.addr c.in-Store.size c.in-Store.value c.args.out.now.items c.push_stored.new.out.items calls (c.if-is_store.ensures.word refl) call reply c.in_ok-push_stored-in-Store.ensures
    ∙ ap (λ (es : List Entry). c.args.out.now.items ++ own_text l es) (sym made.0)

pub returns-in-Store-clause-left : goal.returns-in-Store-clause-left
returns-in-Store-clause-left c =
    let d = (goal.at.returns-in-Store-clause-left c).In-Some in
    let l = c.args.line.now in
    let e = entry_seen c.in-Some.entry in
    let call = ap (λ (x : EntryAt). (entry_seen x).call) c.in-Store.is in
    let reply = ap (λ (x : EntryAt). (entry_seen x).reply) c.in-Store.is in
    let made =
    made_one l (entries_left c.args.history.now c.args.runs.now c.args.at) e _ (first d)
    (store_made l e _ c.in-Store.addr c.in-Store.size c.in-Store.value (c.if-is_store.ensures.call refl) call reply) in
    c.pass-in-Store.ensures.left ∙ made.1
