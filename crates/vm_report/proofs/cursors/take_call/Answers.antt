use Rattle.std.proofs.Common.{◌≡◌, ◌∙◌, ◌++◌, ◌∷◌, [], List, ap, drop, length, take, refl, subst, sym, arith}
use Rattle.std.specs.Prelude.{All}
use Rattle.std.proofs.lemmas.List.{length-drop}
use Rattle.std.proofs.lemmas.List.Elements.{All-drop, All-head}
use Rattle.vm_script.specs.vm_types.declared.call.Entry.{Entry}
use Rattle.vm_script.specs.vm_types.WellFormed.{IsWellFormed}
use Rattle.entry_list.specs.Rows.{entry_seen}
use Rattle.vm_report.specs.Report.{call_length}
use Rattle.vm_report.specs.Runs.{entries_left, runs_seen}
use Rattle.vm_report.proofs.RunEntries.{behind-last, behind-more, behind-none, left-first, taken-last, taken-more, taken-none}
use Rattle.vm_report.proofs.cursors.take_call.Goals as goal
use Rattle.vm_report.proofs.cursors.take_call.Goals.{In-Some, In_ok-push}

-- it was copied
copied : (c : In_ok-push) → c.push.new.self ≡ c.loop-entry.call ++ entry_seen c.in-Some.entry ∷ []
copied c = c.in_ok-push.ensures ∙ ap (λ (e : Entry). c.loop-entry.call ++ e ∷ []) c.entry.ensures

-- the entry is the first of those that are left
first : (c : In-Some) → entries_left c.args.history.now c.args.runs.now c.loop-entry.at ≡ entry_seen c.in-Some.entry ∷ (c.in-Some._rest ++ runs_seen c.args.history.now (drop c.loop-entry.at.next c.args.runs.now))
first c = left-first c.args.history.now c.args.runs.now c.loop-entry.at (entry_seen c.in-Some.entry) c.in-Some._rest c.in-Some.ensures

pub loop-entry-init : goal.loop-entry-init
loop-entry-init c = record {
  taken = ap (λ (es : List Entry). es ++ take (call_length (entries_left c.args.history.now c.args.runs.now c.args.at)) (entries_left c.args.history.now c.args.runs.now c.args.at)) c.requires.empty;
  behind = refl;
  well_formed = c.requires.well_formed;
  whole = c.requires.whole;
}

pub ends_call_at-is_last-requires : goal.ends_call_at-is_last-requires
ends_call_at-is_last-requires c =
    let d = (goal.at.ends_call_at-is_last-requires c).In-Some in
    All-head (λ (e : Entry). IsWellFormed e.call) (entry_seen c.in-Some.entry) _ (subst (All (λ (e : Entry). IsWellFormed e.call)) (first d) c.loop-entry.invariant.well_formed)

pub pass-at-requires-clause-count : goal.pass-at-requires-clause-count
pass-at-requires-clause-count c =
    let some = ap (λ (es : List Entry). length es) c.in-Some.ensures in
    omega (arith, some)

pub returns-then-is_last-clause-taken : goal.returns-then-is_last-clause-taken
returns-then-is_last-clause-taken c =
    let d = (goal.at.returns-then-is_last-clause-taken c).In-Some in
    let f = (goal.at.returns-then-is_last-clause-taken c).In_ok-push in
    let H = c.args.history.now in
    let rs = c.args.runs.now in
    taken-last (entries_left H rs c.loop-entry.at) (entry_seen c.in-Some.entry) _ (entries_left H rs c.pass-at.result) (first d) c.pass-at.ensures.left c.loop-entry.call c.push.new.self _ (copied f)
    c.if-is_last.ensures c.loop-entry.invariant.taken

pub returns-then-is_last-clause-left : goal.returns-then-is_last-clause-left
returns-then-is_last-clause-left c =
    let d = (goal.at.returns-then-is_last-clause-left c).In-Some in
    let H = c.args.history.now in
    let rs = c.args.runs.now in
    behind-last (entries_left H rs c.loop-entry.at) (entry_seen c.in-Some.entry) _ (entries_left H rs c.pass-at.result) (first d) c.pass-at.ensures.left _ c.if-is_last.ensures c.loop-entry.invariant.behind

pub loop-entry-preserved : goal.loop-entry-preserved
loop-entry-preserved c =
    let d = (goal.at.loop-entry-preserved c).In-Some in
    let f = (goal.at.loop-entry-preserved c).In_ok-push in
    let H = c.args.history.now in
    let rs = c.args.runs.now in
    record {
      taken =
          taken-more (entries_left H rs c.loop-entry.at) (entry_seen c.in-Some.entry) _ (entries_left H rs c.pass-at.result) (first d) c.pass-at.ensures.left c.loop-entry.call c.push.new.self _ (copied f)
          c.if-is_last.ensures c.loop-entry.invariant.taken;
      behind =
          behind-more (entries_left H rs c.loop-entry.at) (entry_seen c.in-Some.entry) _ (entries_left H rs c.pass-at.result) (first d) c.pass-at.ensures.left _ c.if-is_last.ensures c.loop-entry.invariant.behind;
      well_formed =
          subst (All (λ (e : Entry). IsWellFormed e.call)) (sym c.pass-at.ensures.left) (All-drop (λ (e : Entry). IsWellFormed e.call) 1 (entries_left H rs c.loop-entry.at) c.loop-entry.invariant.well_formed);
      whole = c.pass-at.ensures.whole;
    }

pub loop-entry-smaller : goal.loop-entry-smaller
loop-entry-smaller c =
    let d = (goal.at.loop-entry-smaller c).In-Some in
    let left = entries_left c.args.history.now c.args.runs.now c.loop-entry.at in
    let some = ap (λ (es : List Entry). length es) (first d) in
    let passed = ap (λ (es : List Entry). length es) c.pass-at.ensures.left in
    let size = length-drop 1 left in
    omega (arith, some, passed, size)

pub returns-clause-taken : goal.returns-clause-taken
returns-clause-taken c =
    taken-none (entries_left c.args.history.now c.args.runs.now c.loop-entry.at) c.loop-entry.call _ (c.loop-entry.invariant.whole c.in_default.ensures) c.loop-entry.invariant.taken

pub returns-clause-left : goal.returns-clause-left
returns-clause-left c =
    behind-none (entries_left c.args.history.now c.args.runs.now c.loop-entry.at) _ (c.loop-entry.invariant.whole c.in_default.ensures) c.loop-entry.invariant.behind

pub returns-clause-whole : goal.returns-clause-whole
returns-clause-whole c = c.loop-entry.invariant.whole
