use Rattle.std.proofs.Common.{◌≡◌, ◌∙◌, ◌<◌, ◌++◌, ℕ, List, map, length, ap, sym, arith}
use Rattle.std.proofs.lemmas.List.{length-map, length-replicate}
use Rattle.std.proofs.lemmas.Option.{get_or_from_slice_get}
use Rattle.vm_script.specs.vm_types.declared.call.Entry.{Entry}
use Rattle.vm_script.specs.flat_model.Told.{entries_of}
use Rattle.entry_list.specs.Rows.{entry_seen}
use Rattle.vm_report.specs.Groups.{with_member}
use Rattle.vm_report.specs.Runs.{no_runs, runs_seen}
use Rattle.vm_report.specs.declared.runs.Run.{Run}
use Rattle.vm_report.proofs.Grouped.{member_length, member_on, none_within, none_yet}
use Rattle.vm_report.proofs.groups.entries_by_process.Goals as goal

pub loop-index-init : goal.loop-index-init
loop-index-init c =
    let H = c.args.history.now in
    let none = c.in_ok-groups.ensures in
    record {
      count = ap (λ (gs : List (List Run)). length gs) none ∙ length-replicate c.args.count no_runs;
      each = λ p lt. ap (λ (es : List Entry). es ++ entries_of H p) (none_yet H c.args.count p c.in_ok-groups.groups.items none lt);
      within = none_within (length H) c.args.count c.in_ok-groups.groups.items none;
    }

pub loop-index-preserved : goal.loop-index-preserved
loop-index-preserved c =
    let H = c.args.history.now in
    let e = entry_seen c.at.result in
    let is = sym (get_or_from_slice_get H c.loop-index.index e e c.at.ensures) in
    let within : c.loop-index.index < length H = let lt = c.loop-index-test.true in let size = c.len-index-end.ensures in omega (arith, lt, size) in
    let old = c.loop-index.groups.items in
    let seen = c.in_ok-add_entry.ensures.seen H e within is ∙ ap (λ (p : ℕ). with_member (map (runs_seen H) old) p e) c.process.ensures in
    let kept = member_length (map (runs_seen H) old) _ e.process e seen in
    let before = length-map old (runs_seen H) in
    let after = length-map c.add_entry.new.groups.items (runs_seen H) in
    record {
      count = omega (arith, kept, before, after, c.loop-index.invariant.count);
      each = λ p lt. member_on (λ (x : Entry). x.process) (map (runs_seen H) old) _ H _ c.loop-index.index e p within is seen
          (omega (arith, before, c.loop-index.invariant.count, lt)) (c.loop-index.invariant.each p lt);
      within = c.in_ok-add_entry.ensures.within (length H) within c.loop-index.invariant.within;
    }
