use Rattle.std.proofs.Common.{◌≡◌, ◌∙◌, ◌<◌, ◌+◌, ap, length, sym, arith}
use Rattle.std.specs.Prelude.{count_by}
use Rattle.std.proofs.lemmas.List.{take_all}
use Rattle.std.proofs.lemmas.List.Sums.{count_by_more_no, count_by_more_yes}
use Rattle.std.proofs.lemmas.Option.{get_or_from_slice_get}
use Rattle.vm_script.specs.vm_types.declared.call.Entry.{Entry}
use Rattle.entry_list.specs.Rows.{entry_seen}
use Rattle.vm_report.specs.Summary.{is_refusal}
use Rattle.vm_report.proofs.summaries.refusals.Goals as goal
use Rattle.vm_report.proofs.summaries.refusals.Goals.{then-is_refusal_at, else-is_refusal_at}

pub loop-place-preserved : goal.loop-place-preserved
loop-place-preserved c =
    let H = c.args.history.now in
    let i = c.loop-place.place in
    let e = entry_seen c.at.result in
    let seen = ap (λ (x : Entry). is_refusal x.reply) (get_or_from_slice_get H i e e c.at.ensures) ∙ sym c.is_refusal_at.ensures in
    let within : i < length H = let lt = c.loop-place-test.true in let size = c.len-place-end.ensures in omega (arith, lt, size) in
    let so_far = c.loop-place.invariant.so_far in
    let few = c.loop-place.invariant.few in
    elim c.if-is_refusal_at.branch [
      | then-is_refusal_at w ↦ record {
        so_far = w.count-is ∙ (ap (λ n. n + 1) so_far ∙ sym (count_by_more_yes (λ (x : Entry). is_refusal x.reply) H i e within (seen ∙ w.if-is_refusal_at.true)));
        few = let is = w.count-is in omega (arith, is, few);
      }
      | else-is_refusal_at w ↦ record {
        so_far = w.count-is ∙ (so_far ∙ sym (count_by_more_no (λ (x : Entry). is_refusal x.reply) H i e within (seen ∙ w.if-is_refusal_at.false)));
        few = let is = w.count-is in omega (arith, is, few);
      }
    ]
