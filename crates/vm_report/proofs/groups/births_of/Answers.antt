use Rattle.std.proofs.Common.{◌≡◌, ◌∙◌, ◌<◌, length, sym, arith}
use Rattle.std.proofs.lemmas.Option.{get_or_from_slice_get}
use Rattle.entry_list.specs.Rows.{entry_seen}
use Rattle.vm_report.proofs.Births.{birth_on, birth_length}
use Rattle.vm_report.proofs.groups.births_of.Goals as goal

pub loop-place-preserved : goal.loop-place-preserved
loop-place-preserved c =
    let H = c.args.history.now in
    let e = entry_seen c.at.result in
    let within : c.loop-place.place < length H = let lt = c.loop-place-test.true in let size = c.len-place-end.ensures in omega (arith, lt, size) in
    record {
      count = birth_length _ _ e c.add_birth_at.ensures ∙ c.loop-place.invariant.count;
      each = λ p lt. birth_on c.loop-place.births.items _ H _ c.loop-place.place e p within (sym (get_or_from_slice_get H c.loop-place.place e e c.at.ensures)) c.add_birth_at.ensures
          (omega (arith, c.loop-place.invariant.count)) (c.loop-place.invariant.each p lt);
    }
