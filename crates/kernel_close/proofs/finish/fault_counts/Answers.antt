use Rattle.std.proofs.Common.{None, inl, inr, sym, ap, ◌∙◌, arith}
use Rattle.std.proofs.lemmas.Bool.{cases_lt}
use Rattle.std.proofs.lemmas.List.{get_or_past}
use Rattle.seg_ops.specs.page_store.Bays.{missing, home_faults}
use Rattle.kernel_close.proofs.finish.fault_counts.Goals as goal

pub returns : goal.returns
returns g c = λ disk. elim (cases_lt disk 9) [
  | inl low ↦ c.loop-disk.invariant.told disk (omega (arith, low, c.loop-disk-test.false))
  | inr high ↦
      let bays = c.requires.bays in
      let long = c.loop-disk.invariant.long in
      get_or_past c.loop-disk.counts disk None (omega (arith, high, long)) ∙ ap home_faults (sym (get_or_past c.args.store.now.bays disk missing (omega (arith, high, bays))))
]
