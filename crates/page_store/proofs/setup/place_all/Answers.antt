use Rattle.std.proofs.Common.{ℕ, List, length, refl, sym, ◌∙◌, ap, subst, arith}
use Rattle.std.proofs.Math.ListN.{length-set}
use Rattle.block_device.specs.DiskSeen.{DiskSeen}
use Rattle.page_store.specs.Bays.{BaySeen, home, bays_with, pairs_seen}
use Rattle.page_store.proofs.BayLemmas.{AreBelow, are-below, below-front, placed-append, pairs-append}
use Rattle.page_store.proofs.setup.place_all.Goals as goal

pub loop-number-init : goal.loop-number-init
loop-number-init g c = record { all = refl; nine = c.requires.nine; below = are-below c.args.disks.items c.requires.numbers.below }

pub put-requires : goal.put-requires
put-requires g c =
    let b = below-front c.pop.new.self.items (c.in-Some.number, c.in-Some.disk) (subst (λ l. AreBelow l) c.in-Some.ensures.items c.loop-number.invariant.below) in
    let n = c.loop-number.invariant.nine in
    omega (arith, b.1, n)

pub loop-number-preserved : goal.loop-number-preserved
loop-number-preserved g c = record {
  all = ap (bays_with (pairs_seen g.D.Disk.seen c.pop.new.self.items)) c.put.ensures
      ∙ sym (placed-append (pairs_seen g.D.Disk.seen c.pop.new.self.items) (c.in-Some.number, g.D.Disk.seen c.in-Some.disk) c.loop-number.bays)
      ∙ ap (λ (l : List (ℕ × DiskSeen)). bays_with l c.loop-number.bays)
      (sym (ap (pairs_seen g.D.Disk.seen) c.in-Some.ensures.items ∙ pairs-append g.D.Disk.seen c.pop.new.self.items (c.in-Some.number, c.in-Some.disk)))
      ∙ c.loop-number.invariant.all;
  nine = ap (λ (l : List BaySeen). length l) c.put.ensures ∙ length-set c.loop-number.bays c.in-Some.number (home (g.D.Disk.seen c.in-Some.disk)) ∙ c.loop-number.invariant.nine;
  below = (below-front c.pop.new.self.items (c.in-Some.number, c.in-Some.disk) (subst (λ l. AreBelow l) c.in-Some.ensures.items c.loop-number.invariant.below)).0;
}
