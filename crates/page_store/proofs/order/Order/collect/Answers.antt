use Rattle.std.proofs.Common.{◌≡◌, ℕ, ◌+◌, ◌<◌, List, length, sym, ◌∙◌, ap, arith}
use Rattle.std.specs.Prelude.{slice_index}
use Rattle.std.proofs.Math.ListN.{length-set}
use Rattle.page_store.specs.Bays.{BaySeen, bay_at, home, missing, disk_in}
use Rattle.page_store.proofs.BayLemmas.{collect-got, collect-rest}
use Rattle.page_store.proofs.order.Order.collect.Goals as goal
use Rattle.page_store.proofs.order.Order.collect.Goals.{in-Some, in_default}

pub loop-number-preserved : goal.loop-number-preserved
loop-number-preserved g c =
    let i : ℕ = c.loop-number.number-index in
    let n : ℕ = slice_index c.deref-number-items.result.now c.loop-number.number-index in
    let same : n ≡ slice_index c.args.self i = ap (λ (l : List ℕ). slice_index l i) c.loop-number.invariant.all in
    let long : length c.deref-number-items.result.now ≡ length c.args.self = ap (λ (l : List ℕ). length l) c.loop-number.invariant.all in
    let test = c.loop-number-test.true in
    let lt : i < length c.args.self = omega (arith, test, long) in
    let was : bay_at c.loop-number.bays (slice_index c.args.self i) ≡ home (disk_in (bay_at c.args.bays.now (slice_index c.args.self i))) =
    c.loop-number.invariant.rest i (omega arith) lt ∙ c.requires.there i lt in
    elim c.match-remove.branch [
      | in-Some w ↦ record {
        all = c.loop-number.invariant.all;
        got = rw (w.room-is, w.push_reserved.ensures.items)
            (collect-got g.D.Disk.seen c.loop-number.room.items w.in-Some.disk c.args.bays.now c.loop-number.bays c.args.self i n lt same c.loop-number.invariant.got w.in-Some.ensures.disk was);
        rest = rw c.remove.ensures.new (collect-rest c.args.bays.now c.loop-number.bays c.args.self i n c.requires.numbers lt same c.loop-number.invariant.rest);
        wide = ap (λ (l : List BaySeen). length l) c.remove.ensures.new ∙ length-set c.loop-number.bays n missing ∙ c.loop-number.invariant.wide;
        count = rw (w.room-is, w.push_reserved.ensures.len) (ap (λ (k : ℕ). k + 1) c.loop-number.invariant.count);
        space = rw (w.room-is, w.push_reserved.ensures.capacity) c.loop-number.invariant.space;
      }
      | in_default w ↦ absurd (let z : home (disk_in (bay_at c.args.bays.now (slice_index c.args.self i))) ≡ missing = sym was ∙ ap (bay_at c.loop-number.bays)
          (sym same) ∙ w.in_default.ensures.disk in cc)
    ]
