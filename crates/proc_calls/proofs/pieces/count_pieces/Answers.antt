use Rattle.std.proofs.Common.{length, ap, arith}
use Rattle.std.specs.Prelude.{sum_by}
use Rattle.seg_vn.specs.addr_space.Space.{part}
use Rattle.seg_vn.specs.vm_world.CountsFit.{slots_for_part}
use Rattle.proc_calls.proofs.PiecesFrom.{few, few-slots, one-less, owns-next, slots-less, whole-from}
use Rattle.proc_calls.proofs.pieces.count_pieces.Goals as goal

pub loop-first-init : goal.loop-first-init
loop-first-init c =
    let all = whole-from 1 0 c.args.space.now.parts c.requires.ordered (omega arith) in
    record {
      pieces = let e = ap length all in omega (arith, e);
      slots = let e = ap (sum_by slots_for_part) all in omega (arith, e);
    }

pub overflow_add-counts : goal.overflow_add-counts
overflow_add-counts c = let a = c.loop-first.invariant.pieces in let b = few c.args.space.now.parts c.requires.ordered in omega (arith, a, b)

pub overflow_add-counts-in-Some : goal.overflow_add-counts-in-Some
overflow_add-counts-in-Some c =
    let x = part c.in-Some.first c.in-Some.pages c.in-Some.segment.now in
    let a = c.loop-first.invariant.slots in
    let b = few-slots c.args.space.now.parts c.requires.ordered c.requires.owns in
    let less = slots-less c.args.space.now.parts c.loop-first.from x c.in-Some.ensures in
    let owns = owns-next c.args.space.now.parts c.loop-first.from x c.in-Some.ensures c.requires.owns in
    let here = c.slots_of.ensures in
    omega (arith, a, b, less, owns, here)

pub overflow_add-from : goal.overflow_add-from
overflow_add-from c = let within = c.in-Some.ensures.within in omega (arith, within)

pub loop-first-preserved : goal.loop-first-preserved
loop-first-preserved c =
    let x = part c.in-Some.first c.in-Some.pages c.in-Some.segment.now in
    let inv = c.loop-first.invariant in
    record {
      pieces = let a = inv.pieces in let one = one-less c.args.space.now.parts c.loop-first.from x c.in-Some.ensures in omega (arith, a, one);
      slots =
          let a = inv.slots in
          let less = slots-less c.args.space.now.parts c.loop-first.from x c.in-Some.ensures in
          let owns = owns-next c.args.space.now.parts c.loop-first.from x c.in-Some.ensures c.requires.owns in
          let here = c.slots_of.ensures in
          omega (arith, a, less, owns, here);
    }

pub loop-first-smaller : goal.loop-first-smaller
loop-first-smaller c =
    let next = c.in-Some.ensures in
    let behind = next.behind in
    let some = next.some in
    let within = next.within in
    omega (arith, behind, some, within)

pub returns : goal.returns
returns c =
    let inv = c.loop-first.invariant in
    record {
      pieces = let a = inv.pieces in let e = ap length c.in_default.ensures in omega (arith, a, e);
      slots = let a = inv.slots in let e = ap (sum_by slots_for_part) c.in_default.ensures in omega (arith, a, e);
    }
