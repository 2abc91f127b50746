use Rattle.std.proofs.Common.{rules, ◌+◌, ◌*◌, ap₂, arith}
use Rattle.vm_script.proofs.Digits.{pairs_more, pairs_all}
use Rattle.vm_script.proofs.number.bytes_of_pairs.Goals as goal

pub loop-i-preserved : goal.loop-i-preserved
loop-i-preserved c = record {
  size = search rules;
  so_far =
      pairs_more c.loop-i.bytes.items c.args.digits.now c.loop-i.i (16 * c.digit_value.result + c.digit_value-in-loop-i.result)
      (omega (arith, c.loop-i.invariant.size, c.loop-i-test.true)) (omega (arith, c.loop-i-test.true))
      (ap₂ (λ high low. 16 * high + low) c.digit_value.ensures.value c.digit_value-in-loop-i.ensures.value) c.loop-i.invariant.so_far;
}

pub returns : goal.returns
returns c =
    pairs_all c.loop-i.bytes.items c.args.digits.now c.loop-i.i (omega (arith, c.loop-i.invariant.size, c.loop-i-test.false))
    (omega (arith, c.loop-i-test.false)) c.loop-i.invariant.so_far
