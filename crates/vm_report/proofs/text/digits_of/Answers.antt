use Rattle.std.proofs.Common.{rules, arith}
use Rattle.vm_report.proofs.Digits.{digits_more}
use Rattle.vm_report.proofs.text.digits_of.Goals as goal

pub loop-i-preserved : goal.loop-i-preserved
loop-i-preserved c = record {
  size = search rules;
  so_far =
      digits_more c.loop-i.digits c.args.bytes.now c.loop-i.i c.hex_digit.result c.hex_digit-in-loop-i.result (omega arith)
      c.loop-i-test.true c.hex_digit.ensures c.hex_digit-in-loop-i.ensures c.loop-i.invariant.so_far;
}
