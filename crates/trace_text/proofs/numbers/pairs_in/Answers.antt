use Rattle.std.proofs.Common.{◌-◌, length, rules, arith}
use Rattle.vm_report.specs.vm_script.Fields.{hex_bytes}
use Rattle.trace_text.proofs.Pairs.{pair_more, digits_left}
use Rattle.trace_text.proofs.numbers.pairs_in.Goals as goal

pub loop-left-preserved : goal.loop-left-preserved
loop-left-preserved c = record {
  so_far =
      pair_more c.loop-left.bytes c.loop-left.left.now (hex_bytes c.args.digits.now) c.loop-left.count c.digit_value.result c.digit_value-in-len2-up.result
      (omega arith) c.in-len2-up.len_at_least c.digit_value.ensures.value c.digit_value-in-len2-up.ensures.value c.loop-left.invariant.so_far;
  room = search rules;
  digits = digits_left (length c.loop-left.left.now - 2) c.loop-left.left.now c.loop-left.invariant.digits;
  size = search rules;
}
