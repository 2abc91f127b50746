use Rattle.std.proofs.Common.{◌≤◌, ◌^◌, arith, lit<}
use Rattle.std.proofs.Math.Nat.{pow-le-pow_right}
use Rattle.trace_text.proofs.numbers.mask_in.Goals as goal

-- There are at most 15 digits before the last one.
pub overflow_mul-value : goal.overflow_mul-value
overflow_mul-value c =
    let bound : 16 ^ c.loop-b.b-index ≤ 1152921504606846976 = pow-le-pow_right {n = 16} (lit< tt) {i = c.loop-b.b-index} {j = 15} (omega arith) in
    first_of (omega (arith, bound), grind (arith, bound))

pub overflow_add-value : goal.overflow_add-value
overflow_add-value c =
    let bound : 16 ^ c.loop-b.b-index ≤ 1152921504606846976 = pow-le-pow_right {n = 16} (lit< tt) {i = c.loop-b.b-index} {j = 15} (omega arith) in
    first_of (omega (arith, bound), grind (arith, bound))
