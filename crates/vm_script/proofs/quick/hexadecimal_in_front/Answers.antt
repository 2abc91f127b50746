use Rattle.std.proofs.Common.{◌≤◌, ◌^◌, arith, lit<}
use Rattle.std.proofs.Math.Nat.{pow-le-pow_right}
use Rattle.vm_script.proofs.quick.hexadecimal_in_front.Goals as goal

-- There are at most 7 digits before the last one.
pub overflow_mul-value : goal.overflow_mul-value
overflow_mul-value c =
    let bound : 16 ^ c.loop-count.count ≤ 268435456 = pow-le-pow_right {n = 16} (lit< tt) {i = c.loop-count.count} {j = 7} (omega arith) in
    first_of (omega (arith, bound), grind (arith, bound))

pub overflow_add-value : goal.overflow_add-value
overflow_add-value c =
    let bound : 16 ^ c.loop-count.count ≤ 268435456 = pow-le-pow_right {n = 16} (lit< tt) {i = c.loop-count.count} {j = 7} (omega arith) in
    first_of (omega (arith, bound), grind (arith, bound))
