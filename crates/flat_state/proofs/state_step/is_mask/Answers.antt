use Rattle.std.proofs.Common.{◌≡◌, ℕ, ◌<◌, ◌≤◌, ◌+◌, ap, arith}
use Rattle.std.specs.Prelude.{◌^◌, ◌/◌, ◌*◌}
use Rattle.std.proofs.Math.Pow.{pow_mono}
use Rattle.std.proofs.Math.Nat.{lt-div-mul-add, div-eq_of_lt}
use Rattle.std.proofs.lemmas.Nat.{pow_pos}
use Rattle.std.proofs.lemmas.Bool.{le-leb, eqb-true, eq-eqb}
use Rattle.flat_state.proofs.state_step.is_mask.Goals as goal

pub returns-then-files-ge64 : goal.returns-then-files-ge64
returns-then-files-ge64 c =
    let more : 2 ^ 64 ≤ 2 ^ c.args.files = pow_mono c.if-files-ge64.true in
    let fits : c.args.mask < 2 ^ 64 = c.ranges.mask.fits in
    (λ t. omega (arith, more, fits), λ h. le-leb 64 c.args.files c.if-files-ge64.true)

small : (mask power : ℕ) → 0 < power → mask / power ≡ 0 → mask < power
small mask power pos none =
    let bound : mask < mask / power * power + power = lt-div-mul-add pos in
    let gone : mask / power * power ≡ 0 * power = ap (λ (q : ℕ). q * power) none in
    omega (arith, bound, gone)

pub returns-else-files-ge64 : goal.returns-else-files-ge64
returns-else-files-ge64 c = (
  λ t. small c.args.mask (2 ^ c.args.files) (pow_pos c.args.files) (eqb-true (c.args.mask / 2 ^ c.args.files) 0 t),
  λ h. eq-eqb (c.args.mask / 2 ^ c.args.files) 0 (div-eq_of_lt h),
)
