-- Sums of the counts of two disks.
use Rattle.std.proofs.Common.{ℕ, ◌≤◌, ◌≡◌, Bool, true, false, ap, refl, arith}
use Rattle.std.specs.Prelude.{◌&&◌, Result, if◌then◌else◌}
use Rattle.std.proofs.lemmas.Result.{on_err_weaker}
use Rattle.block_device.specs.Counts.{HasRisen, HasCause}
use Rattle.block_device.specs.Joins.{count_sum}

pub sums_later : (m n k l : ℕ) → m ≤ n → k ≤ l → count_sum m k ≤ count_sum n l
sums_later m n k l one other = omega (arith, one, other)

-- The first rose, and the second didn't fall.
pub first_risen : (m n k l : ℕ) → HasRisen m n → k ≤ l → HasRisen (count_sum m k) (count_sum n l)
first_risen m n k l risen later = omega (arith, risen, later)

-- The second rose, and the first didn't fall.
pub second_risen : (m n k l : ℕ) → m ≤ n → HasRisen k l → HasRisen (count_sum m k) (count_sum n l)
second_risen m n k l later risen = omega (arith, later, risen)

pub sums_risen : (m n k l : ℕ) → HasRisen m n → HasRisen k l → HasRisen (count_sum m k) (count_sum n l)
sums_risen m n k l one other = omega (arith, one, other)

-- Where one tells as many failures as before, both do.
pub first_told : (e f : Bool) (m n k : ℕ) → (if e then n else 0) ≡ (if e then m else 0) → (if e && f then count_sum n k else 0) ≡ (if e && f then count_sum m k else 0)
first_told true true m n k same = ap (λ (x : ℕ). count_sum x k) same
first_told true false m n k same = refl
first_told false f m n k same = refl

pub second_told : (e f : Bool) (m n k : ℕ) → (if f then n else 0) ≡ (if f then m else 0) → (if e && f then count_sum k n else 0) ≡ (if e && f then count_sum k m else 0)
second_told true true m n k same = ap (count_sum k) same
second_told true false m n k same = refl
second_told false f m n k same = refl

-- What the first counts is the cause, and the second didn't fall.
pub first_cause : {T E : Type 0} (m n k l : ℕ) (r : Result T E) → HasCause m n r → k ≤ l → HasCause (count_sum m k) (count_sum n l) r
first_cause m n k l r cause later = record {
  later = sums_later m n k l cause.later later;
  failed = on_err_weaker r (λ (risen : HasRisen m n). first_risen m n k l risen later) cause.failed;
}

-- What the second counts is the cause, and the first didn't fall.
pub second_cause : {T E : Type 0} (m n k l : ℕ) (r : Result T E) → m ≤ n → HasCause k l r → HasCause (count_sum m k) (count_sum n l) r
second_cause m n k l r later cause = record {
  later = sums_later m n k l later cause.later;
  failed = on_err_weaker r (λ (risen : HasRisen k l). second_risen m n k l later risen) cause.failed;
}
