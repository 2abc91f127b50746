-- The sums of short lists of notes, and rows of two and three seats.
use Rattle.std.proofs.Common.{◌≡◌, ℕ, zero, suc, ◌+◌, List, [], ◌∷◌, length, Option, None, refl, ap, arith, replicate}
use Rattle.std.specs.List.{All}
use mathlib.Core.Option.{some, some-injective}
use lib.ListN.{get_elem?}
use Rattle.kernel_lock.specs.declared.board.SeatPart.{SeatPart}
use Rattle.kernel_lock.specs.Seats.{HasAll}
use Rattle.test_lock.specs.Tally.{sum_out, worth}

pub out_none : (n : ℕ) → sum_out (replicate n None) ≡ 0
out_none zero = refl
out_none (suc n) = let rest = out_none n in let e : sum_out (replicate (suc n) None) ≡ 0 + sum_out (replicate n None) = refl in omega (arith, rest, e)

pub all_one : {A : Type 0} (P : A → Type 0) (x : A) → P x → All P (x ∷ [])
all_one P x p zero d lt = p
all_one P x p (suc k) d lt = absurd (omega (arith, lt))

pub all_two : {A : Type 0} (P : A → Type 0) (x y : A) → P x → P y → All P (x ∷ y ∷ [])
all_two P x y p q zero d lt = p
all_two P x y p q (suc zero) d lt = q
all_two P x y p q (suc (suc k)) d lt = absurd (omega (arith, lt))

pub out_two : (ns : List (Option ℕ)) (x y : Option ℕ) → length ns ≡ 2 → get_elem? ns 0 ≡ some x → get_elem? ns 1 ≡ some y → sum_out ns ≡ worth x + worth y
out_two [] x y long a b = absurd (omega (arith, long))
out_two (n ∷ []) x y long a b = absurd (omega (arith, long))
out_two (n ∷ m ∷ []) x y long a b =
    let p : worth n ≡ worth x = ap worth (some-injective n x a) in
    let q : worth m ≡ worth y = ap worth (some-injective m y b) in
    let e : sum_out (n ∷ m ∷ []) ≡ worth n + (worth m + 0) = refl in omega (arith, p, q, e)
out_two (n ∷ m ∷ l ∷ ns) x y long a b = let k : length (n ∷ m ∷ l ∷ ns) ≡ length ns + 3 = omega arith in absurd (omega (arith, long, k))

pub out_three : (ns : List (Option ℕ)) (x y z : Option ℕ) → length ns ≡ 3 → get_elem? ns 0 ≡ some x → get_elem? ns 1 ≡ some y → get_elem? ns 2 ≡ some z → sum_out ns ≡ worth x + (worth y + worth z)
out_three [] x y z long a b c = absurd (omega (arith, long))
out_three (n ∷ ns) x y z long a b c =
    let p : worth n ≡ worth x = ap worth (some-injective n x a) in
    let rest = out_two ns y z (omega (arith, long)) b c in
    let e : sum_out (n ∷ ns) ≡ worth n + sum_out ns = refl in omega (arith, p, rest, e)

module _ {E N : Type 0} where
  pub has_two : (p q : SeatPart E N) (n : ℕ) → n ≡ 2 → p.number ≡ 0 → q.number ≡ 1 → HasAll n (p ∷ q ∷ [])
  has_two p q n two a b zero lt = (0, p, refl, a)
  has_two p q n two a b (suc zero) lt = (1, q, refl, b)
  has_two p q n two a b (suc (suc k)) lt = absurd (omega (arith, lt, two))

  pub has_three : (p q r : SeatPart E N) (n : ℕ) → n ≡ 3 → p.number ≡ 0 → q.number ≡ 1 → r.number ≡ 2 → HasAll n (p ∷ q ∷ r ∷ [])
  has_three p q r n three a b c zero lt = (0, p, refl, a)
  has_three p q r n three a b c (suc zero) lt = (1, q, refl, b)
  has_three p q r n three a b c (suc (suc zero)) lt = (2, r, refl, c)
  has_three p q r n three a b c (suc (suc (suc k))) lt = absurd (omega (arith, lt, three))
