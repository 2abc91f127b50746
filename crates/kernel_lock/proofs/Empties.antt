-- What a closed lock says where no seat has anything out.
use Rattle.std.proofs.Common.{◌≡◌, ℕ, ◌<◌, zero, suc, List, [], ◌∷◌, length, map, replicate, Option, None, arith, sym, ap, subst, ◌∙◌, refl}
use Rattle.std.specs.List.{All}
use mathlib.Core.Option.{some, some-ne-none, some-injective}
use lib.ListN.{get_elem?}
use Rattle.kernel_lock.specs.declared.board.SeatPart.{SeatPart}
use Rattle.kernel_lock.specs.Seats.{SeatView, HasAll, IsClosed, part_of}

-- a list of nothing but none
all_none : {N : Type 0} (notes : List (Option N)) (n : ℕ) → length notes ≡ n → ((k : ℕ) → k < n → get_elem? notes k ≡ some None) → notes ≡ replicate n None
all_none [] zero e none = refl
all_none [] (suc n) e none = absurd (omega (arith, e))
all_none (x ∷ xs) zero e none = absurd (omega (arith, e))
all_none (x ∷ xs) (suc n) e none =
    ap (λ y. y ∷ xs) (some-injective x None (none 0 (omega arith))) ∙ ap (λ ys. None ∷ ys) (all_none xs n (omega (arith, e)) (λ k lt. none (suc k) (omega (arith, lt))))

module _ {E N : Type 0} where
  pub parts_none : (ps : List (SeatPart E N)) → All (λ p. p.note ≡ None) ps → (i : ℕ) (p : SeatPart E N) → get_elem? ps i ≡ some p → p.note ≡ None
  parts_none [] all i p e = absurd (some-ne-none p (sym e))
  parts_none (x ∷ xs) all zero p e = ap (λ q. q.note) (sym (some-injective x p e)) ∙ all 0 x (omega arith)
  parts_none (x ∷ xs) all (suc i) p e = parts_none xs (λ j d lt. all (suc j) d (omega (arith, lt))) i p e

module _ {S E N : Type 0} where
  pub seats_none : (vs : List (SeatView S E N)) → All (λ v. v.note ≡ None) vs → (i : ℕ) (p : SeatPart E N) → get_elem? (map part_of vs) i ≡ some p → p.note ≡ None
  seats_none [] all i p e = absurd (some-ne-none p (sym e))
  seats_none (x ∷ xs) all zero p e = ap (λ q. q.note) (sym (some-injective (part_of x) p e)) ∙ all 0 x (omega arith)
  seats_none (x ∷ xs) all (suc i) p e = seats_none xs (λ j d lt. all (suc j) d (omega (arith, lt))) i p e

module _ {S E N : Type 0} (seat_of : E → ℕ) (history : S → List E) (fits : S → S → List (Option N) → Type 0) where
  -- where no seat has anything out, the state fits empty notes
  pub closed_empty : (opening : S) (seats : ℕ) (ps : List (SeatPart E N)) (s : S) → IsClosed seat_of history fits opening seats ps s → HasAll seats ps
      → ((i : ℕ) (p : SeatPart E N) → get_elem? ps i ≡ some p → p.note ≡ None) → fits opening s (replicate seats None)
  closed_empty opening seats ps s closed all none =
      subst (fits opening s) (all_none closed.notes seats closed.whole (λ k lt.
      let at = all k lt in
      let holds = closed.holds at.0 at.1 at.2 in
      subst (λ (j : ℕ). get_elem? closed.notes j ≡ some at.1.note) at.3 holds.0 ∙ ap some (none at.0 at.1 at.2))) closed.fitting
