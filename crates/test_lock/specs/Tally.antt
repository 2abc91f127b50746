-- The state that the tests put behind the lock: a list of numbers, each with the seat that added it, and their sum, out of which a seat may take a number. Inside: only tests cite this.
use Rattle.std.specs.Prelude.{◌≡◌, ℕ, ◌+◌, false, List, [], ◌∷◌, ◌++◌, Option, Some, None, All, slice_set}
use Rattle.std.specs.List.{sum_by}
use Rattle.std.proofs.Common.{arith, refl, ap, subst, sym, zero, suc}
use Rattle.std.proofs.lemmas.List.{append-nil}
use Rattle.std.proofs.lemmas.List.Sums.{sum_by-append}
use mathlib.Core.Option.{some, some-ne-none, some-injective}
use lib.ListN.{get_elem?}
use Rattle.kernel_lock.specs.Seats.{LockView, SeatView, IsSeatOf}

-- The list of pairs of a seat and a number, and the sum of the numbers without those that are out.
pub record TallyView : Type 0 where
  pub list : List (ℕ × ℕ)
  pub sum : ℕ

-- The seat that an entry names.
abbrev pub seat_named : ℕ × ℕ → ℕ
seat_named e = e.0

-- The list of a tally: its history.
abbrev pub entries : TallyView → List (ℕ × ℕ)
entries t = t.list

-- The list's total.
abbrev pub total : List (ℕ × ℕ) → ℕ
total es = sum_by (λ (e : ℕ × ℕ). e.1) es

-- The number that a note has out, or 0 for none.
abbrev pub worth : Option ℕ → ℕ
worth (Some n) = n
worth None = 0

-- The numbers that are out, added up.
abbrev pub sum_out : List (Option ℕ) → ℕ
sum_out [] = 0
sum_out (n ∷ ns) = worth n + sum_out ns

-- The sum and the numbers that are out add up to the list's total.
abbrev pub FitsTally : TallyView → TallyView → List (Option ℕ) → Type 0
FitsTally opening t notes = t.sum + sum_out notes ≡ total (entries t)

-- A seat may add entries of its own, and move numbers between the sum and its note.
abbrev pub MovesTally : ℕ → TallyView → Option ℕ → TallyView → Option ℕ → Type 0
MovesTally k s n t m = (added : List (ℕ × ℕ)) × (entries t ≡ entries s ++ added) × All (λ (e : ℕ × ℕ). e.0 ≡ k) added × (t.sum + worth m ≡ (s.sum + worth n) + total added)

-- A seat of this lock that is outside.
abbrev pub IsOutside : LockView TallyView → SeatView TallyView (ℕ × ℕ) ℕ → Type 0
IsOutside l v = IsSeatOf l v × (v.inside ≡ false)

-- What is out with another note of one seat, and that seat's old one, add up as what was out and
-- the new one do.
pub out_set : (ns : List (Option ℕ)) (k : ℕ) (n m : Option ℕ) → get_elem? ns k ≡ some n → sum_out (slice_set ns k m) + worth n ≡ sum_out ns + worth m
out_set [] k n m e = absurd (some-ne-none n (sym e))
out_set (x ∷ xs) zero n m e =
    let same : worth x ≡ worth n = ap worth (some-injective x n e) in
    let a : sum_out (slice_set (x ∷ xs) zero m) ≡ worth m + sum_out xs = refl in
    let b : sum_out (x ∷ xs) ≡ worth x + sum_out xs = refl in omega (arith, same, a, b)
out_set (x ∷ xs) (suc k) n m e =
    let rest = out_set xs k n m e in
    let a : sum_out (slice_set (x ∷ xs) (suc k) m) ≡ worth x + sum_out (slice_set xs k m) = refl in
    let b : sum_out (x ∷ xs) ≡ worth x + sum_out xs = refl in omega (arith, rest, a, b)

-- A tally that fits and of which one seat moves fits with that seat's new note.
pub keeps_of : (opening s t : TallyView) (notes : List (Option ℕ)) (k : ℕ) (n m : Option ℕ) → FitsTally opening s notes → get_elem? notes k ≡ some n
    → MovesTally k s n t m → FitsTally opening t (slice_set notes k m)
keeps_of opening s t notes k n m fits at (added, longer, all, even) =
    let set = out_set notes k n m at in
    let sums : total (entries t) ≡ total (entries s) + total added = subst (λ (es : List (ℕ × ℕ)). total es ≡ total (entries s) + total added) (sym longer)
    (sum_by-append (λ (e : ℕ × ℕ). e.1) (entries s) added) in
    omega (arith, set, sums, fits, even)

-- A move of a seat makes the list longer by entries of that seat alone.
pub grows_of : (opening s t : TallyView) (notes : List (Option ℕ)) (k : ℕ) (n m : Option ℕ) → FitsTally opening s notes → get_elem? notes k ≡ some n
    → MovesTally k s n t m → (added : List (ℕ × ℕ)) × (entries t ≡ entries s ++ added) × All (λ (e : ℕ × ℕ). e.0 ≡ k) added
grows_of opening s t notes k n m fits at (added, longer, all, even) = (added, longer, all)

-- A seat may leave a tally and its note as they were.
pub stays : (k : ℕ) (s : TallyView) (n : Option ℕ) → MovesTally k s n s n
stays k s n = let none : total [] ≡ 0 = refl in ([], sym (append-nil (entries s)), (λ i d lt. absurd (omega (arith, lt))), omega (arith, none))
