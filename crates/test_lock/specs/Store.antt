-- A state that is generic in a disk, which is at home or out with one seat. Of the disk its count alone is known. Inside: only tests cite this.
use Rattle.std.specs.Prelude.{◌≡◌, ℕ, ◌+◌, ◌≤◌, List, [], ◌∷◌, ◌++◌, Option, Some, None, All, slice_set}
use Rattle.std.proofs.Common.{arith, refl, ap, subst, sym, zero, suc}
use mathlib.Core.Option.{some, some-ne-none, some-injective}
use lib.ListN.{get_elem?}

-- The disk, where it is at home, and the history.
pub record StoreView (D : Type 0) : Type 0 where
  pub disk : Option D
  pub history : List (ℕ × ℕ)

-- How many disks a seat with this note has out: one or none.
abbrev pub disks_out_by : Option ℕ → ℕ
disks_out_by (Some n) = 1
disks_out_by None = 0

-- How many disks are out.
abbrev pub count_out : List (Option ℕ) → ℕ
count_out [] = 0
count_out (n ∷ ns) = disks_out_by n + count_out ns

-- The count that a note tells, if it tells one, is at least this.
abbrev pub AtLeast : ℕ → Option ℕ → Type 0
AtLeast b (Some n) = b ≤ n
AtLeast b None = Unit {0}

module _ {D : Type 0} where
  -- The history of a state.
  abbrev pub store_entries : StoreView D → List (ℕ × ℕ)
  store_entries s = s.history

  -- How many disks are at home: one or none.
  abbrev pub count_home : Option D → ℕ
  count_home (Some d) = 1
  count_home None = 0

module _ {D : Type 0} (count : D → ℕ) where
  -- A note is the count of the disk that is out.
  abbrev pub note_of_disk : Option D → Option ℕ
  note_of_disk (Some d) = Some (count d)
  note_of_disk None = None

  -- The disk is at home or out with exactly one seat, and its count is at least what it was at the opening.
  pub record FitsStore (opening s : StoreView D) (notes : List (Option ℕ)) : Type 0 where
    pub one : count_home s.disk + count_out notes ≡ 1
    pub risen : (o : D) → opening.disk ≡ Some o → AtLeast (count o) (note_of_disk s.disk) × ((k : ℕ) (n : Option ℕ) → get_elem? notes k ≡ some n → AtLeast (count o) n)

  -- A seat may take the disk out or bring it home with a count that is no less, and add entries of its own.
  pub record MovesStore (k : ℕ) (s : StoreView D) (n : Option ℕ) (t : StoreView D) (m : Option ℕ) : Type 0 where
    pub added : List (ℕ × ℕ)
    pub longer : store_entries t ≡ store_entries s ++ added
    pub by : All (λ (e : ℕ × ℕ). e.0 ≡ k) added
    pub even : count_home t.disk + disks_out_by m ≡ count_home s.disk + disks_out_by n
    pub rises : (b : ℕ) → AtLeast b (note_of_disk s.disk) → AtLeast b n → AtLeast b (note_of_disk t.disk) × AtLeast b m

out_set : (ns : List (Option ℕ)) (k : ℕ) (n m : Option ℕ) → get_elem? ns k ≡ some n → count_out (slice_set ns k m) + disks_out_by n ≡ count_out ns + disks_out_by m
out_set [] k n m e = absurd (some-ne-none n (sym e))
out_set (x ∷ xs) zero n m e =
    let same : disks_out_by x ≡ disks_out_by n = ap disks_out_by (some-injective x n e) in
    let a : count_out (slice_set (x ∷ xs) zero m) ≡ disks_out_by m + count_out xs = refl in
    let b : count_out (x ∷ xs) ≡ disks_out_by x + count_out xs = refl in omega (arith, same, a, b)
out_set (x ∷ xs) (suc k) n m e =
    let rest = out_set xs k n m e in
    let a : count_out (slice_set (x ∷ xs) (suc k) m) ≡ disks_out_by x + count_out (slice_set xs k m) = refl in
    let b : count_out (x ∷ xs) ≡ disks_out_by x + count_out xs = refl in omega (arith, rest, a, b)

each_set : (P : Option ℕ → Type 0) (ns : List (Option ℕ)) (k : ℕ) (m : Option ℕ) → P m → ((i : ℕ) (n : Option ℕ) → get_elem? ns i ≡ some n → P n)
    → (i : ℕ) (n : Option ℕ) → get_elem? (slice_set ns k m) i ≡ some n → P n
each_set P [] k m here all i n e = absurd (some-ne-none n (sym e))
each_set P (x ∷ xs) zero m here all zero n e = subst P (some-injective m n e) here
each_set P (x ∷ xs) zero m here all (suc i) n e = all (suc i) n e
each_set P (x ∷ xs) (suc k) m here all zero n e = all zero n e
each_set P (x ∷ xs) (suc k) m here all (suc i) n e = each_set P xs k m here (λ j. all (suc j)) i n e

-- Where a seat has the disk out, at least one disk is out.
pub is_out : (ns : List (Option ℕ)) (k n : ℕ) → get_elem? ns k ≡ some (Some n) → 1 ≤ count_out ns
is_out [] k n e = absurd (some-ne-none (Some n) (sym e))
is_out (x ∷ xs) zero n e = let same : disks_out_by x ≡ 1 = ap disks_out_by (some-injective x (Some n) e) in let b : count_out (x ∷ xs) ≡ disks_out_by x + count_out xs = refl in omega (arith, same, b)
is_out (x ∷ xs) (suc k) n e = let rest = is_out xs k n e in let b : count_out (x ∷ xs) ≡ disks_out_by x + count_out xs = refl in omega (arith, rest, b)

module _ {D : Type 0} where
  -- A disk of which none is counted at home isn't there.
  pub not_home : (d : Option D) → count_home d ≡ 0 → d ≡ None
  not_home (Some d) e = absurd (omega (arith, e))
  not_home None e = refl

module _ {D : Type 0} (count : D → ℕ) where
  -- A state that fits and of which one seat moves fits with that seat's new note.
  pub keeps_of : (opening s t : StoreView D) (notes : List (Option ℕ)) (k : ℕ) (n m : Option ℕ) → FitsStore count opening s notes → get_elem? notes k ≡ some n
      → MovesStore count k s n t m → FitsStore count opening t (slice_set notes k m)
  keeps_of opening s t notes k n m fits at moved =
      let set = out_set notes k n m at in
      let one = fits.one in
      let even = moved.even in
      record {
        one = omega (arith, set, one, even);
        risen = λ o is. let was = fits.risen o is in let now = moved.rises (count o) was.0 (was.1 k n at) in (now.0, each_set (AtLeast (count o)) notes k m now.1 was.1);
      }

  -- A move of a seat makes the history longer by entries of that seat alone.
  pub grows_of : (opening s t : StoreView D) (notes : List (Option ℕ)) (k : ℕ) (n m : Option ℕ) → FitsStore count opening s notes → get_elem? notes k ≡ some n
      → MovesStore count k s n t m → (added : List (ℕ × ℕ)) × (store_entries t ≡ store_entries s ++ added) × All (λ (e : ℕ × ℕ). e.0 ≡ k) added
  grows_of opening s t notes k n m fits at moved = (moved.added, moved.longer, moved.by)
