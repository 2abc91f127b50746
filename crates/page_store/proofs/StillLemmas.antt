-- A new store: its disks are home, and it agrees with no notes.
use Rattle.std.proofs.Common.{◌≡◌, ◌≢◌, ℕ, ◌<◌, ◌⊎◌, inl, inr, List, [], ◌∷◌, Option, Some, None, zero, suc, replicate, refl, sym, ◌∙◌, ap, subst, arith, length}
use Rattle.std.specs.Prelude.{slice_index, slice_index_or, Contains}
use Rattle.std.proofs.lemmas.Bool.{cases_eq}
use Rattle.page_lists.proofs.ListLemmas.{Contains-none}
use Rattle.block_device.specs.DiskSeen.{DiskSeen}
use Rattle.page_store.specs.Bays.{BaySeen, home, bay_at, bay_of, numbers_of, IsStill, no_disk}
use Rattle.page_lock.specs.Rows.{row_at, clear_row}
use Rattle.page_lock.specs.declared.Row.{Row}
use Rattle.page_store.specs.StoreFits.{StoreFits}
use Rattle.page_store.specs.New.{IsNew}
use Rattle.page_store.specs.Notes.{no_notes}
use Rattle.page_store.specs.Seen.{StoreSeen}
use Rattle.page_store.specs.Table.{PlaceTable, IsApart}
use Rattle.page_store.proofs.NewLemmas.{clear_at}

none_more : (disk : ℕ × DiskSeen) (more : List (ℕ × DiskSeen)) (k : ℕ) → disk.0 ≢ k → ((i : ℕ) → i < length more → slice_index (numbers_of more) i ≢ k)
    → (i : ℕ) → i < length (disk ∷ more) → slice_index (numbers_of (disk ∷ more)) i ≢ k
none_more disk more k ne none zero lt = ne
none_more disk more k ne none (suc i) lt = none i (omega (arith, lt))

-- a number is that of one of the disks, or of none
among : (disks : List (ℕ × DiskSeen)) (k : ℕ) → ((i : ℕ) × (i < length disks) × ((d : ℕ × DiskSeen) → (slice_index_or disks i d).0 ≡ k)) ⊎ ((i : ℕ)
    → i < length disks → slice_index (numbers_of disks) i ≢ k)
among [] k = inr (λ i lt. absurd (omega (arith, lt)))
among (disk ∷ more) k = elim (cases_eq disk.0 k) [
  | inl q ↦ inl (0, (omega arith), λ d. q)
  | inr ne ↦ elim (among more k) [
    | inl a ↦ inl (suc a.0, (let l : a.0 < length more = a.1 in omega arith), a.2)
    | inr none ↦ inr (none_more disk more k ne none)
  ]
]

still_of : (o : Option DiskSeen) → IsStill (bay_of o)
still_of None = tt
still_of (Some d) = tt

-- no seat has a disk of a new store
pub new-still : (s : StoreSeen) (count : ℕ) (disks : List (ℕ × DiskSeen)) (swap : Option DiskSeen) → IsNew s count disks swap → (number : ℕ) → IsStill (bay_at s.bays number)
new-still s count disks swap new number = elim (cases_eq number 8) [
  | inl q ↦ subst (λ (k : ℕ). IsStill (bay_at s.bays k)) (sym q) (subst (λ (b : BaySeen). IsStill b) (sym new.bays.swap) (still_of swap))
  | inr ne ↦ elim (among disks number) [
    | inl a ↦
        let here : bay_at s.bays number ≡ home (slice_index_or disks a.0 (0, no_disk)).1 =
        ap (λ (k : ℕ). bay_at s.bays k) (sym (a.2 (0, no_disk))) ∙ new.bays.each a.0 (0, no_disk) a.1 in
        subst (λ (b : BaySeen). IsStill b) (sym here) tt
    | inr none ↦ subst (λ (b : BaySeen). IsStill b) (sym (new.bays.others number ne none)) tt
  ]
]

-- nothing is out of a new store, and no page is on its cache list
pub new-fits : (s : StoreSeen) (count : ℕ) (disks : List (ℕ × DiskSeen)) (swap : Option DiskSeen) → IsNew s count disks swap → (table : PlaceTable) → IsApart table → StoreFits s no_notes table
new-fits s count disks swap new table apart = record {
  apart = apart;
  each_note = λ t note h. absurd (cc);
  each_frame = λ k t h.
      let a : (row_at s.rows k).holder ≡ None = ap (λ (rows : List Row). (row_at rows k).holder) new.rows ∙ ap (λ (r : Row). r.holder) (clear_at count k) in
      absurd (let z : None ≡ Some t = sym a ∙ h in cc);
  each_bay = λ number t h. absurd (subst (λ (b : BaySeen). IsStill b) h (new-still s count disks swap new number));
  each_cached = λ k n h m. absurd (Contains-none k (subst (λ (l : List ℕ). Contains l k) new.cached h));
}
