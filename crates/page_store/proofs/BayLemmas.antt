-- Disks put into bays, and taken out again.
use Rattle.std.proofs.Common.{◌≡◌, ℕ, ◌+◌, ◌<◌, ◌≤◌, List, [], ◌∷◌, ◌++◌, suc, refl, sym, ◌∙◌, ap, arith, length, set, take}
use Rattle.std.specs.Prelude.{slice_index}
use Rattle.std.proofs.lemmas.List.{get_or-set_other, take_more, map-append}
use Rattle.std.proofs.Math.ListN.{length-set}
use Rattle.block_device.specs.DiskSeen.{DiskSeen}
use Rattle.page_store.specs.Bays.{BaySeen, missing, home, bay_at, bays_with, pairs_seen, numbers_of, AreNumbers, disk_in, disks_in}

pub placed-append : (xs : List (ℕ × DiskSeen)) (d : ℕ × DiskSeen) (bays : List BaySeen) → bays_with (xs ++ d ∷ []) bays ≡ bays_with xs (set bays d.0 (home d.1))
placed-append [] d bays = refl
placed-append (x ∷ xs) d bays = ap (λ (l : List BaySeen). set l x.0 (home x.1)) (placed-append xs d bays)

pub pairs-append : {D : Type 0} (seen : D → DiskSeen) (xs : List (ℕ × D)) (d : ℕ × D) → pairs_seen seen (xs ++ d ∷ []) ≡ pairs_seen seen xs ++ (d.0, seen d.1) ∷ []
pairs-append seen [] d = refl
pairs-append seen (x ∷ xs) d = ap (λ (l : List (ℕ × DiskSeen)). (x.0, seen x.1) ∷ l) (pairs-append seen xs d)

pub length-placed : (xs : List (ℕ × DiskSeen)) (bays : List BaySeen) → length (bays_with xs bays) ≡ length bays
length-placed [] bays = refl
length-placed (x ∷ xs) bays = length-set (bays_with xs bays) x.0 (home x.1) ∙ length-placed xs bays

-- numbers below 8, one by one
abbrev pub AreBelow : {D : Type 0} → List (ℕ × D) → Type 0
AreBelow [] = Unit {0}
AreBelow (x ∷ xs) = (x.0 < 8) × AreBelow xs

pub are-below : {D : Type 0} (xs : List (ℕ × D)) → ((i : ℕ) → i < length (numbers_of xs) → slice_index (numbers_of xs) i < 8) → AreBelow xs
are-below [] h = tt
are-below (x ∷ xs) h = (h 0 (omega arith), are-below xs (λ i lt. h (suc i) (omega (arith, lt))))

pub below-front : {D : Type 0} (xs : List (ℕ × D)) (d : ℕ × D) → AreBelow (xs ++ d ∷ []) → AreBelow xs × (d.0 < 8)
below-front [] d h = (tt, h.0)
below-front (x ∷ xs) d h = let r = below-front xs d h.1 in ((h.0, r.0), r.1)

pub disks_in-more : (bays : List BaySeen) (numbers : List ℕ) (i : ℕ) → i < length numbers
    → disks_in bays (take (i + 1) numbers) ≡ disks_in bays (take i numbers) ++ (slice_index numbers i, disk_in (bay_at bays (slice_index numbers i))) ∷ []
disks_in-more bays numbers i lt = ap (disks_in bays) (take_more numbers i 0 lt) ∙ map-append (λ (n : ℕ). (n, disk_in (bay_at bays n))) (take i numbers) (slice_index numbers i ∷ [])

-- one more disk is taken out of its bay
pub collect-got : {D : Type 0} (seen : D → DiskSeen) (room : List (ℕ × D)) (disk : D) (old now : List BaySeen) (numbers : List ℕ) (i n : ℕ) → i < length numbers → n ≡ slice_index numbers i
    → pairs_seen seen room ≡ disks_in old (take i numbers) → bay_at now n ≡ home (seen disk) → bay_at now (slice_index numbers i) ≡ home (disk_in (bay_at old (slice_index numbers i)))
    → pairs_seen seen (room ++ (n, disk) ∷ []) ≡ disks_in old (take (i + 1) numbers)
collect-got seen room disk old now numbers i n lt e got there was =
    let d : home (seen disk) ≡ home (disk_in (bay_at old (slice_index numbers i))) = sym there ∙ ap (bay_at now) e ∙ was in
    let f : seen disk ≡ disk_in (bay_at old (slice_index numbers i)) = ap (λ (b : BaySeen). disk_in b) d in
    pairs-append seen room (n, disk)
    ∙ ap (λ (l : List (ℕ × DiskSeen)). l ++ (n, seen disk) ∷ []) got
    ∙ ap (λ (k : ℕ). disks_in old (take i numbers) ++ (k, seen disk) ∷ []) e
    ∙ ap (λ (x : DiskSeen). disks_in old (take i numbers) ++ (slice_index numbers i, x) ∷ []) f
    ∙ sym (disks_in-more old numbers i lt)

pub collect-rest : (old now : List BaySeen) (numbers : List ℕ) (i n : ℕ) → AreNumbers numbers → i < length numbers → n ≡ slice_index numbers i
    → ((j : ℕ) → i ≤ j → j < length numbers → bay_at now (slice_index numbers j) ≡ bay_at old (slice_index numbers j))
    → (j : ℕ) → i + 1 ≤ j → j < length numbers → bay_at (set now n missing) (slice_index numbers j) ≡ bay_at old (slice_index numbers j)
collect-rest old now numbers i n are lt e rest j le ltj =
    get_or-set_other now n (slice_index numbers j) missing missing (λ q. let r : j ≡ i = are.apart j i ltj lt (q ∙ e) in omega (arith, r, le)) ∙ rest j (omega (arith, le)) ltj
