-- A new store.
use Rattle.std.proofs.Common.{◌≡◌, ◌≢◌, ℕ, ◌+◌, ◌<◌, ◌≤◌, ◌⊎◌, inl, inr, List, [], ◌∷◌, Option, Some, None, zero, suc, refl, sym, ◌∙◌, ap, subst, arith, length, get_or, set, replicate, IsSome}
use Rattle.std.specs.Prelude.{slice_index, ◌^◌, ◌/◌, option_map, Contains}
use Rattle.std.specs.List.{range_with_len}
use Rattle.std.proofs.lemmas.List.{get_or-set_same, get_or-set_other, length-replicate}
use Rattle.std.proofs.lemmas.Bool.{cases_eq}
use Rattle.block_device.specs.DiskSeen.{DiskSeen, HasBlocks, one_disk}
use Rattle.core_arena.specs.Bytes.{zeros}
use Rattle.page_clock.specs.Clock.{fresh_clock}
use Rattle.page_hash.specs.Names.{name_at, AreDistinct}
use Rattle.page_hash.specs.declared.PageName.{PageName}
use Rattle.page_lists.specs.ListsSeen.{AreApart}
use Rattle.page_lists.proofs.ListLemmas.{Contains-none, Contains-first, Contains-rest}
use Rattle.page_lock.specs.Rows.{row_at, clear_row}
use Rattle.page_lock.specs.declared.Row.{Row}
use Rattle.page_store.specs.Bays.{BaySeen, missing, home, bay_at, bay_of, bays_with, pairs_seen, numbers_of, AreNumbers}
use Rattle.page_store.specs.New.{AreHome}
use Rattle.page_store.specs.Seen.{StoreSeen, ArePaired, store_of, IsSoundStore, IsOrder, FrameAgrees}
use Rattle.page_store.proofs.BayLemmas.{length-placed}
use Rattle.page_store.proofs.QueryLemmas.{some-within}

pub numbers-seen : {D : Type 0} (seen : D → DiskSeen) (xs : List (ℕ × D)) → numbers_of (pairs_seen seen xs) ≡ numbers_of xs
numbers-seen seen [] = refl
numbers-seen seen (x ∷ xs) = ap (λ (l : List ℕ). x.0 ∷ l) (numbers-seen seen xs)

pub length-numbers : (xs : List (ℕ × DiskSeen)) → length (numbers_of xs) ≡ length xs
length-numbers [] = refl
length-numbers (x ∷ xs) = ap suc (length-numbers xs)

number-at : (xs : List (ℕ × DiskSeen)) (i : ℕ) (d : ℕ × DiskSeen) → i < length xs → slice_index (numbers_of xs) i ≡ (get_or xs i d).0
number-at [] i d lt = absurd (omega (arith, lt))
number-at (x ∷ xs) zero d lt = refl
number-at (x ∷ xs) (suc i) d lt = number-at xs i d (omega (arith, lt))

tail-numbers : (x : ℕ) (xs : List ℕ) → AreNumbers (x ∷ xs) → AreNumbers xs
tail-numbers x xs are = record {
  below = λ i lt. are.below (suc i) (omega (arith, lt));
  apart = λ i j a b e. let r : suc i ≡ suc j = are.apart (suc i) (suc j) (omega (arith, a)) (omega (arith, b)) e in omega (arith, r);
}

pub placed-other : (xs : List (ℕ × DiskSeen)) (bays : List BaySeen) (k : ℕ) → ((i : ℕ) → i < length xs → slice_index (numbers_of xs) i ≢ k) → bay_at (bays_with xs bays) k ≡ bay_at bays k
placed-other [] bays k h = refl
placed-other (x ∷ xs) bays k h =
    get_or-set_other (bays_with xs bays) x.0 k (home x.1) missing (λ q. h 0 (omega arith) (sym q)) ∙ placed-other xs bays k (λ i lt. h (suc i) (omega (arith, lt)))

pub placed-there : (xs : List (ℕ × DiskSeen)) (bays : List BaySeen) (i : ℕ) (d : ℕ × DiskSeen) → length bays ≡ 9 → AreNumbers (numbers_of xs) → i < length xs
    → bay_at (bays_with xs bays) (get_or xs i d).0 ≡ home (get_or xs i d).1
placed-there [] bays i d nine are lt = absurd (omega (arith, lt))
placed-there (x ∷ xs) bays zero d nine are lt =
    let low : x.0 < 8 = are.below 0 (omega arith) in
    let long = length-placed xs bays in
    get_or-set_same (bays_with xs bays) x.0 (home x.1) missing (omega (arith, low, long, nine))
placed-there (x ∷ xs) bays (suc i) d nine are lt =
    let within : i < length xs = omega (arith, lt) in
    let far : (get_or xs i d).0 ≢ x.0 = λ (q : (get_or xs i d).0 ≡ x.0).
    let long = length-numbers xs in
    let r : suc i ≡ 0 = are.apart (suc i) 0 (omega (arith, within, long)) (omega arith) (number-at xs i d within ∙ q) in omega (arith, r) in
    get_or-set_other (bays_with xs bays) x.0 (get_or xs i d).0 (home x.1) missing far ∙ placed-there xs bays i d nine (tail-numbers x.0 (numbers_of xs) are) within

pub none-missing : (n k : ℕ) → bay_at (replicate n missing) k ≡ missing
none-missing zero k = refl
none-missing (suc n) zero = refl
none-missing (suc n) (suc k) = none-missing n k

-- a bay with another disk that is whole
pub whole-set : (bays : List BaySeen) (number : ℕ) (bay : BaySeen) → ((d : DiskSeen) → bay ≡ home d → HasBlocks d.content d.size)
    → ((k : ℕ) (d : DiskSeen) → bay_at bays k ≡ home d → HasBlocks d.content d.size)
    → (k : ℕ) (d : DiskSeen) → bay_at (set bays number bay) k ≡ home d → HasBlocks d.content d.size
whole-set [] number bay now was k d h = was k d h
whole-set (b ∷ more) zero bay now was zero d h = now d h
whole-set (b ∷ more) zero bay now was (suc k) d h = was (suc k) d h
whole-set (b ∷ more) (suc number) bay now was zero d h = was 0 d h
whole-set (b ∷ more) (suc number) bay now was (suc k) d h = whole-set more number bay now (λ j e q. was (suc j) e q) k d h

pub whole-seen : {D : Type 0} (seen : D → DiskSeen) → ((d : D) → HasBlocks (seen d).content (seen d).size) → (swap : Option D) (d : DiskSeen)
    → option_map seen swap ≡ Some d → HasBlocks d.content d.size
whole-seen seen law None d h = absurd (cc)
whole-seen seen law (Some x) d h = let z : seen x ≡ d = cc in subst (λ (y : DiskSeen). HasBlocks y.content y.size) z (law x)

pub whole-swap : (swap : Option DiskSeen) → ((d : DiskSeen) → swap ≡ Some d → HasBlocks d.content d.size) → (d : DiskSeen) → bay_of swap ≡ home d → HasBlocks d.content d.size
whole-swap None law d h = cc
whole-swap (Some x) law d h = let z : x ≡ d = cc in subst (λ (y : DiskSeen). HasBlocks y.content y.size) z (law x refl)

unnumbered : (x : ℕ) (xs : List ℕ) (k : ℕ) → x ≢ k → ((i : ℕ) → i < length xs → slice_index xs i ≢ k) → (i : ℕ) → i < length (x ∷ xs) → slice_index (x ∷ xs) i ≢ k
unnumbered x xs k ne none zero lt e = ne e
unnumbered x xs k ne none (suc i) lt e = none i (omega (arith, lt)) e

-- a number is one of a list, or none of it
numbered : (xs : List ℕ) (k : ℕ) → ((i : ℕ) × (i < length xs) × (slice_index xs i ≡ k)) ⊎ ((i : ℕ) → i < length xs → slice_index xs i ≢ k)
numbered [] k = inr (λ i lt. absurd (omega (arith, lt)))
numbered (x ∷ xs) k = elim (cases_eq x k) [
  | inl e ↦ inl (0, omega arith, e)
  | inr ne ↦ elim (numbered xs k) [
    | inl at ↦ let lt = at.1 in inl (suc at.0, omega (arith, lt), at.2)
    | inr none ↦ inr (unnumbered x xs k ne none)
  ]
]

module _ (disks : List (ℕ × DiskSeen)) (swap : Option DiskSeen) (are : AreNumbers (numbers_of disks)) where
  low : (i : ℕ) (d : ℕ × DiskSeen) → i < length disks → (get_or disks i d).0 < 8
  low i d lt = let long = length-numbers disks in subst (λ (n : ℕ). n < 8) (number-at disks i d lt) (are.below i (omega (arith, lt, long)))

  pub are-home : AreHome (set (bays_with disks (replicate 9 missing)) 8 (bay_of swap)) disks swap
  are-home = record {
    each = λ i d lt. get_or-set_other (bays_with disks (replicate 9 missing)) 8 (get_or disks i d).0 (bay_of swap) missing
        (let l = low i d lt in omega (arith, l)) ∙ placed-there disks (replicate 9 missing) i d refl are lt;
    swap = let long = length-placed disks (replicate 9 missing) in get_or-set_same (bays_with disks (replicate 9 missing)) 8 (bay_of swap) missing (omega (arith, long));
    others = λ k ne h. get_or-set_other (bays_with disks (replicate 9 missing)) 8 k (bay_of swap) missing ne ∙ placed-other disks (replicate 9 missing) k h ∙ none-missing 9 k;
  }

  pub order-there : IsOrder (set (bays_with disks (replicate 9 missing)) 8 (bay_of swap)) (numbers_of disks)
  order-there = record {
    numbers = are;
    all = λ number low is. elim (numbered (numbers_of disks) number) [
      | inl at ↦ at
      | inr none ↦ absurd (is (are-home.others number (omega (arith, low)) (λ i lt. let long = length-numbers disks in none i (omega (arith, lt, long)))))
    ];
    there = λ i lt e.
        let long = length-numbers disks in
        let within : i < length disks = omega (arith, lt, long) in
        let d : ℕ × DiskSeen = (0, record { content = None; size = 0; kind = one_disk; faults = 0; calls = 0 }) in
        let h : bay_at (set (bays_with disks (replicate 9 missing)) 8 (bay_of swap)) (get_or disks i d).0 ≡ home (get_or disks i d).1 = are-home.each i d within in
        let z : home (get_or disks i d).1 ≡ missing = sym h ∙ ap (bay_at (set (bays_with disks (replicate 9 missing)) 8 (bay_of swap))) (sym (number-at disks i d within)) ∙ e in cc;
  }

at-replicate : {X : Type 0} (n k : ℕ) (x d : X) → k < n → get_or (replicate n x) k d ≡ x
at-replicate zero k x d lt = absurd (omega (arith, lt))
at-replicate (suc n) zero x d lt = refl
at-replicate (suc n) (suc k) x d lt = at-replicate n k x d (omega (arith, lt))

none-named : (n k : ℕ) → name_at (replicate n None) k ≡ None
none-named zero k = refl
none-named (suc n) zero = refl
none-named (suc n) (suc k) = none-named n k

in-range : (a n k : ℕ) → a ≤ k → k < a + n → Contains (range_with_len a n) k
in-range a zero k low high = absurd (omega (arith, low, high))
in-range a (suc n) k low high = elim (cases_eq a k) [
  | inl e ↦ Contains-first a k (range_with_len (a + 1) n) e
  | inr ne ↦ Contains-rest a k (range_with_len (a + 1) n) (in-range (a + 1) n k (omega (arith, low, ne)) (omega (arith, high)))
]

new-frame : FrameAgrees (Some zeros) None clear_row
new-frame = record { size = λ b e. let q : zeros ≡ b = cc in ap (λ (l : List ℕ). length l) (sym q) ∙ length-replicate {A = ℕ} 4096 0; away = refl; unnamed = refl; torn = λ g. refl }

pub clear_at : (n k : ℕ) → row_at (replicate n clear_row) k ≡ clear_row
clear_at zero k = refl
clear_at (suc n) zero = refl
clear_at (suc n) (suc k) = clear_at n k

unpaired : (s : StoreSeen) (n : ℕ) → s.rows ≡ replicate n clear_row → ArePaired s
unpaired s n rows =
    let row : (k : ℕ) → row_at s.rows k ≡ clear_row = λ (k : ℕ). ap (λ (l : List Row). row_at l k) rows ∙ clear_at n k in
    let single : (k x : ℕ) → (row_at s.rows k).snapshot ≡ Some x → ⊥ = λ (k x : ℕ) (h : (row_at s.rows k).snapshot ≡ Some x). let z : None ≡ Some x = sym
    (ap (λ (r : Row). r.snapshot) (row k)) ∙ h in cc in
    record {
      source = λ k x h. absurd (single k x h);
      snapshot = λ k x h. absurd (let z : None ≡ Some k = sym (ap (λ (r : Row). r.source) (row x)) ∙ h in cc);
      home = λ k x h. absurd (single k x h);
      named = λ k x h. absurd (single k x h);
      unlisted = λ k x h. absurd (single k x h);
    }

-- disks that are put into their bays are whole where they are whole
pub whole-placed : {D : Type 0} (seen : D → DiskSeen) → ((d : D) → HasBlocks (seen d).content (seen d).size) → (xs : List (ℕ × D)) (bays : List BaySeen)
    → ((k : ℕ) (d : DiskSeen) → bay_at bays k ≡ home d → HasBlocks d.content d.size)
    → (k : ℕ) (d : DiskSeen) → bay_at (bays_with (pairs_seen seen xs) bays) k ≡ home d → HasBlocks d.content d.size
whole-placed seen law [] bays was k d h = was k d h
whole-placed seen law (x ∷ xs) bays was k d h = whole-set (bays_with (pairs_seen seen xs) bays) x.0 (home (seen x.1))
    (λ e q. let z : seen x.1 ≡ e = cc in subst (λ (y : DiskSeen). HasBlocks y.content y.size) z (law x.1)) (whole-placed seen law xs bays was) k d h

pub sound-new : (origin n : ℕ) (bays : List BaySeen) (order : List ℕ) → n < 2 ^ 32 → length bays ≡ 9
    → ((k : ℕ) (d : DiskSeen) → bay_at bays k ≡ home d → HasBlocks d.content d.size) → IsOrder bays order → AreDistinct (replicate n None)
    → AreApart (record { frames = n; free = range_with_len 0 n; cached = [] })
    → IsSoundStore (store_of (record { origin = origin; frames = replicate n (Some zeros) }) (replicate n None)
    (record { frames = n; free = range_with_len 0 n; cached = [] }) (replicate n clear_row) (fresh_clock n (n / 2)) bays order)
sound-new origin n bays order few nine whole is distinct apart =
    let long : length (replicate n (Some zeros)) ≡ n = length-replicate n (Some zeros) in
    let none : Option PageName = None in
    let named : length (replicate n none) ≡ n = length-replicate n none in
    let rowed : length (replicate n clear_row) ≡ n = length-replicate n clear_row in
    record {
      few = subst (λ (k : ℕ). k < 2 ^ 32) (sym long) few;
      names = named ∙ sym long;
      rows = rowed ∙ sym long;
      hands = sym long;
      bays = nine;
      order = is;
      distinct = distinct;
      paired = unpaired (store_of (record { origin = origin; frames = replicate n (Some zeros) }) (replicate n None)
          (record { frames = n; free = range_with_len 0 n; cached = [] }) (replicate n clear_row) (fresh_clock n (n / 2)) bays order) n refl;
      whole = whole;
      lists = subst (λ (k : ℕ). AreApart (record { frames = k; free = range_with_len 0 n; cached = [] })) (sym long) apart;
      each = λ k lt.
          let within : k < n = omega (arith, lt, long) in
          rw (at-replicate n k (Some zeros) None within, none-named n k, at-replicate n k clear_row clear_row within) new-frame;
      listed = λ k l. elim l [
        | inl a ↦ subst (λ (o : Option (List ℕ)). IsSome o) (sym (at-replicate n k (Some zeros) None (apart.below_free k a))) refl
        | inr b ↦ absurd (Contains-none k b)
      ];
      unnamed = λ k a. none-named n k;
      spare = λ k b e. let within = some-within (replicate n (Some zeros)) k b in in-range 0 n k (omega arith) (omega (arith, within, long));
    }
