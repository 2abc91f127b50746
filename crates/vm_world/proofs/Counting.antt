-- Counts of slots as sums over maps: a place that is set, and an empty place that leaves room.
use Rattle.std.proofs.Common.{◌≡◌, ◌≢◌, ℕ, zero, suc, ◌+◌, ◌<◌, ◌≤◌, Bool, true, false, cond, List, [], ◌∷◌, length, Option, Some, None, refl, sym, ap, ◌∙◌, inl, inr, arith, slice_index_or, slice_set}
use Rattle.std.specs.Prelude.{count_by, sum_by, is_some, slice_index, unwrap_or}
use Rattle.std.proofs.lemmas.Bool.{eq-eqb}
use Rattle.std.proofs.lemmas.Bool.Decides.{eqb_tells}
use Rattle.std.proofs.lemmas.List.Sums.{sum_by-cons, sum_by-set}
use Rattle.anon_map.specs.Maps.{Map, the_map, places_of, with_places}
use Rattle.anon_slots.specs.Slots.{AnonSlotsSeen, count_at, is_used, slots_in_use}
use Rattle.vm_world.specs.World.{slot_in}
use Rattle.vm_world.specs.Laws.{CountsLaw}
use Rattle.vm_world.proofs.Counts.{held-used, only-place, no-place}
use Rattle.vm_world.specs.CountsFit.{is_number, places_in, times_held, CountsFit}

-- what a place counts for a slot
abbrev pub adds : ℕ → Option ℕ → ℕ
adds s o = cond (is_number s o) 1 0

pub adds-own : (s : ℕ) → adds s (Some s) ≡ 1
adds-own s = ap (λ (b : Bool). cond {A = ℕ} b 1 0) (eq-eqb s s refl)

pub adds-other : (s t : ℕ) → t ≢ s → adds s (Some t) ≡ 0
adds-other s t ne = elim (eqb_tells t s) [ inl y ↦ absurd (ne y.1) | inr n ↦ ap (λ (b : Bool). cond {A = ℕ} b 1 0) n.0 ]

-- the map of a number has places only where there is one
pub map-within : (maps : List (Option Map)) (m i : ℕ) → i < length (places_of maps m) → m < length maps
map-within [] m i lt = absurd (let z : length (places_of [] m) ≡ 0 = refl in omega (arith, lt, z))
map-within (o ∷ os) zero i lt = omega arith
map-within (o ∷ os) (suc m) i lt = let r = map-within os m i lt in omega (arith, r)

pub places-are : (maps : List (Option Map)) (m : ℕ) → places_in (slice_index_or maps m None) ≡ places_of maps m
places-are maps m = by_map (slice_index_or maps m None)
  where
    by_map : (o : Option Map) → places_in o ≡ (unwrap_or o (record { places = []; holders = 0 })).places
    by_map None = refl
    by_map (Some a) = refl

-- THE COUNTS after a place of a map was set: what it held counts once less, and what it holds once more.
pub times-put : (s : ℕ) (maps : List (Option Map)) (m i : ℕ) (o : Option ℕ) → i < length (places_of maps m)
    → times_held (with_places maps m (slice_set (places_of maps m) i o)) s + adds s (slot_in maps m i) ≡ times_held maps s + adds s o
times-put s maps m i o lt =
    let whole = sum_by-set (λ (x : Option Map). count_by (is_number s) (places_in x)) maps m (Some (record (the_map maps m) { places = slice_set (places_of maps m) i o })) None (map-within maps m i lt) in
    let one = sum_by-set (adds s) (places_of maps m) i o None lt in
    let same : count_by (is_number s) (places_in (slice_index_or maps m None)) ≡ count_by (is_number s) (places_of maps m) = ap (count_by (is_number s)) (places-are maps m) in
    omega (arith, whole, one, same)

-- a sum over the numbers below one
abbrev pub sums : (ℕ → ℕ) → ℕ → ℕ
sums f zero = 0
sums f (suc n) = f 0 + sums (λ s. f (suc s)) n

sums-same : (f g : ℕ → ℕ) (n : ℕ) → ((s : ℕ) → f s ≡ g s) → sums f n ≡ sums g n
sums-same f g zero same = refl
sums-same f g (suc n) same =
    let first = same 0 in
    let rest = sums-same (λ s. f (suc s)) (λ s. g (suc s)) n (λ s. same (suc s)) in
    omega (arith, first, rest)

sums-add : (f g : ℕ → ℕ) (n : ℕ) → sums (λ s. f s + g s) n ≡ sums f n + sums g n
sums-add f g zero = refl
sums-add f g (suc n) = let rest = sums-add (λ s. f (suc s)) (λ s. g (suc s)) n in omega (arith, rest)

sums-none : (f : ℕ → ℕ) (n : ℕ) → ((s : ℕ) → f s ≡ 0) → sums f n ≡ 0
sums-none f zero none = refl
sums-none f (suc n) none =
    let first = none 0 in
    let rest = sums-none (λ s. f (suc s)) n (λ s. none (suc s)) in
    omega (arith, first, rest)

-- a sum with one term
sums-one : (f : ℕ → ℕ) (n t : ℕ) → ((s : ℕ) → s ≢ t → f s ≡ 0) → f t ≤ 1 → sums f n ≤ 1
sums-one f zero t others le = omega arith
sums-one f (suc n) zero others le =
    let rest = sums-none (λ s. f (suc s)) n (λ s. others (suc s) (omega arith)) in
    omega (arith, le, rest)
sums-one f (suc n) (suc t) others le =
    let first = others 0 (omega arith) in
    let rest = sums-one (λ s. f (suc s)) n t (λ s ne. others (suc s) (λ e. ne (omega (arith, e)))) le in
    omega (arith, first, rest)

-- a place is held by at most one slot
sums-adds : (o : Option ℕ) (n : ℕ) → sums (λ s. adds s o) n ≤ cond (is_some o) 1 0
sums-adds None n = let z = sums-none (λ s. adds s None) n (λ s. refl) in omega (arith, z)
sums-adds (Some t) n = let own = adds-own t in sums-one (λ s. adds s (Some t)) n t (λ s ne. adds-other s t (λ e. ne (sym e))) (omega (arith, own))

-- how many places have a slot
abbrev pub filled : List (Option ℕ) → ℕ
filled places = count_by is_some places

sums-places : (places : List (Option ℕ)) (n : ℕ) → sums (λ s. count_by (is_number s) places) n ≤ filled places
sums-places [] n = let z = sums-none (λ s. count_by (is_number s) []) n (λ s. refl) in omega (arith, z)
sums-places (o ∷ os) n =
    let step = sums-same (λ s. count_by (is_number s) (o ∷ os)) (λ s. adds s o + count_by (is_number s) os) n (λ s. sum_by-cons (adds s) o os) in
    let parted = sums-add (λ s. adds s o) (λ s. count_by (is_number s) os) n in
    let first = sums-adds o n in
    let rest = sums-places os n in
    let count = sum_by-cons (λ (x : Option ℕ). cond (is_some x) 1 0) o os in
    omega (arith, step, parted, first, rest, count)

-- all slots together are held by no more places than have a slot
sums-maps : (maps : List (Option Map)) (n : ℕ) → sums (times_held maps) n ≤ sum_by (λ m. filled (places_in m)) maps
sums-maps [] n = let z = sums-none (times_held []) n (λ s. refl) in omega (arith, z)
sums-maps (o ∷ os) n =
    let step = sums-same (times_held (o ∷ os)) (λ s. count_by (is_number s) (places_in o) + times_held os s) n (λ s. sum_by-cons (λ (m : Option Map). count_by (is_number s) (places_in m)) o os) in
    let parted = sums-add (λ s. count_by (is_number s) (places_in o)) (times_held os) n in
    let first = sums-places (places_in o) n in
    let rest = sums-maps os n in
    let count = sum_by-cons (λ (m : Option Map). filled (places_in m)) o os in
    omega (arith, step, parted, first, rest, count)

filled-le : (places : List (Option ℕ)) → filled places ≤ length places
filled-le [] = omega arith
filled-le (None ∷ os) = let c = sum_by-cons (λ (x : Option ℕ). cond (is_some x) 1 0) None os in let r = filled-le os in omega (arith, c, r)
filled-le (Some x ∷ os) = let c = sum_by-cons (λ (x : Option ℕ). cond (is_some x) 1 0) (Some x) os in let r = filled-le os in omega (arith, c, r)

filled-lt : (places : List (Option ℕ)) (i : ℕ) → i < length places → slice_index_or places i None ≡ None → filled places < length places
filled-lt [] i lt e = absurd (omega (arith, lt))
filled-lt (o ∷ os) zero lt e =
    let c = sum_by-cons (λ (x : Option ℕ). cond (is_some x) 1 0) o os in
    let z : cond (is_some o) 1 0 ≡ 0 = ap (λ (x : Option ℕ). cond {A = ℕ} (is_some x) 1 0) e in
    let r = filled-le os in
    omega (arith, c, z, r)
filled-lt (None ∷ os) (suc i) lt e = let c = sum_by-cons (λ (x : Option ℕ). cond (is_some x) 1 0) None os in let r = filled-lt os i (omega (arith, lt)) e in omega (arith, c, r)
filled-lt (Some x ∷ os) (suc i) lt e = let c = sum_by-cons (λ (x : Option ℕ). cond (is_some x) 1 0) (Some x) os in let r = filled-lt os i (omega (arith, lt)) e in omega (arith, c, r)

maps-le : (maps : List (Option Map)) → sum_by (λ m. filled (places_in m)) maps ≤ sum_by (λ m. length (places_in m)) maps
maps-le [] = omega arith
maps-le (o ∷ os) =
    let a = sum_by-cons (λ (m : Option Map). filled (places_in m)) o os in
    let b = sum_by-cons (λ (m : Option Map). length (places_in m)) o os in
    let first = filled-le (places_in o) in
    let rest = maps-le os in
    omega (arith, a, b, first, rest)

maps-lt : (maps : List (Option Map)) (m i : ℕ) → i < length (places_of maps m) → slot_in maps m i ≡ None → sum_by (λ m. filled (places_in m)) maps < sum_by (λ m. length (places_in m)) maps
maps-lt [] m i lt e = absurd (let z : length (places_of [] m) ≡ 0 = refl in omega (arith, lt, z))
maps-lt (o ∷ os) zero i lt e =
    let a = sum_by-cons (λ (m : Option Map). filled (places_in m)) o os in
    let b = sum_by-cons (λ (m : Option Map). length (places_in m)) o os in
    let are = places-are (o ∷ os) 0 in
    let size : length (places_in o) ≡ length (places_of (o ∷ os) 0) = ap (λ (ps : List (Option ℕ)). length ps) are in
    let first = filled-lt (places_in o) i (omega (arith, lt, size)) (ap (λ (ps : List (Option ℕ)). slice_index_or ps i None) are ∙ e) in
    let rest = maps-le os in
    omega (arith, a, b, first, rest)
maps-lt (o ∷ os) (suc m) i lt e =
    let a = sum_by-cons (λ (m : Option Map). filled (places_in m)) o os in
    let b = sum_by-cons (λ (m : Option Map). length (places_in m)) o os in
    let first = filled-le (places_in o) in
    let rest = maps-lt os m i lt e in
    omega (arith, a, b, first, rest)

-- no more slots are in use than all counts together
used-le : (counts : List ℕ) → count_by is_used counts ≤ sums (λ s. slice_index counts s) (length counts)
used-le [] = omega arith
used-le (zero ∷ cs) = let c = sum_by-cons (λ (x : ℕ). cond (is_used x) 1 0) 0 cs in let r = used-le cs in omega (arith, c, r)
used-le (suc x ∷ cs) =
    let c = sum_by-cons (λ (x : ℕ). cond (is_used x) 1 0) (suc x) cs in
    let r = used-le cs in
    let one = at_most_one (is_used (suc x)) in
    omega (arith, c, r, one)
  where
    at_most_one : (b : Bool) → cond {A = ℕ} b 1 0 ≤ 1
    at_most_one true = omega arith
    at_most_one false = omega arith

-- No more slots are in use than there are places.
pub used-within : (anon : AnonSlotsSeen) (maps : List (Option Map)) → ((slot : ℕ) → count_at anon slot ≡ times_held maps slot) → slots_in_use anon ≤ sum_by (λ m. length (places_in m)) maps
used-within anon maps counts =
    let used = used-le anon.counts in
    let held = sums-same (count_at anon) (times_held maps) (length anon.counts) counts in
    let places = sums-maps maps (length anon.counts) in
    let most = maps-le maps in
    omega (arith, used, held, places, most)

-- ROOM. While a place is empty, fewer slots are in use than are reserved.
pub room : (anon : AnonSlotsSeen) (maps : List (Option Map)) (m i : ℕ) → CountsFit anon maps → i < length (places_of maps m) → slot_in maps m i ≡ None → slots_in_use anon < anon.reserved
room anon maps m i fit lt empty =
    let used = used-le anon.counts in
    let held = sums-same (count_at anon) (times_held maps) (length anon.counts) fit.counts in
    let places = sums-maps maps (length anon.counts) in
    let spare = maps-lt maps m i lt empty in
    let all = fit.places in
    omega (arith, used, held, places, spare, all)

pub counts_law : CountsLaw
counts_law = record {
  used = held-used;
  once = λ anon maps m i n k slot fit one is there. only-place slot maps m i n k (sym (fit.counts slot) ∙ one) is there;
  nowhere = λ anon maps m i slot fit none is. no-place slot maps m i (sym (fit.counts slot) ∙ none) is;
  room = room;
  put = λ maps m i slot o lt. times-put slot maps m i o lt;
}
