-- Anon maps of which one is cut, made, held or released: what becomes of each map, and of the places that hold a slot.
use Rattle.anon_map.proofs.KeptLemmas.{there_within as there-within}
use Rattle.vm_world.proofs.ShownZeros.{number-is, is-the-number}
use Rattle.std.proofs.Common.{◌≡◌, ◌≢◌, ℕ, zero, suc, ◌+◌, ◌-◌, ◌<◌, ◌≤◌, Bool, true, false, cond, List, [], ◌∷◌, ◌++◌, length, Option, Some, None, refl, sym, ap, ◌∙◌, inl, inr, subst, arith, slice_index_or, slice_set, get_or-set_same}
use Rattle.std.specs.Prelude.{◌==◌, count_by, sum_by, IsSome, nat_lt, unwrap_or, take, drop, replicate}
use Rattle.std.proofs.lemmas.Bool.{cases_Bool, cases_eq, eq-eqb, eqb-true, ltb-true}
use Rattle.std.proofs.lemmas.List.{get_or-set_other, set-set, set-get_or}
use Rattle.std.proofs.lemmas.List.Sums.{sum_by-cons, sum_by-append, sum_by-set}
use Rattle.anon_map.specs.Maps.{Map, anon_map_at, the_map, places_of, holders_of, IsMapThere, IsUnused, AreEmpty, fresh_map, with_map, with_holders}
use Rattle.anon_map.proofs.MapLaws.{with_map_same, with_map_other, there_apart}
use Rattle.vm_world.specs.CountsFit.{places_in, is_number}
use Rattle.vm_world.specs.MapSteps.{maps_cut, maps_made, maps_held, maps_released, places_released}
use Rattle.vm_world.proofs.Counting.{places-are}
use Rattle.vm_world.proofs.KeptMaps.{same-holders, same-there, same-places}

-- AFTER A MAP OF A NUMBER WAS SET, whatever it is
module _ (maps : List (Option Map)) (n : ℕ) (a : Option Map) (lt : n < length maps) where
  -- any sum over the places of maps
  pub set-sum : (f : List (Option ℕ) → ℕ) → sum_by (λ (m : Option Map). f (places_in m)) (slice_set maps n a) + f (places_of maps n) ≡ sum_by (λ (m : Option Map). f (places_in m)) maps + f (places_in a)
  set-sum f =
      let whole = sum_by-set (λ (m : Option Map). f (places_in m)) maps n a None lt in
      let are = ap f (places-are maps n) in
      omega (arith, whole, are)

-- AFTER A MAP CAME under a number that none has
module _ (maps : List (Option Map)) (n : ℕ) (a : Map) (unused : IsUnused maps n) where
  pub with-sum : (f : List (Option ℕ) → ℕ) → f [] ≡ 0 → sum_by (λ (m : Option Map). f (places_in m)) (with_map maps n a) ≡ sum_by (λ (m : Option Map). f (places_in m)) maps + f a.places
  with-sum f none = elim (cases_Bool (nat_lt n (length maps))) [
    | inl t ↦
        let e = ap (λ (b : Bool). sum_by (λ (m : Option Map). f (places_in m)) (cond b (slice_set maps n (Some a)) (maps ++ Some a ∷ []))) t in
        let whole = sum_by-set (λ (m : Option Map). f (places_in m)) maps n (Some a) None (ltb-true n (length maps) t) in
        let gone : f (places_in (anon_map_at maps n)) ≡ 0 = ap (λ (o : Option Map). f (places_in o)) unused.absent ∙ none in
        omega (arith, e, whole, gone)
    | inr g ↦
        let e = ap (λ (b : Bool). sum_by (λ (m : Option Map). f (places_in m)) (cond b (slice_set maps n (Some a)) (maps ++ Some a ∷ []))) g in
        let whole = sum_by-append (λ (m : Option Map). f (places_in m)) maps (Some a ∷ []) in
        let one = sum_by-cons (λ (m : Option Map). f (places_in m)) (Some a) [] in
        omega (arith, e, whole, one)
  ]

pub count-empty : (s : Option ℕ → Bool) (places : List (Option ℕ)) → s None ≡ false → AreEmpty places → count_by s places ≡ 0
count-empty s [] none empty = refl
count-empty s (o ∷ os) none empty =
    let step = sum_by-cons (λ (x : Option ℕ). cond {A = ℕ} (s x) 1 0) o os in
    let here : cond {A = ℕ} (s o) 1 0 ≡ 0 = ap (λ (x : Option ℕ). cond {A = ℕ} (s x) 1 0) (empty 0) ∙ ap (λ (b : Bool). cond {A = ℕ} b 1 0) none in
    let more = count-empty s os none (λ i. empty (suc i)) in
    omega (arith, step, here, more)

-- A MAP THAT LOSES A HOLDER
pub released-else : (maps : List (Option Map)) (o : Option ℕ) (n : ℕ) → o ≢ Some n → anon_map_at (maps_released maps o) n ≡ anon_map_at maps n
released-else maps None n ne = refl
released-else maps (Some k) n ne =
    let apart : n ≢ k = λ e. ne (ap (λ (j : ℕ). Some j) (sym e)) in
    by_last (holders_of maps k == 1) apart
  where
    by_last : (b : Bool) → n ≢ k → anon_map_at (cond b (slice_set maps k None) (with_holders maps k (holders_of maps k - 1))) n ≡ anon_map_at maps n
    by_last true apart = get_or-set_other maps k n None None apart
    by_last false apart = get_or-set_other maps k n (Some (record (the_map maps k) { holders = holders_of maps k - 1 })) None apart

pub released-last : (maps : List (Option Map)) (n : ℕ) → IsMapThere maps n → holders_of maps n ≡ 1 → anon_map_at (maps_released maps (Some n)) n ≡ None
released-last maps n there one =
    ap (λ (b : Bool). anon_map_at (cond b (slice_set maps n None) (with_holders maps n (holders_of maps n - 1))) n) (eq-eqb (holders_of maps n) 1 one) ∙ get_or-set_same maps n None None (there-within maps n there)

pub released-held : (maps : List (Option Map)) (n : ℕ) → IsMapThere maps n → 1 < holders_of maps n → anon_map_at (maps_released maps (Some n)) n ≡ Some (record (the_map maps n) { holders = holders_of maps n - 1 })
released-held maps n there more = elim (cases_Bool (holders_of maps n == 1)) [
  | inl t ↦ absurd (let e = eqb-true (holders_of maps n) 1 t in omega (arith, e, more))
  | inr f ↦ ap (λ (b : Bool). anon_map_at (cond b (slice_set maps n None) (with_holders maps n (holders_of maps n - 1))) n) f ∙ get_or-set_same maps n (Some (record (the_map maps n) { holders = holders_of maps n - 1 })) None (there-within maps n there)
]

-- what goes with it of a sum over places
abbrev pub freed : (List (Option ℕ) → ℕ) → List (Option Map) → Option ℕ → ℕ
freed f maps None = 0
freed f maps (Some n) = cond (holders_of maps n == 1) (f (places_of maps n)) 0

pub released-sum : (f : List (Option ℕ) → ℕ) (maps : List (Option Map)) (o : Option ℕ) → f [] ≡ 0 → ((n : ℕ) → o ≡ Some n → IsMapThere maps n)
    → sum_by (λ (m : Option Map). f (places_in m)) (maps_released maps o) + freed f maps o ≡ sum_by (λ (m : Option Map). f (places_in m)) maps
released-sum f maps None none there = omega arith
released-sum f maps (Some n) none there = elim (cases_Bool (holders_of maps n == 1)) [
  | inl t ↦
      let e = ap (λ (b : Bool). sum_by (λ (m : Option Map). f (places_in m)) (cond b (slice_set maps n None) (with_holders maps n (holders_of maps n - 1)))) t in
      let d = ap (λ (b : Bool). cond b (f (places_of maps n)) 0) t in
      let s = set-sum maps n None (there-within maps n (there n refl)) f in
      omega (arith, e, d, s, none)
  | inr g ↦
      let e = ap (λ (b : Bool). sum_by (λ (m : Option Map). f (places_in m)) (cond b (slice_set maps n None) (with_holders maps n (holders_of maps n - 1)))) g in
      let d = ap (λ (b : Bool). cond b (f (places_of maps n)) 0) g in
      let s = set-sum maps n (Some (record (the_map maps n) { holders = holders_of maps n - 1 })) (there-within maps n (there n refl)) f in
      omega (arith, e, d, s)
]

pub freed-none : (f : List (Option ℕ) → ℕ) (maps : List (Option Map)) (o : Option ℕ) → ((n : ℕ) → o ≡ Some n → holders_of maps n ≡ 1 → f (places_of maps n) ≡ 0) → freed f maps o ≡ 0
freed-none f maps None each = refl
freed-none f maps (Some n) each = elim (cases_Bool (holders_of maps n == 1)) [
  | inl t ↦ ap (λ (b : Bool). cond b (f (places_of maps n)) 0) t ∙ each n refl (eqb-true (holders_of maps n) 1 t)
  | inr g ↦ ap (λ (b : Bool). cond b (f (places_of maps n)) 0) g
]

pub freed-length : (maps : List (Option Map)) (o : Option ℕ) → freed (λ (ps : List (Option ℕ)). length ps) maps o ≡ places_released maps o
freed-length maps None = refl
freed-length maps (Some n) = refl

-- and how many hold each map then
pub released-holders : (maps : List (Option Map)) (o : Option ℕ) (n : ℕ) → ((k : ℕ) → o ≡ Some k → IsMapThere maps k × (1 ≤ holders_of maps k)) → holders_of (maps_released maps o) n + cond (is_number n o) 1 0 ≡ holders_of maps n
released-holders maps None n there = omega arith
released-holders maps (Some k) n there = elim (cases_eq n k) [
  | inr ne ↦
      let same = same-holders maps (maps_released maps (Some k)) n (released-else maps (Some k) n (λ e. ne (let z : Some k ≡ Some n = e in let d : k ≡ n = cc in sym d))) in
      let not : cond {A = ℕ} (is_number n (Some k)) 1 0 ≡ 0 = elim (cases_Bool (k == n)) [ inl y ↦ absurd (ne (sym (eqb-true k n y))) | inr f ↦ ap (λ (b : Bool). cond {A = ℕ} b 1 0) f ] in
      omega (arith, same, not)
  | inl e ↦
      let is : cond {A = ℕ} (is_number n (Some k)) 1 0 ≡ 1 = ap (λ (b : Bool). cond {A = ℕ} b 1 0) (eq-eqb k n (sym e)) in
      let some = there k refl in
      let least = some.1 in
      let here : holders_of (maps_released maps (Some k)) n ≡ holders_of (maps_released maps (Some k)) k = ap (λ (j : ℕ). holders_of (maps_released maps (Some k)) j) e in
      let was : holders_of maps n ≡ holders_of maps k = ap (λ (j : ℕ). holders_of maps j) e in
      elim (cases_eq (holders_of maps k) 1) [
        | inl one ↦
            let none : holders_of (maps_released maps (Some k)) k ≡ 0 = ap (λ (o : Option Map). (unwrap_or o (record { places = []; holders = 0 })).holders) (released-last maps k some.0 one) in
            omega (arith, is, here, was, none, one)
        | inr more ↦
            let left : holders_of (maps_released maps (Some k)) k ≡ holders_of maps k - 1 = ap (λ (o : Option Map). (unwrap_or o (record { places = []; holders = 0 })).holders) (released-held maps k some.0 (omega (arith, least, more))) in
            omega (arith, is, here, was, left, least)
      ]
]

-- A MAP THAT IS NEW, of empty places
abbrev pub made : (List (Option ℕ) → ℕ) → Option ℕ → ℕ → ℕ
made f None pages = 0
made f (Some n) pages = f (replicate pages None)

pub made-else : (maps : List (Option Map)) (o : Option ℕ) (pages n : ℕ) → ((k : ℕ) → o ≡ Some k → IsUnused maps k) → IsMapThere maps n → anon_map_at (maps_made maps o pages) n ≡ anon_map_at maps n
made-else maps None pages n unused there = refl
made-else maps (Some k) pages n unused there = with_map_other maps k n (fresh_map (replicate pages None)) (unused k refl) (there_apart maps n k there (unused k refl))

pub made-sum : (f : List (Option ℕ) → ℕ) (maps : List (Option Map)) (o : Option ℕ) (pages : ℕ) → f [] ≡ 0 → ((k : ℕ) → o ≡ Some k → IsUnused maps k)
    → sum_by (λ (m : Option Map). f (places_in m)) (maps_made maps o pages) ≡ sum_by (λ (m : Option Map). f (places_in m)) maps + made f o pages
made-sum f maps None pages none unused = omega arith
made-sum f maps (Some k) pages none unused = with-sum maps k (fresh_map (replicate pages None)) (unused k refl) f none

pub made-holders : (maps : List (Option Map)) (o : Option ℕ) (pages n : ℕ) → ((k : ℕ) → o ≡ Some k → IsUnused maps k) → holders_of (maps_made maps o pages) n ≡ holders_of maps n + cond (is_number n o) 1 0
made-holders maps None pages n unused = omega arith
made-holders maps (Some k) pages n unused = elim (cases_eq n k) [
  | inr ne ↦
      let same = same-holders maps (maps_made maps (Some k) pages) n (with_map_other maps k n (fresh_map (replicate pages None)) (unused k refl) ne) in
      let not : cond {A = ℕ} (is_number n (Some k)) 1 0 ≡ 0 = elim (cases_Bool (k == n)) [ inl y ↦ absurd (ne (sym (eqb-true k n y))) | inr f ↦ ap (λ (b : Bool). cond {A = ℕ} b 1 0) f ] in
      omega (arith, same, not)
  | inl e ↦
      let is : cond {A = ℕ} (is_number n (Some k)) 1 0 ≡ 1 = ap (λ (b : Bool). cond {A = ℕ} b 1 0) (eq-eqb k n (sym e)) in
      let here : holders_of (maps_made maps (Some k) pages) n ≡ 1 = ap (λ (j : ℕ). holders_of (maps_made maps (Some k) pages) j) e ∙ ap (λ (o : Option Map). (unwrap_or o (record { places = []; holders = 0 })).holders) (with_map_same maps k (fresh_map (replicate pages None)) (unused k refl)) in
      let was : holders_of maps n ≡ 0 = ap (λ (j : ℕ). holders_of maps j) e ∙ ap (λ (o : Option Map). (unwrap_or o (record { places = []; holders = 0 })).holders) (unused k refl).absent in
      omega (arith, is, here, was)
]

-- A MAP THAT GETS A HOLDER
pub held-else : (maps : List (Option Map)) (o : Option ℕ) (n : ℕ) → o ≢ Some n → anon_map_at (maps_held maps o) n ≡ anon_map_at maps n
held-else maps None n ne = refl
held-else maps (Some k) n ne = get_or-set_other maps k n (Some (record (the_map maps k) { holders = holders_of maps k + 1 })) None (λ e. ne (ap (λ (j : ℕ). Some j) (sym e)))

pub held-here : (maps : List (Option Map)) (o : Option ℕ) (n : ℕ) → o ≡ Some n → IsMapThere maps n → anon_map_at (maps_held maps o) n ≡ Some (record (the_map maps n) { holders = holders_of maps n + 1 })
held-here maps o n is there = ap (λ (o : Option ℕ). anon_map_at (maps_held maps o) n) is ∙ get_or-set_same maps n (Some (record (the_map maps n) { holders = holders_of maps n + 1 })) None (there-within maps n there)

-- its places stay, as do all others
pub held-places : (maps : List (Option Map)) (o : Option ℕ) (n : ℕ) → IsMapThere maps n → IsMapThere (maps_held maps o) n × (places_of (maps_held maps o) n ≡ places_of maps n)
held-places maps o n there = elim (cases_Bool (is_number n o)) [
  | inl t ↦
      let e = held-here maps o n (number-is n o t) there in
      (subst (λ (x : Option Map). IsSome x) (sym e) refl, ap (λ (x : Option Map). (unwrap_or x (record { places = []; holders = 0 })).places) e)
  | inr f ↦
      let e = held-else maps o n (λ is. (let z : false ≡ true = sym f ∙ is-the-number n o is in cc)) in
      (same-there maps (maps_held maps o) n e there, same-places maps (maps_held maps o) n e)
]

pub held-sum : (f : List (Option ℕ) → ℕ) (maps : List (Option Map)) (o : Option ℕ) → ((n : ℕ) → o ≡ Some n → IsMapThere maps n)
    → sum_by (λ (m : Option Map). f (places_in m)) (maps_held maps o) ≡ sum_by (λ (m : Option Map). f (places_in m)) maps
held-sum f maps None there = refl
held-sum f maps (Some n) there = let s = set-sum maps n (Some (record (the_map maps n) { holders = holders_of maps n + 1 })) (there-within maps n (there n refl)) f in omega (arith, s)

pub held-holders : (maps : List (Option Map)) (o : Option ℕ) (n : ℕ) → ((k : ℕ) → o ≡ Some k → IsMapThere maps k) → holders_of (maps_held maps o) n ≡ holders_of maps n + cond (is_number n o) 1 0
held-holders maps o n there = elim (cases_Bool (is_number n o)) [
  | inl t ↦
      let is = number-is n o t in
      let e : holders_of (maps_held maps o) n ≡ holders_of maps n + 1 = ap (λ (x : Option Map). (unwrap_or x (record { places = []; holders = 0 })).holders) (held-here maps o n is (there n is)) in
      let b = ap (λ (b : Bool). cond {A = ℕ} b 1 0) t in
      omega (arith, e, b)
  | inr f ↦
      let e = same-holders maps (maps_held maps o) n (held-else maps o n (λ is. (let z : false ≡ true = sym f ∙ is-the-number n o is in cc))) in
      let b = ap (λ (b : Bool). cond {A = ℕ} b 1 0) f in
      omega (arith, e, b)
]

-- and loses it again is as it was
pub held-released : (maps : List (Option Map)) (n : ℕ) → IsMapThere maps n → 1 ≤ holders_of maps n → maps_released (maps_held maps (Some n)) (Some n) ≡ maps
held-released maps n there some =
    let put = maps_held maps (Some n) in
    let here : anon_map_at put n ≡ Some (record (the_map maps n) { holders = holders_of maps n + 1 }) = held-here maps (Some n) n refl there in
    let more : holders_of put n ≡ holders_of maps n + 1 = ap (λ (o : Option Map). (unwrap_or o (record { places = []; holders = 0 })).holders) here in
    let places : places_of put n ≡ places_of maps n = ap (λ (o : Option Map). (unwrap_or o (record { places = []; holders = 0 })).places) here in
    let back : holders_of put n - 1 ≡ holders_of maps n = omega (arith, more) in
    let same : record (the_map put n) { holders = holders_of put n - 1 } ≡ the_map maps n = λ i. record { places = places i; holders = back i } in
    elim (cases_Bool (holders_of put n == 1)) [
      | inl t ↦ absurd (let e = eqb-true (holders_of put n) 1 t in omega (arith, e, more, some))
      | inr f ↦
          ap (λ (b : Bool). cond b (slice_set put n None) (with_holders put n (holders_of put n - 1))) f
          ∙ ap (λ (x : Map). slice_set put n (Some x)) same ∙ set-set maps n (Some (record (the_map maps n) { holders = holders_of maps n + 1 })) (Some (the_map maps n))
          ∙ ap (slice_set maps n) (is-some (anon_map_at maps n) there) ∙ set-get_or maps n None
    ]
  where
    is-some : (o : Option Map) → IsSome o → Some (unwrap_or o (record { places = []; holders = 0 })) ≡ o
    is-some None there = absurd (let z : false ≡ true = there in cc)
    is-some (Some x) there = refl

pub slot-replicate : (pages i : ℕ) → ◌≡◌ {A = Option ℕ} (slice_index_or (replicate pages None) i None) None
slot-replicate zero i = refl
slot-replicate (suc n) zero = refl
slot-replicate (suc n) (suc i) = slot-replicate n i

-- A MAP THAT IS CUT IN TWO
module _ (maps : List (Option Map)) (k number at : ℕ) (there : IsMapThere maps k) (unused : IsUnused maps number) where
  abbrev upper_map : Map
  upper_map = fresh_map (drop at (places_of maps k))

  abbrev with_upper : List (Option Map)
  with_upper = with_map maps number upper_map

  cut-apart : k ≢ number
  cut-apart = there_apart maps k number there unused

  same-upper : anon_map_at with_upper k ≡ anon_map_at maps k
  same-upper = with_map_other maps number k upper_map unused cut-apart

  upper-within : k < length with_upper
  upper-within = there-within with_upper k (subst (λ (o : Option Map). IsSome o) (sym same-upper) there)

  pub cut-else : (n : ℕ) → IsMapThere maps n → n ≢ k → anon_map_at (maps_cut maps (Some k) number at) n ≡ anon_map_at maps n
  cut-else n is ne =
      get_or-set_other with_upper k n (Some (record (the_map with_upper k) { places = take at (places_of maps k) })) None ne
      ∙ with_map_other maps number n upper_map unused (there_apart maps n number is unused)

  pub cut-lower : anon_map_at (maps_cut maps (Some k) number at) k ≡ Some (record (the_map maps k) { places = take at (places_of maps k) })
  cut-lower =
      get_or-set_same with_upper k (Some (record (the_map with_upper k) { places = take at (places_of maps k) })) None upper-within
      ∙ ap (λ (o : Option Map). Some (record (unwrap_or o (record { places = []; holders = 0 })) { places = take at (places_of maps k) })) same-upper

  pub cut-upper : anon_map_at (maps_cut maps (Some k) number at) number ≡ Some upper_map
  cut-upper =
      get_or-set_other with_upper k number (Some (record (the_map with_upper k) { places = take at (places_of maps k) })) None (λ e. cut-apart (sym e))
      ∙ with_map_same maps number upper_map unused

  pub cut-sum : (f : List (Option ℕ) → ℕ) → f [] ≡ 0 → f (take at (places_of maps k)) + f (drop at (places_of maps k)) ≡ f (places_of maps k)
      → sum_by (λ (m : Option Map). f (places_in m)) (maps_cut maps (Some k) number at) ≡ sum_by (λ (m : Option Map). f (places_in m)) maps
  cut-sum f none parts =
      let a = set-sum with_upper k (Some (record (the_map with_upper k) { places = take at (places_of maps k) })) upper-within f in
      let b = with-sum maps number upper_map unused f none in
      let c = ap f (same-places maps with_upper k same-upper) in
      omega (arith, a, b, c, parts)

  pub cut-holders : (n : ℕ) → holders_of (maps_cut maps (Some k) number at) n ≡ holders_of maps n + cond (is_number n (Some number)) 1 0
  cut-holders n = elim (cases_eq n number) [
    | inl e ↦
        let is : cond {A = ℕ} (is_number n (Some number)) 1 0 ≡ 1 = ap (λ (b : Bool). cond {A = ℕ} b 1 0) (eq-eqb number n (sym e)) in
        let here : holders_of (maps_cut maps (Some k) number at) n ≡ 1 = ap (λ (j : ℕ). holders_of (maps_cut maps (Some k) number at) j) e ∙ ap (λ (o : Option Map). (unwrap_or o (record { places = []; holders = 0 })).holders) cut-upper in
        let was : holders_of maps n ≡ 0 = ap (λ (j : ℕ). holders_of maps j) e ∙ ap (λ (o : Option Map). (unwrap_or o (record { places = []; holders = 0 })).holders) unused.absent in
        omega (arith, is, here, was)
    | inr ne ↦
        let not : cond {A = ℕ} (is_number n (Some number)) 1 0 ≡ 0 = elim (cases_Bool (number == n)) [ inl y ↦ absurd (ne (sym (eqb-true number n y))) | inr f ↦ ap (λ (b : Bool). cond {A = ℕ} b 1 0) f ] in
        elim (cases_eq n k) [
          | inl e ↦
              let here : holders_of (maps_cut maps (Some k) number at) n ≡ holders_of maps k = ap (λ (j : ℕ). holders_of (maps_cut maps (Some k) number at) j) e ∙ ap (λ (o : Option Map). (unwrap_or o (record { places = []; holders = 0 })).holders) cut-lower in
              let was : holders_of maps n ≡ holders_of maps k = ap (λ (j : ℕ). holders_of maps j) e in
              omega (arith, not, here, was)
          | inr apart ↦
              let same : holders_of (maps_cut maps (Some k) number at) n ≡ holders_of maps n =
              same-holders maps (maps_cut maps (Some k) number at) n (get_or-set_other with_upper k n (Some (record (the_map with_upper k) { places = take at (places_of maps k) })) None apart ∙ with_map_other maps number n upper_map unused ne) in
              omega (arith, not, same)
        ]
  ]
