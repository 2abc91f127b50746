-- The links against the places of each chain.
use Rattle.std.proofs.Common.{◌≡◌, ◌≢◌, ℕ, ◌<◌, ◌≤◌, ◌⊎◌, inl, inr, Bool, true, false, cond, Option, Some, None, List, [], ◌∷◌, refl, sym, ◌∙◌, ap, subst, length, get_or, set, arith, zero, suc}
use Rattle.std.specs.Prelude.{replicate, not, ◌==◌, ◌||◌, ◌&&◌}
use Rattle.std.specs.List.{IsDistinct, AllByRecursion}
use Rattle.std.proofs.lemmas.List.{get_or-set_same, get_or-set_other, length-replicate}
use Rattle.std.proofs.lemmas.Map.Steps.{length-le_from_distinct_below}
use Rattle.std.proofs.lemmas.Map.Views.{any-filter_same}
use Rattle.std.proofs.Math.ListN.{length-set}
use Rattle.std.proofs.lemmas.Bool.{cases_eq, cases_Bool, or_parts, or_from, or_cases, or_right, eqb-true, eqb-false, eq-eqb, ne_eqb}
use Rattle.hash_chains.specs.Order.{chain_at, is_among, first_in, after_in, without_place}
use Rattle.hash_chains.specs.Links.{places_from, order_of, LeadsOver, AreSoundChains, before_in, heads_led, start_led, next_led}

pub at-replicate : {X : Type 0} (n i : ℕ) (d : X) → get_or (replicate n d) i d ≡ d
at-replicate zero i d = refl
at-replicate (suc n) zero d = refl
at-replicate (suc n) (suc i) d = at-replicate n i d

-- a chain with a place is one of them
pub in-range : (order : List (List ℕ)) (chain place : ℕ) → is_among place (chain_at order chain) ≡ true → chain < length order
in-range [] chain place h = let z : false ≡ true = h in cc
in-range (x ∷ xs) zero place h = omega arith
in-range (x ∷ xs) (suc chain) place h = let r = in-range xs chain place h in omega arith

-- a place of a chain has a link
pub among-within : (next : List (Option ℕ)) (from : Option ℕ) (xs : List ℕ) (k : ℕ) → LeadsOver next from xs → is_among k xs ≡ true → k < length next
among-within next from [] k c h = let z : false ≡ true = h in cc
among-within next from (p ∷ ps) k c h = elim (or_cases (k == p) (is_among k ps) h) [
  | inl t ↦ let e = eqb-true k p t in let lt = c.1 in omega arith
  | inr t ↦ among-within next (get_or next p None) ps k c.2 t
]

pub chain-short : (next : List (Option ℕ)) (from : Option ℕ) (xs : List ℕ) → LeadsOver next from xs → IsDistinct (λ (x y : ℕ). x == y) xs → length xs ≤ length next
chain-short next from xs c d = length-le_from_distinct_below xs (length next) d (λ q h. among-within next from xs q c h)

pub places-are : (next : List (Option ℕ)) (n : ℕ) (at : Option ℕ) (xs : List ℕ) → LeadsOver next at xs → length xs ≤ n → places_from next n at ≡ xs
places-are next n None [] c le = refl
places-are next n (Some p) [] c le = let z : Some p ≡ None = c in cc
places-are next n None (x ∷ xs) c le = let z : None ≡ Some x = c.0 in cc
places-are next zero (Some p) (x ∷ xs) c le = absurd (omega arith)
places-are next (suc n) (Some p) (x ∷ xs) c le =
    let q : x ≡ p = (let z : Some p ≡ Some x = c.0 in cc) in
    ap (λ (k : ℕ). k ∷ places_from next n (get_or next p None)) (sym q)
    ∙ ap (λ (l : List ℕ). x ∷ l) (places-are next n (get_or next p None) xs (subst (λ (k : ℕ). LeadsOver next (get_or next k None) xs) q c.2) (omega arith))

order-is : (next : List (Option ℕ)) (heads : List (Option ℕ)) (order : List (List ℕ)) → length order ≡ length heads
    → ((c : ℕ) → LeadsOver next (get_or heads c None) (chain_at order c)) → ((c : ℕ) → IsDistinct (λ (x y : ℕ). x == y) (chain_at order c)) → order_of heads next ≡ order
order-is next [] [] n l d = refl
order-is next [] (x ∷ xs) n l d = absurd (omega arith)
order-is next (h ∷ hs) [] n l d = absurd (omega arith)
order-is next (h ∷ hs) (x ∷ xs) n l d =
    ap (λ (p : List ℕ). p ∷ order_of hs next) (places-are next (length next) h x (l zero) (chain-short next h x (l zero) (d zero)))
    ∙ ap (λ (o : List (List ℕ)). x ∷ o) (order-is next hs xs (omega arith) (λ c. l (suc c)) (λ c. d (suc c)))

-- the links tell the order
pub linked-is : (heads next : List (Option ℕ)) (order : List (List ℕ)) → AreSoundChains heads next order → order_of heads next ≡ order
linked-is heads next order l = order-is next heads order l.lengths l.leads l.apart.once

pub linked-own : (heads next : List (Option ℕ)) (order : List (List ℕ)) → AreSoundChains heads next order → AreSoundChains heads next (order_of heads next)
linked-own heads next order l = subst (AreSoundChains heads next) (sym (linked-is heads next order l)) l

pub linked-none : (chains places : ℕ) → AreSoundChains (replicate chains None) (replicate places None) (replicate chains [])
unfolding IsDistinct
linked-none chains places = record {
  lengths = length-replicate chains [] ∙ sym (length-replicate chains None);
  leads = λ c. subst (λ (xs : List ℕ). LeadsOver (replicate places None) (get_or (replicate chains None) c None) xs) (sym (at-replicate chains c [])) (at-replicate chains c None);
  apart = record {
    once = λ c. subst (λ (xs : List ℕ). IsDistinct (λ (x y : ℕ). x == y) xs) (sym (at-replicate chains c [])) tt;
    one = λ c d k a b. let z : false ≡ true = ap (is_among k) (sym (at-replicate chains c [])) ∙ a in cc;
  };
}

-- a chain that a place isn't on stays as that place's link changes
chain-kept : (next : List (Option ℕ)) (k : ℕ) (to from : Option ℕ) (xs : List ℕ) → is_among k xs ≡ false → LeadsOver next from xs → LeadsOver (set next k to) from xs
chain-kept next k to from [] off c = c
chain-kept next k to from (p ∷ ps) off c =
    let parts = or_parts (k == p) (is_among k ps) off in
    let n = length-set next k to in (
      c.0,
      (let lt = c.1 in omega arith),
      subst (λ (o : Option ℕ). LeadsOver (set next k to) o ps) (sym (get_or-set_other next k p to None (λ q. eqb-false k p parts.0 (sym q))))
          (chain-kept next k to (get_or next p None) ps parts.1 c.2),
    )

pub differs-all : (p : ℕ) (xs : List ℕ) → is_among p xs ≡ false → AllByRecursion (λ y. (p == y) ≡ false) xs
differs-all p [] off = tt
differs-all p (x ∷ xs) off = let parts = or_parts (p == x) (is_among p xs) off in (parts.0, differs-all p xs parts.1)

pub all-differs : (p : ℕ) (xs : List ℕ) → AllByRecursion (λ y. (p == y) ≡ false) xs → is_among p xs ≡ false
all-differs p [] h = refl
all-differs p (x ∷ xs) h = or_from (p == x) (is_among p xs) h.0 (all-differs p xs h.1)

pub among-tail : (p x : ℕ) (xs : List ℕ) → (x == p) ≡ false → is_among p (x ∷ xs) ≡ true → is_among p xs ≡ true
among-tail p x xs f h = elim (or_cases (p == x) (is_among p xs) h) [ inl t ↦ absurd (eqb-false x p f (sym (eqb-true p x t))) | inr r ↦ r ]

-- the places without one
pub among-without : (k place : ℕ) (xs : List ℕ) → is_among k (without_place place xs) ≡ (not (k == place) && is_among k xs)
among-without k place xs = any-filter_same (λ (q : ℕ). k == q) (λ (q : ℕ). not (q == place)) (not (k == place)) (λ q e. ap (λ (q : ℕ). not (q == place)) (sym (eqb-true k q e))) xs

still-among : (k place : ℕ) (xs : List ℕ) → is_among k (without_place place xs) ≡ true → is_among k xs ≡ true
still-among k place xs h = go (not (k == place)) (is_among k xs) (sym (among-without k place xs) ∙ h)
  where
    go : (a b : Bool) → (a && b) ≡ true → b ≡ true
    go true b e = e
    go false b e = let z : false ≡ true = e in cc

without-off : (place : ℕ) (xs : List ℕ) → is_among place xs ≡ false → without_place place xs ≡ xs
without-off place [] off = refl
without-off place (x ∷ xs) off =
    let parts = or_parts (place == x) (is_among place xs) off in
    ap (λ (b : Bool). cond (not b) (x ∷ without_place place xs) (without_place place xs)) (ne_eqb x place (λ q. eqb-false place x parts.0 (sym q)))
    ∙ ap (λ (l : List ℕ). x ∷ l) (without-off place xs parts.1)

distinct-without : (place : ℕ) (xs : List ℕ) → IsDistinct (λ (x y : ℕ). x == y) xs → IsDistinct (λ (x y : ℕ). x == y) (without_place place xs)
unfolding IsDistinct
distinct-without place [] d = tt
distinct-without place (x ∷ xs) d = elim (x == place) as (λ b. IsDistinct (λ (x y : ℕ). x == y) (cond (not b) (x ∷ without_place place xs) (without_place place xs))) [
  | true ↦ distinct-without place xs d.1
  | false ↦ (
    differs-all x (without_place place xs) (elim
        (cases_Bool (is_among x (without_place place xs))) [ inl t ↦ (let z : true ≡ false = sym (still-among x place xs t) ∙ all-differs x xs d.0 in cc) | inr f ↦ f ]),
    distinct-without place xs d.1,
  )
]

before-among : (before : Option ℕ) (place : ℕ) (xs : List ℕ) (p : ℕ) → before_in before place xs ≡ Some p → (before ≡ Some p) ⊎ (is_among p xs ≡ true)
before-among before place [] p e = let z : None ≡ Some p = e in cc
before-among before place (x ∷ xs) p e = elim (cases_Bool (x == place)) [
  | inl t ↦ inl (sym (ap (λ (b : Bool). cond b before (before_in (Some x) place xs)) t) ∙ e)
  | inr f ↦ elim (before-among (Some x) place xs p (sym (ap (λ (b : Bool). cond b before (before_in (Some x) place xs)) f) ∙ e)) [
    | inl q ↦ inr (let r : p ≡ x = (let z : Some x ≡ Some p = q in cc) in ap (λ (b : Bool). b || is_among p xs) (eq-eqb p x r))
    | inr on ↦ inr (or_right (p == x) (is_among p xs) on)
  ]
]

pub first-is : (next : List (Option ℕ)) (from : Option ℕ) (xs : List ℕ) → LeadsOver next from xs → from ≡ first_in xs
first-is next from [] c = c
first-is next from (x ∷ xs) c = c.0

pub after-is : (next : List (Option ℕ)) (from : Option ℕ) (xs : List ℕ) (p : ℕ) → LeadsOver next from xs → is_among p xs ≡ true → get_or next p None ≡ after_in p xs
after-is next from [] p c h = let z : false ≡ true = h in cc
after-is next from (x ∷ xs) p c h = elim (cases_Bool (x == p)) [
  | inl t ↦ ap (λ (k : ℕ). get_or next k None) (sym (eqb-true x p t)) ∙ first-is next (get_or next x None) xs c.2 ∙ sym (ap (λ (b : Bool). cond b (first_in xs) (after_in p xs)) t)
  | inr f ↦ after-is next (get_or next x None) xs p c.2 (among-tail p x xs f h) ∙ sym (ap (λ (b : Bool). cond b (first_in xs) (after_in p xs)) f)
]

-- where the link to a place leads past it, the chain goes on without the place
past : (next : List (Option ℕ)) (place p x : ℕ) (xs : List ℕ) (from : Option ℕ) → LeadsOver next from (x ∷ xs) → IsDistinct (λ (x y : ℕ). x == y) (x ∷ xs)
    → is_among place xs ≡ true → before_in (Some x) place xs ≡ Some p → LeadsOver (set next p (get_or next place None)) from (x ∷ without_place place xs)
unfolding IsDistinct
past next place p x [] from c d on b = let z : false ≡ true = on in cc
past next place p x (y ∷ ys) from c d on b =
    let n = length-set next p (get_or next place None) in
    let off = all-differs x (y ∷ ys) d.0 in
    elim (cases_Bool (y == place)) [
      | inl t ↦
          let q : x ≡ p = (let z : Some x ≡ Some p = sym (ap (λ (b : Bool). cond b (Some x) (before_in (Some y) place ys)) t) ∙ b in cc) in
          let e = eqb-true y place t in
          let rest : without_place place (y ∷ ys) ≡ ys = ap (λ (b : Bool). cond (not b) (y ∷ without_place place ys) (without_place place ys)) t
          ∙ without-off place ys (subst (λ (k : ℕ). is_among k ys ≡ false) e (all-differs y ys d.1.0)) in (
            c.0,
            (let lt = c.1 in omega arith),
            subst (λ (l : List ℕ). LeadsOver (set next p (get_or next place None)) (get_or (set next p (get_or next place None)) x None) l) (sym rest)
                (subst (λ (k : ℕ). LeadsOver (set next k (get_or next place None)) (get_or (set next k (get_or next place None)) x None) ys) q
                (subst (λ (o : Option ℕ). LeadsOver (set next x (get_or next place None)) o ys) (ap (λ (k : ℕ). get_or next k None) e ∙ sym (get_or-set_same next x (get_or next place None) None c.1))
                (chain-kept next x (get_or next place None) (get_or next y None) ys (or_parts (x == y) (is_among x ys) off).1 c.2.2))),
          )
      | inr f ↦
          let b' = sym (ap (λ (b : Bool). cond b (Some x) (before_in (Some y) place ys)) f) ∙ b in
          let ne : x ≢ p = (λ q. let z : true ≡ false = sym (among-y p (before-among (Some y) place ys p b')) ∙ ap (λ (k : ℕ). is_among k (y ∷ ys)) (sym q) ∙ off in cc) in
          let on' = among-tail place y ys f on in (
            c.0,
            (let lt = c.1 in omega arith),
            subst (λ (l : List ℕ). LeadsOver (set next p (get_or next place None)) (get_or (set next p (get_or next place None)) x None) l)
                (sym (ap (λ (b : Bool). cond (not b) (y ∷ without_place place ys) (without_place place ys)) f))
                (subst (λ (o : Option ℕ). LeadsOver (set next p (get_or next place None)) o (y ∷ without_place place ys))
                (sym (get_or-set_other next p x (get_or next place None) None ne)) (past next place p y ys (get_or next x None) c.2 d.1 on' b')),
          )
    ]
  where
    among-y : (p : ℕ) → (Some y ≡ Some p) ⊎ (is_among p ys ≡ true) → is_among p (y ∷ ys) ≡ true
    among-y p (inl q) = let r : p ≡ y = (let z : Some y ≡ Some p = q in cc) in ap (λ (b : Bool). b || is_among p ys) (eq-eqb p y r)
    among-y p (inr h) = or_right (p == y) (is_among p ys) h

some-before : (x : ℕ) (place : ℕ) (xs : List ℕ) → is_among place xs ≡ true → before_in (Some x) place xs ≡ None → ⊥
some-before x place [] on b = let z : false ≡ true = on in cc
some-before x place (y ∷ ys) on b = elim (cases_Bool (y == place)) [
  | inl t ↦ let z : Some x ≡ None = sym (ap (λ (b : Bool). cond b (Some x) (before_in (Some y) place ys)) t) ∙ b in cc
  | inr f ↦ some-before y place ys (among-tail place y ys f on) (sym (ap (λ (b : Bool). cond b (Some x) (before_in (Some y) place ys)) f) ∙ b)
]

-- the chain that a place is taken off
led-past : (next : List (Option ℕ)) (place : ℕ) (from before : Option ℕ) (xs : List ℕ) → LeadsOver next from xs → IsDistinct (λ (x y : ℕ). x == y) xs
    → is_among place xs ≡ true → before_in None place xs ≡ before → LeadsOver (next_led before next (get_or next place None)) (start_led before from (get_or next place None)) (without_place place xs)
unfolding IsDistinct
led-past next place from before [] c d on b = let z : false ≡ true = on in cc
led-past next place from before (x ∷ xs) c d on b = elim (cases_Bool (x == place)) [
  | inl t ↦
      let e = eqb-true x place t in
      rw (sym (sym (ap (λ (b : Bool). cond b None (before_in (Some x) place xs)) t) ∙ b)) (
      subst (λ (l : List ℕ). LeadsOver next (get_or next place None) l)
      (sym (ap (λ (b : Bool). cond (not b) (x ∷ without_place place xs) (without_place place xs)) t ∙ without-off place xs (subst (λ (k : ℕ). is_among k xs ≡ false) e (all-differs x xs d.0))))
      (subst (λ (k : ℕ). LeadsOver next (get_or next k None) xs) e c.2))
  | inr f ↦
      let b' = sym (ap (λ (b : Bool). cond b None (before_in (Some x) place xs)) f) ∙ b in
      let on' = among-tail place x xs f on in
      subst (λ (l : List ℕ). LeadsOver (next_led before next (get_or next place None)) (start_led before from (get_or next place None)) l)
      (sym (ap (λ (b : Bool). cond (not b) (x ∷ without_place place xs) (without_place place xs)) f)) (go before b' on')
]
  where
    go : (before : Option ℕ) → before_in (Some x) place xs ≡ before → is_among place xs ≡ true
        → LeadsOver (next_led before next (get_or next place None)) (start_led before from (get_or next place None)) (x ∷ without_place place xs)
    go None b on = absurd (some-before x place xs on b)
    go (Some p) b on = past next place p x xs from c d on b

module _ (heads next : List (Option ℕ)) (order : List (List ℕ)) (place chain : ℕ) (l : AreSoundChains heads next order) where
  -- a place comes onto a chain
  module _ (in_heads : chain < length order) (lt : place < length next) (off : (c : ℕ) → is_among place (chain_at order c) ≡ false) where
    from-in : (c k : ℕ) → is_among k (chain_at (set order chain (place ∷ chain_at order chain)) c) ≡ true → ((k ≡ place) × (c ≡ chain)) ⊎ (is_among k (chain_at order c) ≡ true)
    from-in c k h = elim (cases_eq c chain) [
      | inl q ↦ elim (or_cases (k == place) (is_among k (chain_at order chain))
          (ap (is_among k) (sym (get_or-set_same order chain (place ∷ chain_at order chain) [] in_heads))
          ∙ subst (λ (c : ℕ). is_among k (chain_at (set order chain (place ∷ chain_at order chain)) c) ≡ true) q h)) [
            | inl t ↦ inl (eqb-true k place t, q)
            | inr t ↦ inr (ap (λ (c : ℕ). is_among k (chain_at order c)) q ∙ t)
          ]
      | inr ne ↦ inr (ap (is_among k) (sym (get_or-set_other order chain c (place ∷ chain_at order chain) [] ne)) ∙ h)
    ]

    one-in : (c d k : ℕ) → ((k ≡ place) × (c ≡ chain)) ⊎ (is_among k (chain_at order c) ≡ true) → ((k ≡ place) × (d ≡ chain)) ⊎ (is_among k (chain_at order d) ≡ true) → c ≡ d
    one-in c d k (inl a) (inl b) = a.1 ∙ sym b.1
    one-in c d k (inl a) (inr b) = let z : false ≡ true = sym (off d) ∙ ap (λ (k : ℕ). is_among k (chain_at order d)) (sym a.0) ∙ b in cc
    one-in c d k (inr a) (inl b) = let z : false ≡ true = sym (off c) ∙ ap (λ (k : ℕ). is_among k (chain_at order c)) (sym b.0) ∙ a in cc
    one-in c d k (inr a) (inr b) = l.apart.one c d k a b

    pub linked-in : AreSoundChains (set heads chain (Some place)) (set next place (get_or heads chain None)) (set order chain (place ∷ chain_at order chain))
    unfolding IsDistinct
    linked-in =
        let n = length-set next place (get_or heads chain None) in
        let in_ : chain < length heads = (let a = l.lengths in omega arith) in
        record {
          lengths = length-set order chain (place ∷ chain_at order chain) ∙ l.lengths ∙ sym (length-set heads chain (Some place));
          leads = λ c. elim (cases_eq c chain) [
            | inl q ↦ rw q (rw (get_or-set_same order chain (place ∷ chain_at order chain) [] in_heads) (
              get_or-set_same heads chain (Some place) None in_,
              (omega arith),
              rw (get_or-set_same next place (get_or heads chain None) None lt)
                  (chain-kept next place (get_or heads chain None) (get_or heads chain None) (chain_at order chain) (off chain) (l.leads chain)),
            ))
            | inr ne ↦ rw (get_or-set_other order chain c (place ∷ chain_at order chain) [] ne)
                (rw (get_or-set_other heads chain c (Some place) None ne) (chain-kept next place (get_or heads chain None) (get_or heads c None) (chain_at order c) (off c) (l.leads c)))
          ];
          apart = record {
            once = λ c. elim (cases_eq c chain) [
              | inl q ↦ rw q (rw (get_or-set_same order chain (place ∷ chain_at order chain) [] in_heads) (differs-all place (chain_at order chain) (off chain), l.apart.once chain))
              | inr ne ↦ rw (get_or-set_other order chain c (place ∷ chain_at order chain) [] ne) (l.apart.once c)
            ];
            one = λ c d k a b. one-in c d k (from-in c k a) (from-in d k b);
          };
        }

  -- a place goes off its chain
  module _ (on : is_among place (chain_at order chain) ≡ true) where
    in_order : chain < length order
    in_order = in-range order chain place on

    from-out : (c k : ℕ) → is_among k (chain_at (set order chain (without_place place (chain_at order chain))) c) ≡ true → is_among k (chain_at order c) ≡ true
    from-out c k h = elim (cases_eq c chain) [
      | inl q ↦ rw q (still-among k place (chain_at order chain) (ap (is_among k)
          (sym (get_or-set_same order chain (without_place place (chain_at order chain)) [] in_order))
          ∙ subst (λ (c : ℕ). is_among k (chain_at (set order chain (without_place place (chain_at order chain))) c) ≡ true) q h))
      | inr ne ↦ ap (is_among k) (sym (get_or-set_other order chain c (without_place place (chain_at order chain)) [] ne)) ∙ h
    ]

    pub before-on : (p : ℕ) → before_in None place (chain_at order chain) ≡ Some p → is_among p (chain_at order chain) ≡ true
    before-on p b = elim (before-among None place (chain_at order chain) p b) [ inl q ↦ (let z : None ≡ Some p = q in cc) | inr h ↦ h ]

    leads-out : (before : Option ℕ) → before_in None place (chain_at order chain) ≡ before → (c : ℕ)
        → LeadsOver (next_led before next (get_or next place None)) (get_or (heads_led before heads chain (get_or next place None)) c None)
        (chain_at (set order chain (without_place place (chain_at order chain))) c)
    leads-out before b c = elim (cases_eq c chain) [
      | inl q ↦ rw q (rw (get_or-set_same order chain (without_place place (chain_at order chain)) [] in_order)
          (rw (here before) (led-past next place (get_or heads chain None) before (chain_at order chain) (l.leads chain) (l.apart.once chain) on b)))
      | inr ne ↦ rw (get_or-set_other order chain c (without_place place (chain_at order chain)) [] ne) (rw (there before ne) (kept before b ne))
    ]
      where
        here : (before : Option ℕ) → get_or (heads_led before heads chain (get_or next place None)) chain None ≡ start_led before (get_or heads chain None) (get_or next place None)
        here None = get_or-set_same heads chain (get_or next place None) None (let a = l.lengths in let b = in_order in omega arith)
        here (Some p) = refl

        there : (before : Option ℕ) → c ≢ chain → get_or (heads_led before heads chain (get_or next place None)) c None ≡ get_or heads c None
        there None ne = get_or-set_other heads chain c (get_or next place None) None ne
        there (Some p) ne = refl

        kept : (before : Option ℕ) → before_in None place (chain_at order chain) ≡ before → c ≢ chain
            → LeadsOver (next_led before next (get_or next place None)) (get_or heads c None) (chain_at order c)
        kept None b ne = l.leads c
        kept (Some p) b ne = chain-kept next p (get_or next place None) (get_or heads c None) (chain_at order c) (elim (cases_Bool (is_among p (chain_at order c))) [
          | inl t ↦ absurd (ne (l.apart.one c chain p t (before-on p b)))
          | inr f ↦ f
        ]) (l.leads c)

    pub linked-out : AreSoundChains (heads_led (before_in None place (chain_at order chain)) heads chain (get_or next place None))
        (next_led (before_in None place (chain_at order chain)) next (get_or next place None)) (set order chain (without_place place (chain_at order chain)))
    linked-out = record {
      lengths = length-set order chain (without_place place (chain_at order chain)) ∙ l.lengths ∙ sym (heads-length (before_in None place (chain_at order chain)));
      leads = leads-out (before_in None place (chain_at order chain)) refl;
      apart = record {
        once = λ c. elim (cases_eq c chain) [
          | inl q ↦ rw q (rw (get_or-set_same order chain (without_place place (chain_at order chain)) [] in_order) (distinct-without place (chain_at order chain) (l.apart.once chain)))
          | inr ne ↦ rw (get_or-set_other order chain c (without_place place (chain_at order chain)) [] ne) (l.apart.once c)
        ];
        one = λ c d k a b. l.apart.one c d k (from-out c k a) (from-out d k b);
      };
    }
      where
        heads-length : (before : Option ℕ) → length (heads_led before heads chain (get_or next place None)) ≡ length heads
        heads-length None = length-set heads chain (get_or next place None)
        heads-length (Some p) = refl
