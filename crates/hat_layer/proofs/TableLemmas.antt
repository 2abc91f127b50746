-- The indexes against the places.
use Rattle.std.proofs.Common.{◌≡◌, ◌≢◌, ℕ, ◌<◌, inl, inr, true, false, cond, Option, Some, None, List, [], ◌∷◌, refl, sym, ◌∙◌, ap, subst, length, get_or, set, arith}
use Rattle.std.specs.Prelude.{map, ◌==◌, replicate, option_map}
use Rattle.std.proofs.lemmas.List.{get_or-set_same, get_or-set_other, get_or_past, map-set, length-map, length-replicate}
use Rattle.std.proofs.Math.Seq.{map-set_same}
use Rattle.std.proofs.Math.ListN.{length-set, get_or-map}
use Rattle.std.proofs.lemmas.Bool.{cases_eq, cases_lt, and_parts, and_from, eqb-true, eq-eqb}
use Rattle.hat_layer.specs.declared.translation.Translation.{Translation}
use Rattle.hash_chains.specs.Order.{ChainsSeen, HaveOwners, chain_at, owner_at, is_among, first_in, without_place}
use Rattle.hash_chains.specs.Slots.{pair_slot}
use Rattle.hash_chains.proofs.LinkLemmas.{at-replicate}
use Rattle.hash_chains.proofs.WalkLaws.{IsOn, walk-start, first-none}
use Rattle.hash_chains.proofs.OwnerLaws.{some-within, nones, owners-none, free-off, owner-is, owned-on, owners-linked, owners-unlinked}
use Rattle.hat_layer.specs.Pool.{holds, is_of, frame_of, IsSingleValued, with_clear_bits, change_lead, change_frame}
use Rattle.hat_layer.specs.Table.{slot_at, LeadsToFrame, SameName, IsSoundTable}

frame-is : (o : Option Translation) (frame : ℕ) → frame_of o ≡ Some frame → (t : Translation) × (o ≡ Some t) × (t.frame ≡ frame)
frame-is None frame e = let z : None ≡ Some frame = e in cc
frame-is (Some t) frame e = (t, refl, let z : Some t.frame ≡ Some frame = e in cc)

-- the first place of a frame's chain
module _ (places : List (Option Translation)) (order : List (List ℕ)) (frame : ℕ) (fits : HaveOwners order (map frame_of places)) where
  pub leads-none : first_in (chain_at order frame) ≡ None → LeadsToFrame places frame None
  leads-none e = λ k h. let z : true ≡ false = sym (owned-on order (map frame_of places) fits frame k (get_or-map frame_of places k None ∙ h)) ∙ first-none (chain_at order frame) e k in cc

  owns : (p : ℕ) → first_in (chain_at order frame) ≡ Some p → (t : Translation) × (get_or places p None ≡ Some t) × (t.frame ≡ frame)
  owns p e = frame-is (get_or places p None) frame (sym (get_or-map frame_of places p None) ∙ owner-is order (map frame_of places) fits frame p
      (subst (IsOn (chain_at order frame)) e (walk-start (chain_at order frame))))

  pub leads-some : (p : ℕ) → first_in (chain_at order frame) ≡ Some p → LeadsToFrame places frame (option_map (λ (t : Translation). (p, t)) (get_or places p None))
  leads-some p e = let f = owns p e in subst (λ (o : Option Translation). LeadsToFrame places frame (option_map (λ (t : Translation). (p, t)) o)) (sym f.1) (f.1, f.2)

  pub leads-within : (p : ℕ) → first_in (chain_at order frame) ≡ Some p → p < length places
  leads-within p e = let f = owns p e in some-within places p f.0 f.1

pub record OfPage (space page : ℕ) (t : Translation) : Type 0 where
  pub space_is : t.space ≡ space
  pub page_is : t.page ≡ page

pub of-page : (space page : ℕ) (t : Translation) → is_of space page t ≡ true → OfPage space page t
of-page space page t h = let ab = and_parts (t.space == space) (t.page == page) h in record { space_is = eqb-true t.space space ab.0; page_is = eqb-true t.page page ab.1 }

pub is-of : (space page : ℕ) (t : Translation) → t.space ≡ space → t.page ≡ page → is_of space page t ≡ true
is-of space page t a b = and_from (t.space == space) (t.page == page) (eq-eqb t.space space a) (eq-eqb t.page page b)

pub held-within : (places : List (Option Translation)) (k space page : ℕ) → holds space page (get_or places k None) ≡ true → k < length places
held-within places k space page h = elim (cases_lt k (length places)) [
  | inl lt ↦ lt
  | inr ge ↦
      (let z : false ≡ true = sym (ap (λ (o : Option Translation). holds space page o) (get_or_past places k None ge)) ∙ h in cc)
]

pub distinct-set : (places : List (Option Translation)) (place : ℕ) (new : Option Translation) → place < length places → IsSingleValued places →
    ((k space page : ℕ) → k ≢ place → holds space page new ≡ true → holds space page (get_or places k None) ≡ true → ⊥) → IsSingleValued (set places place new)
distinct-set places place new lt d apart i j space page a b = elim (cases_eq i place) [
  | inl q ↦ elim (cases_eq j place) [
    | inl r ↦ q ∙ sym r
    | inr nr ↦ absurd (apart j space page nr
        (ap (λ (o : Option Translation). holds space page o) (sym (get_or-set_same places place new None lt)) ∙ subst (λ (i : ℕ). holds space page (get_or (set places place new) i None) ≡ true) q a)
        (ap (λ (o : Option Translation). holds space page o) (sym (get_or-set_other places place j new None nr)) ∙ b))
  ]
  | inr nq ↦ elim (cases_eq j place) [
    | inl r ↦ absurd (apart i space page nq
        (ap (λ (o : Option Translation). holds space page o) (sym (get_or-set_same places place new None lt)) ∙ subst (λ (j : ℕ). holds space page (get_or (set places place new) j None) ≡ true) r b)
        (ap (λ (o : Option Translation). holds space page o) (sym (get_or-set_other places place i new None nq)) ∙ a))
    | inr nr ↦ d i j space page
        (ap (λ (o : Option Translation). holds space page o) (sym (get_or-set_other places place i new None nq)) ∙ a)
        (ap (λ (o : Option Translation). holds space page o) (sym (get_or-set_other places place j new None nr)) ∙ b)
  ]
]

pub distinct-put : (places : List (Option Translation)) (place : ℕ) (new : Translation) → place < length places → IsSingleValued places
    → ((k : ℕ) → holds new.space new.page (get_or places k None) ≡ false) → IsSingleValued (set places place (Some new))
distinct-put places place new lt d absent = distinct-set places place (Some new) lt d (λ k space page ne h g.
    let e = of-page space page new h in
    let z : true ≡ false = sym (subst (λ (s : ℕ). holds s new.page (get_or places k None) ≡ true) (sym e.space_is)
    (subst (λ (p : ℕ). holds space p (get_or places k None) ≡ true) (sym e.page_is) g)) ∙ absent k in cc)

pub distinct-take : (places : List (Option Translation)) (place : ℕ) → place < length places → IsSingleValued places → IsSingleValued (set places place None)
distinct-take places place lt d = distinct-set places place None lt d (λ k space page ne h g. let z : false ≡ true = h in cc)

pub distinct-change : (places : List (Option Translation)) (place : ℕ) (old new : Translation) → IsSingleValued places → get_or places place None ≡ Some old
    → SameName old new → IsSingleValued (set places place (Some new))
distinct-change places place old new d is same = distinct-set places place (Some new) (some-within places place old is) d (λ k space page ne h g.
    let e = of-page space page new h in
    let was : holds space page (get_or places place None) ≡ true = ap (λ (o : Option Translation). holds space page o) is
    ∙ is-of space page old (sym same.space ∙ e.space_is) (sym same.page ∙ e.page_is) in
    ne (d k place space page g was))

pub distinct-none : (n : ℕ) → IsSingleValued (replicate n None)
distinct-none n i j space page a b = let z : false ≡ true = sym (ap (λ (o : Option Translation). holds space page o) (at-replicate n i None)) ∙ a in cc

pub new-table : (places : List (Option Translation)) (pages frames : ChainsSeen) (n m : ℕ) → places ≡ replicate n None → pages.order ≡ replicate n []
    → pages.size ≡ n → frames.order ≡ replicate m [] → frames.size ≡ n → 0 < n → IsSoundTable places n pages frames
new-table places pages frames n m e po ps fo fs some = rw e (record {
  some = some;
  slots_are = ap (λ (o : List (List ℕ)). length o) po ∙ length-replicate n [];
  page_size = ps ∙ sym (length-replicate n None);
  frame_size = fs ∙ sym (length-replicate n None);
  pages = rw po (rw (sym (nones (slot_at n) refl n)) (owners-none n n));
  frames = rw fo (rw (sym (nones frame_of refl n)) (owners-none m n));
  distinct = distinct-none n;
})

module _ (places : List (Option Translation)) (slots : ℕ) (pages frames : ChainsSeen) (t : IsSoundTable places slots pages frames) (place slot : ℕ) where
  -- an empty place is on no chain
  pub put-off : get_or places place None ≡ None → ((c : ℕ) → is_among place (chain_at pages.order c) ≡ false) × ((c : ℕ) → is_among place (chain_at frames.order c) ≡ false)
  put-off empty = (
    free-off pages.order (map (slot_at slots) places) t.pages place
        (get_or-map (slot_at slots) places place None ∙ ap (slot_at slots) empty),
    free-off frames.order (map frame_of places) t.frames place (get_or-map frame_of places place None ∙ ap frame_of empty),
  )

  -- a translation comes into an empty place
  pub put-table : (new : Translation) (pages' frames' : ChainsSeen) → place < length places → get_or places place None ≡ None → ((k : ℕ) → holds new.space new.page (get_or places k None) ≡ false) →
      slot ≡ pair_slot slots new.space new.page → slot < slots → new.frame < length frames.order →
      pages'.order ≡ set pages.order slot (place ∷ chain_at pages.order slot) → pages'.size ≡ pages.size
      → frames'.order ≡ set frames.order new.frame (place ∷ chain_at frames.order new.frame) → frames'.size ≡ frames.size → IsSoundTable (set places place (Some new)) slots pages' frames'
  put-table new pages' frames' lt empty absent s in_s in_f po ps fo fs = let n = length-set places place (let x : Option Translation = Some new in x) in record {
    some = t.some;
    slots_are = ap (λ (o : List (List ℕ)). length o) po ∙ length-set pages.order slot (place ∷ chain_at pages.order slot) ∙ t.slots_are;
    page_size = ps ∙ t.page_size ∙ sym n;
    frame_size = fs ∙ t.frame_size ∙ sym n;
    pages = rw po (rw (map-set (slot_at slots) places place (Some new))
        (subst (λ (k : ℕ). HaveOwners (set pages.order slot (place ∷ chain_at pages.order slot)) (set (map (slot_at slots) places) place (Some k))) s
        (owners-linked pages.order (map (slot_at slots) places) t.pages place slot (let a = t.slots_are in omega arith)
        (let b = length-map places (slot_at slots) in omega arith) (get_or-map (slot_at slots) places place None ∙ ap (slot_at slots) empty))));
    frames = rw fo (rw (map-set frame_of places place (Some new)) (owners-linked frames.order (map frame_of places) t.frames place new.frame in_f
        (let b = length-map places frame_of in omega arith) (get_or-map frame_of places place None ∙ ap frame_of empty)));
    distinct = distinct-put places place new lt t.distinct absent;
  }

  module _ (old : Translation) (is : get_or places place None ≡ Some old) (s : slot ≡ pair_slot slots old.space old.page) where
    on-slot : owner_at (map (slot_at slots) places) place ≡ Some slot
    on-slot = get_or-map (slot_at slots) places place None ∙ ap (slot_at slots) is ∙ ap (λ (k : ℕ). Some k) (sym s)

    on-frame : owner_at (map frame_of places) place ≡ Some old.frame
    on-frame = get_or-map frame_of places place None ∙ ap frame_of is

    pub slot-has : is_among place (chain_at pages.order slot) ≡ true
    slot-has = owned-on pages.order (map (slot_at slots) places) t.pages slot place on-slot

    pub frame-has : is_among place (chain_at frames.order old.frame) ≡ true
    frame-has = owned-on frames.order (map frame_of places) t.frames old.frame place on-frame

    -- the translation goes out of its place
    pub take-table : (pages' frames' : ChainsSeen) → pages'.order ≡ set pages.order slot (without_place place (chain_at pages.order slot))
        → pages'.size ≡ pages.size → frames'.order ≡ set frames.order old.frame (without_place place (chain_at frames.order old.frame))
        → frames'.size ≡ frames.size → IsSoundTable (set places place None) slots pages' frames'
    take-table pages' frames' po ps fo fs = let lt = some-within places place old is in let n = length-set places place (let x : Option Translation = None in x) in record {
      some = t.some;
      slots_are = ap (λ (o : List (List ℕ)). length o) po ∙ length-set pages.order slot (without_place place (chain_at pages.order slot)) ∙ t.slots_are;
      page_size = ps ∙ t.page_size ∙ sym n;
      frame_size = fs ∙ t.frame_size ∙ sym n;
      pages = rw po (rw (map-set (slot_at slots) places place None) (owners-unlinked pages.order (map (slot_at slots) places) t.pages place slot
          (let b = length-map places (slot_at slots) in omega arith) on-slot));
      frames = rw fo (rw (map-set frame_of places place None) (owners-unlinked frames.order (map frame_of places) t.frames place old.frame
          (let b = length-map places frame_of in omega arith) on-frame));
      distinct = distinct-take places place lt t.distinct;
    }

  -- rights and bits of a translation change
  pub change-table : (old new : Translation) → get_or places place None ≡ Some old → SameName old new → IsSoundTable (set places place (Some new)) slots pages frames
  change-table old new is same = let n = length-set places place (let x : Option Translation = Some new in x) in record {
    some = t.some;
    slots_are = t.slots_are;
    page_size = t.page_size ∙ sym n;
    frame_size = t.frame_size ∙ sym n;
    pages = rw (map-set_same (slot_at slots) places place (Some new) None
        (ap (λ (s : ℕ). Some (pair_slot slots s new.page)) same.space ∙ ap (λ (p : ℕ). Some (pair_slot slots old.space p)) same.page ∙ sym (ap (slot_at slots) is))) t.pages;
    frames = rw (map-set_same frame_of places place (Some new) None (ap (λ (f : ℕ). Some f) same.frame ∙ sym (ap frame_of is))) t.frames;
    distinct = distinct-change places place old new t.distinct is same;
  }

-- a place on the chain of a page's slot is one of the pool
pub slot-within : (places : List (Option Translation)) (slots : ℕ) (pages frames : ChainsSeen) (slot place : ℕ) → IsSoundTable places slots pages frames
    → is_among place (chain_at pages.order slot) ≡ true → place < length places
slot-within places slots pages frames slot place t on = go (get_or places place None) refl
  where
    go : (o : Option Translation) → get_or places place None ≡ o → place < length places
    go None e = let z : None ≡ Some slot = sym (get_or-map (slot_at slots) places place None ∙ ap (slot_at slots) e) ∙ owner-is pages.order (map (slot_at slots) places) t.pages slot place on in cc
    go (Some h) e = some-within places place h e

-- the bits of a frame's translations are cleared
mapped : (f : Option Translation → Option ℕ) (G : Option Translation → Option Translation) → ((o : Option Translation) → f (G o) ≡ f o)
    → (places : List (Option Translation)) → map f (map G places) ≡ map f places
mapped f G same [] = refl
mapped f G same (o ∷ os) = ap (λ (x : Option ℕ). x ∷ map f (map G os)) (same o) ∙ ap (λ (l : List (Option ℕ)). f o ∷ l) (mapped f G same os)

cleared-same : {X : Type 0} (f : Option Translation → X) → ((t : Translation) → f (Some (with_clear_bits t)) ≡ f (Some t))
    → (frame : ℕ) (o : Option Translation) → f (change_lead frame with_clear_bits o) ≡ f o
cleared-same f same frame None = refl
cleared-same f same frame (Some t) = elim (t.frame == frame) as (λ b. f (cond b (option_map with_clear_bits (Some t)) (Some t)) ≡ f (Some t)) [ true ↦ same t | false ↦ refl ]

pub clear-table : (places : List (Option Translation)) (slots : ℕ) (pages frames : ChainsSeen) → IsSoundTable places slots pages frames
    → (frame : ℕ) (places' : List (Option Translation)) → places' ≡ change_frame frame with_clear_bits places → IsSoundTable places' slots pages frames
clear-table places slots pages frames t frame places' e = rw e (let n = length-map places (change_lead frame with_clear_bits) in record {
  some = t.some;
  slots_are = t.slots_are;
  page_size = t.page_size ∙ sym n;
  frame_size = t.frame_size ∙ sym n;
  pages = rw (mapped (slot_at slots) (change_lead frame with_clear_bits) (cleared-same (slot_at slots) (λ t. refl) frame) places) t.pages;
  frames = rw (mapped frame_of (change_lead frame with_clear_bits) (cleared-same frame_of (λ t. refl) frame) places) t.frames;
  distinct = λ i j space page a b. t.distinct i j space page (sym (same i space page) ∙ a) (sym (same j space page) ∙ b);
})
  where
    same : (i space page : ℕ) → holds space page (get_or (change_frame frame with_clear_bits places) i None) ≡ holds space page (get_or places i None)
    same i space page = ap (λ (o : Option Translation). holds space page o) (get_or-map (change_lead frame with_clear_bits) places i None)
        ∙ cleared-same (λ (o : Option Translation). holds space page o) (λ t. refl) frame (get_or places i None)
