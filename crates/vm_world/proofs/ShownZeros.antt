-- Which zero objects the segments of spaces show, and with which map.
use Rattle.std.proofs.Common.{◌≡◌, ℕ, ◌+◌, ◌-◌, ◌≤◌, Bool, true, false, cond, ◌||◌, List, [], ◌∷◌, ◌++◌, Option, Some, None, refl, sym, ap, ◌∙◌, ◌⊎◌, inl, inr, subst, arith}
use Rattle.std.specs.Prelude.{flat_map, option_map, option_and_then, is_some, IsSome, All, length}
use Rattle.std.specs.List.{list_any, cons_option}
use Rattle.std.specs.Ordering.{nat_cmp, is_eq}
use Rattle.std.specs.Cmp.{nat_cmp_total, unsigned_tied}
use Rattle.std.specs.FinMap as finite
use Rattle.std.specs.FinSet as set
use Rattle.std.proofs.lemmas.Bool.{cases_Bool, eq-eqb, eqb-true, or_right}
use Rattle.std.proofs.lemmas.Bool.Decides.{eqb_tells}
use Rattle.std.proofs.lemmas.List.Elements.{All-nil, All-cons}
use Rattle.flat_model.specs.vm_types.declared.call.Object.{Object}
use Rattle.flat_model.specs.vm_types.declared.call.Object.TheVariants as object
use Rattle.addr_space.specs.Space.{Part, IsInOrder, piece_at, part_at, has}
use Rattle.addr_space.proofs.PartLemmas.{has-in, has-past, has-within, none-below}
use Rattle.anon_map.specs.Maps.{Map, IsMapThere}
use Rattle.anon_slots.specs.Slots.{AnonSlotsSeen}
use Rattle.flat_model.specs.Words.{Page}
use Rattle.flat_model.specs.Flat.{Cell, Flat, zero_of, is_named}
use Rattle.flat_model.proofs.Entries.{value_of_any, any_value}
use Rattle.flat_model.proofs.Named.{named_zeros-from_cell, named_zeros-to_cell}
use Rattle.flat_model.proofs.Ranges.{get-retain_keys}
use Rattle.flat_model.proofs.Reserve.{same_tests}
use Rattle.vm_world.specs.CountsFit.{SegmentFits, SegmentsFit, ObjectFits, ShowsZero, is_number}
use Rattle.vm_world.specs.FlatMemory.{Memory, flat_shaped, shape_of, cell_of, zero_maps, zero_pages}
use Rattle.vm_world.specs.Pages.{Contents}
use Rattle.vm_world.specs.Segments.{Segment, Spot, Spaces, segments_of, spot_at, zero_map}
use Rattle.vm_world.proofs.FlatWhole.{some-inj}
use Rattle.vm_world.proofs.Maps.{get-map_with, cell-at}
use Rattle.vm_world.proofs.PartSums.{all-segments, segments-all}
use Rattle.vm_world.proofs.Reserves.{AreOrdered, zeros_of, found-either, zero-object}
use Rattle.vm_world.proofs.Spots.{IsSpotOf, spot-part}

-- A page of some process shows the zero object, with this map.
pub record IsShown (spaces : Spaces) (z number : ℕ) : Type 0 where
  pub process : ℕ
  pub page : ℕ
  pub spot : Spot
  pub here : spot_at spaces process page ≡ Some spot
  pub shows : zero_map spot.0 ≡ Some (z, number)

pub number-is : (n : ℕ) (o : Option ℕ) → is_number n o ≡ true → o ≡ Some n
number-is n None is = absurd (let z : false ≡ true = is in cc)
number-is n (Some m) is = ap (λ (k : ℕ). Some k) (eqb-true m n is)

pub is-the-number : (n : ℕ) (o : Option ℕ) → o ≡ Some n → is_number n o ≡ true
is-the-number n o is = ap (is_number n) is ∙ eq-eqb n n refl

-- the space in which an entry is found
shown-space : (z n : ℕ) (vs : List (List (Part Segment))) → finite.find nat_cmp z (flat_map zeros_of vs) ≡ Some n → list_any (λ v. is_number n (finite.find nat_cmp z (zeros_of v))) vs ≡ true
shown-space z n [] is = absurd (let k : None ≡ Some n = is in cc)
shown-space z n (v ∷ vs) is = elim (found-either z n (zeros_of v) (flat_map zeros_of vs) is) [
  | inl here ↦ ap (λ (b : Bool). b || list_any (λ v. is_number n (finite.find nat_cmp z (zeros_of v))) vs) (is-the-number n (finite.find nat_cmp z (zeros_of v)) here)
  | inr there ↦ or_right (is_number n (finite.find nat_cmp z (zeros_of v))) (list_any (λ v. is_number n (finite.find nat_cmp z (zeros_of v))) vs) (shown-space z n vs there)
]

-- A part of a space that shows the zero object with this map, at its first page.
record ShownPart (z n low : ℕ) (parts : List (Part Segment)) : Type 0 where
  part : Part Segment
  behind : low ≤ part.first
  here : piece_at parts part.first ≡ Some (part.piece, 0)
  shows : zero_map part.piece ≡ Some (z, n)

first-spot : (p : Part Segment) (ps : List (Part Segment)) (low : ℕ) → IsInOrder low (p ∷ ps) → piece_at (p ∷ ps) p.first ≡ Some (p.piece, 0)
first-spot p ps low order =
    let some = order.0.some in
    let none : p.first - p.first ≡ 0 = omega arith in
    ap (λ (b : Bool). option_map (λ (x : Part Segment). (x.piece, p.first - x.first)) (cond b (Some p) (part_at ps p.first))) (has-in p p.first (omega arith) (omega (arith, some))) ∙ ap (λ (k : ℕ). Some (p.piece, k)) none

later-spot : (p : Part Segment) (ps : List (Part Segment)) (k : ℕ) → p.first + p.pages ≤ k → piece_at (p ∷ ps) k ≡ piece_at ps k
later-spot p ps k behind = ap (λ (b : Bool). option_map (λ (x : Part Segment). (x.piece, k - x.first)) (cond b (Some p) (part_at ps k))) (has-past p k behind)

shown-part : (z n low : ℕ) (ps : List (Part Segment)) → IsInOrder low ps → finite.find nat_cmp z (zeros_of ps) ≡ Some n → ShownPart z n low ps
shown-part z n low [] order is = absurd (let k : None ≡ Some n = is in cc)
shown-part z n low (p ∷ ps) order is = by_map (λ later. shown-part z n (p.first + p.pages) ps order.1 later) (zero_map p.piece) refl is
  where
    later : ShownPart z n (p.first + p.pages) ps → ShownPart z n low (p ∷ ps)
    later r =
        let behind = r.behind in
        let first = order.0.behind in
        record { part = r.part; behind = omega (arith, behind, first); here = later-spot p ps r.part.first behind ∙ r.here; shows = r.shows }

    by_map : (finite.find nat_cmp z (zeros_of ps) ≡ Some n → ShownPart z n (p.first + p.pages) ps) → (o : Option (ℕ × ℕ)) → zero_map p.piece ≡ o → finite.find nat_cmp z (cons_option o (zeros_of ps)) ≡ Some n → ShownPart z n low (p ∷ ps)
    by_map rest None e is = later (rest is)
    by_map rest (Some x) e is = elim (eqb_tells z x.0) [
      | inl y ↦
          let v : x.1 ≡ n = let k : Some x.1 ≡ Some n = sym (ap (λ (b : Bool). cond b (Some x.1) (finite.find nat_cmp z (zeros_of ps))) (unsigned_tied z x.0 ∙ eq-eqb z x.0 y.1)) ∙ is in cc in
          record { part = p; behind = order.0.behind; here = first-spot p ps low order; shows = e ∙ ap (λ (k : ℕ). Some (k, x.1)) (sym y.1) ∙ ap (λ (k : ℕ). Some (z, k)) v }
      | inr no_key ↦ later (rest (sym (ap (λ (b : Bool). cond b (Some x.1) (finite.find nat_cmp z (zeros_of ps))) (unsigned_tied z x.0 ∙ no_key.0)) ∙ is))
    ]

-- EACH ZERO OBJECT that has a map is shown with it
pub shown-by : (spaces : Spaces) (z n : ℕ) → AreOrdered spaces → finite.get (zero_maps spaces) z ≡ Some n → IsShown spaces z n
shown-by spaces z n ordered is =
    let entries = flat_map zeros_of (finite.values spaces) in
    let t = λ (v : List (Part Segment)). is_number n (finite.find nat_cmp z (zeros_of v)) in
    let v = value_of_any t spaces (shown-space z n (finite.values spaces) (sym (finite.get-from_entries nat_cmp_total entries z) ∙ is)) in
    let r = shown-part z n 1 v.1 (ordered v.0 v.1 v.2) (number-is n (finite.find nat_cmp z (zeros_of v.1)) v.3) in
    record { process = v.0; page = r.part.first; spot = (r.part.piece, 0); here = ap (option_and_then (λ (ps : List (Part Segment)). piece_at ps r.part.first)) v.2 ∙ r.here; shows = r.shows }

-- AND EACH THAT IS SHOWN has one
some-append : (z : ℕ) (es fs : List (ℕ × ℕ)) → is_some (finite.find nat_cmp z (es ++ fs)) ≡ (is_some (finite.find nat_cmp z es) || is_some (finite.find nat_cmp z fs))
some-append z [] fs = refl
some-append z (e ∷ es) fs = by_key (is_eq (nat_cmp z e.0)) (some-append z es fs)
  where
    by_key : (b : Bool) → is_some (finite.find nat_cmp z (es ++ fs)) ≡ (is_some (finite.find nat_cmp z es) || is_some (finite.find nat_cmp z fs))
        → is_some (cond b (Some e.1) (finite.find nat_cmp z (es ++ fs))) ≡ (is_some (cond b (Some e.1) (finite.find nat_cmp z es)) || is_some (finite.find nat_cmp z fs))
    by_key true rest = refl
    by_key false rest = rest

some-in : (z : ℕ) (vs : List (List (Part Segment))) → list_any (λ v. is_some (finite.find nat_cmp z (zeros_of v))) vs ≡ true → is_some (finite.find nat_cmp z (flat_map zeros_of vs)) ≡ true
some-in z [] is = absurd (let k : false ≡ true = is in cc)
some-in z (v ∷ vs) is = some-append z (zeros_of v) (flat_map zeros_of vs) ∙ by_first (some-in z vs) (is_some (finite.find nat_cmp z (zeros_of v))) is
  where
    by_first : (list_any (λ v. is_some (finite.find nat_cmp z (zeros_of v))) vs ≡ true → is_some (finite.find nat_cmp z (flat_map zeros_of vs)) ≡ true) → (b : Bool) → (b || list_any (λ v. is_some (finite.find nat_cmp z (zeros_of v))) vs) ≡ true → (b || is_some (finite.find nat_cmp z (flat_map zeros_of vs))) ≡ true
    by_first rest true is = refl
    by_first rest false is = rest is

some-option : (z : ℕ) (o : Option (ℕ × ℕ)) (rest : List (ℕ × ℕ)) → is_some (finite.find nat_cmp z rest) ≡ true → is_some (finite.find nat_cmp z (cons_option o rest)) ≡ true
some-option z None rest is = is
some-option z (Some e) rest is = by_key (is_eq (nat_cmp z e.0))
  where
    by_key : (b : Bool) → is_some (cond b (Some e.1) (finite.find nat_cmp z rest)) ≡ true
    by_key true = refl
    by_key false = is

some-part : (z n k : ℕ) (ps : List (Part Segment)) (x : Spot) → piece_at ps k ≡ Some x → zero_map x.0 ≡ Some (z, n) → is_some (finite.find nat_cmp z (zeros_of ps)) ≡ true
some-part z n k [] x is shows = absurd (let y : None ≡ Some x = is in cc)
some-part z n k (p ∷ ps) x is shows = elim (cases_Bool (has p k)) [
  | inl here ↦
      let same : (p.piece, k - p.first) ≡ x = let y : Some (p.piece, k - p.first) ≡ Some x = sym (ap (λ (b : Bool). option_map (λ (r : Part Segment). (r.piece, k - r.first)) (cond b (Some p) (part_at ps k))) here) ∙ is in cc in
      ap (λ (o : Option (ℕ × ℕ)). is_some (finite.find nat_cmp z (cons_option o (zeros_of ps)))) (ap (λ (y : Spot). zero_map y.0) same ∙ shows)
      ∙ ap (λ (b : Bool). is_some (cond b (Some n) (finite.find nat_cmp z (zeros_of ps)))) (unsigned_tied z z ∙ eq-eqb z z refl)
  | inr past ↦
      some-option z (zero_map p.piece) (zeros_of ps) (some-part z n k ps x (sym (ap (λ (b : Bool). option_map (λ (r : Part Segment). (r.piece, k - r.first)) (cond b (Some p) (part_at ps k))) past) ∙ is) shows)
]

pub shown-some : (spaces : Spaces) (z n : ℕ) → IsShown spaces z n → IsSome (finite.get (zero_maps spaces) z)
shown-some spaces z n s = by_space (finite.get spaces s.process) refl s.here
  where
    by_space : (o : Option (List (Part Segment))) → finite.get spaces s.process ≡ o → option_and_then (λ (ps : List (Part Segment)). piece_at ps s.page) o ≡ Some s.spot → IsSome (finite.get (zero_maps spaces) z)
    by_space None e is = absurd (let y : None ≡ Some s.spot = is in cc)
    by_space (Some ps) e is =
        ap is_some (finite.get-from_entries nat_cmp_total (flat_map zeros_of (finite.values spaces)) z)
        ∙ some-in z (finite.values spaces) (any_value (λ v. is_some (finite.find nat_cmp z (zeros_of v))) spaces s.process ps e (some-part z n s.page ps s.spot is s.shows))

-- WHAT HOLDS of the segment of each page holds of each part
pub all-spots : (P : Segment → Type 0) (low : ℕ) (ps : List (Part Segment)) → IsInOrder low ps → ((k : ℕ) (x : Spot) → piece_at ps k ≡ Some x → P x.0) → All (λ (a : Part Segment). P a.piece) ps
all-spots P low [] order each = All-nil (λ (a : Part Segment). P a.piece)
all-spots P low (p ∷ ps) order each =
    All-cons (λ (a : Part Segment). P a.piece) p ps (each p.first (p.piece, 0) (first-spot p ps low order))
    (all-spots P (p.first + p.pages) ps order.1 (λ k x is. each k x (by_page k (cases_Bool (has p k)) x is)))
  where
    by_page : (k : ℕ) → (has p k ≡ true) ⊎ (has p k ≡ false) → (x : Spot) → piece_at ps k ≡ Some x → piece_at (p ∷ ps) k ≡ Some x
    by_page k (inr past) x is = ap (λ (b : Bool). option_map (λ (r : Part Segment). (r.piece, k - r.first)) (cond b (Some p) (part_at ps k))) past ∙ is
    by_page k (inl here) x is = absurd (let none = none-below (p.first + p.pages) ps k order.1 (has-within p k here).below in let y : None ≡ Some x = sym (ap (option_map (λ (r : Part Segment). (r.piece, k - r.first))) none) ∙ is in cc)

-- THE ZERO OBJECTS OF SPACES of which each that is shown has this map.
module _ (spaces : Spaces) (ordered : AreOrdered spaces) (Z : finite.FinMap nat_cmp ℕ) (within : (z n : ℕ) → IsShown spaces z n → finite.get Z z ≡ Some n) where
  pub within-maps : (z n : ℕ) → finite.get (zero_maps spaces) z ≡ Some n → finite.get Z z ≡ Some n
  within-maps z n is = within z n (shown-by spaces z n ordered is)

  pub shown-maps : (z n : ℕ) → IsShown spaces z n → finite.get (zero_maps spaces) z ≡ Some n
  shown-maps z n s = by_map (finite.get (zero_maps spaces) z) refl (shown-some spaces z n s)
    where
      by_map : (o : Option ℕ) → finite.get (zero_maps spaces) z ≡ o → IsSome o → finite.get (zero_maps spaces) z ≡ Some n
      by_map None e some = absurd (let k : false ≡ true = some in cc)
      by_map (Some k) e some = e ∙ ap (λ (o : Option ℕ). o) (sym (within-maps z k e) ∙ within z n s)

  pub all-shown : All (ShowsZero (zero_maps spaces)) (segments_of spaces)
  all-shown = all-segments (ShowsZero (zero_maps spaces)) spaces (λ q ps is. all-spots (ShowsZero (zero_maps spaces)) 1 ps (ordered q ps is) (λ k x here z n shows.
      shown-maps z n (record { process = q; page = k; spot = x; here = ap (option_and_then (λ (ps : List (Part Segment)). piece_at ps k)) is ∙ here; shows = shows })))

  pub apart-maps : ((y z n : ℕ) → finite.get Z y ≡ Some n → finite.get Z z ≡ Some n → y ≡ z) → (y z n : ℕ) → finite.get (zero_maps spaces) y ≡ Some n → finite.get (zero_maps spaces) z ≡ Some n → y ≡ z
  apart-maps apart y z n is there = apart y z n (within-maps y n is) (within-maps z n there)

  -- all of them are these, where each of these is shown
  pub maps-are : ((z n : ℕ) → finite.get Z z ≡ Some n → IsShown spaces z n) → zero_maps spaces ≡ Z
  maps-are shown = finite.same_map nat_cmp_total finite.nat_cmp-IsAntisymmetric (zero_maps spaces) Z (λ z. by_key z (finite.get Z z) refl)
    where
      by_key : (z : ℕ) (o : Option ℕ) → finite.get Z z ≡ o → finite.get (zero_maps spaces) z ≡ finite.get Z z
      by_key z (Some n) e = shown-maps z n (shown z n e) ∙ sym e
      by_key z None e = by_map (finite.get (zero_maps spaces) z) refl
        where
          by_map : (o : Option ℕ) → finite.get (zero_maps spaces) z ≡ o → finite.get (zero_maps spaces) z ≡ finite.get Z z
          by_map None d = d ∙ sym e
          by_map (Some n) d = absurd (let k : None ≡ Some n = sym e ∙ within-maps z n d in cc)

-- WHERE SEGMENTS FIT, each zero object that is shown has its map
pub fits-shown : (files : ℕ) (anon : AnonSlotsSeen) (maps : List (Option Map)) (spaces : Spaces) → SegmentsFit files anon maps spaces → (z n : ℕ) → IsShown spaces z n → finite.get (zero_maps spaces) z ≡ Some n
fits-shown files anon maps spaces fit z n s =
    let P = λ (a : Part Segment). ShowsZero (zero_maps spaces) a.piece in
    let o : IsSpotOf P s.page s.spot = spot-part P spaces s.process s.page s.spot fit.ordered (λ q ps is. segments-all (ShowsZero (zero_maps spaces)) spaces q ps fit.zeros is) s.here in
    o.fits z n (ap zero_map o.piece ∙ s.shows)

-- and its map is there
pub zero-shown : (maps : List (Option Map)) (files : ℕ) (s : Segment) (o : Object) (z : ℕ) → o ≡ object.Zero z → ObjectFits files maps s o → (n : ℕ) × (s.shown ≡ Some n) × IsMapThere maps n
zero-shown maps files s o z is fit = subst (λ (x : Object). ObjectFits files maps s x) is fit

pub zero_map-of : (s : Segment) (z n : ℕ) → s.object ≡ object.Zero z → s.shown ≡ Some n → zero_map s ≡ Some (z, n)
zero_map-of s z n is shown =
    ap (λ (o : Object). elim o as (λ x. Option (ℕ × ℕ)) [ object.Zero y ↦ option_map (λ (number : ℕ). (y, number)) s.shown | object.File f ↦ None | object.NewZero ↦ None ]) is
    ∙ ap (option_map (λ (number : ℕ). (z, number))) shown

pub zero-of-object : (o : Object) (z : ℕ) → (elim o as (λ x. Option ℕ) [ object.Zero y ↦ Some y | object.File f ↦ None | object.NewZero ↦ None ]) ≡ Some z → o ≡ object.Zero z
zero-of-object (object.Zero y) z is = ap (λ (k : ℕ). object.Zero k) (some-inj y z is)
zero-of-object (object.File f) z is = absurd (let k : None ≡ Some z = is in cc)
zero-of-object object.NewZero z is = absurd (let k : None ≡ Some z = is in cc)

module _ (m : Memory) (born : set.FinSet nat_cmp) (c : Contents) (fit : SegmentsFit (length m.world.files.files) m.world.anon m.world.maps m.spaces) where
  -- WHICH ZERO OBJECTS ARE NAMED in flat memory
  abbrev F : Flat
  F = flat_shaped (shape_of m) born c

  cell-shown : (z : ℕ) (p q : ℕ) (o : Option Spot) → spot_at m.spaces p q ≡ o → (d : Cell) → option_map (cell_of c.place) o ≡ Some d → zero_of d ≡ Some z → (n : ℕ) × IsShown m.spaces z n
  cell-shown z p q None e d is names = absurd (let k : None ≡ Some d = is in cc)
  cell-shown z p q (Some x) e d is names =
      let same : cell_of c.place x ≡ d = let k : Some (cell_of c.place x) ≡ Some d = is in some-inj (cell_of c.place x) d k in
      let object : x.0.object ≡ object.Zero z = zero-of-object x.0.object z (ap zero_of same ∙ names) in
      let s : IsSpotOf (SegmentFits (length m.world.files.files) m.world.maps) q x = spot-part (SegmentFits (length m.world.files.files) m.world.maps) m.spaces p q x fit.ordered fit.each e in
      let f = subst (λ (y : Segment). ObjectFits (length m.world.files.files) m.world.maps y y.object) s.piece s.fits.object in
      let n = zero-shown m.world.maps (length m.world.files.files) x.0 x.0.object z object f in
      (n.0, record { process = p; page = q; spot = x; here = e; shows = zero_map-of x.0 z n.0 object n.1 })

  named-shown : (z : ℕ) → is_named F z ≡ true → is_some (finite.get (zero_maps m.spaces) z) ≡ true
  named-shown z is =
      let n = named_zeros-to_cell F z is in
      let s = cell-shown z n.process n.page (spot_at m.spaces n.process n.page) refl n.cell (sym (cell-at c.place m.spaces n.process n.page) ∙ n.stands) n.names in
      shown-some m.spaces z s.0 s.1

  shown-named : (z : ℕ) → is_some (finite.get (zero_maps m.spaces) z) ≡ true → is_named F z ≡ true
  shown-named z is = by_map (finite.get (zero_maps m.spaces) z) refl is
    where
      by_map : (o : Option ℕ) → finite.get (zero_maps m.spaces) z ≡ o → is_some o ≡ true → is_named F z ≡ true
      by_map None e some = absurd (let k : false ≡ true = some in cc)
      by_map (Some n) e some =
          let s = shown-by m.spaces z n fit.ordered e in
          named_zeros-from_cell F s.process s.page z (cell_of c.place s.spot) (cell-at c.place m.spaces s.process s.page ∙ ap (option_map (cell_of c.place)) s.here)
          (ap (λ (o : Object). elim o as (λ x. Option ℕ) [ object.Zero y ↦ Some y | object.File f ↦ None | object.NewZero ↦ None ]) (zero-object s.spot.0.object s.spot.0.shown z n s.shows))

  pub named-is : (z : ℕ) → is_named F z ≡ is_some (finite.get (zero_maps m.spaces) z)
  named-is z = same_tests (is_named F z) (is_some (finite.get (zero_maps m.spaces) z)) (named-shown z) (shown-named z)

  -- THE ZERO OBJECTS of flat memory are those that are named, of any that have their pages.
  pub zeros-are : (Z : finite.FinMap nat_cmp (List Page)) → ((z n : ℕ) → finite.get (zero_maps m.spaces) z ≡ Some n → finite.get Z z ≡ Some (zero_pages c.place (shape_of m).lengths n)) → F.zeros ≡ finite.retain_keys Z (is_named F)
  zeros-are Z has_pages = finite.same_map nat_cmp_total finite.nat_cmp-IsAntisymmetric F.zeros (finite.retain_keys Z (is_named F)) (λ z.
      get-map_with (zero_pages c.place (shape_of m).lengths) (zero_maps m.spaces) z ∙ by_map z (finite.get (zero_maps m.spaces) z) refl
      ∙ ap (λ (b : Bool). cond b (finite.get Z z) None) (sym (named-is z)) ∙ sym (get-retain_keys Z (is_named F) z))
    where
      by_map : (z : ℕ) (o : Option ℕ) → finite.get (zero_maps m.spaces) z ≡ o → option_map (zero_pages c.place (shape_of m).lengths) o ≡ cond (is_some (finite.get (zero_maps m.spaces) z)) (finite.get Z z) None
      by_map z None e = ap (λ (o : Option ℕ). cond (is_some o) (finite.get Z z) None) (sym e)
      by_map z (Some n) e = sym (has_pages z n e) ∙ ap (λ (o : Option ℕ). cond (is_some o) (finite.get Z z) None) (sym e)
