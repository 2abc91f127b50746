-- How many parts show a zero object: in a range, and in all.
use Rattle.std.proofs.Common.{◌≡◌, ◌≢◌, ◌⊎◌, not, ℕ, ◌+◌, ◌-◌, ◌<◌, ◌≤◌, Bool, true, false, cond, List, [], ◌∷◌, length, Option, Some, None, refl, sym, ap, ◌∙◌, inl, inr, arith}
use Rattle.std.specs.Prelude.{option_and_then, nat_le, nat_lt, sum_by, All}
use Rattle.std.specs.FinMap as finite
use Rattle.std.proofs.lemmas.Bool.{cases_Bool, cases_eq, cases_lt, eq-eqb, and_from, and_parts, leb-true, le-leb, lt-leb, le-ltb, and_left, and_right, not-true}
use Rattle.std.proofs.lemmas.List.Elements.{All-head, All-tail}
use Rattle.std.proofs.lemmas.List.Sums.{sum_by-cons}
use Rattle.seg_vn.specs.vm_types.declared.call.Object.{Object}
use Rattle.seg_vn.specs.vm_types.declared.call.Object.TheVariants as object
use Rattle.seg_vn.specs.addr_space.Space.{Part, IsInOrder, has, piece_at, part_at}
use Rattle.seg_vn.proofs.addr_space.PageLaws.{shows}
use Rattle.seg_vn.proofs.addr_space.PartLemmas.{has-in, has-within, at-here, at-next, none-below}
use Rattle.seg_vn.specs.anon_map.Maps.{Map, holders_of}
use Rattle.seg_vn.specs.flat_model.Space.{is_in_range}
use Rattle.seg_vn.proofs.flat_model.Ranges.{in_range-is, get-remove_here, get-remove_apart}
use Rattle.seg_vn.proofs.flat_model.Reserve.{same_tests}
use Rattle.seg_vn.specs.vm_world.CountsFit.{SegmentFits, ShowsZero, ObjectFits, is_number, times_had}
use Rattle.seg_vn.specs.vm_world.FlatMemory.{Memory, zero_maps}
use Rattle.seg_vn.specs.vm_world.MemoryFits.{MemoryFits}
use Rattle.seg_vn.specs.vm_world.Segments.{Spot, Spaces, spot_at, zero_map}
use Rattle.seg_vn.specs.vm_world.declared.segment.Segment.{Segment}
use Rattle.seg_vn.proofs.vm_world.ComingParts.{own_had, shown_had, parts-split, own-unshown}
use Rattle.seg_vn.proofs.vm_world.GoneParts.{shown-of-zero}
use Rattle.seg_vn.proofs.vm_world.KeptMaps.{own-there, shown-there, all-both}
use Rattle.seg_vn.proofs.vm_world.Lists.{all-turn, sum-zero}
use Rattle.seg_vn.proofs.vm_world.Maps.{all-values}
use Rattle.seg_vn.proofs.vm_world.PartSums.{all_parts, sum-remove, sum-segments, sum-le, part-le, segments-all}
use Rattle.seg_vn.proofs.vm_world.Reserves.{zero-object}
use Rattle.seg_vn.proofs.vm_world.ShownZeros.{zero_map-of, number-is, is-the-number}
use Rattle.seg_vn.proofs.vm_world.Spots.{IsSpotOf, spot-in}
use Rattle.mmap_calls.specs.RangeCounts.{zero_in, lies_within, count_within, shown_within}

-- A page outside of a range of a process shows the zero object, with this map.
pub record IsShownOutside (spaces : Spaces) (p first n z number : ℕ) : Type 0 where
  pub process : ℕ
  pub page : ℕ
  pub spot : Spot
  pub here : spot_at spaces process page ≡ Some spot
  pub shows : zero_map spot.0 ≡ Some (z, number)
  pub outside : process ≡ p → is_in_range first n page ≡ false

-- no parts add up to anything
none-in-all : (g : Part Segment → ℕ) (spaces : Spaces) → ((q : ℕ) (ps : List (Part Segment)) → finite.get spaces q ≡ Some ps → sum_by g ps ≡ 0) → all_parts g spaces ≡ 0
none-in-all g spaces each = sum-zero (λ (ps : List (Part Segment)). sum_by g ps) (finite.values spaces) (all-values (λ (ps : List (Part Segment)). sum_by g ps ≡ 0) spaces each)

not-is : (n : ℕ) (o : Option ℕ) → o ≢ Some n → is_number n o ≡ false
not-is n o ne = elim (cases_Bool (is_number n o)) [ inl t ↦ absurd (ne (number-is n o t)) | inr f ↦ f ]

pub zero-of-in : (o : Object) (z : ℕ) → zero_in o ≡ Some z → o ≡ object.Zero z
zero-of-in (object.Zero y) z is = let same : y ≡ z = let k : Some y ≡ Some z = is in cc in ap (λ (n : ℕ). object.Zero n) same
zero-of-in (object.File f) z is = absurd (let k : None ≡ Some z = is in cc)
zero-of-in object.NewZero z is = absurd (let k : None ≡ Some z = is in cc)

pub zero-has-map : (maps : List (Option Map)) (files : ℕ) (s : Segment) (o : Object) (z : ℕ) → o ≡ object.Zero z → ObjectFits files maps s o → (n : ℕ) × (s.shown ≡ Some n)
zero-has-map maps files s (object.Zero y) z is fit = (fit.0, fit.1)
zero-has-map maps files s (object.File f) z is fit = absurd (let k = is in cc)
zero-has-map maps files s object.NewZero z is fit = absurd (let k = is in cc)

-- What a part has to do with the zero object and its map.
record Fits (z number : ℕ) (a : Part Segment) : Type 0 where
  same : is_number z (zero_in a.piece.object) ≡ is_number number a.piece.shown
  map : a.piece.shown ≡ Some number → zero_map a.piece ≡ Some (z, number)
  own : own_had number a ≡ 0

-- a part is not in a test, but shows the map
abbrev beside : (Part Segment → Bool) → ℕ → Part Segment → ℕ
beside t number a = cond (t a) 0 (shown_had number a)

beside-split : (z number first end : ℕ) (ps : List (Part Segment)) → All (Fits z number) ps → sum_by (shown_had number) ps ≡ shown_within ps first end z + sum_by (beside (lies_within first end) number) ps
beside-split z number first end [] all = refl
beside-split z number first end (a ∷ ps) all =
    let fit = All-head (Fits z number) a ps all in
    let more = beside-split z number first end ps (All-tail (Fits z number) a ps all) in
    let x = sum_by-cons (shown_had number) a ps in
    let y = sum_by-cons (count_within first end z) a ps in
    let w = sum_by-cons (beside (lies_within first end) number) a ps in
    let one = either (lies_within first end a) (is_number z (zero_in a.piece.object)) (is_number number a.piece.shown) fit.same in
    omega (arith, more, x, y, w, one)
  where
    either : (t b c : Bool) → b ≡ c → cond {A = ℕ} c 1 0 ≡ cond t (cond {A = ℕ} b 1 0) 0 + cond t 0 (cond {A = ℕ} c 1 0)
    either true b c same = let e = ap (λ (x : Bool). cond {A = ℕ} x 1 0) same in omega (arith, e)
    either false b c same = omega arith

-- A page of a part that isn't in the test is out.
record Page (a : Part Segment) (out : ℕ → Bool) : Type 0 where
  page : ℕ
  low : a.first ≤ page
  high : page < a.first + a.pages
  past : out page ≡ true

-- where no page that is out shows the object, no part beside the test does
none-beside : (z number : ℕ) (t : Part Segment → Bool) (out : ℕ → Bool) → ((a : Part Segment) → 0 < a.pages → t a ≡ false → Page a out) → (low : ℕ) (ps : List (Part Segment)) → IsInOrder low ps → All (Fits z number) ps
    → ((k : ℕ) (x : Spot) → piece_at ps k ≡ Some x → zero_map x.0 ≡ Some (z, number) → out k ≡ true → ⊥) → sum_by (beside t number) ps ≡ 0
none-beside z number t out miss low [] order all none = refl
none-beside z number t out miss low (a ∷ ps) order all none =
    let step = sum_by-cons (beside t number) a ps in
    let more = none-beside z number t out miss (a.first + a.pages) ps order.1 (All-tail (Fits z number) a ps all) (λ k x is. none k x (later k x is)) in
    let here : beside t number a ≡ 0 = here-none (t a) refl (is_number number a.piece.shown) refl in
    omega (arith, step, more, here)
  where
    later : (k : ℕ) (x : Spot) → piece_at ps k ≡ Some x → piece_at (a ∷ ps) k ≡ Some x
    later k x is = elim (cases_Bool (has a k)) [
      | inr past ↦ shows (a ∷ ps) k (part_at ps k) (at-next a ps k past) ∙ is
      | inl here ↦ absurd (let none = none-below (a.first + a.pages) ps k order.1 (has-within a k here).below in let y : None ≡ Some x = sym (shows ps k None none) ∙ is in cc)
    ]

    here-none : (b : Bool) → t a ≡ b → (c : Bool) → is_number number a.piece.shown ≡ c → cond b 0 (cond {A = ℕ} c 1 0) ≡ 0
    here-none true e c d = refl
    here-none false e false d = refl
    here-none false e true d =
        let m = miss a order.0.some e in
        let fit = All-head (Fits z number) a ps all in
        absurd (none m.page (a.piece, m.page - a.first) (shows (a ∷ ps) m.page (Some a) (at-here a ps m.page (has-in a m.page m.low m.high))) (fit.map (number-is number a.piece.shown d)) m.past)

-- a part that doesn't lie in a range has a page outside
miss-range : (first n : ℕ) (a : Part Segment) → 0 < a.pages → lies_within first (first + n) a ≡ false → Page a (λ k. not (is_in_range first n k))
miss-range first n a some apart = elim (cases_lt a.first first) [
  | inl before ↦ record { page = a.first; low = omega arith; high = omega (arith, some); past = ap not (and_left (nat_le first a.first) (nat_lt a.first (first + n)) (lt-leb first a.first before)) }
  | inr inside ↦ elim (cases_lt (first + n) (a.first + a.pages)) [
    | inl past ↦ record {
      page = a.first + a.pages - 1;
      low = omega (arith, some);
      high = omega (arith, some);
      past = elim (cases_lt (a.first + a.pages - 1) first) [
        | inl under ↦ ap not (and_left (nat_le first (a.first + a.pages - 1)) (nat_lt (a.first + a.pages - 1) (first + n)) (lt-leb first (a.first + a.pages - 1) under))
        | inr over ↦ ap not (and_right (nat_le first (a.first + a.pages - 1)) (nat_lt (a.first + a.pages - 1) (first + n)) (le-ltb (a.first + a.pages - 1) (first + n) (omega (arith, past, over, inside))))
      ];
    }
    | inr short ↦ absurd (let z : true ≡ false = sym (and_from (nat_le first a.first) (nat_le (a.first + a.pages) (first + n)) (le-leb first a.first inside) (le-leb (a.first + a.pages) (first + n) short)) ∙ apart in cc)
  ]
]

-- a part of a page outside doesn't lie in the range
outside-part : (first n q : ℕ) (a : Part Segment) → a.first ≤ q → q < a.first + a.pages → is_in_range first n q ≡ false → lies_within first (first + n) a ≡ false
outside-part first n q a low high out = elim (cases_Bool (lies_within first (first + n) a)) [
  | inr f ↦ f
  | inl t ↦ absurd (
      let parts = and_parts (nat_le first a.first) (nat_le (a.first + a.pages) (first + n)) t in
      let from = leb-true first a.first parts.0 in
      let to = leb-true (a.first + a.pages) (first + n) parts.1 in
      let z : true ≡ false = sym (in_range-is first n q (omega (arith, from, low)) (omega (arith, to, high))) ∙ out in
      cc)
]

module _ (m : Memory) (fits : MemoryFits m) (p : ℕ) (parts : List (Part Segment)) (here : finite.get m.spaces p ≡ Some parts) (first n z number : ℕ) (is : finite.get (zero_maps m.spaces) z ≡ Some number) where
  fit-of : (a : Part Segment) → (SegmentFits (length m.world.files.files) m.world.maps a) × (ShowsZero (zero_maps m.spaces) a.piece × ((z n : ℕ) → a.piece.own ≡ Some n → holders_of m.world.maps n ≡ 1 → finite.get (zero_maps m.spaces) z ≡ Some n → ⊥)) → Fits z number a
  fit-of a h = record { same = same_tests (is_number z (zero_in a.piece.object)) (is_number number a.piece.shown) to from; map = map_is; own = ap (λ (b : Bool). cond {A = ℕ} b 1 0) (not-is number a.piece.own own_is) }
    where
      map_is : a.piece.shown ≡ Some number → zero_map a.piece ≡ Some (z, number)
      map_is e =
          let there = shown-there (length m.world.files.files) m.world.maps a.piece a.piece.object number h.0.object e in
          let map = zero_map-of a.piece there.1.0 number there.1.1 e in
          let same : there.1.0 ≡ z = fits.segments.apart there.1.0 z number (h.1.0 there.1.0 number map) is in
          map ∙ ap (λ (y : ℕ). Some (y, number)) same

      to : is_number z (zero_in a.piece.object) ≡ true → is_number number a.piece.shown ≡ true
      to e =
          let o = zero-of-in a.piece.object z (number-is z (zero_in a.piece.object) e) in
          let n = zero-has-map m.world.maps (length m.world.files.files) a.piece a.piece.object z o h.0.object in
          let map = zero_map-of a.piece z n.0 o n.1 in
          let same : n.0 ≡ number = let k : Some n.0 ≡ Some number = sym (h.1.0 z n.0 map) ∙ is in cc in
          is-the-number number a.piece.shown (n.1 ∙ ap (λ (k : ℕ). Some k) same)

      from : is_number number a.piece.shown ≡ true → is_number z (zero_in a.piece.object) ≡ true
      from e = ap (λ (o : Object). is_number z (zero_in o)) (zero-object a.piece.object a.piece.shown z number (map_is (number-is number a.piece.shown e))) ∙ eq-eqb z z refl

      own_is : a.piece.own ≢ Some number
      own_is own =
          let there = own-there m.world.maps a.piece a.piece.kind number h.0.own own in
          h.1.1 z number own there.1 is

  all-fit : (q : ℕ) (ps : List (Part Segment)) → finite.get m.spaces q ≡ Some ps → All (Fits z number) ps
  all-fit q ps there =
      let A = SegmentFits (length m.world.files.files) m.world.maps in
      let B = λ (a : Part Segment). ShowsZero (zero_maps m.spaces) a.piece in
      let C = λ (a : Part Segment). (z n : ℕ) → a.piece.own ≡ Some n → holders_of m.world.maps n ≡ 1 → finite.get (zero_maps m.spaces) z ≡ Some n → ⊥ in
      all-turn (λ (a : Part Segment). A a × (B a × C a)) (Fits z number) ps fit-of
      (all-both A (λ (a : Part Segment). B a × C a) ps (fits.segments.each q ps there) (all-both B C ps (segments-all (ShowsZero (zero_maps m.spaces)) m.spaces q ps fits.segments.zeros there) (own-unshown m fits q ps there)))

  rest : Spaces
  rest = finite.remove m.spaces p

  -- the holders are the parts that show it: in the range, beside it, and of other processes
  counted : holders_of m.world.maps number ≡ shown_within parts first (first + n) z + sum_by (beside (lies_within first (first + n)) number) parts + all_parts (shown_had number) (finite.remove m.spaces p)
  counted =
      let all = fits.segments.holders number in
      let sum = sum-segments (times_had number) m.spaces in
      let split = parts-split number m.spaces in
      let own = none-in-all (own_had number) m.spaces (λ q ps there. sum-zero (own_had number) ps (all-turn (Fits z number) (λ (a : Part Segment). own_had number a ≡ 0) ps (λ a fit. fit.own) (all-fit q ps there))) in
      let mine = sum-remove (shown_had number) m.spaces p parts here in
      let cut = beside-split z number first (first + n) parts (all-fit p parts here) in
      omega (arith, all, sum, split, own, mine, cut)

  -- A ZERO OBJECT THAT IS SHOWN OUTSIDE has more holders than parts in the range
  pub outside-more : IsShownOutside m.spaces p first n z number → shown_within parts first (first + n) z < holders_of m.world.maps number
  outside-more s = by_space (finite.get m.spaces s.process) refl s.here
    where
      shown-one : (a : Part Segment) → a.piece ≡ s.spot.0 → shown_had number a ≡ 1
      shown-one a same = ap (λ (b : Bool). cond {A = ℕ} b 1 0) (is-the-number number a.piece.shown (ap (λ (t : Segment). t.shown) same ∙ shown-of-zero s.spot.0 z number s.shows))

      by_space : (o : Option (List (Part Segment))) → finite.get m.spaces s.process ≡ o → option_and_then (λ (ps : List (Part Segment)). piece_at ps s.page) o ≡ Some s.spot → shown_within parts first (first + n) z < holders_of m.world.maps number
      by_space None e at = absurd (let k : None ≡ Some s.spot = at in cc)
      by_space (Some ps) e at = elim (cases_eq s.process p) [
        | inl same ↦
            let these : ps ≡ parts = let k : Some ps ≡ Some parts = sym e ∙ ap (finite.get m.spaces) same ∙ here in cc in
            let g = beside (lies_within first (first + n)) number in
            let o : IsSpotOf (λ (a : Part Segment). g a ≤ sum_by g parts) s.page s.spot = spot-in (λ (a : Part Segment). g a ≤ sum_by g parts) 1 parts s.page s.spot (omega arith) (fits.segments.ordered p parts here) (sum-le g parts) (ap (λ (ps : List (Part Segment)). piece_at ps s.page) (sym these) ∙ at) in
            let one = shown-one o.part o.piece in
            let out = ap (λ (b : Bool). cond b 0 (shown_had number o.part)) (outside-part first n s.page o.part o.low o.high (s.outside same)) in
            let le = o.fits in
            let c = counted in
            omega (arith, one, out, le, c)
        | inr apart ↦
            let g = shown_had number in
            let there : finite.get (finite.remove m.spaces p) s.process ≡ Some ps = get-remove_apart m.spaces p s.process apart ∙ e in
            let P = λ (a : Part Segment). g a ≤ all_parts g (finite.remove m.spaces p) in
            let o : IsSpotOf P s.page s.spot = spot-in P 1 ps s.page s.spot (omega arith) (fits.segments.ordered s.process ps e) (part-le g (finite.remove m.spaces p) s.process ps there) at in
            let one = shown-one o.part o.piece in
            let le = o.fits in
            let c = counted in
            omega (arith, one, le, c)
      ]

  -- ONE THAT ISN'T has no more
  pub outside-none : (IsShownOutside m.spaces p first n z number → ⊥) → shown_within parts first (first + n) z ≡ holders_of m.world.maps number
  outside-none none =
      let mine = none-beside z number (lies_within first (first + n)) (λ k. not (is_in_range first n k)) (miss-range first n) 1 parts (fits.segments.ordered p parts here) (all-fit p parts here)
      (λ k x at shows out. none (record { process = p; page = k; spot = x; here = ap (option_and_then (λ (ps : List (Part Segment)). piece_at ps k)) here ∙ at; shows = shows; outside = λ same. not-true (is_in_range first n k) out })) in
      let others = none-in-all (shown_had number) (finite.remove m.spaces p) (λ q ps there. other q ps there (cases_eq q p)) in
      let c = counted in
      omega (arith, mine, others, c)
    where
      other : (q : ℕ) (ps : List (Part Segment)) → finite.get (finite.remove m.spaces p) q ≡ Some ps → (q ≡ p) ⊎ (q ≢ p) → sum_by (shown_had number) ps ≡ 0
      other q ps there (inl same) = absurd (let k : None ≡ Some ps = sym (get-remove_here m.spaces p) ∙ ap (finite.get (finite.remove m.spaces p)) (sym same) ∙ there in cc)
      other q ps there (inr apart) =
          let at : finite.get m.spaces q ≡ Some ps = sym (get-remove_apart m.spaces p q apart) ∙ there in
          none-beside z number (λ _. false) (λ _. true) (λ a some e. record { page = a.first; low = omega arith; high = omega (arith, some); past = refl }) 1 ps (fits.segments.ordered q ps at) (all-fit q ps at)
          (λ k x found shows out. none (record { process = q; page = k; spot = x; here = ap (option_and_then (λ (ps : List (Part Segment)). piece_at ps k)) at ∙ found; shows = shows; outside = λ same. absurd (apart same) }))
