-- A PART GOES, none of whose pages has a translation, with the anon maps that it was the last holder of.
use Rattle.flat_model.proofs.WellFormed.{IsFlat-with_space as flat-with_space, IsFlat-without_unnamed as flat-unnamed, without_stand as stand-without}
use Rattle.std.proofs.Common.{◌≡◌, ◌≢◌, ℕ, ◌+◌, ◌-◌, ◌<◌, ◌≤◌, Bool, true, false, cond, List, [], length, Option, Some, None, refl, sym, ap, ◌∙◌, ◌⊎◌, inl, inr, subst, arith}
use Rattle.std.specs.Prelude.{◌==◌, sum_by, count_by, option_map, option_and_then, is_some, IsSome, All, unwrap_or}
use Rattle.std.specs.Ordering.{nat_cmp}
use Rattle.std.specs.Cmp.{nat_cmp_total}
use Rattle.std.specs.FinMap as finite
use Rattle.std.specs.FinSet as set
use Rattle.std.proofs.lemmas.Bool.{cases_Bool, cases_eq, eqb-true}
use Rattle.flat_model.specs.vm_types.declared.call.Kind.{Kind}
use Rattle.flat_model.specs.vm_types.declared.call.Kind.TheVariants.{Shared, Private}
use Rattle.flat_model.specs.vm_types.declared.call.Object.{Object}
use Rattle.flat_model.specs.vm_types.declared.call.Object.TheVariants as object
use Rattle.addr_space.specs.Space.{Part, IsInOrder, piece_at, has, begins, without_part}
use Rattle.addr_space.proofs.PartLemmas.{has-within, at-without_part, ordered-without_part}
use Rattle.addr_space.proofs.PartLists.{all-without_part, all-begins, begins-found, at-found}
use Rattle.anon_map.specs.Maps.{Map, anon_map_at, IsMapThere, AreEmpty, places_of, holders_of}
use Rattle.hat_layer.specs.Pool as pool
use Rattle.page_store.specs.page_hash.declared.PageName.{PageName}
use Rattle.page_store.specs.Notes.{Notes}
use Rattle.flat_model.specs.Access.{with_space}
use Rattle.flat_model.specs.Flat.{Cell, Space, Flat, IsFlat}
use Rattle.flat_model.specs.Mapping.{cells_of, without_pages}
use Rattle.flat_model.specs.Space.{without_range}
use Rattle.flat_model.specs.Words.{Page}
use Rattle.flat_model.proofs.Ranges.{get-insert_here, get-insert_apart, get-remove_here, get-remove_apart, get-without_range, insert_same}
use Rattle.flat_model.proofs.Sums.{total, total-remove}
use Rattle.vm_world.specs.CountsFit.{CountsFit, SegmentFits, SegmentsFit, ObjectFits, OwnFits, ShowsZero, places_in, times_held, times_had, is_number, slots_for_part}
use Rattle.vm_world.specs.FlatMemory.{Memory, flat_memory, cell_of, zero_maps, zero_pages}
use Rattle.vm_world.specs.MapSteps.{maps_released, places_released}
use Rattle.vm_world.specs.MemoryFits.{MemoryFits}
use Rattle.vm_world.specs.Pages.{place_contents, page_value, contents_of}
use Rattle.vm_world.specs.SegmentSteps.{places_left, with_part_gone, MayLeave, ChangesSegments}
use Rattle.vm_world.specs.Segments.{Segment, Spot, Spaces, segments_of, spot_at, zero_map}
use Rattle.vm_world.specs.SpaceSteps.{Becomes}
use Rattle.vm_world.proofs.FlatSpaces.{Standing}
use Rattle.vm_world.proofs.KeptMaps.{KeepsMaps, Touches, same-places, same-holders, same-there, kept-fits, kept-cell, others-keep, own-there, shown-there, shown-counts, all-both, all-every, slot-in-same}
use Rattle.vm_world.proofs.Lists.{all-turn, sum-zero}
use Rattle.vm_world.proofs.Loaded.{loaded-at}
use Rattle.vm_world.proofs.MapChanges.{released-else, released-held, released-sum, freed-none, freed-length, released-holders, count-empty}
use Rattle.vm_world.proofs.Maps.{get-map_with, all-values}
use Rattle.vm_world.proofs.PartSums.{all_parts, sum-without_part, sum-insert, sum-segments, part-le, segments-all}
use Rattle.vm_world.proofs.Reserves.{total-same}
use Rattle.vm_world.proofs.SegmentChange.{counts-change, change-memory, segments-change, spaces-change, shows-kept}
use Rattle.vm_world.proofs.ShownZeros.{IsShown, shown-by, shown-some, fits-shown, all-spots, zero_map-of, number-is, is-the-number}
use Rattle.vm_world.proofs.Spots.{IsSpotOf, spot-part}
use Rattle.vm_world.proofs.SweptFlat.{space-is, cells-are, cell-is, zero-pages-same, cells-stand, swept-flat}

abbrev had : ℕ → Part Segment → ℕ
had n a = times_had n a.piece

-- what a segment that shows a zero object has
zero-of-map : (s : Segment) (o : Object) (z n : ℕ) → (elim o as (λ x. Option (ℕ × ℕ)) [ object.Zero y ↦ option_map (λ (number : ℕ). (y, number)) s.shown | object.File f ↦ None | object.NewZero ↦ None ]) ≡ Some (z, n) → s.shown ≡ Some n
zero-of-map s (object.Zero y) z n is = by_shown s.shown is
  where
    by_shown : (o : Option ℕ) → ◌≡◌ {A = Option (ℕ × ℕ)} (option_map (λ (number : ℕ). (y, number)) o) (Some (z, n)) → o ≡ Some n
    by_shown None e = absurd (let k : None ≡ Some (z, n) = e in cc)
    by_shown (Some k) e = let d : Some (y, k) ≡ Some (z, n) = e in let c : (y, k) ≡ (z, n) = cc in ap (λ (t : ℕ × ℕ). Some t.1) c
zero-of-map s (object.File f) z n is = absurd (let k : None ≡ Some (z, n) = is in cc)
zero-of-map s object.NewZero z n is = absurd (let k : None ≡ Some (z, n) = is in cc)

pub shown-of-zero : (s : Segment) (z n : ℕ) → zero_map s ≡ Some (z, n) → s.shown ≡ Some n
shown-of-zero s z n is = zero-of-map s s.object z n is

-- the zero object that a part shows has its map
pub part-zero : (spaces : Spaces) (p : ℕ) (parts : List (Part Segment)) (x : Part Segment) → All (ShowsZero (zero_maps spaces)) (segments_of spaces) → finite.get spaces p ≡ Some parts → begins parts x.first ≡ Some x
    → (z n : ℕ) → x.piece.object ≡ object.Zero z → x.piece.shown ≡ Some n → finite.get (zero_maps spaces) z ≡ Some n
part-zero spaces p parts x each is found z n object shown =
    all-begins (λ (a : Part Segment). ShowsZero (zero_maps spaces) a.piece) parts x.first x (segments-all (ShowsZero (zero_maps spaces)) spaces p parts each is) found z n (zero_map-of x.piece z n object shown)

module _ (m : Memory) (p : ℕ) (parts : List (Part Segment)) (x : Part Segment) (fits : MemoryFits m) (is : finite.get m.spaces p ≡ Some parts) (found : begins parts x.first ≡ Some x) (may : MayLeave m p x) where
  abbrev maps : List (Option Map)
  maps = m.world.maps

  abbrev mid : List (Option Map)
  mid = maps_released maps x.piece.own

  abbrev put : List (Option Map)
  put = maps_released mid x.piece.shown

  abbrev new : List (Part Segment)
  new = without_part x.first parts

  abbrev after : Spaces
  after = finite.insert m.spaces p new

  abbrev files : ℕ
  files = length m.world.files.files

  -- THE PART that goes
  fit-x : SegmentFits files maps x
  fit-x = all-begins (SegmentFits files maps) parts x.first x (fits.segments.each p parts is) found

  has-all : (n : ℕ) → all_parts (had n) m.spaces ≡ holders_of maps n
  has-all n = sym (sum-segments (times_had n) m.spaces) ∙ sym (fits.segments.holders n)

  beside : (n : ℕ) → all_parts (had n) after + times_had n x.piece ≡ holders_of maps n
  beside n =
      let a = sum-insert (had n) m.spaces p parts new is in
      let b = sum-without_part (had n) parts x.first x found in
      let c = has-all n in
      omega (arith, a, b, c)

  own-x : (n : ℕ) → x.piece.own ≡ Some n → IsMapThere maps n × (holders_of maps n ≡ 1) × (length (places_of maps n) ≡ x.piece.pages) × (x.piece.kind ≡ Private)
  own-x n its = own-there maps x.piece x.piece.kind n fit-x.own its

  shown-x : (n : ℕ) → x.piece.shown ≡ Some n → IsMapThere maps n × ((z : ℕ) × (x.piece.object ≡ object.Zero z))
  shown-x n its = shown-there files maps x.piece x.piece.object n fit-x.object its

  twice : (n : ℕ) → x.piece.own ≡ Some n → x.piece.shown ≡ Some n → 2 ≤ times_had n x.piece
  twice n own shown =
      let a = ap (λ (b : Bool). cond {A = ℕ} b 1 0) (is-the-number n x.piece.own own) in
      let b = ap (λ (b : Bool). cond {A = ℕ} b 1 0) (is-the-number n x.piece.shown shown) in
      omega (arith, a, b)

  apart-x : (n : ℕ) → x.piece.shown ≡ Some n → x.piece.own ≢ Some n
  apart-x n shown own =
      let two = twice n own shown in
      let all = beside n in
      let once = (own-x n own).1 in
      omega (arith, two, all, once)

  pub mid-there : (n : ℕ) → x.piece.shown ≡ Some n → anon_map_at mid n ≡ anon_map_at maps n
  mid-there n its = released-else maps x.piece.own n (apart-x n its)

  -- THE OTHERS keep their maps
  touches : Touches maps put x.piece.own x.piece.shown
  touches = record {
    else = λ n there own shown. released-else mid x.piece.shown n shown ∙ released-else maps x.piece.own n own;
    held = λ n there own shown more.
        let same = mid-there n shown in
        let left = ap (λ (o : Option ℕ). anon_map_at (maps_released mid o) n) shown ∙ released-held mid n (same-there maps mid n same there) (let h = same-holders maps mid n same in omega (arith, h, more)) in
        (subst (λ (o : Option Map). IsSome o) (sym left) refl, ap (λ (o : Option Map). (unwrap_or o (record { places = []; holders = 0 })).places) left ∙ same-places maps mid n same);
  }

  ordered-after : (q : ℕ) (ps : List (Part Segment)) → finite.get after q ≡ Some ps → IsInOrder 1 ps
  ordered-after q ps there = elim (cases_eq q p) [
    | inl same ↦ subst (IsInOrder 1) (let z : Some new ≡ Some ps = sym (get-insert_here m.spaces p new) ∙ ap (finite.get after) (sym same) ∙ there in let e : new ≡ ps = cc in e) (ordered-without_part 1 x.first parts (fits.segments.ordered p parts is))
    | inr ne ↦ fits.segments.ordered q ps (sym (get-insert_apart m.spaces p new q ne) ∙ there)
  ]

  fit-after : (q : ℕ) (ps : List (Part Segment)) → finite.get after q ≡ Some ps → All (SegmentFits files maps) ps
  fit-after q ps there = elim (cases_eq q p) [
    | inl same ↦ subst (All (SegmentFits files maps)) (let z : Some new ≡ Some ps = sym (get-insert_here m.spaces p new) ∙ ap (finite.get after) (sym same) ∙ there in let e : new ≡ ps = cc in e) (all-without_part (SegmentFits files maps) x.first parts (fits.segments.each p parts is))
    | inr ne ↦ fits.segments.each q ps (sym (get-insert_apart m.spaces p new q ne) ∙ there)
  ]

  few : (q : ℕ) (ps : List (Part Segment)) → finite.get after q ≡ Some ps → All (λ (a : Part Segment). (n : ℕ) → times_had n a.piece + times_had n x.piece ≤ holders_of maps n) ps
  few q ps there = all-every (λ (n : ℕ) (a : Part Segment). times_had n a.piece + times_had n x.piece ≤ holders_of maps n) ps (λ n.
      all-turn (λ (a : Part Segment). times_had n a.piece ≤ all_parts (had n) after) (λ (a : Part Segment). times_had n a.piece + times_had n x.piece ≤ holders_of maps n) ps (λ a le. let b = beside n in omega (arith, le, b)) (part-le (had n) after q ps there))

  keeps : (q : ℕ) (ps : List (Part Segment)) → finite.get after q ≡ Some ps → All (λ (a : Part Segment). KeepsMaps maps put a.piece) ps
  keeps q ps there = all-turn (λ (a : Part Segment). SegmentFits files maps a × ((n : ℕ) → times_had n a.piece + times_had n x.piece ≤ holders_of maps n)) (λ (a : Part Segment). KeepsMaps maps put a.piece) ps
      (λ a both. others-keep files maps put x.piece a touches both.0 both.1 (λ n its. (own-x n its).1))
      (all-both (SegmentFits files maps) (λ (a : Part Segment). (n : ℕ) → times_had n a.piece + times_had n x.piece ≤ holders_of maps n) ps (fit-after q ps there) (few q ps there))

  here : finite.get after p ≡ Some new
  here = get-insert_here m.spaces p new

  apart : (q : ℕ) (ps : List (Part Segment)) → q ≢ p → finite.get m.spaces q ≡ Some ps → finite.get after q ≡ Some ps
  apart q ps ne there = get-insert_apart m.spaces p new q ne ∙ there

  -- WHAT EACH PAGE shows
  gone : (k : ℕ) → piece_at new k ≡ cond (has x k) None (piece_at parts k)
  gone k = at-without_part 1 x.first parts x (fits.segments.ordered p parts is) found k

  spot-before : (q k : ℕ) (y : Spot) → spot_at after q k ≡ Some y → spot_at m.spaces q k ≡ Some y
  spot-before q k y there = elim (cases_eq q p) [
    | inl same ↦
        let a : piece_at new k ≡ Some y = sym (ap (option_and_then (λ (ps : List (Part Segment)). piece_at ps k)) here) ∙ ap (λ (j : ℕ). spot_at after j k) (sym same) ∙ there in
        ap (λ (j : ℕ). spot_at m.spaces j k) same ∙ ap (option_and_then (λ (ps : List (Part Segment)). piece_at ps k)) is ∙ out (has x k) (piece_at parts k) (sym (gone k) ∙ a)
    | inr ne ↦ sym (ap (option_and_then (λ (ps : List (Part Segment)). piece_at ps k)) (get-insert_apart m.spaces p new q ne)) ∙ there
  ]
    where
      out : (b : Bool) (o : Option Spot) → cond b None o ≡ Some y → o ≡ Some y
      out true o e = absurd (let z : None ≡ Some y = e in cc)
      out false o e = e

  -- a page that isn't the part's shows what it showed
  spot-after : (q k : ℕ) (y : Spot) → spot_at m.spaces q k ≡ Some y → (q ≡ p → has x k ≡ false) → spot_at after q k ≡ Some y
  spot-after q k y there not = elim (cases_eq q p) [
    | inl same ↦
        let a : piece_at parts k ≡ Some y = sym (ap (option_and_then (λ (ps : List (Part Segment)). piece_at ps k)) is) ∙ ap (λ (j : ℕ). spot_at m.spaces j k) (sym same) ∙ there in
        ap (λ (j : ℕ). spot_at after j k) same ∙ ap (option_and_then (λ (ps : List (Part Segment)). piece_at ps k)) here ∙ gone k ∙ ap (λ (b : Bool). cond b None (piece_at parts k)) (not same) ∙ a
    | inr ne ↦ ap (option_and_then (λ (ps : List (Part Segment)). piece_at ps k)) (get-insert_apart m.spaces p new q ne) ∙ there
  ]

  spot-keeps : (q k : ℕ) (y : Spot) → spot_at after q k ≡ Some y → KeepsMaps maps put y.0
  spot-keeps q k y there =
      let s : IsSpotOf (λ (a : Part Segment). KeepsMaps maps put a.piece) k y = spot-part (λ (a : Part Segment). KeepsMaps maps put a.piece) after q k y ordered-after keeps there in
      subst (KeepsMaps maps put) s.piece s.fits

  spot-few : (q k : ℕ) (y : Spot) → spot_at after q k ≡ Some y → (n : ℕ) → times_had n y.0 + times_had n x.piece ≤ holders_of maps n
  spot-few q k y there n =
      let P = λ (a : Part Segment). (n : ℕ) → times_had n a.piece + times_had n x.piece ≤ holders_of maps n in
      let s : IsSpotOf P k y = spot-part P after q k y ordered-after few there in
      subst (λ (z : Segment). times_had n z + times_had n x.piece ≤ holders_of maps n) s.piece (s.fits n)

  -- THE ZERO OBJECTS that are shown still
  within : (z n : ℕ) → IsShown after z n → finite.get (zero_maps m.spaces) z ≡ Some n
  within z n s = fits-shown files m.world.anon maps m.spaces fits.segments z n (record { process = s.process; page = s.page; spot = s.spot; here = spot-before s.process s.page s.spot s.here; shows = s.shows })

  abbrev old_zeros : finite.FinMap nat_cmp ℕ
  old_zeros = zero_maps m.spaces

  -- with its last holder a map is shown by none
  unshown : (z n : ℕ) → x.piece.shown ≡ Some n → holders_of maps n ≡ 1 → IsShown after z n → ⊥
  unshown z n its one s =
      let mine = shown-counts n x.piece its in
      let more = shown-counts n s.spot.0 (shown-of-zero s.spot.0 z n s.shows) in
      let all = spot-few s.process s.page s.spot s.here n in
      omega (arith, mine, more, all, one)

  -- while another holds it, it is shown
  held-on : (z n : ℕ) → finite.get old_zeros z ≡ Some n → x.piece.shown ≡ Some n → 1 < holders_of maps n → finite.get (zero_maps after) z ≡ None → ⊥
  held-on z n was its more none =
      let P = λ (s : Segment). times_had n s ≡ 0 in
      let each : (q : ℕ) (ps : List (Part Segment)) → finite.get after q ≡ Some ps → All (λ (a : Part Segment). P a.piece) ps =
      λ q ps there. all-spots P 1 ps (ordered-after q ps there) (λ k y at_k. none-has q k y (ap (option_and_then (λ (ps : List (Part Segment)). piece_at ps k)) there ∙ at_k)) in
      let zero : all_parts (had n) after ≡ 0 = sum-zero (λ (ps : List (Part Segment)). sum_by (had n) ps) (finite.values after)
      (all-values (λ (ps : List (Part Segment)). sum_by (had n) ps ≡ 0) after (λ q ps there. sum-zero (had n) ps (each q ps there))) in
      let all = beside n in
      let mine = once in
      omega (arith, zero, all, mine, more)
    where
      once : times_had n x.piece ≤ 1
      once = elim (cases_Bool (is_number n x.piece.own)) [
        | inl y ↦ absurd (apart-x n its (number-is n x.piece.own y))
        | inr f ↦ let a = ap (λ (b : Bool). cond {A = ℕ} b 1 0) f in let b = ap (λ (b : Bool). cond {A = ℕ} b 1 0) (is-the-number n x.piece.shown its) in omega (arith, a, b)
      ]

      none-has : (q k : ℕ) (y : Spot) → spot_at after q k ≡ Some y → times_had n y.0 ≡ 0
      none-has q k y there =
          let s : IsSpotOf (SegmentFits files maps) k y = spot-part (SegmentFits files maps) after q k y ordered-after fit-after there in
          let object-fit = subst (λ (t : Segment). ObjectFits files maps t t.object) s.piece s.fits.object in
          let own-fit = subst (λ (t : Segment). OwnFits maps t t.kind) s.piece s.fits.own in
          let own : is_number n y.0.own ≡ false = elim (cases_Bool (is_number n y.0.own)) [
            | inl t ↦ absurd (let one = (own-there maps y.0 y.0.kind n own-fit (number-is n y.0.own t)).1 in omega (arith, one, more))
            | inr f ↦ f
          ] in
          let shown : is_number n y.0.shown ≡ false = elim (cases_Bool (is_number n y.0.shown)) [
            | inl t ↦ absurd (
                let its : y.0.shown ≡ Some n = number-is n y.0.shown t in
                let o = (shown-there files maps y.0 y.0.object n object-fit its).1 in
                let seen : IsShown after o.0 n = record { process = q; page = k; spot = y; here = there; shows = zero_map-of y.0 o.0 n o.1 its } in
                let same : o.0 ≡ z = fits.segments.apart o.0 z n (within o.0 n seen) was in
                let some = subst (λ (j : ℕ). IsSome (finite.get (zero_maps after) j)) same (shown-some after o.0 n seen) in
                let e : false ≡ true = ap is_some (sym none) ∙ some in cc)
            | inr f ↦ f
          ] in
          let a = ap (λ (b : Bool). cond {A = ℕ} b 1 0) own in
          let b = ap (λ (b : Bool). cond {A = ℕ} b 1 0) shown in
          omega (arith, a, b)

  -- the part that a page of it is in
  the-part : (k : ℕ) → has x k ≡ true → (y : Spot) → piece_at parts k ≡ Some y → x.piece ≡ y.0
  the-part k t y at_k =
      let order = fits.segments.ordered p parts is in
      let same : (x.piece, k - x.first) ≡ y = let z : Some (x.piece, k - x.first) ≡ Some y = sym (at-found 1 parts x.first k x order (begins-found 1 parts x.first x order found) t) ∙ at_k in cc in
      ap (λ (s : Spot). s.0) same

  still : (z n : ℕ) → finite.get old_zeros z ≡ Some n → (x.piece.shown ≡ Some n → 1 < holders_of maps n) → finite.get (zero_maps after) z ≡ Some n
  still z n was more = by_map (finite.get (zero_maps after) z) refl
    where
      by_shown : finite.get (zero_maps after) z ≡ None → ⊥
      by_shown none =
          let s = shown-by m.spaces z n fits.segments.ordered was in
          let out : (s.process ≡ p → has x s.page ≡ false) → ⊥ = λ not. (let some = shown-some after z n (record { process = s.process; page = s.page; spot = s.spot; here = spot-after s.process s.page s.spot s.here not; shows = s.shows }) in
          let e : false ≡ true = ap is_some (sym none) ∙ some in cc) in
          elim (cases_Bool (has x s.page)) [
            | inr f ↦ out (λ e. f)
            | inl t ↦ elim (cases_eq s.process p) [
              | inr ne ↦ out (λ e. absurd (ne e))
              | inl same ↦
                  let at_k : piece_at parts s.page ≡ Some s.spot = sym (ap (option_and_then (λ (ps : List (Part Segment)). piece_at ps s.page)) is) ∙ ap (λ (j : ℕ). spot_at m.spaces j s.page) (sym same) ∙ s.here in
                  let piece : x.piece ≡ s.spot.0 = the-part s.page t s.spot at_k in
                  let its : x.piece.shown ≡ Some n = shown-of-zero x.piece z n (ap zero_map piece ∙ s.shows) in
                  held-on z n was its (more its) none
            ]
          ]

      by_map : (o : Option ℕ) → finite.get (zero_maps after) z ≡ o → finite.get (zero_maps after) z ≡ Some n
      by_map None e = absurd (by_shown e)
      by_map (Some k) e = e ∙ sym (within z k (shown-by after z k ordered-after e)) ∙ was

  -- which they are
  pub zeros-same : ((z n : ℕ) → finite.get old_zeros z ≡ Some n → x.piece.shown ≡ Some n → 1 < holders_of maps n) → zero_maps after ≡ old_zeros
  zeros-same more = finite.same_map nat_cmp_total finite.nat_cmp-IsAntisymmetric (zero_maps after) old_zeros (λ z. by_key z (finite.get old_zeros z) refl)
    where
      by_key : (z : ℕ) (o : Option ℕ) → finite.get old_zeros z ≡ o → finite.get (zero_maps after) z ≡ finite.get old_zeros z
      by_key z (Some n) e = still z n e (more z n e) ∙ sym e
      by_key z None e = by_map (finite.get (zero_maps after) z) refl
        where
          by_map : (o : Option ℕ) → finite.get (zero_maps after) z ≡ o → finite.get (zero_maps after) z ≡ finite.get old_zeros z
          by_map None d = d ∙ sym e
          by_map (Some n) d = absurd (let k : None ≡ Some n = sym e ∙ within z n (shown-by after z n ordered-after d) in cc)

  -- the last holder's is gone
  pub zeros-but-one : (z0 n0 : ℕ) → x.piece.shown ≡ Some n0 → holders_of maps n0 ≡ 1 → finite.get old_zeros z0 ≡ Some n0 → zero_maps after ≡ finite.remove old_zeros z0
  zeros-but-one z0 n0 its one was = finite.same_map nat_cmp_total finite.nat_cmp-IsAntisymmetric (zero_maps after) (finite.remove old_zeros z0) (λ z. elim (cases_eq z z0) [
    | inl same ↦ ap (finite.get (zero_maps after)) same ∙ none (finite.get (zero_maps after) z0) refl ∙ sym (get-remove_here old_zeros z0) ∙ ap (finite.get (finite.remove old_zeros z0)) (sym same)
    | inr ne ↦ by_key z ne (finite.get old_zeros z) refl ∙ sym (get-remove_apart old_zeros z0 z ne)
  ])
    where
      none : (o : Option ℕ) → finite.get (zero_maps after) z0 ≡ o → finite.get (zero_maps after) z0 ≡ None
      none None e = e
      none (Some n) e = absurd (
          let s = shown-by after z0 n ordered-after e in
          let same : n0 ≡ n = let k : Some n0 ≡ Some n = sym was ∙ within z0 n s in cc in
          unshown z0 n0 its one (subst (IsShown after z0) (sym same) s))

      by_key : (z : ℕ) → z ≢ z0 → (o : Option ℕ) → finite.get old_zeros z ≡ o → finite.get (zero_maps after) z ≡ finite.get old_zeros z
      by_key z ne (Some n) e = still z n e (λ its'. absurd (
          let same : n0 ≡ n = let k : Some n0 ≡ Some n = sym its ∙ its' in cc in
          ne (fits.segments.apart z z0 n e (was ∙ ap (λ (j : ℕ). Some j) same)))) ∙ sym e
      by_key z ne None e = by_map (finite.get (zero_maps after) z) refl
        where
          by_map : (o : Option ℕ) → finite.get (zero_maps after) z ≡ o → finite.get (zero_maps after) z ≡ finite.get old_zeros z
          by_map None d = d ∙ sym e
          by_map (Some n) d = absurd (let k : None ≡ Some n = sym e ∙ within z n (shown-by after z n ordered-after d) in cc)

  -- COUNTS of maps and places
  there-own : (n : ℕ) → x.piece.own ≡ Some n → IsMapThere maps n
  there-own n its = (own-x n its).0

  there-shown : (n : ℕ) → x.piece.shown ≡ Some n → IsMapThere mid n
  there-shown n its = same-there maps mid n (mid-there n its) (shown-x n its).0

  some-holders : (n : ℕ) → x.piece.shown ≡ Some n → 1 ≤ holders_of maps n
  some-holders n its = let a = shown-counts n x.piece its in let b = beside n in omega (arith, a, b)

  holders-now : (n : ℕ) → holders_of put n + times_had n x.piece ≡ holders_of maps n
  holders-now n =
      let a = released-holders maps x.piece.own n (λ k its. (there-own k its, (let o = (own-x k its).1 in omega (arith, o)))) in
      let b = released-holders mid x.piece.shown n (λ k its. (there-shown k its, (let o = some-holders k its in let s = same-holders maps mid k (mid-there k its) in omega (arith, o, s)))) in
      omega (arith, a, b)

  empty-own : (n : ℕ) → x.piece.own ≡ Some n → AreEmpty (places_of maps n)
  empty-own n its = may.own n its

  empty-shown : (n : ℕ) → x.piece.shown ≡ Some n → holders_of mid n ≡ 1 → AreEmpty (places_of mid n)
  empty-shown n its one =
      let same = mid-there n its in
      subst AreEmpty (sym (same-places maps mid n same)) (may.shown n its (sym (same-holders maps mid n same) ∙ one))

  times-same : (slot : ℕ) → times_held put slot ≡ times_held maps slot
  times-same slot =
      let f = λ (ps : List (Option ℕ)). count_by (is_number slot) ps in
      let a = released-sum f maps x.piece.own refl there-own in
      let b = released-sum f mid x.piece.shown refl there-shown in
      let c = freed-none f maps x.piece.own (λ n its one. count-empty (is_number slot) (places_of maps n) refl (empty-own n its)) in
      let d = freed-none f mid x.piece.shown (λ n its one. count-empty (is_number slot) (places_of mid n) refl (empty-shown n its one)) in
      omega (arith, a, b, c, d)

  places-now : sum_by (λ m. length (places_in m)) put + places_left maps x.piece ≡ sum_by (λ m. length (places_in m)) maps
  places-now =
      let f = λ (ps : List (Option ℕ)). length ps in
      let a = released-sum f maps x.piece.own refl there-own in
      let b = released-sum f mid x.piece.shown refl there-shown in
      let c = freed-length maps x.piece.own in
      let d = freed-length mid x.piece.shown in
      omega (arith, a, b, c, d)

  abbrev left : ℕ
  left = m.world.anon.reserved - places_left maps x.piece

  counts : CountsFit (record m.world.anon { reserved = left }) put
  counts =
      let places = places-now in
      let all = fits.counts.places in
      let most = fits.counts.sound.reserved in
      counts-change m.world.anon maps put left fits.counts times-same (omega (arith, places, all)) (omega (arith, most))

  -- the own map has a place for each page that is reserved
  own-places : places_released maps x.piece.own ≡ slots_for_part x
  own-places = by_kind x.piece.kind fit-x.own refl
    where
      by_kind : (k : Kind) → OwnFits maps x.piece k → x.piece.kind ≡ k → places_released maps x.piece.own ≡ slots_for_part x
      by_kind Shared fit e = ap (places_released maps) fit ∙ sym (ap (λ (k : Kind). elim k as (λ (k : Kind). ℕ) [ Private ↦ x.pages | Shared ↦ 0 ]) e)
      by_kind Private fit e =
          ap (places_released maps) fit.1 ∙ ap (λ (h : ℕ). cond (h == 1) (length (places_of maps fit.0)) 0) fit.4 ∙ fit.3 ∙ sym fit-x.pages
          ∙ sym (ap (λ (k : Kind). elim k as (λ (k : Kind). ℕ) [ Private ↦ x.pages | Shared ↦ 0 ]) e)

  kept-length : (z n : ℕ) → finite.get (zero_maps after) z ≡ Some n → places_of put n ≡ places_of maps n
  kept-length z n there =
      let s = shown-by after z n ordered-after there in
      ((spot-keeps s.process s.page s.spot s.here).shown n (shown-of-zero s.spot.0 z n s.shows)).1

  -- THE PLACES of the zero objects
  abbrev len : ℕ → ℕ
  len n = length (places_of maps n)

  zero-places : total (λ number. length (places_of put number)) (zero_maps after) + places_released mid x.piece.shown ≡ total (λ number. length (places_of maps number)) old_zeros
  zero-places = by_shown x.piece.shown refl
    where
      now : total (λ number. length (places_of put number)) (zero_maps after) ≡ total len (zero_maps after)
      now = total-same len (λ number. length (places_of put number)) (zero_maps after) (λ z n there. ap (λ (ps : List (Option ℕ)). length ps) (kept-length z n there))

      by_shown : (o : Option ℕ) → x.piece.shown ≡ o → total (λ number. length (places_of put number)) (zero_maps after) + places_released mid x.piece.shown ≡ total len old_zeros
      by_shown None e =
          let a = now in
          let b = ap (total len) (zeros-same (λ z n was its. absurd (let k : None ≡ Some n = sym e ∙ its in cc))) in
          let c = ap (places_released mid) e in
          omega (arith, a, b, c)
      by_shown (Some n0) e =
          let a = now in
          let h = same-holders maps mid n0 (mid-there n0 e) in
          let z0 = (shown-x n0 e).1 in
          let was : finite.get old_zeros z0.0 ≡ Some n0 = part-zero m.spaces p parts x fits.segments.zeros is found z0.0 n0 z0.1 e in
          elim (cases_eq (holders_of maps n0) 1) [
            | inl one ↦
                let b = ap (total len) (zeros-but-one z0.0 n0 e one was) in
                let r = total-remove len old_zeros z0.0 n0 (insert_same old_zeros z0.0 n0 was) in
                let c : places_released mid x.piece.shown ≡ len n0 = ap (places_released mid) e ∙ ap (λ (h : ℕ). cond (h == 1) (length (places_of mid n0)) 0) (h ∙ one) ∙ ap (λ (ps : List (Option ℕ)). length ps) (same-places maps mid n0 (mid-there n0 e)) in
                omega (arith, a, b, r, c)
            | inr more ↦
                let some = some-holders n0 e in
                let b = ap (total len) (zeros-same (λ z n was' its. (let same : n0 ≡ n = (let k : Some n0 ≡ Some n = sym e ∙ its in cc) in subst (λ (j : ℕ). 1 < holders_of maps j) same (omega (arith, some, more))))) in
                let c : places_released mid x.piece.shown ≡ 0 = ap (places_released mid) e ∙ ap (λ (b : Bool). cond b (length (places_of mid n0)) 0) (by_test (cases_Bool (holders_of mid n0 == 1)) (λ one. more (sym h ∙ one))) in
                omega (arith, a, b, c)
          ]
        where
          by_test : {k : ℕ} → ((k == 1) ≡ true) ⊎ ((k == 1) ≡ false) → (k ≢ 1) → (k == 1) ≡ false
          by_test {k} (inl t) ne = absurd (ne (eqb-true k 1 t))
          by_test (inr f) ne = f

  segments : SegmentsFit files (record m.world.anon { reserved = left }) put after
  segments = segments-change files m.world.anon maps put left m.spaces p parts new old_zeros fits.segments is (ordered-after p new here)
      (fits-put p new here) (λ q ps ne there. fits-put q ps (apart q ps ne there))
      (λ n. let a = holders-now n in let b = sum-without_part (had n) parts x.first x found in omega (arith, a, b))
      within fits.segments.apart
      (λ z n place slot there held. fits.segments.once z n place slot (within z n (shown-by after z n ordered-after there)) (sym (slot-in-same maps put n place (kept-length z n there)) ∙ held))
      (let a = zero-places in let b = own-places in let c = sum-without_part slots_for_part parts x.first x found in let d = places-now in let e = fits.counts.places in omega (arith, a, b, c, d, e))
    where
      fits-put : (q : ℕ) (ps : List (Part Segment)) → finite.get after q ≡ Some ps → All (SegmentFits files put) ps
      fits-put q ps there = all-turn (λ (a : Part Segment). KeepsMaps maps put a.piece × SegmentFits files maps a) (SegmentFits files put) ps (λ a both. kept-fits files maps put a both.0 both.1)
          (all-both (λ (a : Part Segment). KeepsMaps maps put a.piece) (SegmentFits files maps) ps (keeps q ps there) (fit-after q ps there))

  -- FLAT MEMORY has none of its cells
  flat-is : (born : set.FinSet nat_cmp) (notes : Notes) → flat_memory (with_part_gone m p parts x) born notes ≡ without_pages (flat_memory m born notes) p x.first x.pages
  flat-is born notes =
      let F : Flat = flat_memory m born notes in
      let page = page_value m.world notes in
      let S : Space = without_range (cells_of F p) x.first x.pages in
      let cells : (q : ℕ) → option_map (cell_of (place_contents page put)) (piece_at new q) ≡ finite.get S q = λ q.
      kept-cells page q (piece_at new q) refl ∙ ap (option_map (cell_of (place_contents page maps))) (gone q) ∙ turn (cell_of (place_contents page maps)) (has x q) (piece_at parts q)
      ∙ ap (λ (o : Option Cell). cond (has x q) None o) (sym (cell-is m p parts born notes q is)) ∙ sym (get-without_range (cells_of F p) x.first x.pages q) in
      swept-flat m put left p new born notes F.zeros S segments
      (spaces-change m put left p new S born notes fits.segments.ordered (λ q ps ne there. keeps q ps (apart q ps ne there)) cells)
      (λ z n there. get-map_with (zero_pages (contents_of m.world notes).place (λ number. length (places_of maps number))) old_zeros z
      ∙ ap (option_map (zero_pages (contents_of m.world notes).place (λ number. length (places_of maps number)))) (within z n (shown-by after z n ordered-after there))
      ∙ ap (λ (ps : List Page). Some ps) (sym (zero-pages-same page maps put n (kept-length z n there))))
    where
      turn : (f : Spot → Cell) (b : Bool) (o : Option Spot) → option_map f (cond b None o) ≡ cond b None (option_map f o)
      turn f true o = refl
      turn f false o = refl

      kept-cells : (page : PageName → Page) (q : ℕ) (o : Option Spot) → piece_at new q ≡ o → option_map (cell_of (place_contents page put)) o ≡ option_map (cell_of (place_contents page maps)) o
      kept-cells page q None e = refl
      kept-cells page q (Some y) e = ap (λ (c : Cell). Some c) (kept-cell page maps put y (spot-keeps p q y (ap (option_and_then (λ (ps : List (Part Segment)). piece_at ps q)) here ∙ e)))

  flat : (born : set.FinSet nat_cmp) (notes : Notes) → IsFlat (flat_memory m born notes) → Becomes (λ F. without_pages F p x.first x.pages) (flat_memory m born notes) (flat_memory (with_part_gone m p parts x) born notes)
  flat born notes whole =
      let F : Flat = flat_memory m born notes in
      let S : Space = without_range (cells_of F p) x.first x.pages in
      let e = flat-is born notes in
      let s = space-is m p parts born notes is in
      let stand = stand-without (cells_of F p) x.first x.pages (subst (λ (t : Space). Standing t) (sym (cells-are m p parts born notes is)) (cells-stand F p _ whole s)) in
      (e, subst IsFlat (sym e) (flat-unnamed (with_space F p S) (flat-with_space F p S whole (ap is_some s) stand)))

  pub part-gone : ChangesSegments p m (with_part_gone m p parts x) (λ F. without_pages F p x.first x.pages)
  part-gone = change-memory m put left after p (λ F. without_pages F p x.first x.pages) fits (λ q ne. get-insert_apart m.spaces p new q ne) counts segments
      (λ place t there l.
      let not : t.space ≡ p → has x t.page ≡ false = λ own. elim (cases_Bool (has x t.page)) [
        | inl in_it ↦ absurd (let w = has-within x t.page in_it in loaded-at m.world.hat.places place t there (ap (λ (j : ℕ). pool.translation_at m.world.hat.places j t.page) own ∙ may.unloaded t.page w.from w.below))
        | inr out ↦ out
      ] in
      let y = spot-after t.space t.page l.spot l.here not in
      (l.spot, y, shows-kept maps put l.spot (spot-keeps t.space t.page l.spot y)))
      flat-is flat
