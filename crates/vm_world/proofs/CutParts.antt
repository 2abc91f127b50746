-- A PART IS CUT IN TWO before a page, with its own map; each page shows what it showed.
use Rattle.std.proofs.Common.{◌≡◌, ◌≢◌, ℕ, zero, suc, ◌+◌, ◌-◌, ◌<◌, ◌≤◌, Bool, true, false, cond, List, [], ◌∷◌, length, Option, Some, None, refl, sym, ap, ◌∙◌, inl, inr, subst, arith, slice_index_or}
use Rattle.std.specs.Prelude.{sum_by, count_by, option_map, option_and_then, is_some, IsSome, All, unwrap_or, take, drop}
use Rattle.std.specs.Option.{option_or}
use Rattle.std.specs.Ordering.{nat_cmp}
use Rattle.std.specs.FinMap as finite
use Rattle.std.specs.FinSet as set
use Rattle.std.proofs.lemmas.Bool.{cases_Bool, cases_eq, cases_lt, eq-eqb, ne_eqb}
use Rattle.std.proofs.lemmas.List.{get_or-take, get_or-drop, length-take-le, length-drop}
use Rattle.std.proofs.lemmas.List.Elements.{All-cons, All-head, All-tail}
use Rattle.std.proofs.lemmas.List.Sums.{sum_by-take-drop}
use Rattle.flat_model.specs.vm_types.declared.call.Kind.{Kind}
use Rattle.flat_model.specs.vm_types.declared.call.Kind.TheVariants.{Shared, Private}
use Rattle.flat_model.specs.vm_types.declared.call.Object.{Object}
use Rattle.flat_model.specs.vm_types.declared.call.Object.TheVariants as object
use Rattle.addr_space.specs.Space.{Part, part, IsInOrder, piece_at, has, part_at, without_part, cut_at, with_new_piece, lower_part, upper_part}
use Rattle.addr_space.proofs.PartLemmas.{has-in, has-within, found-in, at-here, at-next, ordered-cut, ordered-without_part, at-without_part}
use Rattle.addr_space.proofs.PartLists.{all-without_part, all-found, at-cut_both, at-found, found-begins, found-with_new_piece}
use Rattle.addr_space.proofs.PageLaws.{ordered-written}
use Rattle.anon_map.specs.Maps.{Map, anon_map_at, IsMapThere, IsUnused, places_of, holders_of, fresh_map, the_map}
use Rattle.page_store.specs.Notes.{Notes}
use Rattle.page_store.specs.page_hash.declared.PageName.{PageName}
use Rattle.flat_model.specs.Access.{with_space}
use Rattle.flat_model.specs.Flat.{Cell, Space, Flat, IsFlat, without_unnamed}
use Rattle.flat_model.specs.Mapping.{cells_of}
use Rattle.flat_model.specs.Words.{Page}
use Rattle.flat_model.proofs.Ranges.{get-insert_here, get-insert_apart}
use Rattle.flat_model.proofs.Reserve.{put_back}
use Rattle.flat_model.proofs.Sums.{total}
use Rattle.vm_world.specs.CountsFit.{CountsFit, SegmentFits, SegmentsFit, ObjectFits, OwnFits, places_in, times_had, is_number, slots_for_part}
use Rattle.vm_world.specs.FlatMemory.{Memory, flat_memory, cell_of, own_without_slot, zero_maps}
use Rattle.vm_world.specs.MapSteps.{maps_cut, maps_held}
use Rattle.vm_world.specs.MemoryFits.{MemoryFits}
use Rattle.vm_world.specs.Pages.{place_contents, page_value, contents_of}
use Rattle.vm_world.specs.SegmentSteps.{upper_pages, parts_cut, with_part_cut, ChangesSegments}
use Rattle.vm_world.specs.Segments.{Segment, Spot, Spaces, spot_at, zero_map, own_slot, object_name}
use Rattle.vm_world.specs.SpaceSteps.{first_pages}
use Rattle.vm_world.specs.World.{slot_in, slot_name}
use Rattle.vm_world.proofs.ComingParts.{zero-there, zero-pages-of, own-is-unshown}
use Rattle.vm_world.proofs.KeptMaps.{KeepsMaps, Touches, same-places, same-there, kept-fits, kept-cell, others-keep, own-there, shown-there, all-both, all-every, slot-in-same}
use Rattle.vm_world.proofs.Lists.{all-turn}
use Rattle.vm_world.proofs.MapChanges.{cut-else, cut-lower, cut-upper, cut-sum, cut-holders, held-else, held-places, held-sum, held-holders}
use Rattle.vm_world.proofs.PartSums.{all_parts, sum-cut, sum-without_part, sum-insert, sum-segments, part-le}
use Rattle.vm_world.proofs.Reserves.{total-same}
use Rattle.vm_world.proofs.SegmentChange.{ShowsAs, counts-change, change-memory, segments-change, spaces-change, shows-kept}
use Rattle.vm_world.proofs.ShownZeros.{IsShown, shown-by, fits-shown, maps-are, zeros-are, is-the-number}
use Rattle.vm_world.proofs.Spots.{IsSpotOf, spot-in}
use Rattle.vm_world.proofs.SweptFlat.{space-is, cell-is, zero-pages-same, swept-flat}

abbrev had : ℕ → Part Segment → ℕ
had n a = times_had n a.piece

-- what holds of the other parts and of the two holds of all, once one is cut
all-cut-rest : (P : Part Segment → Type 0) (low page : ℕ) (w u : Segment) (ps : List (Part Segment)) (x : Part Segment) → IsInOrder low ps → part_at ps page ≡ Some x → All P (without_part x.first ps) → P (part x.first (page - x.first) w) → P (part page (x.first + x.pages - page) u)
    → All P (cut_at page u (with_new_piece page w ps))
all-cut-rest P low page w u [] x order is each down up = absurd (let z : None ≡ Some x = is in cc)
all-cut-rest P low page w u (r ∷ rs) x order is each down up = elim (cases_Bool (has r page)) [
  | inl t ↦
      let same : r ≡ x = let z : Some r ≡ Some x = sym (at-here r rs page t) ∙ is in cc in
      let new : Part Segment = part r.first r.pages w in
      let rest : All P rs = subst (λ (b : Bool). All P (cond b rs (r ∷ without_part x.first rs))) (eq-eqb r.first x.first (ap (λ (a : Part Segment). a.first) same)) each in
      subst (λ (b : Bool). All P (cut_at page u (cond b (new ∷ rs) (r ∷ with_new_piece page w rs)))) (sym t)
      (subst (λ (b : Bool). All P (cond b (lower_part page new ∷ upper_part page u new ∷ rs) (new ∷ cut_at page u rs))) (sym t)
      (All-cons P (lower_part page new) (upper_part page u new ∷ rs) (subst (λ (a : Part Segment). P (part a.first (page - a.first) w)) (sym same) down)
      (All-cons P (upper_part page u new) rs (subst (λ (a : Part Segment). P (part page (a.first + a.pages - page) u)) (sym same) up) rest)))
  | inr f ↦
      let more : part_at rs page ≡ Some x = sym (at-next r rs page f) ∙ is in
      let behind = (found-in (r.first + r.pages) rs page x order.1 more).behind in
      let some = order.0.some in
      let rest : All P (r ∷ without_part x.first rs) = subst (λ (b : Bool). All P (cond b rs (r ∷ without_part x.first rs))) (ne_eqb r.first x.first (λ e. absurd (omega (arith, e, behind, some)))) each in
      subst (λ (b : Bool). All P (cut_at page u (cond b (part r.first r.pages w ∷ rs) (r ∷ with_new_piece page w rs)))) (sym f)
      (subst (λ (b : Bool). All P (cond b (lower_part page r ∷ upper_part page u r ∷ with_new_piece page w rs) (r ∷ cut_at page u (with_new_piece page w rs)))) (sym f)
      (All-cons P r (cut_at page u (with_new_piece page w rs)) (All-head P r (without_part x.first rs) rest)
      (all-cut-rest P (r.first + r.pages) page w u rs x order.1 more (All-tail P r (without_part x.first rs) rest) down up)))
]

-- THE MAPS of a cut, whether the segment has one of its own or not
module _ (maps : List (Option Map)) (o : Option ℕ) (number place : ℕ) (there : (k : ℕ) → o ≡ Some k → IsMapThere maps k) (unused : IsSome o → IsUnused maps number) where
  is-unused : (k : ℕ) → o ≡ Some k → IsUnused maps number
  is-unused k is = unused (subst (λ (x : Option ℕ). IsSome x) (sym is) refl)

  pub mid-else : (n : ℕ) → IsMapThere maps n → o ≢ Some n → anon_map_at (maps_cut maps o number place) n ≡ anon_map_at maps n
  mid-else n is ne = by_own o refl
    where
      by_own : (c : Option ℕ) → o ≡ c → anon_map_at (maps_cut maps c number place) n ≡ anon_map_at maps n
      by_own None e = refl
      by_own (Some k) e = cut-else maps k number place (there k e) (is-unused k e) n is (λ same. ne (e ∙ ap (λ (j : ℕ). Some j) (sym same)))

  mid-lower : (k : ℕ) → o ≡ Some k → anon_map_at (maps_cut maps o number place) k ≡ Some (record (the_map maps k) { places = take place (places_of maps k) })
  mid-lower k is = ap (λ (c : Option ℕ). anon_map_at (maps_cut maps c number place) k) is ∙ cut-lower maps k number place (there k is) (is-unused k is)

  mid-upper : (k : ℕ) → o ≡ Some k → anon_map_at (maps_cut maps o number place) number ≡ Some (fresh_map (drop place (places_of maps k)))
  mid-upper k is = ap (λ (c : Option ℕ). anon_map_at (maps_cut maps c number place) number) is ∙ cut-upper maps k number place (there k is) (is-unused k is)

  mid-sum : (f : List (Option ℕ) → ℕ) → f [] ≡ 0 → ((ps : List (Option ℕ)) → f (take place ps) + f (drop place ps) ≡ f ps) → sum_by (λ (m : Option Map). f (places_in m)) (maps_cut maps o number place) ≡ sum_by (λ (m : Option Map). f (places_in m)) maps
  mid-sum f none parts = by_own o refl
    where
      by_own : (c : Option ℕ) → o ≡ c → sum_by (λ (m : Option Map). f (places_in m)) (maps_cut maps c number place) ≡ sum_by (λ (m : Option Map). f (places_in m)) maps
      by_own None e = refl
      by_own (Some k) e = cut-sum maps k number place (there k e) (is-unused k e) f none (parts (places_of maps k))

  pub mid-holders : (n : ℕ) → holders_of (maps_cut maps o number place) n ≡ holders_of maps n + cond (is_number n (option_map (λ (own : ℕ). number) o)) 1 0
  mid-holders n = by_own o refl
    where
      by_own : (c : Option ℕ) → o ≡ c → holders_of (maps_cut maps c number place) n ≡ holders_of maps n + cond (is_number n (option_map (λ (own : ℕ). number) c)) 1 0
      by_own None e = omega arith
      by_own (Some k) e = cut-holders maps k number place (there k e) (is-unused k e) n

abbrev no_places : List (Option ℕ)
no_places = []

length-none : (k : ℕ) → length (take k no_places) ≡ 0
length-none zero = refl
length-none (suc k) = refl

length-past : (k : ℕ) (ps : List (Option ℕ)) → length ps ≤ k → length (take k ps) ≡ length ps
length-past k [] le = length-none k
length-past zero (p ∷ ps) le = absurd (omega (arith, le))
length-past (suc k) (p ∷ ps) le = ap suc (length-past k ps (omega (arith, le)))

length-parts : (k : ℕ) (ps : List (Option ℕ)) → length (take k ps) + length (drop k ps) ≡ length ps
length-parts k ps = elim (cases_lt k (length ps)) [
  | inl lt ↦ let a = length-take-le k ps (omega (arith, lt)) in let b = length-drop k ps in omega (arith, a, b, lt)
  | inr le ↦ let a = length-past k ps le in let b = length-drop k ps in omega (arith, a, b, le)
]

module _ (m : Memory) (p page number : ℕ) (parts : List (Part Segment)) (x : Part Segment) (fits : MemoryFits m) (is : finite.get m.spaces p ≡ Some parts) (found : part_at parts page ≡ Some x) (lt : x.first < page) (unused : IsSome x.piece.own → IsUnused m.world.maps number) where
  abbrev maps : List (Option Map)
  maps = m.world.maps

  abbrev cut_to : ℕ
  cut_to = page - x.first

  abbrev mid : List (Option Map)
  mid = maps_cut maps x.piece.own number cut_to

  abbrev now : List (Option Map)
  now = maps_held mid x.piece.shown

  abbrev w : Segment
  w = first_pages cut_to x.piece

  abbrev u : Segment
  u = upper_pages cut_to number x.piece

  abbrev down : Part Segment
  down = part x.first cut_to w

  abbrev up : Part Segment
  up = part page (x.first + x.pages - page) u

  abbrev new : List (Part Segment)
  new = parts_cut page number x parts

  abbrev after : Spaces
  after = finite.insert m.spaces p new

  abbrev rest : Spaces
  rest = finite.insert m.spaces p (without_part x.first parts)

  abbrev files : ℕ
  files = length m.world.files.files

  abbrev zs : finite.FinMap nat_cmp ℕ
  zs = zero_maps m.spaces

  old-order : IsInOrder 1 parts
  old-order = fits.segments.ordered p parts is

  high : page < x.first + x.pages
  high = (has-within x page (found-in 1 parts page x old-order found).here).below

  fit-x : SegmentFits files maps x
  fit-x = all-found (SegmentFits files maps) parts page x (fits.segments.each p parts is) found

  beside : (n : ℕ) → all_parts (had n) rest + times_had n x.piece ≡ holders_of maps n
  beside n =
      let a = sum-insert (had n) m.spaces p parts (without_part x.first parts) is in
      let b = sum-without_part (had n) parts x.first x (found-begins 1 parts page x old-order found) in
      let c = sum-segments (times_had n) m.spaces in
      let d = fits.segments.holders n in
      omega (arith, a, b, c, d)

  own-x : (n : ℕ) → x.piece.own ≡ Some n → IsMapThere maps n × (holders_of maps n ≡ 1) × (length (places_of maps n) ≡ x.piece.pages) × (x.piece.kind ≡ Private)
  own-x n its = own-there maps x.piece x.piece.kind n fit-x.own its

  there-own : (n : ℕ) → x.piece.own ≡ Some n → IsMapThere maps n
  there-own n its = (own-x n its).0

  shown-x : (n : ℕ) → x.piece.shown ≡ Some n → IsMapThere maps n
  shown-x n its = (shown-there files maps x.piece x.piece.object n fit-x.object its).0

  pub apart-x : (n : ℕ) → x.piece.shown ≡ Some n → x.piece.own ≢ Some n
  apart-x n shown own =
      let a = ap (λ (b : Bool). cond {A = ℕ} b 1 0) (is-the-number n x.piece.own own) in
      let b = ap (λ (b : Bool). cond {A = ℕ} b 1 0) (is-the-number n x.piece.shown shown) in
      let all = beside n in
      let once = (own-x n own).1 in
      omega (arith, a, b, all, once)

  pub else : (n : ℕ) → IsMapThere maps n → x.piece.own ≢ Some n → anon_map_at mid n ≡ anon_map_at maps n
  else n there ne = mid-else maps x.piece.own number cut_to there-own unused n there ne

  pub there-mid : (n : ℕ) → x.piece.shown ≡ Some n → IsMapThere mid n
  there-mid n its = same-there maps mid n (else n (shown-x n its) (apart-x n its)) (shown-x n its)

  -- the map of a zero object has its places
  still : (n : ℕ) → IsMapThere maps n → x.piece.own ≢ Some n → IsMapThere now n × (places_of now n ≡ places_of maps n)
  still n there ne =
      let same = else n there ne in
      let h = held-places mid x.piece.shown n (same-there maps mid n same there) in
      (h.0, h.1 ∙ same-places maps mid n same)

  touches : Touches maps now x.piece.own x.piece.shown
  touches = record {
    else = λ n there own shown. held-else mid x.piece.shown n shown ∙ else n there own;
    held = λ n there own shown more. still n there own;
  }

  -- the two own maps
  lower-map : (k : ℕ) → x.piece.own ≡ Some k → anon_map_at now k ≡ Some (record (the_map maps k) { places = take cut_to (places_of maps k) })
  lower-map k its = held-else mid x.piece.shown k (λ shown. absurd (apart-x k shown its)) ∙ mid-lower maps x.piece.own number cut_to there-own unused k its

  upper-map : (k : ℕ) → x.piece.own ≡ Some k → anon_map_at now number ≡ Some (fresh_map (drop cut_to (places_of maps k)))
  upper-map k its =
      held-else mid x.piece.shown number (λ shown. absurd (
      let t : IsSome (anon_map_at maps number) = shown-x number shown in
      let z : false ≡ true = sym (ap is_some (unused (subst (λ (o : Option ℕ). IsSome o) (sym its) refl)).absent) ∙ t in cc))
      ∙ mid-upper maps x.piece.own number cut_to there-own unused k its

  -- THE OTHERS keep their maps
  rest-order : (q : ℕ) (ps : List (Part Segment)) → finite.get rest q ≡ Some ps → All (SegmentFits files maps) ps
  rest-order q ps there = elim (cases_eq q p) [
    | inl same ↦ subst (All (SegmentFits files maps)) (let z : Some (without_part x.first parts) ≡ Some ps = sym (get-insert_here m.spaces p (without_part x.first parts)) ∙ ap (finite.get rest) (sym same) ∙ there in let e : without_part x.first parts ≡ ps = cc in e) (all-without_part (SegmentFits files maps) x.first parts (fits.segments.each p parts is))
    | inr ne ↦ fits.segments.each q ps (sym (get-insert_apart m.spaces p (without_part x.first parts) q ne) ∙ there)
  ]

  keeps : (q : ℕ) (ps : List (Part Segment)) → finite.get rest q ≡ Some ps → All (λ (a : Part Segment). SegmentFits files maps a × KeepsMaps maps now a.piece) ps
  keeps q ps there = all-turn (λ (a : Part Segment). SegmentFits files maps a × ((n : ℕ) → times_had n a.piece ≤ all_parts (had n) rest)) (λ (a : Part Segment). SegmentFits files maps a × KeepsMaps maps now a.piece) ps
      (λ a both. (both.0, others-keep files maps now x.piece a touches both.0 (λ n. (let le = both.1 n in let b = beside n in omega (arith, le, b))) (λ n its. (own-x n its).1)))
      (all-both (SegmentFits files maps) (λ (a : Part Segment). (n : ℕ) → times_had n a.piece ≤ all_parts (had n) rest) ps (rest-order q ps there)
      (all-every (λ (n : ℕ) (a : Part Segment). times_had n a.piece ≤ all_parts (had n) rest) ps (λ n. part-le (had n) rest q ps there)))

  others : (q : ℕ) (ps : List (Part Segment)) → q ≢ p → finite.get m.spaces q ≡ Some ps → All (λ (a : Part Segment). SegmentFits files maps a × KeepsMaps maps now a.piece) ps
  others q ps ne there = keeps q ps (get-insert_apart m.spaces p (without_part x.first parts) q ne ∙ there)

  others-fit : (ps : List (Part Segment)) → All (λ (a : Part Segment). SegmentFits files maps a × KeepsMaps maps now a.piece) ps → All (SegmentFits files now) ps
  others-fit ps each = all-turn (λ (a : Part Segment). SegmentFits files maps a × KeepsMaps maps now a.piece) (SegmentFits files now) ps (λ a both. kept-fits files maps now a both.1 both.0) each

  -- THE TWO PARTS fit
  object-now : (s : Segment) (o : Object) → s.kind ≡ x.piece.kind → s.shown ≡ x.piece.shown → ObjectFits files maps x.piece o → ObjectFits files now s o
  object-now s (object.File f) k e fit = (fit.0, e ∙ fit.1)
  object-now s (object.Zero z) k e fit = (fit.0, e ∙ fit.1, (still fit.0 fit.2 (apart-x fit.0 fit.1)).0)
  object-now s object.NewZero k e fit = (k ∙ fit.0, e ∙ fit.1)

  down-fits : SegmentFits files now down
  down-fits = let end = fit-x.end in let pages = fit-x.pages in record {
    pages = refl;
    end = omega (arith, end, pages, lt, high);
    within = fit-x.within;
    object = object-now w x.piece.object refl refl fit-x.object;
    own = by_kind x.piece.kind fit-x.own;
  }
    where
      by_kind : (k : Kind) → OwnFits maps x.piece k → OwnFits now w k
      by_kind Shared fit = fit
      by_kind Private fit =
          let e = lower-map fit.0 fit.1 in
          let size = fit.3 in
          let pages = fit-x.pages in (
            fit.0,
            fit.1,
            subst (λ (o : Option Map). IsSome o) (sym e) refl,
            ap (λ (o : Option Map). length (unwrap_or o (record { places = []; holders = 0 })).places) e ∙ length-take-le cut_to (places_of maps fit.0) (omega (arith, size, pages, lt, high)),
            ap (λ (o : Option Map). (unwrap_or o (record { places = []; holders = 0 })).holders) e ∙ fit.4,
          )

  up-fits : SegmentFits files now up
  up-fits = let end = fit-x.end in let pages = fit-x.pages in record {
    pages = omega (arith, pages, lt, high);
    end = omega (arith, end, pages, lt, high);
    within = fit-x.within;
    object = object-now u x.piece.object refl refl fit-x.object;
    own = by_kind x.piece.kind fit-x.own;
  }
    where
      by_kind : (k : Kind) → OwnFits maps x.piece k → OwnFits now u k
      by_kind Shared fit = ap (option_map (λ (own : ℕ). number)) fit
      by_kind Private fit =
          let e = upper-map fit.0 fit.1 in
          let size = fit.3 in (
            number,
            ap (option_map (λ (own : ℕ). number)) fit.1,
            subst (λ (o : Option Map). IsSome o) (sym e) refl,
            ap (λ (o : Option Map). length (unwrap_or o (record { places = []; holders = 0 })).places) e ∙ length-drop cut_to (places_of maps fit.0) ∙ ap (λ (n : ℕ). n - cut_to) size,
            ap (λ (o : Option Map). (unwrap_or o (record { places = []; holders = 0 })).holders) e,
          )

  order : IsInOrder 1 new
  order = ordered-cut 1 page u (with_new_piece page w parts) (part x.first x.pages w) (ordered-written parts page old-order w) (found-with_new_piece parts page w x found) lt

  ordered-after : (q : ℕ) (ps : List (Part Segment)) → finite.get after q ≡ Some ps → IsInOrder 1 ps
  ordered-after q ps there = elim (cases_eq q p) [
    | inl same ↦ subst (IsInOrder 1) (let z : Some new ≡ Some ps = sym (get-insert_here m.spaces p new) ∙ ap (finite.get after) (sym same) ∙ there in let e : new ≡ ps = cc in e) order
    | inr ne ↦ fits.segments.ordered q ps (sym (get-insert_apart m.spaces p new q ne) ∙ there)
  ]

  -- EACH PAGE shows what it showed
  record Turns (y v : Spot) : Type 0 where
    shows : ShowsAs maps now y v
    zero : zero_map v.0 ≡ zero_map y.0
    cell : (page : PageName → Page) → cell_of (place_contents page now) v ≡ cell_of (place_contents page maps) y

  kept-turns : (y : Spot) → KeepsMaps maps now y.0 → Turns y y
  kept-turns y k = record { shows = shows-kept maps now y k; zero = refl; cell = λ page. kept-cell page maps now y k }

  -- a place of one of the two, whose own map holds there what the map held
  half-turns : (s : Segment) (i j : ℕ) → s.prot ≡ x.piece.prot → s.max ≡ x.piece.max → s.kind ≡ x.piece.kind → s.object ≡ x.piece.object → s.shown ≡ x.piece.shown → s.index + i ≡ x.piece.index + j
      → own_slot now (s, i) ≡ own_slot maps (x.piece, j) → is_some s.own ≡ is_some x.piece.own → Turns (x.piece, j) (s, i)
  half-turns s i j prot max kind thing shown index own some = record {
    shows = record { prot = prot; kind = kind; own = own; name = λ t. option_or (option_map slot_name (own t)) (named t) };
    zero = λ t. elim (thing t) as (λ o. Option (ℕ × ℕ)) [ object.Zero z ↦ option_map (λ (n : ℕ). (z, n)) (shown t) | object.File f ↦ None | object.NewZero ↦ None ];
    cell = λ page. let c = own-cell page in λ t. record { prot = prot t; max = max t; kind = kind t; object = thing t; index = index t; own = c t };
  }
    where
      name-now : (k : ℕ) (o : Object) → object_name now x.piece.shown k o ≡ object_name maps x.piece.shown k o
      name-now k (object.File f) = refl
      name-now k object.NewZero = refl
      name-now k (object.Zero z) = by_shown x.piece.shown refl
        where
          by_shown : (o : Option ℕ) → x.piece.shown ≡ o → option_and_then (λ n. option_map slot_name (slot_in now n k)) o ≡ option_and_then (λ n. option_map slot_name (slot_in maps n k)) o
          by_shown None e = refl
          by_shown (Some n) e = ap (option_map slot_name) (slot-in-same maps now n k (still n (shown-x n e) (apart-x n e)).1)

      named : object_name now s.shown (s.index + i) s.object ≡ object_name maps x.piece.shown (x.piece.index + j) x.piece.object
      named = (λ t. object_name now (shown t) (index t) (thing t)) ∙ name-now (x.piece.index + j) x.piece.object

      own-cell : (page : PageName → Page) → option_and_then (λ n. option_or (place_contents page now n i) (own_without_slot s.object)) s.own ≡ option_and_then (λ n. option_or (place_contents page maps n j) (own_without_slot x.piece.object)) x.piece.own
      own-cell page =
          by_own page now s.own i s.object ∙ (λ t. cond (some t) (option_or (option_map (λ slot. page (slot_name slot)) (own t)) (own_without_slot (thing t))) None) ∙ sym (by_own page maps x.piece.own j x.piece.object)
        where
          by_own : (page : PageName → Page) (ms : List (Option Map)) (o : Option ℕ) (i : ℕ) (b : Object) → option_and_then (λ n. option_or (place_contents page ms n i) (own_without_slot b)) o
              ≡ cond (is_some o) (option_or (option_map (λ slot. page (slot_name slot)) (option_and_then (λ n. slot_in ms n i) o)) (own_without_slot b)) None
          by_own page ms None i b = refl
          by_own page ms (Some n) i b = refl

  some-mapped : (o : Option ℕ) → is_some (option_map (λ (own : ℕ). number) o) ≡ is_some o
  some-mapped None = refl
  some-mapped (Some k) = refl

  upper-slot : (k : ℕ) → page ≤ k → own_slot now (u, k - page) ≡ own_slot maps (x.piece, k - x.first)
  upper-slot k le = by_own x.piece.own refl
    where
      by_own : (o : Option ℕ) → x.piece.own ≡ o → option_and_then (λ n. slot_in now n (k - page)) (option_map (λ (own : ℕ). number) o) ≡ option_and_then (λ n. slot_in maps n (k - x.first)) o
      by_own None e = refl
      by_own (Some n) e =
          let i : cut_to + (k - page) ≡ k - x.first = omega (arith, le, lt) in
          ap (λ (o : Option Map). slice_index_or (unwrap_or o (record { places = []; holders = 0 })).places (k - page) None) (upper-map n e)
          ∙ get_or-drop cut_to (places_of maps n) (k - page) None ∙ ap (λ (j : ℕ). slot_in maps n j) i

  lower-slot : (i : ℕ) → i < cut_to → own_slot now (w, i) ≡ own_slot maps (x.piece, i)
  lower-slot i below = by_own x.piece.own refl
    where
      by_own : (o : Option ℕ) → x.piece.own ≡ o → option_and_then (λ n. slot_in now n i) o ≡ option_and_then (λ n. slot_in maps n i) o
      by_own None e = refl
      by_own (Some n) e =
          ap (λ (o : Option Map). slice_index_or (unwrap_or o (record { places = []; holders = 0 })).places i None) (lower-map n e) ∙ get_or-take cut_to (places_of maps n) i None below

  cut-shows : (k : ℕ) → piece_at new k ≡ cond (has up k) (Some (u, k - page)) (cond (has x k) (Some (w, k - x.first)) (piece_at parts k))
  cut-shows k = at-cut_both page w u parts x old-order found lt k

  turn-here : (k : ℕ) (y : Spot) → piece_at parts k ≡ Some y → (v : Spot) × (piece_at new k ≡ Some v) × Turns y v
  turn-here k y there = elim (cases_Bool (has x k)) [
    | inl t ↦
        let in_x = has-within x k t in
        let from = in_x.from in
        let below = in_x.below in
        let same : (x.piece, k - x.first) ≡ y = let z : Some (x.piece, k - x.first) ≡ Some y = sym (at-found 1 parts page k x old-order found t) ∙ there in cc in
        elim (cases_lt k page) [
          | inl before ↦
              let no : has up k ≡ false = elim (cases_Bool (has up k)) [ inl b ↦ absurd (let c = (has-within up k b).from in omega (arith, c, before)) | inr f ↦ f ] in (
                (w, k - x.first),
                cut-shows k ∙ ap (λ (b : Bool). cond b (Some (u, k - page)) (cond (has x k) (Some (w, k - x.first)) (piece_at parts k))) no ∙ ap (λ (b : Bool). cond b (Some (w, k - x.first)) (piece_at parts k)) t,
                subst (λ (s : Spot). Turns s (w, k - x.first)) same (half-turns w (k - x.first) (k - x.first) refl refl refl refl refl refl (lower-slot (k - x.first) (omega (arith, before, from))) refl),
              )
          | inr le ↦
              let yes : has up k ≡ true = has-in up k le (omega (arith, below, high, lt)) in (
                (u, k - page),
                cut-shows k ∙ ap (λ (b : Bool). cond b (Some (u, k - page)) (cond (has x k) (Some (w, k - x.first)) (piece_at parts k))) yes,
                subst (λ (s : Spot). Turns s (u, k - page)) same (half-turns u (k - page) (k - x.first) refl refl refl refl refl (omega (arith, le, lt)) (upper-slot k le) (some-mapped x.piece.own)),
              )
        ]
    | inr out ↦
        let no : has up k ≡ false = elim (cases_Bool (has up k)) [
          | inl b ↦ absurd (let c = has-within up k b in let from = c.from in let below = c.below in let z : false ≡ true = sym out ∙ has-in x k (omega (arith, from, lt)) (omega (arith, below, high)) in cc)
          | inr f ↦ f
        ] in (
          y,
          cut-shows k ∙ ap (λ (b : Bool). cond b (Some (u, k - page)) (cond (has x k) (Some (w, k - x.first)) (piece_at parts k))) no ∙ ap (λ (b : Bool). cond b (Some (w, k - x.first)) (piece_at parts k)) out ∙ there,
          kept-turns y (rest-keeps k y out there),
        )
  ]
    where
      rest-keeps : (k : ℕ) (y : Spot) → has x k ≡ false → piece_at parts k ≡ Some y → KeepsMaps maps now y.0
      rest-keeps k y out there =
          let P = λ (a : Part Segment). SegmentFits files maps a × KeepsMaps maps now a.piece in
          let here : finite.get rest p ≡ Some (without_part x.first parts) = get-insert_here m.spaces p (without_part x.first parts) in
          let gone : piece_at (without_part x.first parts) k ≡ Some y = at-without_part 1 x.first parts x old-order (found-begins 1 parts page x old-order found) k ∙ ap (λ (b : Bool). cond b None (piece_at parts k)) out ∙ there in
          let s = spot-in P 1 (without_part x.first parts) k y (omega arith) (ordered-without_part 1 x.first parts old-order) (keeps p (without_part x.first parts) here) gone in
          subst (KeepsMaps maps now) s.piece s.fits.1

  turn-spot : (q k : ℕ) (y : Spot) → spot_at m.spaces q k ≡ Some y → (v : Spot) × (spot_at after q k ≡ Some v) × Turns y v
  turn-spot q k y there = elim (cases_eq q p) [
    | inl same ↦
        let here : piece_at parts k ≡ Some y = sym (ap (option_and_then (λ (ps : List (Part Segment)). piece_at ps k)) is) ∙ ap (λ (j : ℕ). spot_at m.spaces j k) (sym same) ∙ there in
        let v = turn-here k y here in
        (v.0, ap (λ (j : ℕ). spot_at after j k) same ∙ ap (option_and_then (λ (ps : List (Part Segment)). piece_at ps k)) (get-insert_here m.spaces p new) ∙ v.1, v.2)
    | inr ne ↦
        let P = λ (a : Part Segment). KeepsMaps maps now a.piece in
        let s : IsSpotOf P k y = by_space q ne k y (finite.get m.spaces q) refl there in
        (y, ap (option_and_then (λ (ps : List (Part Segment)). piece_at ps k)) (get-insert_apart m.spaces p new q ne) ∙ there, kept-turns y (subst (KeepsMaps maps now) s.piece s.fits))
  ]
    where
      by_space : (q : ℕ) → q ≢ p → (k : ℕ) (y : Spot) (o : Option (List (Part Segment))) → finite.get m.spaces q ≡ o → option_and_then (λ (ps : List (Part Segment)). piece_at ps k) o ≡ Some y → IsSpotOf (λ (a : Part Segment). KeepsMaps maps now a.piece) k y
      by_space q ne k y None e there = absurd (let z : None ≡ Some y = there in cc)
      by_space q ne k y (Some ps) e there = spot-in (λ (a : Part Segment). KeepsMaps maps now a.piece) 1 ps k y (omega arith) (fits.segments.ordered q ps e)
          (all-turn (λ (a : Part Segment). SegmentFits files maps a × KeepsMaps maps now a.piece) (λ (a : Part Segment). KeepsMaps maps now a.piece) ps (λ a both. both.1) (others q ps ne e)) there

  none-here : (k : ℕ) → piece_at parts k ≡ None → piece_at new k ≡ None
  none-here k none =
      let out : has x k ≡ false = elim (cases_Bool (has x k)) [
        | inl t ↦ absurd (let z : Some (x.piece, k - x.first) ≡ None = sym (at-found 1 parts page k x old-order found t) ∙ none in cc)
        | inr f ↦ f
      ] in
      let no : has up k ≡ false = elim (cases_Bool (has up k)) [
        | inl b ↦ absurd (let c = has-within up k b in let from = c.from in let below = c.below in let z : false ≡ true = sym out ∙ has-in x k (omega (arith, from, lt)) (omega (arith, below, high)) in cc)
        | inr f ↦ f
      ] in
      cut-shows k ∙ ap (λ (b : Bool). cond b (Some (u, k - page)) (cond (has x k) (Some (w, k - x.first)) (piece_at parts k))) no ∙ ap (λ (b : Bool). cond b (Some (w, k - x.first)) (piece_at parts k)) out ∙ none

  -- each page that has a cell then had one
  spot-was : (q k : ℕ) (v : Spot) → spot_at after q k ≡ Some v → (y : Spot) × (spot_at m.spaces q k ≡ Some y) × (zero_map v.0 ≡ zero_map y.0)
  spot-was q k v there = by_old (spot_at m.spaces q k) refl
    where
      by_old : (o : Option Spot) → spot_at m.spaces q k ≡ o → (y : Spot) × (spot_at m.spaces q k ≡ Some y) × (zero_map v.0 ≡ zero_map y.0)
      by_old (Some y) e =
          let t = turn-spot q k y e in
          let same : t.0 ≡ v = let z : Some t.0 ≡ Some v = sym t.1 ∙ there in cc in
          (y, e, ap (λ (s : Spot). zero_map s.0) (sym same) ∙ t.2.zero)
      by_old None e = absurd (elim (cases_eq q p) [
        | inl same ↦
            let none : piece_at parts k ≡ None = sym (ap (option_and_then (λ (ps : List (Part Segment)). piece_at ps k)) is) ∙ ap (λ (j : ℕ). spot_at m.spaces j k) (sym same) ∙ e in
            let z : None ≡ Some v = sym (ap (λ (j : ℕ). spot_at after j k) same ∙ ap (option_and_then (λ (ps : List (Part Segment)). piece_at ps k)) (get-insert_here m.spaces p new) ∙ none-here k none) ∙ there in cc
        | inr ne ↦ let z : None ≡ Some v = sym (ap (option_and_then (λ (ps : List (Part Segment)). piece_at ps k)) (get-insert_apart m.spaces p new q ne) ∙ e) ∙ there in cc
      ])

  within : (z n : ℕ) → IsShown after z n → finite.get zs z ≡ Some n
  within z n s =
      let y = spot-was s.process s.page s.spot s.here in
      fits-shown files m.world.anon maps m.spaces fits.segments z n (record { process = s.process; page = s.page; spot = y.0; here = y.1; shows = sym y.2 ∙ s.shows })

  pub zeros-now : zero_maps after ≡ zs
  zeros-now = maps-are after ordered-after zs within (λ z n there.
      let s = shown-by m.spaces z n fits.segments.ordered there in
      let v = turn-spot s.process s.page s.spot s.here in
      record { process = s.process; page = s.page; spot = v.0; here = v.1; shows = v.2.zero ∙ s.shows })

  -- the map of a zero object that is shown isn't the one that is cut
  zero-apart : (z n : ℕ) → finite.get zs z ≡ Some n → x.piece.own ≢ Some n
  zero-apart z n there own = own-is-unshown m fits p parts is page x found z n own (own-x n own).1 there

  zero-still : (z n : ℕ) → finite.get zs z ≡ Some n → places_of now n ≡ places_of maps n
  zero-still z n there = (still n (zero-there m fits z n there) (zero-apart z n there)).1

  counts : CountsFit (record m.world.anon { reserved = m.world.anon.reserved }) now
  counts =
      let f = λ (ps : List (Option ℕ)). length ps in
      let a = held-sum f mid x.piece.shown there-mid in
      let b = mid-sum maps x.piece.own number cut_to there-own unused f refl (length-parts cut_to) in
      let d = fits.counts.places in
      counts-change m.world.anon maps now m.world.anon.reserved fits.counts
      (λ slot.
      let g = λ (ps : List (Option ℕ)). count_by (is_number slot) ps in
      let a = held-sum g mid x.piece.shown there-mid in
      let b = mid-sum maps x.piece.own number cut_to there-own unused g refl (λ ps. sum_by-take-drop (λ (o : Option ℕ). cond {A = ℕ} (is_number slot o) 1 0) ps cut_to) in
      omega (arith, a, b))
      (omega (arith, a, b, d)) fits.counts.sound.reserved

  slots-parted : slots_for_part down + slots_for_part up ≡ slots_for_part x
  slots-parted = by_kind x.piece.kind
    where
      by_kind : (k : Kind) → (elim k as (λ (k : Kind). ℕ) [ Private ↦ cut_to | Shared ↦ 0 ]) + (elim k as (λ (k : Kind). ℕ) [ Private ↦ x.first + x.pages - page | Shared ↦ 0 ]) ≡ elim k as (λ (k : Kind). ℕ) [ Private ↦ x.pages | Shared ↦ 0 ]
      by_kind Shared = refl
      by_kind Private = omega (arith, lt, high)

  segments : SegmentsFit files (record m.world.anon { reserved = m.world.anon.reserved }) now after
  segments = segments-change files m.world.anon maps now m.world.anon.reserved m.spaces p parts new zs fits.segments is order
      (all-cut-rest (SegmentFits files now) 1 page w u parts x old-order found (others-fit (without_part x.first parts) (keeps p (without_part x.first parts) (get-insert_here m.spaces p (without_part x.first parts)))) down-fits up-fits)
      (λ q ps ne there. others-fit ps (others q ps ne there))
      (λ n.
      let a = held-holders mid x.piece.shown n there-mid in
      let b = mid-holders maps x.piece.own number cut_to there-own unused n in
      let c = sum-cut (had n) page w u parts x found in
      omega (arith, a, b, c))
      within fits.segments.apart
      (λ z n place slot there held.
      let was = ap (λ (t : finite.FinMap nat_cmp ℕ). finite.get t z) (sym zeros-now) ∙ there in
      fits.segments.once z n place slot was (sym (slot-in-same maps now n place (zero-still z n was)) ∙ held))
      (let c = sum-cut slots_for_part page w u parts x found in
      let d = slots-parted in
      let e = ap (total (λ number. length (places_of now number))) zeros-now in
      let f = total-same (λ number. length (places_of maps number)) (λ number. length (places_of now number)) zs (λ z n there. ap (λ (ps : List (Option ℕ)). length ps) (zero-still z n there)) in
      omega (arith, c, d, e, f))

  -- FLAT MEMORY stays
  flat-is : (born : set.FinSet nat_cmp) (notes : Notes) → flat_memory (with_part_cut m p page number parts x) born notes ≡ flat_memory m born notes
  flat-is born notes =
      let F : Flat = flat_memory m born notes in
      let page = page_value m.world notes in
      let s = space-is m p parts born notes is in
      let e = swept-flat m now m.world.anon.reserved p new born notes F.zeros (cells_of F p) segments
      (spaces-change m now m.world.anon.reserved p new (cells_of F p) born notes fits.segments.ordered
      (λ q ps ne there. all-turn (λ (a : Part Segment). SegmentFits files maps a × KeepsMaps maps now a.piece) (λ (a : Part Segment). KeepsMaps maps now a.piece) ps (λ a both. both.1) (others q ps ne there))
      (λ k. cells page k (piece_at parts k) refl ∙ sym (cell-is m p parts born notes k is)))
      (λ z n there.
      let was = ap (λ (t : finite.FinMap nat_cmp ℕ). finite.get t z) (sym zeros-now) ∙ there in
      zero-pages-of m fits born notes z n was ∙ ap (λ (ps : List Page). Some ps) (sym (zero-pages-same (page_value m.world notes) maps now n (zero-still z n was)))) in
      let back : with_space F p (cells_of F p) ≡ F = ap (λ (t : finite.FinMap nat_cmp Space). record F { spaces = t }) (put_back F p (ap is_some s)) in
      let all : without_unnamed F ≡ F = ap (λ (t : finite.FinMap nat_cmp (List Page)). record F { zeros = t }) (sym (zeros-are m born (contents_of m.world notes) fits.segments F.zeros (λ z n there. zero-pages-of m fits born notes z n there))) in
      e ∙ ap without_unnamed back ∙ all
    where
      cells : (page : PageName → Page) (k : ℕ) (o : Option Spot) → piece_at parts k ≡ o → option_map (cell_of (place_contents page now)) (piece_at new k) ≡ option_map (cell_of (place_contents page maps)) (piece_at parts k)
      cells page k None e = ap (option_map (cell_of (place_contents page now))) (none-here k e) ∙ ap (option_map (cell_of (place_contents page maps))) (sym e)
      cells page k (Some y) e =
          let v = turn-here k y e in
          ap (option_map (cell_of (place_contents page now))) v.1 ∙ ap (λ (c : Cell). Some c) (v.2.cell page) ∙ ap (option_map (cell_of (place_contents page maps))) (sym e)

  pub part-cut : ChangesSegments p m (with_part_cut m p page number parts x) (λ F. F)
  part-cut = change-memory m now m.world.anon.reserved after p (λ F. F) fits (λ q ne. get-insert_apart m.spaces p new q ne) counts segments
      (λ place t there l. let v = turn-spot t.space t.page l.spot l.here in (v.0, v.1, v.2.shows))
      flat-is (λ born notes whole. (flat-is born notes, subst IsFlat (sym (flat-is born notes)) whole))
