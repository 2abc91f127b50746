-- THE PARTS THAT COME: one that shows a file, a zero object that is there, or new zero memory of its own; and one with a new zero object.
use Rattle.std.proofs.Common.{◌≡◌, ℕ, zero, suc, ◌+◌, ◌≤◌, Bool, true, false, cond, List, [], ◌∷◌, length, Option, Some, None, refl, sym, ap, ◌∙◌, ◌⊎◌, inl, inr, subst, arith, slice_index_or}
use Rattle.std.specs.Prelude.{sum_by, count_by, option_map, option_and_then, is_some, IsSome, All, unwrap_or, replicate}
use Rattle.std.specs.Option.{option_or}
use Rattle.std.specs.Ordering.{nat_cmp}
use Rattle.std.specs.FinMap as finite
use Rattle.std.specs.FinSet as set
use Rattle.std.proofs.lemmas.Bool.{cases_eq}
use Rattle.std.proofs.lemmas.List.{length-replicate}
use Rattle.std.proofs.lemmas.List.Elements.{All-nil, All-cons}
use Rattle.std.proofs.lemmas.List.Sums.{sum_by-cons}
use Rattle.flat_model.specs.vm_types.declared.call.Kind.{Kind}
use Rattle.flat_model.specs.vm_types.declared.call.Kind.TheVariants.{Shared, Private}
use Rattle.flat_model.specs.vm_types.declared.call.Object.{Object}
use Rattle.flat_model.specs.vm_types.declared.call.Object.TheVariants as object
use Rattle.addr_space.specs.Space.{Part, part_at, with_new_part}
use Rattle.addr_space.proofs.PartLists.{all-found}
use Rattle.anon_map.specs.Maps.{Map, anon_map_at, IsMapThere, IsUnused, places_of, holders_of, fresh_map}
use Rattle.page_store.specs.Notes.{Notes}
use Rattle.flat_model.specs.Flat.{Flat, IsCell, IsFlat}
use Rattle.flat_model.specs.Mapping.{own_for}
use Rattle.flat_model.specs.Words.{Page, IsPage, zero_page}
use Rattle.flat_model.proofs.Ranges.{get-insert_here, get-insert_apart}
use Rattle.flat_model.proofs.Sums.{total, total-insert}
use Rattle.flat_model.proofs.WellFormed.{IsPage-zero_page}
use Rattle.page_store.specs.page_hash.declared.PageName.{PageName}
use Rattle.anon_map.proofs.MapLaws.{with_map_same}
use Rattle.vm_world.specs.CountsFit.{CountsFit, SegmentFits, ObjectFits, OwnFits, times_had, is_number, slots_for_part}
use Rattle.vm_world.specs.FlatMemory.{Memory, flat_memory, cell_of, own_page, own_without_slot, zero_maps, zero_pages, pages_from}
use Rattle.vm_world.specs.MapSteps.{maps_made, maps_held}
use Rattle.vm_world.specs.MemoryFits.{MemoryFits}
use Rattle.vm_world.specs.Pages.{place_contents, page_value, contents_of}
use Rattle.vm_world.specs.SegmentSteps.{with_part_come, with_zero_part, with_new_cells, with_zero_object, MayCome, MayMakeZero, IsOwnNew, segment_cell, ChangesSegments}
use Rattle.vm_world.specs.Segments.{Segment, Spaces, zero_map}
use Rattle.vm_world.specs.World.{slot_in, slot_name}
use Rattle.vm_world.proofs.GoneParts.{shown-of-zero}
use Rattle.vm_world.proofs.KeptMaps.{KeepsMaps, same-places, same-there, own-there, shown-there, all-both, all-every, slot-in-same}
use Rattle.vm_world.proofs.Lists.{all-turn}
use Rattle.vm_world.proofs.MapChanges.{made, made-else, made-sum, made-holders, held-else, held-places, held-sum, held-holders, slot-replicate, count-empty}
use Rattle.vm_world.proofs.Maps.{get-map_with}
use Rattle.vm_world.proofs.NewParts.{Comes, part-comes, zeros-now}
use Rattle.vm_world.proofs.PartSums.{all_parts, part-le, sum-segments}
use Rattle.vm_world.proofs.Reserves.{total-same}
use Rattle.vm_world.proofs.SegmentChange.{counts-change}
use Rattle.vm_world.proofs.ShownZeros.{shown-by, zero_map-of, is-the-number}
use Rattle.vm_world.proofs.Spots.{IsSpotOf, spot-part}
use Rattle.vm_world.proofs.SweptFlat.{zero-pages-same}

-- an own map is that of no zero object
pub sum-split : {X : Type 0} (f g : X → ℕ) (xs : List X) → sum_by (λ x. f x + g x) xs ≡ sum_by f xs + sum_by g xs
sum-split f g [] = refl
sum-split f g (x ∷ xs) =
    let a = sum_by-cons (λ x. f x + g x) x xs in
    let b = sum_by-cons f x xs in
    let c = sum_by-cons g x xs in
    let more = sum-split f g xs in
    omega (arith, a, b, c, more)

abbrev pub own_had : ℕ → Part Segment → ℕ
own_had n a = cond (is_number n a.piece.own) 1 0

abbrev pub shown_had : ℕ → Part Segment → ℕ
shown_had n a = cond (is_number n a.piece.shown) 1 0

pub parts-split : (n : ℕ) (spaces : Spaces) → all_parts (λ (a : Part Segment). times_had n a.piece) spaces ≡ all_parts (own_had n) spaces + all_parts (shown_had n) spaces
parts-split n spaces =
    let each : (λ (ps : List (Part Segment)). sum_by (λ (a : Part Segment). times_had n a.piece) ps) ≡ (λ (ps : List (Part Segment)). sum_by (own_had n) ps + sum_by (shown_had n) ps) = λ i ps. sum-split (own_had n) (shown_had n) ps i in
    ap (λ (f : List (Part Segment) → ℕ). sum_by f (finite.values spaces)) each ∙ sum-split (λ (ps : List (Part Segment)). sum_by (own_had n) ps) (λ (ps : List (Part Segment)). sum_by (shown_had n) ps) (finite.values spaces)

module _ (m : Memory) (fits : MemoryFits m) where
  pub own-unshown : (q : ℕ) (ps : List (Part Segment)) → finite.get m.spaces q ≡ Some ps → All (λ (a : Part Segment). (z n : ℕ) → a.piece.own ≡ Some n → holders_of m.world.maps n ≡ 1 → finite.get (zero_maps m.spaces) z ≡ Some n → ⊥) ps
  own-unshown q ps there = all-every-of ps (λ n. part-le (own_had n) m.spaces q ps there)
    where
      seen : (z n : ℕ) → finite.get (zero_maps m.spaces) z ≡ Some n → 1 ≤ all_parts (shown_had n) m.spaces
      seen z n is =
          let s = shown-by m.spaces z n fits.segments.ordered is in
          let P = λ (a : Part Segment). shown_had n a ≤ all_parts (shown_had n) m.spaces in
          let o : IsSpotOf P s.page s.spot = spot-part P m.spaces s.process s.page s.spot fits.segments.ordered (λ q ps there. part-le (shown_had n) m.spaces q ps there) s.here in
          let le = o.fits in
          let one : shown_had n o.part ≡ 1 = ap (λ (b : Bool). cond {A = ℕ} b 1 0) (is-the-number n o.part.piece.shown (ap (λ (t : Segment). t.shown) o.piece ∙ shown-of-zero s.spot.0 z n s.shows)) in
          omega (arith, le, one)

      one-of : (a : Part Segment) → ((n : ℕ) → own_had n a ≤ all_parts (own_had n) m.spaces) → (z n : ℕ) → a.piece.own ≡ Some n → holders_of m.world.maps n ≡ 1 → finite.get (zero_maps m.spaces) z ≡ Some n → ⊥
      one-of a le z n own one is =
          let mine : own_had n a ≡ 1 = ap (λ (b : Bool). cond {A = ℕ} b 1 0) (is-the-number n a.piece.own own) in
          let l = le n in
          let other = seen z n is in
          let split = parts-split n m.spaces in
          let all = sum-segments (times_had n) m.spaces in
          let h = fits.segments.holders n in
          absurd (omega (arith, mine, l, other, split, all, h, one))

      all-every-of : (ps : List (Part Segment)) → ((n : ℕ) → All (λ (a : Part Segment). own_had n a ≤ all_parts (own_had n) m.spaces) ps) → All (λ (a : Part Segment). (z n : ℕ) → a.piece.own ≡ Some n → holders_of m.world.maps n ≡ 1 → finite.get (zero_maps m.spaces) z ≡ Some n → ⊥) ps
      all-every-of ps each = all-turn (λ (a : Part Segment). (n : ℕ) → own_had n a ≤ all_parts (own_had n) m.spaces) (λ (a : Part Segment). (z n : ℕ) → a.piece.own ≡ Some n → holders_of m.world.maps n ≡ 1 → finite.get (zero_maps m.spaces) z ≡ Some n → ⊥) ps one-of
          (all-every (λ (n : ℕ) (a : Part Segment). own_had n a ≤ all_parts (own_had n) m.spaces) ps each)

  pub own-is-unshown : (q : ℕ) (ps : List (Part Segment)) → finite.get m.spaces q ≡ Some ps → (page : ℕ) (x : Part Segment) → part_at ps page ≡ Some x → (z n : ℕ) → x.piece.own ≡ Some n → holders_of m.world.maps n ≡ 1 → finite.get (zero_maps m.spaces) z ≡ Some n → ⊥
  own-is-unshown q ps there page x found = all-found (λ (a : Part Segment). (z n : ℕ) → a.piece.own ≡ Some n → holders_of m.world.maps n ≡ 1 → finite.get (zero_maps m.spaces) z ≡ Some n → ⊥) ps page x (own-unshown q ps there) found

-- the cell of a part that comes
own-new : (k : Kind) (o : Object) → k ≡ Private → own_without_slot o ≡ own_for k o
own-new Private object.NewZero e = refl
own-new Private (object.File f) e = refl
own-new Private (object.Zero z) e = refl
own-new Shared o e = absurd (let z : Shared ≡ Private = e in cc)

own-none : (k : Kind) (o : Object) → k ≡ Shared → None ≡ own_for k o
own-none Shared object.NewZero e = refl
own-none Shared (object.File f) e = refl
own-none Shared (object.Zero z) e = refl
own-none Private o e = absurd (let z : Private ≡ Shared = e in cc)

cell-good : (s : Segment) (i : ℕ) → IsCell (segment_cell s i)
cell-good s i = record {
  page = λ own is. page s.kind s.object own is;
  shared = λ is. sym (own-none s.kind s.object is);
  zero = λ private new. subst (λ (o : Option Page). IsSome o) (own-new s.kind s.object private) (subst (λ (o : Object). IsSome (own_without_slot o)) (sym new) refl);
}
  where
    page : (k : Kind) (o : Object) (own : Page) → own_for k o ≡ Some own → IsPage own
    page Private object.NewZero own is = subst IsPage (let z : Some zero_page ≡ Some own = is in let e : zero_page ≡ own = cc in e) IsPage-zero_page
    page Private (object.File f) own is = absurd (let z : None ≡ Some own = is in cc)
    page Private (object.Zero z) own is = absurd (let z : None ≡ Some own = is in cc)
    page Shared object.NewZero own is = absurd (let z : None ≡ Some own = is in cc)
    page Shared (object.File f) own is = absurd (let z : None ≡ Some own = is in cc)
    page Shared (object.Zero z) own is = absurd (let z : None ≡ Some own = is in cc)

-- the cell at a place whose own map holds no slot
new-cell : (page : PageName → Page) (now : List (Option Map)) (s : Segment) (i : ℕ) → ((n : ℕ) → s.own ≡ Some n → (slot_in now n i ≡ None) × (s.kind ≡ Private)) → (s.own ≡ None → s.kind ≡ Shared) → cell_of (place_contents page now) (s, i) ≡ segment_cell s i
new-cell page now s i empty shared =
    let own : own_page (place_contents page now) (s, i) ≡ own_for s.kind s.object = by_own s.own refl in
    λ j. record { prot = s.prot; max = s.max; kind = s.kind; object = s.object; index = s.index + i; own = own j }
  where
    by_own : (o : Option ℕ) → s.own ≡ o → option_and_then (λ number. option_or (place_contents page now number i) (own_without_slot s.object)) o ≡ own_for s.kind s.object
    by_own None e = own-none s.kind s.object (shared e)
    by_own (Some n) e =
        let h = empty n e in
        ap (λ (t : Option ℕ). option_or (option_map (λ slot. page (slot_name slot)) t) (own_without_slot s.object)) h.0 ∙ own-new s.kind s.object h.1

-- the map of a zero object is there
module _ (m : Memory) (fits : MemoryFits m) where
  pub zero-there : (z n : ℕ) → finite.get (zero_maps m.spaces) z ≡ Some n → IsMapThere m.world.maps n
  zero-there z n is =
      let s = shown-by m.spaces z n fits.segments.ordered is in
      let o : IsSpotOf (SegmentFits (length m.world.files.files) m.world.maps) s.page s.spot = spot-part (SegmentFits (length m.world.files.files) m.world.maps) m.spaces s.process s.page s.spot fits.segments.ordered fits.segments.each s.here in
      (shown-there (length m.world.files.files) m.world.maps o.part.piece o.part.piece.object n o.fits.object (ap (λ (t : Segment). t.shown) o.piece ∙ shown-of-zero s.spot.0 z n s.shows)).0

  pub zero-pages-of : (born : set.FinSet nat_cmp) (notes : Notes) (z n : ℕ) → finite.get (zero_maps m.spaces) z ≡ Some n
      → finite.get (flat_memory m born notes).zeros z ≡ Some (zero_pages (place_contents (page_value m.world notes) m.world.maps) (λ number. length (places_of m.world.maps number)) n)
  zero-pages-of born notes z n is =
      get-map_with (zero_pages (contents_of m.world notes).place (λ number. length (places_of m.world.maps number))) (zero_maps m.spaces) z
      ∙ ap (option_map (zero_pages (contents_of m.world notes).place (λ number. length (places_of m.world.maps number)))) is

made-nothing : (f : List (Option ℕ) → ℕ) (o : Option ℕ) (pages : ℕ) → f (replicate pages None) ≡ 0 → made f o pages ≡ 0
made-nothing f None pages none = refl
made-nothing f (Some k) pages none = none

no-slots : (slot pages : ℕ) → count_by (is_number slot) (replicate pages None) ≡ 0
no-slots slot pages = count-empty (is_number slot) (replicate pages None) refl (slot-replicate pages)

module _ (m : Memory) (p : ℕ) (parts : List (Part Segment)) (x : Part Segment) (fits : MemoryFits m) (is : finite.get m.spaces p ≡ Some parts) (may : MayCome m parts x) where
  abbrev maps : List (Option Map)
  maps = m.world.maps

  abbrev mid : List (Option Map)
  mid = maps_made maps x.piece.own x.piece.pages

  abbrev now : List (Option Map)
  now = maps_held mid x.piece.shown

  abbrev files : ℕ
  files = length m.world.files.files

  abbrev zs : finite.FinMap nat_cmp ℕ
  zs = zero_maps m.spaces

  own-x : (k : ℕ) → x.piece.own ≡ Some k → IsUnused maps k × (x.piece.kind ≡ Private)
  own-x k its = by_kind x.piece.kind may.own
    where
      by_kind : (kind : Kind) → IsOwnNew maps x.piece kind → IsUnused maps k × (kind ≡ Private)
      by_kind Shared fit = absurd (let z : None ≡ Some k = sym fit ∙ its in cc)
      by_kind Private fit = (subst (IsUnused maps) (let z : Some fit.0 ≡ Some k = sym fit.1 ∙ its in let e : fit.0 ≡ k = cc in e) fit.2, refl)

  pub unused : (k : ℕ) → x.piece.own ≡ Some k → IsUnused maps k
  unused k its = (own-x k its).0

  shared-x : x.piece.own ≡ None → x.piece.kind ≡ Shared
  shared-x none = by_kind x.piece.kind may.own
    where
      by_kind : (kind : Kind) → IsOwnNew maps x.piece kind → kind ≡ Shared
      by_kind Shared fit = refl
      by_kind Private fit = absurd (let z : None ≡ Some fit.0 = sym none ∙ fit.1 in cc)

  shown-x : (n : ℕ) → x.piece.shown ≡ Some n → IsMapThere maps n × ((z : ℕ) × (x.piece.object ≡ object.Zero z))
  shown-x n its = shown-there files maps x.piece x.piece.object n may.object its

  same-mid : (n : ℕ) → IsMapThere maps n → anon_map_at mid n ≡ anon_map_at maps n
  same-mid n there = made-else maps x.piece.own x.piece.pages n unused there

  there-mid : (n : ℕ) → x.piece.shown ≡ Some n → IsMapThere mid n
  there-mid n its = same-there maps mid n (same-mid n (shown-x n its).0) (shown-x n its).0

  pub still : (n : ℕ) → IsMapThere maps n → IsMapThere now n × (places_of now n ≡ places_of maps n)
  still n there =
      let same = same-mid n there in
      let h = held-places mid x.piece.shown n (same-there maps mid n same there) in
      (h.0, h.1 ∙ same-places maps mid n same)

  pub keeps : (q : ℕ) (ps : List (Part Segment)) → finite.get m.spaces q ≡ Some ps → All (λ (a : Part Segment). KeepsMaps maps now a.piece) ps
  keeps q ps there = all-turn (λ (a : Part Segment). SegmentFits files maps a × ((z n : ℕ) → a.piece.own ≡ Some n → holders_of maps n ≡ 1 → finite.get zs z ≡ Some n → ⊥)) (λ (a : Part Segment). KeepsMaps maps now a.piece) ps
      (λ a both. record {
        own = λ n its.
            let o = own-there maps a.piece a.piece.kind n both.0.own its in
            held-else mid x.piece.shown n (λ shown. (let z = (shown-x n shown).1 in both.1 z.0 n its o.1 (may.zero z.0 n (zero_map-of x.piece z.0 n z.1 shown)))) ∙ same-mid n o.0;
        shown = λ n its. still n (shown-there files maps a.piece a.piece.object n both.0.object its).0;
      })
      (all-both (SegmentFits files maps) (λ (a : Part Segment). (z n : ℕ) → a.piece.own ≡ Some n → holders_of maps n ≡ 1 → finite.get zs z ≡ Some n → ⊥) ps (fits.segments.each q ps there) (own-unshown m fits q ps there))

  -- the own map that comes
  pub own-here : (k : ℕ) → x.piece.own ≡ Some k → anon_map_at now k ≡ Some (fresh_map (replicate x.piece.pages None))
  own-here k its =
      held-else mid x.piece.shown k (λ shown. absurd (let t : IsSome (anon_map_at maps k) = (shown-x k shown).0 in let z : false ≡ true = sym (ap is_some (unused k its).absent) ∙ t in cc))
      ∙ ap (λ (o : Option ℕ). anon_map_at (maps_made maps o x.piece.pages) k) its ∙ with_map_same maps k (fresh_map (replicate x.piece.pages None)) (unused k its)

  part-x : SegmentFits files now x
  part-x = record {
    pages = may.place.pages;
    end = may.place.end;
    within = may.place.within;
    object = by_object x.piece.object may.object;
    own = by_kind x.piece.kind may.own;
  }
    where
      by_object : (o : Object) → ObjectFits files maps x.piece o → ObjectFits files now x.piece o
      by_object (object.File f) fit = fit
      by_object (object.Zero z) fit = (fit.0, fit.1, (still fit.0 fit.2).0)
      by_object object.NewZero fit = fit

      by_kind : (kind : Kind) → IsOwnNew maps x.piece kind → OwnFits now x.piece kind
      by_kind Shared fit = fit
      by_kind Private fit =
          let e = own-here fit.0 fit.1 in (
            fit.0,
            fit.1,
            subst (λ (o : Option Map). IsSome o) (sym e) refl,
            ap (λ (o : Option Map). length (unwrap_or o (record { places = []; holders = 0 })).places) e ∙ length-replicate x.piece.pages None,
            ap (λ (o : Option Map). (unwrap_or o (record { places = []; holders = 0 })).holders) e,
          )

  abbrev more : ℕ
  more = m.world.anon.reserved + slots_for_part x

  own-length : made (λ (ps : List (Option ℕ)). length ps) x.piece.own x.piece.pages ≡ slots_for_part x
  own-length = by_kind x.piece.kind may.own refl
    where
      by_kind : (kind : Kind) → IsOwnNew maps x.piece kind → x.piece.kind ≡ kind → made (λ (ps : List (Option ℕ)). length ps) x.piece.own x.piece.pages ≡ slots_for_part x
      by_kind Shared fit e = ap (λ (o : Option ℕ). made (λ (ps : List (Option ℕ)). length ps) o x.piece.pages) fit ∙ sym (ap (λ (k : Kind). elim k as (λ (k : Kind). ℕ) [ Private ↦ x.pages | Shared ↦ 0 ]) e)
      by_kind Private fit e =
          ap (λ (o : Option ℕ). made (λ (ps : List (Option ℕ)). length ps) o x.piece.pages) fit.1 ∙ length-replicate x.piece.pages None ∙ sym may.place.pages
          ∙ sym (ap (λ (k : Kind). elim k as (λ (k : Kind). ℕ) [ Private ↦ x.pages | Shared ↦ 0 ]) e)

  counts : CountsFit (record m.world.anon { reserved = more }) now
  counts =
      let f = λ (ps : List (Option ℕ)). length ps in
      let a = held-sum f mid x.piece.shown there-mid in
      let b = made-sum f maps x.piece.own x.piece.pages refl unused in
      let c = own-length in
      let d = fits.counts.places in
      counts-change m.world.anon maps now more fits.counts
      (λ slot.
      let g = λ (ps : List (Option ℕ)). count_by (is_number slot) ps in
      let a = held-sum g mid x.piece.shown there-mid in
      let b = made-sum g maps x.piece.own x.piece.pages refl unused in
      let c = made-nothing g x.piece.own x.piece.pages (no-slots slot x.piece.pages) in
      omega (arith, a, b, c))
      (omega (arith, a, b, c, d)) may.room

  zeros-same : total (λ number. length (places_of now number)) zs ≡ total (λ number. length (places_of maps number)) zs
  zeros-same = total-same (λ number. length (places_of maps number)) (λ number. length (places_of now number)) zs (λ z n there. ap (λ (ps : List (Option ℕ)). length ps) (still n (zero-there m fits z n there)).1)

  pub comes : Comes m p parts x now more zs
  comes = record {
    place = may.place;
    keeps = keeps;
    part = part-x;
    counts = counts;
    holders = λ n.
        let a = held-holders mid x.piece.shown n there-mid in
        let b = made-holders maps x.piece.own x.piece.pages n unused in
        omega (arith, a, b);
    old = λ z n is. is;
    shown = may.zero;
    from = λ z n is. inl is;
    apart = fits.segments.apart;
    once = λ z n place slot there held. fits.segments.once z n place slot there (sym (slot-in-same maps now n place (still n (zero-there m fits z n there)).1) ∙ held);
    reserved = let a = zeros-same in omega (arith, a);
  }

  pub zeros-come : zero_maps (finite.insert m.spaces p (with_new_part x parts)) ≡ zs
  zeros-come = zeros-now m p parts x now more zs fits is comes

  pub part-come : ChangesSegments p m (with_part_come m p parts x) (λ F. with_new_cells F p x.first x.pages (segment_cell x.piece))
  part-come = part-comes m p parts x now more zs fits is comes (λ F. F.zeros)
      (λ born notes z n there. zero-pages-of m fits born notes z n there ∙ ap (λ (ps : List Page). Some ps) (sym (zero-pages-same (page_value m.world notes) maps now n (still n (zero-there m fits z n there)).1)))
      (λ F flat. flat)
      (λ notes i. new-cell (page_value m.world notes) now x.piece i
      (λ n its. (ap (λ (o : Option Map). slice_index_or (unwrap_or o (record { places = []; holders = 0 })).places i None) (own-here n its) ∙ slot-replicate x.piece.pages i, (own-x n its).1))
      shared-x)
      (cell-good x.piece)

-- A NEW ZERO OBJECT
pub zeros-from : (page : ℕ → Page) (k n : ℕ) → ((i : ℕ) → page i ≡ zero_page) → pages_from page k n ≡ replicate n zero_page
zeros-from page k zero same = refl
zeros-from page k (suc n) same = let a = same k in let b = zeros-from page (suc k) n same in λ i. a i ∷ b i

all-zeros : (n : ℕ) → All IsPage (replicate n zero_page)
all-zeros zero = All-nil IsPage
all-zeros (suc n) = All-cons IsPage zero_page (replicate n zero_page) IsPage-zero_page (all-zeros n)

pub flat-new-zero : (F : Flat) (z n : ℕ) → IsFlat F → IsFlat (with_zero_object F z n)
flat-new-zero F z n flat = record {
  pages = flat.pages;
  cells = flat.cells;
  files = flat.files;
  zeros = λ y ps is. elim (cases_eq y z) [
    | inl same ↦ subst (All IsPage) (let k : Some (replicate n zero_page) ≡ Some ps = sym (get-insert_here F.zeros z (replicate n zero_page)) ∙ ap (finite.get (finite.insert F.zeros z (replicate n zero_page))) (sym same) ∙ is in let e : replicate n zero_page ≡ ps = cc in e) (all-zeros n)
    | inr ne ↦ flat.zeros y ps (sym (get-insert_apart F.zeros z (replicate n zero_page) y ne) ∙ is)
  ];
  born = flat.born;
}

module _ (m : Memory) (p : ℕ) (parts : List (Part Segment)) (x : Part Segment) (z number : ℕ) (fits : MemoryFits m) (is : finite.get m.spaces p ≡ Some parts) (may : MayMakeZero m parts x z number) where
  abbrev maps_before : List (Option Map)
  maps_before = m.world.maps

  abbrev with_made : List (Option Map)
  with_made = maps_made maps_before x.piece.shown x.piece.pages

  abbrev all_files : ℕ
  all_files = length m.world.files.files

  abbrev with_number : finite.FinMap nat_cmp ℕ
  with_number = finite.insert (zero_maps m.spaces) z number

  is-unused : (k : ℕ) → x.piece.shown ≡ Some k → IsUnused maps_before k
  is-unused k its = subst (IsUnused maps_before) (let y : Some number ≡ Some k = sym may.shown ∙ its in let e : number ≡ k = cc in e) may.unused

  same-made : (n : ℕ) → IsMapThere maps_before n → anon_map_at with_made n ≡ anon_map_at maps_before n
  same-made n there = made-else maps_before x.piece.shown x.piece.pages n is-unused there

  here-made : anon_map_at with_made number ≡ Some (fresh_map (replicate x.piece.pages None))
  here-made = ap (λ (o : Option ℕ). anon_map_at (maps_made maps_before o x.piece.pages) number) may.shown ∙ with_map_same maps_before number (fresh_map (replicate x.piece.pages None)) may.unused

  zero-x : zero_map x.piece ≡ Some (z, number)
  zero-x = zero_map-of x.piece z number may.object may.shown

  shared-slots : slots_for_part x ≡ 0
  shared-slots = ap (λ (k : Kind). elim k as (λ (k : Kind). ℕ) [ Private ↦ x.pages | Shared ↦ 0 ]) may.shared

  length-made : made (λ (ps : List (Option ℕ)). length ps) x.piece.shown x.piece.pages ≡ x.pages
  length-made = ap (λ (o : Option ℕ). made (λ (ps : List (Option ℕ)). length ps) o x.piece.pages) may.shown ∙ length-replicate x.piece.pages None ∙ sym may.place.pages

  get-old : (y n : ℕ) → finite.get (zero_maps m.spaces) y ≡ Some n → finite.get with_number y ≡ Some n
  get-old y n there = get-insert_apart (zero_maps m.spaces) z number y (λ e. absurd (let k : None ≡ Some n = sym may.unnamed ∙ ap (finite.get (zero_maps m.spaces)) (sym e) ∙ there in cc)) ∙ there

  get-from : (y n : ℕ) → finite.get with_number y ≡ Some n → ((y ≡ z) × (n ≡ number)) ⊎ (finite.get (zero_maps m.spaces) y ≡ Some n)
  get-from y n there = elim (cases_eq y z) [
    | inl e ↦ inl (e, (let k : Some number ≡ Some n = sym (get-insert_here (zero_maps m.spaces) z number) ∙ ap (finite.get with_number) (sym e) ∙ there in let d : number ≡ n = cc in sym d))
    | inr ne ↦ inr (sym (get-insert_apart (zero_maps m.spaces) z number y ne) ∙ there)
  ]

  not-old : (y n : ℕ) → n ≡ number → finite.get (zero_maps m.spaces) y ≡ Some n → ⊥
  not-old y n e there = absurd (let t : IsSome (anon_map_at maps_before number) = subst (λ (k : ℕ). IsMapThere maps_before k) e (zero-there m fits y n there) in let k : false ≡ true = sym (ap is_some may.unused.absent) ∙ t in cc)

  zero-part-comes : Comes m p parts x with_made (m.world.anon.reserved + x.pages) with_number
  zero-part-comes =
      let f = λ (ps : List (Option ℕ)). length ps in
      let b = made-sum f maps_before x.piece.shown x.piece.pages refl is-unused in
      let c = length-made in
      let d = fits.counts.places in
      record {
        place = may.place;
        keeps = λ q ps there. all-turn (SegmentFits all_files maps_before) (λ (a : Part Segment). KeepsMaps maps_before with_made a.piece) ps
            (λ a fit. record {
              own = λ n its. same-made n (own-there maps_before a.piece a.piece.kind n fit.own its).0;
              shown = λ n its. let t = (shown-there all_files maps_before a.piece a.piece.object n fit.object its).0 in (same-there maps_before with_made n (same-made n t) t, same-places maps_before with_made n (same-made n t));
            }) (fits.segments.each q ps there);
        part = record {
          pages = may.place.pages;
          end = may.place.end;
          within = may.place.within;
          object = subst (λ (o : Object). ObjectFits all_files with_made x.piece o) (sym may.object) (number, may.shown, subst (λ (o : Option Map). IsSome o) (sym here-made) refl);
          own = subst (λ (k : Kind). OwnFits with_made x.piece k) (sym may.shared) may.own;
        };
        counts = counts-change m.world.anon maps_before with_made (m.world.anon.reserved + x.pages) fits.counts
            (λ slot.
            let g = λ (ps : List (Option ℕ)). count_by (is_number slot) ps in
            let b = made-sum g maps_before x.piece.shown x.piece.pages refl is-unused in
            let c = made-nothing g x.piece.shown x.piece.pages (no-slots slot x.piece.pages) in
            omega (arith, b, c))
            (omega (arith, b, c, d)) may.room;
        holders = λ n.
            let a = made-holders maps_before x.piece.shown x.piece.pages n is-unused in
            let b = ap (λ (o : Option ℕ). cond {A = ℕ} (is_number n o) 1 0) may.own in
            omega (arith, a, b);
        old = get-old;
        shown = λ y n its.
            let e : (z, number) ≡ (y, n) = let k : Some (z, number) ≡ Some (y, n) = sym zero-x ∙ its in cc in
            ap (finite.get with_number) (sym (ap (λ (t : ℕ × ℕ). t.0) e)) ∙ get-insert_here (zero_maps m.spaces) z number ∙ ap (λ (t : ℕ × ℕ). Some t.1) e;
        from = λ y n there. elim (get-from y n there) [
          | inl e ↦ inr (zero-x ∙ ap (λ (k : ℕ). Some (k, number)) (sym e.0) ∙ ap (λ (k : ℕ). Some (y, k)) (sym e.1))
          | inr was ↦ inl was
        ];
        apart = λ y w n there also. elim (get-from y n there) [
          | inl e ↦ elim (get-from w n also) [ inl d ↦ e.0 ∙ sym d.0 | inr was ↦ absurd (not-old w n e.1 was) ]
          | inr was ↦ elim (get-from w n also) [ inl d ↦ absurd (not-old y n d.1 was) | inr had ↦ fits.segments.apart y w n was had ]
        ];
        once = λ y n place slot there held. elim (get-from y n there) [
          | inl e ↦ absurd (let k : None ≡ Some slot = sym (ap (λ (o : Option Map). slice_index_or (unwrap_or o (record { places = []; holders = 0 })).places place None) here-made ∙ slot-replicate x.piece.pages place) ∙ ap (λ (j : ℕ). slot_in with_made j place) (sym e.1) ∙ held in cc)
          | inr was ↦ fits.segments.once y n place slot was (sym (slot-in-same maps_before with_made n place (same-places maps_before with_made n (same-made n (zero-there m fits y n was)))) ∙ held)
        ];
        reserved =
            let a = total-insert (λ (n : ℕ). length (places_of with_made n)) (zero_maps m.spaces) z number may.unnamed in
            let b = total-same (λ (n : ℕ). length (places_of maps_before n)) (λ (n : ℕ). length (places_of with_made n)) (zero_maps m.spaces) (λ y n there. ap (λ (ps : List (Option ℕ)). length ps) (same-places maps_before with_made n (same-made n (zero-there m fits y n there)))) in
            let c : length (places_of with_made number) ≡ x.pages = ap (λ (o : Option Map). length (unwrap_or o (record { places = []; holders = 0 })).places) here-made ∙ length-replicate x.piece.pages None ∙ sym may.place.pages in
            let d = shared-slots in
            omega (arith, a, b, c, d);
      }

  pub zeros-made : zero_maps (finite.insert m.spaces p (with_new_part x parts)) ≡ with_number
  zeros-made = zeros-now m p parts x with_made (m.world.anon.reserved + x.pages) with_number fits is zero-part-comes

  pub zero-part-come : ChangesSegments p m (with_zero_part m p parts x) (λ F. with_new_cells (with_zero_object F z x.pages) p x.first x.pages (segment_cell x.piece))
  zero-part-come = part-comes m p parts x with_made (m.world.anon.reserved + x.pages) with_number fits is zero-part-comes (λ F. finite.insert F.zeros z (replicate x.pages zero_page))
      (λ born notes y n there.
      let F : Flat = flat_memory m born notes in
      let page = page_value m.world notes in
      elim (get-from y n there) [
        | inl e ↦
            ap (finite.get (finite.insert F.zeros z (replicate x.pages zero_page))) e.0 ∙ get-insert_here F.zeros z (replicate x.pages zero_page)
            ∙ ap (λ (ps : List Page). Some ps) (ap (λ (k : ℕ). replicate k zero_page) may.place.pages ∙ sym (new-pages page) ∙ ap (λ (k : ℕ). zero_pages (place_contents page with_made) (λ number. length (places_of with_made number)) k) (sym e.1))
        | inr was ↦
            get-insert_apart F.zeros z (replicate x.pages zero_page) y (λ e. absurd (let k : None ≡ Some n = sym may.unnamed ∙ ap (finite.get (zero_maps m.spaces)) (sym e) ∙ was in cc))
            ∙ zero-pages-of m fits born notes y n was
            ∙ ap (λ (ps : List Page). Some ps) (sym (zero-pages-same page maps_before with_made n (same-places maps_before with_made n (same-made n (zero-there m fits y n was)))))
      ])
      (λ F flat. flat-new-zero F z x.pages flat)
      (λ notes i. new-cell (page_value m.world notes) with_made x.piece i (λ n its. absurd (let k : None ≡ Some n = sym may.own ∙ its in cc)) (λ none. may.shared))
      (cell-good x.piece)
    where
      new-pages : (page : PageName → Page) → zero_pages (place_contents page with_made) (λ number. length (places_of with_made number)) number ≡ replicate x.piece.pages zero_page
      new-pages page =
          ap (λ (o : Option Map). pages_from (λ place. unwrap_or (option_map (λ slot. page (slot_name slot)) (slice_index_or (unwrap_or o (record { places = []; holders = 0 })).places place None)) zero_page) 0 (length (unwrap_or o (record { places = []; holders = 0 })).places)) here-made
          ∙ ap (λ (k : ℕ). pages_from (λ place. unwrap_or (option_map (λ slot. page (slot_name slot)) (slice_index_or (replicate x.piece.pages None) place None)) zero_page) 0 k) (length-replicate x.piece.pages None)
          ∙ zeros-from (λ place. unwrap_or (option_map (λ slot. page (slot_name slot)) (slice_index_or (replicate x.piece.pages None) place None)) zero_page) 0 x.piece.pages
          (λ i. ap (λ (o : Option ℕ). unwrap_or (option_map (λ slot. page (slot_name slot)) o) zero_page) (slot-replicate x.piece.pages i))
