-- NUMBERS MORE that name no anon map: memory fits as before, and flat memory is as it was.
use Rattle.std.proofs.Common.{◌≡◌, ℕ, zero, suc, ◌+◌, List, [], ◌∷◌, ◌++◌, length, Option, None, refl, sym, ◌∙◌, subst, arith}
use Rattle.std.specs.Prelude.{count_by, sum_by, option_map, replicate}
use Rattle.std.specs.FinMap as finite
use Rattle.std.specs.FinSet as set
use Rattle.std.specs.Ordering.{nat_cmp}
use Rattle.std.proofs.lemmas.List.Elements.{All-replicate}
use Rattle.std.proofs.lemmas.List.Sums.{sum_by-append}
use Rattle.addr_space.specs.Space.{Part}
use Rattle.anon_map.specs.Maps.{Map, anon_map_at, places_of}
use Rattle.page_store.specs.Notes.{Notes}
use Rattle.flat_model.specs.Flat.{IsFlat}
use Rattle.vm_world.specs.CountsFit.{SegmentFits, SegmentsFit, places_in, is_number, slots_for_part}
use Rattle.vm_world.specs.FlatMemory.{Memory, flat_memory, flat_shaped, shape_of, zero_maps}
use Rattle.vm_world.specs.MemoryFits.{MemoryFits}
use Rattle.vm_world.specs.Pages.{contents_of, page_value}
use Rattle.vm_world.specs.SegmentSteps.{ChangesSegments, with_more_numbers}
use Rattle.vm_world.specs.Segments.{Segment}
use Rattle.vm_world.specs.World.{slot_name}
use Rattle.vm_world.proofs.KeptMaps.{KeepsMaps, same-places, same-holders, same-there, slot-in-same, shown-there, kept-fits}
use Rattle.vm_world.proofs.Lists.{all-turn, sum-zero}
use Rattle.vm_world.proofs.SegmentChange.{counts-change, change-memory, shows-kept}
use Rattle.vm_world.proofs.Spots.{IsSpotOf, spot-part}

-- a number that names no map has none, as one past the end
pub past-none : (maps : List (Option Map)) (more n : ℕ) → anon_map_at (maps ++ replicate more None) n ≡ anon_map_at maps n
past-none [] zero n = refl
past-none [] (suc more) zero = refl
past-none [] (suc more) (suc n) = past-none [] more n
past-none (o ∷ os) more zero = refl
past-none (o ∷ os) more (suc n) = past-none os more n

sum-more : (f : List (Option ℕ) → ℕ) (maps : List (Option Map)) (more : ℕ) → f [] ≡ 0 → sum_by (λ m. f (places_in m)) (maps ++ replicate more None) ≡ sum_by (λ m. f (places_in m)) maps
sum-more f maps more none =
    let a = sum_by-append (λ (m : Option Map). f (places_in m)) maps (replicate more None) in
    let b = sum-zero (λ (m : Option Map). f (places_in m)) (replicate more None) (All-replicate (λ (m : Option Map). f (places_in m) ≡ 0) more None none) in
    omega (arith, a, b)

module _ (m : Memory) (more : ℕ) (fits : MemoryFits m) where
  abbrev maps : List (Option Map)
  maps = m.world.maps

  abbrev now : List (Option Map)
  now = maps ++ replicate more None

  abbrev files : ℕ
  files = length m.world.files.files

  places-same : (n : ℕ) → places_of now n ≡ places_of maps n
  places-same n = same-places maps now n (past-none maps more n)

  keeps : (a : Part Segment) → SegmentFits files maps a → KeepsMaps maps now a.piece
  keeps a fit = record {
    own = λ n is. past-none maps more n;
    shown = λ n is. (same-there maps now n (past-none maps more n) (shown-there files maps a.piece a.piece.object n fit.object is).0, places-same n);
  }

  segments : SegmentsFit files m.world.anon now m.spaces
  segments = record {
    ordered = fits.segments.ordered;
    each = λ q ps is. all-turn (SegmentFits files maps) (SegmentFits files now) ps (λ a fit. kept-fits files maps now a (keeps a fit) fit) (fits.segments.each q ps is);
    holders = λ n. same-holders maps now n (past-none maps more n) ∙ fits.segments.holders n;
    zeros = fits.segments.zeros;
    apart = fits.segments.apart;
    once = λ z n place slot is held. fits.segments.once z n place slot is (sym (slot-in-same maps now n place (places-same n)) ∙ held);
    reserved = (λ i. sum_by (λ parts. sum_by slots_for_part parts) (finite.values m.spaces) + sum_by (λ number. length (places-same number i)) (finite.values (zero_maps m.spaces))) ∙ fits.segments.reserved;
  }

  flat : (born : set.FinSet nat_cmp) (notes : Notes) → flat_memory (with_more_numbers m more) born notes ≡ flat_memory m born notes
  flat born notes =
      let lengths : (λ (n : ℕ). length (places_of now n)) ≡ (λ (n : ℕ). length (places_of maps n)) = λ i n. length (places-same n i) in
      let held : (contents_of (with_more_numbers m more).world notes).place ≡ (contents_of m.world notes).place = λ i number place. option_map (λ slot. page_value m.world notes (slot_name slot)) (slot-in-same maps now number place (places-same number) i) in
      λ i. flat_shaped (record (shape_of m) { lengths = lengths i }) born (record (contents_of m.world notes) { place = held i })

  pub more-numbers : (p : ℕ) → ChangesSegments p m (with_more_numbers m more) (λ F. F)
  more-numbers p = change-memory m now m.world.anon.reserved m.spaces p (λ F. F) fits (λ q ne. refl)
      (counts-change m.world.anon maps now m.world.anon.reserved fits.counts (λ slot. sum-more (count_by (is_number slot)) maps more refl) (sum-more length maps more refl ∙ fits.counts.places) fits.counts.sound.reserved)
      segments
      (λ place t there l.
      let s : IsSpotOf (SegmentFits files maps) t.page l.spot = spot-part (SegmentFits files maps) m.spaces t.space t.page l.spot fits.segments.ordered fits.segments.each l.here in
      (l.spot, l.here, shows-kept maps now l.spot (subst (KeepsMaps maps now) s.piece (keeps s.part s.fits))))
      flat (λ born notes whole. (flat born notes, subst IsFlat (sym (flat born notes)) whole))
