-- A PROCESS GOES that has no part.
use Rattle.flat_model.proofs.WellFormed.{IsFlat-without_process as flat-without_process}
use Rattle.std.proofs.Common.{◌≡◌, ◌≢◌, ℕ, List, [], length, Some, None, refl, sym, ap, ◌∙◌, inl, inr, subst, arith}
use Rattle.std.specs.Prelude.{option_and_then}
use Rattle.std.specs.Ordering.{nat_cmp}
use Rattle.std.specs.FinMap as finite
use Rattle.std.specs.FinSet as set
use Rattle.std.proofs.lemmas.Bool.{cases_eq}
use Rattle.addr_space.specs.Space.{Part, piece_at, IsInOrder}
use Rattle.anon_map.specs.Maps.{places_of}
use Rattle.page_store.specs.Notes.{Notes}
use Rattle.flat_model.specs.Flat.{Space, Flat, IsFlat, names_zero}
use Rattle.flat_model.specs.Processes.{without_process}
use Rattle.flat_model.proofs.Ranges.{get-remove_here, get-remove_apart}
use Rattle.flat_model.proofs.Sums.{total}
use Rattle.vm_world.specs.CountsFit.{SegmentsFit, times_had, slots_for_part}
use Rattle.vm_world.specs.FlatMemory.{Memory, flat_memory, space_with, zero_maps}
use Rattle.vm_world.specs.MemoryFits.{MemoryFits}
use Rattle.vm_world.specs.Pages.{contents_of}
use Rattle.vm_world.specs.SegmentSteps.{ChangesSegments}
use Rattle.vm_world.specs.Segments.{Segment, Spot, Spaces, spot_at}
use Rattle.vm_world.specs.SpaceSteps.{without_space}
use Rattle.vm_world.proofs.ComingParts.{zero-pages-of}
use Rattle.vm_world.proofs.Maps.{map-remove}
use Rattle.vm_world.proofs.PartSums.{sum-remove, sum-segments}
use Rattle.vm_world.proofs.SegmentChange.{change-memory}
use Rattle.vm_world.proofs.ShownZeros.{IsShown, shown-by, fits-shown, all-shown, maps-are, zeros-are}

module _ (m : Memory) (p : ℕ) (fits : MemoryFits m) (is : finite.get m.spaces p ≡ Some []) where
  abbrev after : Spaces
  after = finite.remove m.spaces p

  -- it has no page
  not-here : (q k : ℕ) (y : Spot) → spot_at m.spaces q k ≡ Some y → q ≢ p
  not-here q k y there e = let z : None ≡ Some y = sym (ap (λ (j : ℕ). spot_at m.spaces j k) e ∙ ap (option_and_then (λ (ps : List (Part Segment)). piece_at ps k)) is) ∙ there in cc

  spot-after : (q k : ℕ) (y : Spot) → spot_at m.spaces q k ≡ Some y → spot_at after q k ≡ Some y
  spot-after q k y there = ap (option_and_then (λ (ps : List (Part Segment)). piece_at ps k)) (get-remove_apart m.spaces p q (not-here q k y there)) ∙ there

  old-get : (q : ℕ) (ps : List (Part Segment)) → finite.get after q ≡ Some ps → finite.get m.spaces q ≡ Some ps
  old-get q ps there = elim (cases_eq q p) [
    | inl e ↦ absurd (let z : None ≡ Some ps = sym (get-remove_here m.spaces p) ∙ ap (finite.get after) (sym e) ∙ there in cc)
    | inr ne ↦ sym (get-remove_apart m.spaces p q ne) ∙ there
  ]

  spot-before : (q k : ℕ) (y : Spot) → spot_at after q k ≡ Some y → spot_at m.spaces q k ≡ Some y
  spot-before q k y there = elim (cases_eq q p) [
    | inl e ↦ absurd (let z : None ≡ Some y = sym (ap (λ (j : ℕ). spot_at after j k) e ∙ ap (option_and_then (λ (ps : List (Part Segment)). piece_at ps k)) (get-remove_here m.spaces p)) ∙ there in cc)
    | inr ne ↦ sym (ap (option_and_then (λ (ps : List (Part Segment)). piece_at ps k)) (get-remove_apart m.spaces p q ne)) ∙ there
  ]

  within : (z n : ℕ) → IsShown after z n → finite.get (zero_maps m.spaces) z ≡ Some n
  within z n s = fits-shown (length m.world.files.files) m.world.anon m.world.maps m.spaces fits.segments z n (record { process = s.process; page = s.page; spot = s.spot; here = spot-before s.process s.page s.spot s.here; shows = s.shows })

  ordered : (q : ℕ) (ps : List (Part Segment)) → finite.get after q ≡ Some ps → IsInOrder 1 ps
  ordered q ps there = fits.segments.ordered q ps (old-get q ps there)

  pub zeros-now : zero_maps after ≡ zero_maps m.spaces
  zeros-now = maps-are after ordered (zero_maps m.spaces) within (λ z n there.
      let s = shown-by m.spaces z n fits.segments.ordered there in
      record { process = s.process; page = s.page; spot = s.spot; here = spot-after s.process s.page s.spot s.here; shows = s.shows })

  segments : SegmentsFit (length m.world.files.files) m.world.anon m.world.maps after
  segments = record {
    ordered = ordered;
    each = λ q ps there. fits.segments.each q ps (old-get q ps there);
    holders = λ n.
        let a = fits.segments.holders n in
        let b = sum-segments (times_had n) m.spaces in
        let c = sum-segments (times_had n) after in
        let d = sum-remove (λ (a : Part Segment). times_had n a.piece) m.spaces p [] is in
        omega (arith, a, b, c, d);
    zeros = all-shown after ordered (zero_maps m.spaces) within;
    apart = subst (λ (zs : finite.FinMap nat_cmp ℕ). (y z n : ℕ) → finite.get zs y ≡ Some n → finite.get zs z ≡ Some n → y ≡ z) (sym zeros-now) fits.segments.apart;
    once = λ z n place slot there. fits.segments.once z n place slot (ap (λ (zs : finite.FinMap nat_cmp ℕ). finite.get zs z) (sym zeros-now) ∙ there);
    reserved =
        let a = fits.segments.reserved in
        let b = sum-remove slots_for_part m.spaces p [] is in
        let c = ap (total (λ number. length (places_of m.world.maps number))) zeros-now in
        omega (arith, a, b, c);
  }

  flat-is : (born : set.FinSet nat_cmp) (notes : Notes) → flat_memory (without_space m p) born notes ≡ without_process (flat_memory m born notes) p
  flat-is born notes =
      let F : Flat = flat_memory m born notes in
      let n : Memory = without_space m p in
      let s : (flat_memory n born notes).spaces ≡ finite.remove F.spaces p = map-remove (space_with (contents_of m.world notes).place) m.spaces p in
      let z : (flat_memory n born notes).zeros ≡ (without_process F p).zeros =
      zeros-are n born (contents_of n.world notes) segments F.zeros (λ z k there. zero-pages-of m fits born notes z k (ap (λ (zs : finite.FinMap nat_cmp ℕ). finite.get zs z) (sym zeros-now) ∙ there))
      ∙ ap (λ (t : finite.FinMap nat_cmp Space). finite.retain_keys F.zeros (names_zero t)) s in
      λ i. record { slots = F.slots; disks = F.disks; files = F.files; zeros = z i; spaces = s i; born = born }

  pub process-left : ChangesSegments p m (without_space m p) (λ F. without_process F p)
  process-left = change-memory m m.world.maps m.world.anon.reserved after p (λ F. without_process F p) fits (λ q ne. get-remove_apart m.spaces p q ne) fits.counts segments
      (λ place t there l. (l.spot, spot-after t.space t.page l.spot l.here, record { prot = refl; kind = refl; own = refl; name = refl }))
      flat-is (λ born notes whole. let e = flat-is born notes in (e, subst IsFlat (sym e) (flat-without_process (flat_memory m born notes) p whole)))
