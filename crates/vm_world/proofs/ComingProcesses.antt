-- A PROCESS COMES that has no part.
use Rattle.std.proofs.Common.{◌≡◌, ◌≢◌, ℕ, ◌+◌, Bool, List, [], length, Some, None, sym, ap, ◌∙◌, ◌⊎◌, inl, inr, subst, arith}
use Rattle.std.specs.Prelude.{option_and_then, sum_by, All, is_some, ◌||◌}
use Rattle.std.specs.Ordering.{nat_cmp}
use Rattle.std.specs.Cmp.{nat_cmp_total, unsigned_tied}
use Rattle.std.specs.FinMap as finite
use Rattle.std.specs.FinSet as set
use Rattle.std.proofs.lemmas.Bool.{cases_eq, eq-eqb, or_right}
use Rattle.std.proofs.lemmas.List.Elements.{All-nil}
use Rattle.addr_space.specs.Space.{Part, piece_at, IsInOrder}
use Rattle.anon_map.specs.Maps.{places_of}
use Rattle.page_store.specs.Notes.{Notes}
use Rattle.flat_model.specs.Access.{with_space}
use Rattle.flat_model.specs.Flat.{Cell, Space, Flat, IsFlat, cell_at}
use Rattle.flat_model.proofs.Ranges.{same_space, get-insert_here, get-insert_apart}
use Rattle.flat_model.proofs.Sums.{total, total-insert}
use Rattle.vm_world.specs.CountsFit.{SegmentFits, SegmentsFit, times_had, slots_for_part}
use Rattle.vm_world.specs.FlatMemory.{Memory, flat_memory, space_with, zero_maps, map_with, zero_pages}
use Rattle.vm_world.specs.MemoryFits.{MemoryFits}
use Rattle.vm_world.specs.Pages.{contents_of}
use Rattle.vm_world.specs.Segments.{Segment, Spot, Spaces, spot_at}
use Rattle.vm_world.proofs.Maps.{map-insert, get-space_with}
use Rattle.vm_world.proofs.PartSums.{all_parts, sum-segments}
use Rattle.vm_world.proofs.ShownZeros.{IsShown, shown-by, fits-shown, all-shown, maps-are}

sum-new : (f : Part Segment → ℕ) (spaces : Spaces) (p : ℕ) (parts : List (Part Segment)) → finite.get spaces p ≡ None → all_parts f (finite.insert spaces p parts) ≡ sum_by f parts + all_parts f spaces
sum-new f spaces p parts none = total-insert (λ (ps : List (Part Segment)). sum_by f ps) spaces p parts none

module _ (m : Memory) (g : ℕ) (fits : MemoryFits m) (none : finite.get m.spaces g ≡ None) where
  abbrev after : Spaces
  after = finite.insert m.spaces g []

  -- it has no page, nor had it one
  not-here : (q k : ℕ) (y : Spot) → spot_at m.spaces q k ≡ Some y → q ≢ g
  not-here q k y there e = let z : None ≡ Some y = sym (ap (λ (j : ℕ). spot_at m.spaces j k) e ∙ ap (option_and_then (λ (ps : List (Part Segment)). piece_at ps k)) none) ∙ there in cc

  spot-after : (q k : ℕ) (y : Spot) → spot_at m.spaces q k ≡ Some y → spot_at after q k ≡ Some y
  spot-after q k y there = ap (option_and_then (λ (ps : List (Part Segment)). piece_at ps k)) (get-insert_apart m.spaces g [] q (not-here q k y there)) ∙ there

  spot-before : (q k : ℕ) (y : Spot) → spot_at after q k ≡ Some y → spot_at m.spaces q k ≡ Some y
  spot-before q k y there = elim (cases_eq q g) [
    | inl e ↦ absurd (let z : None ≡ Some y = sym (ap (λ (j : ℕ). spot_at after j k) e ∙ ap (option_and_then (λ (ps : List (Part Segment)). piece_at ps k)) (get-insert_here m.spaces g [])) ∙ there in cc)
    | inr ne ↦ sym (ap (option_and_then (λ (ps : List (Part Segment)). piece_at ps k)) (get-insert_apart m.spaces g [] q ne)) ∙ there
  ]

  parts-were : (q : ℕ) (ps : List (Part Segment)) → finite.get after q ≡ Some ps → ([] ≡ ps) ⊎ (finite.get m.spaces q ≡ Some ps)
  parts-were q ps there = elim (cases_eq q g) [
    | inl e ↦ inl (let z : Some [] ≡ Some ps = sym (get-insert_here m.spaces g []) ∙ ap (finite.get after) (sym e) ∙ there in cc)
    | inr ne ↦ inr (sym (get-insert_apart m.spaces g [] q ne) ∙ there)
  ]

  ordered : (q : ℕ) (ps : List (Part Segment)) → finite.get after q ≡ Some ps → IsInOrder 1 ps
  ordered q ps there = elim (parts-were q ps there) [ inl new ↦ subst (IsInOrder 1) new tt | inr was ↦ fits.segments.ordered q ps was ]

  within : (z n : ℕ) → IsShown after z n → finite.get (zero_maps m.spaces) z ≡ Some n
  within z n s = fits-shown (length m.world.files.files) m.world.anon m.world.maps m.spaces fits.segments z n (record { process = s.process; page = s.page; spot = s.spot; here = spot-before s.process s.page s.spot s.here; shows = s.shows })

  pub zeros-now : zero_maps after ≡ zero_maps m.spaces
  zeros-now = maps-are after ordered (zero_maps m.spaces) within (λ z n there.
      let s = shown-by m.spaces z n fits.segments.ordered there in
      record { process = s.process; page = s.page; spot = s.spot; here = spot-after s.process s.page s.spot s.here; shows = s.shows })

  segments : SegmentsFit (length m.world.files.files) m.world.anon m.world.maps after
  segments = record {
    ordered = ordered;
    each = λ q ps there. elim (parts-were q ps there) [
      | inl new ↦ subst (All (SegmentFits (length m.world.files.files) m.world.maps)) new (All-nil (SegmentFits (length m.world.files.files) m.world.maps))
      | inr was ↦ fits.segments.each q ps was
    ];
    holders = λ n.
        let a = fits.segments.holders n in
        let b = sum-segments (times_had n) m.spaces in
        let c = sum-segments (times_had n) after in
        let d = sum-new (λ (a : Part Segment). times_had n a.piece) m.spaces g [] none in
        omega (arith, a, b, c, d);
    zeros = all-shown after ordered (zero_maps m.spaces) within;
    apart = subst (λ (zs : finite.FinMap nat_cmp ℕ). (y z n : ℕ) → finite.get zs y ≡ Some n → finite.get zs z ≡ Some n → y ≡ z) (sym zeros-now) fits.segments.apart;
    once = λ z n place slot there. fits.segments.once z n place slot (ap (λ (zs : finite.FinMap nat_cmp ℕ). finite.get zs z) (sym zeros-now) ∙ there);
    reserved =
        let a = fits.segments.reserved in
        let b = sum-new slots_for_part m.spaces g [] none in
        let c = ap (total (λ number. length (places_of m.world.maps number))) zeros-now in
        omega (arith, a, b, c);
  }

  pub process-fits : MemoryFits (record m { spaces = after })
  process-fits = record {
    frames = fits.frames;
    files = fits.files;
    disks = fits.disks;
    pool = fits.pool;
    translations = λ place t there.
        let l = fits.translations place t there in
        record { spot = l.spot; here = spot-after t.space t.page l.spot l.here; name = l.name; shows = l.shows; home = l.home; unlisted = l.unlisted; allowed = l.allowed; writable = l.writable };
    unpushed = fits.unpushed;
    counts = fits.counts;
    segments = segments;
  }

  -- in flat memory it has no cell
  pub process-flat : (born : set.FinSet nat_cmp) (notes : Notes) → flat_memory (record m { spaces = after }) born notes ≡ with_space (flat_memory m born notes) g finite.empty
  process-flat born notes =
      let F : Flat = flat_memory m born notes in
      let c = contents_of m.world notes in
      let none : space_with c.place [] ≡ finite.empty = same_space (space_with c.place []) finite.empty (λ q. get-space_with c.place [] q ∙ sym (finite.get-empty nat_cmp q)) in
      let s : map_with (space_with c.place) after ≡ finite.insert F.spaces g finite.empty = map-insert (space_with c.place) m.spaces g [] ∙ ap (finite.insert F.spaces g) none in
      let z : map_with (zero_pages c.place (λ number. length (places_of m.world.maps number))) (zero_maps after) ≡ F.zeros = ap (map_with (zero_pages c.place (λ number. length (places_of m.world.maps number)))) zeros-now in
      λ i. record { slots = F.slots; disks = F.disks; files = F.files; zeros = z i; spaces = s i; born = born }

-- WELL FORMED with one process more that was ever alive, and no cell
pub flat-with_process : (F : Flat) (g : ℕ) → IsFlat F → IsFlat (with_space (record F { born = set.insert F.born g }) g finite.empty)
flat-with_process F g flat = record {
  pages = λ x q c at. flat.pages x q c (before x q c at);
  cells = λ x q c at. flat.cells x q c (before x q c at);
  files = flat.files;
  zeros = flat.zeros;
  born = λ x alive. set.contains-insert nat_cmp_total F.born g x ∙ elim (cases_eq x g) [
    | inl here ↦ ap (λ (b : Bool). b || set.contains F.born x) (unsigned_tied x g ∙ eq-eqb x g here)
    | inr apart ↦ or_right _ (set.contains F.born x) (flat.born x (ap is_some (sym (get-insert_apart F.spaces g finite.empty x apart)) ∙ alive))
  ];
}
  where
    before : (x q : ℕ) (c : Cell) → cell_at (with_space F g finite.empty) x q ≡ Some c → cell_at F x q ≡ Some c
    before x q c at = elim (cases_eq x g) [
      | inl here ↦ absurd (
          let z : None ≡ Some c = sym (finite.get-empty nat_cmp q) ∙ sym (ap (option_and_then (λ (s : Space). finite.get s q)) (get-insert_here F.spaces g finite.empty)) ∙ ap (λ (j : ℕ). cell_at (with_space F g finite.empty) j q) (sym here) ∙ at in cc)
      | inr apart ↦ sym (ap (option_and_then (λ (s : Space). finite.get s q)) (get-insert_apart F.spaces g finite.empty x apart)) ∙ at
    ]
