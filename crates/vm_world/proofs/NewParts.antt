-- A PART COMES where no page has a cell, with its anon maps.
use Rattle.flat_model.proofs.WellFormed.{IsFlat-with_space as flat-with_space, IsFlat-without_unnamed as flat-unnamed}
use Rattle.std.proofs.Common.{◌≡◌, ℕ, ◌+◌, ◌-◌, Bool, true, false, cond, List, length, Option, Some, None, refl, sym, ap, ◌∙◌, ◌⊎◌, inl, inr, subst, arith}
use Rattle.std.specs.Prelude.{option_map, option_and_then, is_some, All}
use Rattle.std.specs.Ordering.{nat_cmp}
use Rattle.std.specs.FinMap as finite
use Rattle.std.specs.FinSet as set
use Rattle.std.proofs.lemmas.Bool.{cases_Bool, cases_eq}
use Rattle.flat_model.specs.vm_types.Pages.{IsUserPage}
use Rattle.addr_space.specs.Space.{Part, IsInOrder, piece_at, has, with_new_part}
use Rattle.addr_space.proofs.PartLemmas.{has-in, has-within, at-put, ordered-put}
use Rattle.addr_space.proofs.PartLists.{all-put}
use Rattle.anon_map.specs.Maps.{Map, places_of, holders_of}
use Rattle.page_store.specs.Notes.{Notes}
use Rattle.flat_model.specs.Access.{with_space}
use Rattle.flat_model.specs.Flat.{Cell, Space, Flat, IsCell, IsFlat}
use Rattle.flat_model.specs.Mapping.{cells_of}
use Rattle.flat_model.specs.Space.{is_in_range, with_cells}
use Rattle.flat_model.specs.Words.{Page}
use Rattle.flat_model.proofs.Ranges.{get-insert_here, get-insert_apart, get-with_cells, in_range-low, in_range-high}
use Rattle.flat_model.proofs.Sums.{total}
use Rattle.page_store.specs.page_hash.declared.PageName.{PageName}
use Rattle.vm_world.specs.CountsFit.{CountsFit, SegmentFits, SegmentsFit, times_had, slots_for_part}
use Rattle.vm_world.specs.FlatMemory.{Memory, flat_memory, cell_of, zero_maps, zero_pages}
use Rattle.vm_world.specs.MemoryFits.{MemoryFits}
use Rattle.vm_world.specs.Pages.{place_contents, page_value}
use Rattle.vm_world.specs.SegmentSteps.{with_segments, HasPlace, segment_cell, with_new_cells, ChangesSegments}
use Rattle.vm_world.specs.Segments.{Segment, Spot, Spaces, spot_at, zero_map}
use Rattle.vm_world.specs.SpaceSteps.{Becomes}
use Rattle.anon_slots.specs.Slots.{count_at}
use Rattle.vm_world.specs.World.{slot_in}
use Rattle.vm_world.proofs.FlatSpaces.{Standing}
use Rattle.vm_world.proofs.KeptMaps.{KeepsMaps, kept-fits, kept-cell, all-both}
use Rattle.vm_world.proofs.Lists.{all-turn}
use Rattle.vm_world.proofs.PartSums.{sum-put}
use Rattle.vm_world.proofs.SegmentChange.{change-memory, segments-change, spaces-change, shows-kept}
use Rattle.vm_world.proofs.ShownZeros.{IsShown, shown-by, fits-shown, maps-are}
use Rattle.vm_world.proofs.Spots.{IsSpotOf, spot-part}
use Rattle.vm_world.proofs.SweptFlat.{space-is, cells-are, cell-is, cells-stand, swept-flat}

-- What comes with a part: anon maps of which the others keep theirs, as many slots reserved, and these maps of the zero objects that are shown then.
pub record Comes (m : Memory) (p : ℕ) (parts : List (Part Segment)) (x : Part Segment) (now : List (Option Map)) (r : ℕ) (Z : finite.FinMap nat_cmp ℕ) : Type 0 where
  pub place : HasPlace parts x
  pub keeps : (q : ℕ) (ps : List (Part Segment)) → finite.get m.spaces q ≡ Some ps → All (λ (a : Part Segment). KeepsMaps m.world.maps now a.piece) ps
  pub part : SegmentFits (length m.world.files.files) now x
  pub counts : CountsFit (record m.world.anon { reserved = r }) now
  pub holders : (n : ℕ) → holders_of now n ≡ times_had n x.piece + holders_of m.world.maps n
  pub old : (z n : ℕ) → finite.get (zero_maps m.spaces) z ≡ Some n → finite.get Z z ≡ Some n
  pub shown : (z n : ℕ) → zero_map x.piece ≡ Some (z, n) → finite.get Z z ≡ Some n
  pub from : (z n : ℕ) → finite.get Z z ≡ Some n → (finite.get (zero_maps m.spaces) z ≡ Some n) ⊎ (zero_map x.piece ≡ Some (z, n))
  pub apart : (y z n : ℕ) → finite.get Z y ≡ Some n → finite.get Z z ≡ Some n → y ≡ z
  pub once : (z n place slot : ℕ) → finite.get Z z ≡ Some n → slot_in now n place ≡ Some slot → count_at m.world.anon slot ≡ 1
  pub reserved : r + total (λ number. length (places_of m.world.maps number)) (zero_maps m.spaces) ≡ m.world.anon.reserved + slots_for_part x + total (λ number. length (places_of now number)) Z

-- The zero objects of flat memory before have the pages that these maps hold.
abbrev pub HasZeros : Memory → List (Option Map) → finite.FinMap nat_cmp ℕ → (Flat → finite.FinMap nat_cmp (List Page)) → Type 0
HasZeros m now Z zeros = (born : set.FinSet nat_cmp) (notes : Notes) (z n : ℕ) → finite.get Z z ≡ Some n
    → finite.get (zeros (flat_memory m born notes)) z ≡ Some (zero_pages (place_contents (page_value m.world notes) now) (λ number. length (places_of now number)) n)

module _ (m : Memory) (p : ℕ) (parts : List (Part Segment)) (x : Part Segment) (now : List (Option Map)) (r : ℕ) (Z : finite.FinMap nat_cmp ℕ) (fits : MemoryFits m) (is : finite.get m.spaces p ≡ Some parts) (c : Comes m p parts x now r Z) where
  abbrev maps : List (Option Map)
  maps = m.world.maps

  abbrev new : List (Part Segment)
  new = with_new_part x parts

  abbrev after : Spaces
  after = finite.insert m.spaces p new

  abbrev files : ℕ
  files = length m.world.files.files

  come : (k : ℕ) → piece_at new k ≡ cond (has x k) (Some (x.piece, k - x.first)) (piece_at parts k)
  come k = at-put x parts c.place.free k

  order : IsInOrder 1 new
  order = ordered-put 1 x parts (fits.segments.ordered p parts is) c.place.placed c.place.free

  ordered-after : (q : ℕ) (ps : List (Part Segment)) → finite.get after q ≡ Some ps → IsInOrder 1 ps
  ordered-after q ps there = elim (cases_eq q p) [
    | inl same ↦ subst (IsInOrder 1) (let z : Some new ≡ Some ps = sym (get-insert_here m.spaces p new) ∙ ap (finite.get after) (sym same) ∙ there in let e : new ≡ ps = cc in e) order
    | inr ne ↦ fits.segments.ordered q ps (sym (get-insert_apart m.spaces p new q ne) ∙ there)
  ]

  -- the pages before show what they showed
  no-cell : (k : ℕ) (y : Spot) → piece_at parts k ≡ Some y → has x k ≡ false
  no-cell k y there = elim (cases_Bool (has x k)) [
    | inl t ↦ absurd (let w = has-within x k t in let z : None ≡ Some y = sym (ap (option_map (λ (a : Part Segment). (a.piece, k - a.first))) (c.place.free k w.from w.below)) ∙ there in cc)
    | inr f ↦ f
  ]

  pub spot-after : (q k : ℕ) (y : Spot) → spot_at m.spaces q k ≡ Some y → spot_at after q k ≡ Some y
  spot-after q k y there = elim (cases_eq q p) [
    | inl same ↦
        let a : piece_at parts k ≡ Some y = sym (ap (option_and_then (λ (ps : List (Part Segment)). piece_at ps k)) is) ∙ ap (λ (j : ℕ). spot_at m.spaces j k) (sym same) ∙ there in
        ap (λ (j : ℕ). spot_at after j k) same ∙ ap (option_and_then (λ (ps : List (Part Segment)). piece_at ps k)) (get-insert_here m.spaces p new) ∙ come k ∙ ap (λ (b : Bool). cond b (Some (x.piece, k - x.first)) (piece_at parts k)) (no-cell k y a) ∙ a
    | inr ne ↦ ap (option_and_then (λ (ps : List (Part Segment)). piece_at ps k)) (get-insert_apart m.spaces p new q ne) ∙ there
  ]

  -- and each page shows what it showed, or the part that comes
  pub spot-before : (q k : ℕ) (y : Spot) → spot_at after q k ≡ Some y → (spot_at m.spaces q k ≡ Some y) ⊎ (x.piece ≡ y.0)
  spot-before q k y there = elim (cases_eq q p) [
    | inl same ↦
        let a : piece_at new k ≡ Some y = sym (ap (option_and_then (λ (ps : List (Part Segment)). piece_at ps k)) (get-insert_here m.spaces p new)) ∙ ap (λ (j : ℕ). spot_at after j k) (sym same) ∙ there in
        out (has x k) (piece_at parts k) (sym (come k) ∙ a) (λ was. ap (λ (j : ℕ). spot_at m.spaces j k) same ∙ ap (option_and_then (λ (ps : List (Part Segment)). piece_at ps k)) is ∙ was)
    | inr ne ↦ inl (sym (ap (option_and_then (λ (ps : List (Part Segment)). piece_at ps k)) (get-insert_apart m.spaces p new q ne)) ∙ there)
  ]
    where
      out : (b : Bool) (o : Option Spot) → cond b (Some (x.piece, k - x.first)) o ≡ Some y → (o ≡ Some y → spot_at m.spaces q k ≡ Some y) → (spot_at m.spaces q k ≡ Some y) ⊎ (x.piece ≡ y.0)
      out true o e was = inr (let d : Some (x.piece, k - x.first) ≡ Some y = e in let s : (x.piece, k - x.first) ≡ y = cc in ap (λ (s : Spot). s.0) s)
      out false o e was = inl (was e)

  within : (z n : ℕ) → IsShown after z n → finite.get Z z ≡ Some n
  within z n s = elim (spot-before s.process s.page s.spot s.here) [
    | inl was ↦ c.old z n (fits-shown files m.world.anon maps m.spaces fits.segments z n (record { process = s.process; page = s.page; spot = s.spot; here = was; shows = s.shows }))
    | inr its ↦ c.shown z n (ap zero_map its ∙ s.shows)
  ]

  first-here : spot_at after p x.first ≡ Some (x.piece, x.first - x.first)
  first-here =
      let some = c.place.placed.some in
      ap (option_and_then (λ (ps : List (Part Segment)). piece_at ps x.first)) (get-insert_here m.spaces p new) ∙ come x.first ∙ ap (λ (b : Bool). cond b (Some (x.piece, x.first - x.first)) (piece_at parts x.first)) (has-in x x.first (omega arith) (omega (arith, some)))

  pub zeros-now : zero_maps after ≡ Z
  zeros-now = maps-are after ordered-after Z within (λ z n there. elim (c.from z n there) [
    | inl was ↦ let s = shown-by m.spaces z n fits.segments.ordered was in record { process = s.process; page = s.page; spot = s.spot; here = spot-after s.process s.page s.spot s.here; shows = s.shows }
    | inr its ↦ record { process = p; page = x.first; spot = (x.piece, x.first - x.first); here = first-here; shows = its }
  ])

  others-fit : (q : ℕ) (ps : List (Part Segment)) → finite.get m.spaces q ≡ Some ps → All (SegmentFits files now) ps
  others-fit q ps there = all-turn (λ (a : Part Segment). KeepsMaps maps now a.piece × SegmentFits files maps a) (SegmentFits files now) ps (λ a both. kept-fits files maps now a both.0 both.1)
      (all-both (λ (a : Part Segment). KeepsMaps maps now a.piece) (SegmentFits files maps) ps (c.keeps q ps there) (fits.segments.each q ps there))

  segments : SegmentsFit files (record m.world.anon { reserved = r }) now after
  segments = segments-change files m.world.anon maps now r m.spaces p parts new Z fits.segments is order
      (all-put (SegmentFits files now) x parts c.part (others-fit p parts is)) (λ q ps ne there. others-fit q ps there)
      (λ n. let a = c.holders n in let b = sum-put (λ (a : Part Segment). times_had n a.piece) x parts in omega (arith, a, b))
      within c.apart
      (λ z n place slot there held. c.once z n place slot (ap (λ (t : finite.FinMap nat_cmp ℕ). finite.get t z) (sym zeros-now) ∙ there) held)
      (let a = c.reserved in let b = sum-put slots_for_part x parts in let d = ap (total (λ number. length (places_of now number))) zeros-now in omega (arith, a, b, d))

  pub spot-keeps : (q k : ℕ) (y : Spot) → spot_at m.spaces q k ≡ Some y → KeepsMaps maps now y.0
  spot-keeps q k y there =
      let s : IsSpotOf (λ (a : Part Segment). KeepsMaps maps now a.piece) k y = spot-part (λ (a : Part Segment). KeepsMaps maps now a.piece) m.spaces q k y fits.segments.ordered c.keeps there in
      subst (KeepsMaps maps now) s.piece s.fits

  flat-is : (zeros : Flat → finite.FinMap nat_cmp (List Page)) → HasZeros m now Z zeros
      → ((notes : Notes) (i : ℕ) → cell_of (place_contents (page_value m.world notes) now) (x.piece, i) ≡ segment_cell x.piece i) → (born : set.FinSet nat_cmp) (notes : Notes)
      → flat_memory (with_segments m now r p new) born notes ≡ with_new_cells (record (flat_memory m born notes) { zeros = zeros (flat_memory m born notes) }) p x.first x.pages (segment_cell x.piece)
  flat-is zeros have cell born notes =
      let F : Flat = flat_memory m born notes in
      let page = page_value m.world notes in
      let S : Space = with_cells (cells_of F p) x.first x.pages (segment_cell x.piece) in
      let cells : (q : ℕ) → option_map (cell_of (place_contents page now)) (piece_at new q) ≡ finite.get S q = λ q.
      ap (option_map (cell_of (place_contents page now))) (come q)
      ∙ turn page q (has x q) (piece_at parts q) refl (cell notes (q - x.first))
      ∙ ap (λ (o : Option Cell). cond (has x q) (Some (segment_cell x.piece (q - x.first))) o) (sym (cell-is m p parts born notes q is)) ∙ sym (get-with_cells (cells_of F p) x.first x.pages (segment_cell x.piece) q) in
      swept-flat m now r p new born notes (zeros F) S segments
      (spaces-change m now r p new S born notes fits.segments.ordered (λ q ps ne there. c.keeps q ps there) cells)
      (λ z n there. have born notes z n (ap (λ (zs : finite.FinMap nat_cmp ℕ). finite.get zs z) (sym zeros-now) ∙ there))
    where
      turn : (page : PageName → Page) (q : ℕ) (b : Bool) (o : Option Spot) → piece_at parts q ≡ o → cell_of (place_contents page now) (x.piece, q - x.first) ≡ segment_cell x.piece (q - x.first)
          → option_map (cell_of (place_contents page now)) (cond b (Some (x.piece, q - x.first)) o) ≡ cond b (Some (segment_cell x.piece (q - x.first))) (option_map (cell_of (place_contents page maps)) o)
      turn page q true o e cell = ap (λ (d : Cell). Some d) cell
      turn page q false None e cell = refl
      turn page q false (Some y) e cell = ap (λ (d : Cell). Some d) (kept-cell page maps now y (spot-keeps p q y (ap (option_and_then (λ (ps : List (Part Segment)). piece_at ps q)) is ∙ e)))

  flat : (zeros : Flat → finite.FinMap nat_cmp (List Page)) → HasZeros m now Z zeros → ((F : Flat) → IsFlat F → IsFlat (record F { zeros = zeros F }))
      → ((notes : Notes) (i : ℕ) → cell_of (place_contents (page_value m.world notes) now) (x.piece, i) ≡ segment_cell x.piece i) → ((i : ℕ) → IsCell (segment_cell x.piece i))
      → (born : set.FinSet nat_cmp) (notes : Notes) → IsFlat (flat_memory m born notes)
      → Becomes (λ F. with_new_cells (record F { zeros = zeros F }) p x.first x.pages (segment_cell x.piece)) (flat_memory m born notes) (flat_memory (with_segments m now r p new) born notes)
  flat zeros have fine cell good born notes whole =
      let F : Flat = flat_memory m born notes in
      let G : Flat = record F { zeros = zeros F } in
      let S : Space = with_cells (cells_of F p) x.first x.pages (segment_cell x.piece) in
      let s = space-is m p parts born notes is in
      let e = flat-is zeros have cell born notes in
      let old : Standing (cells_of F p) = subst (λ (t : Space). Standing t) (sym (cells-are m p parts born notes is)) (cells-stand F p _ whole s) in
      let stand : Standing S = λ q d there. by_range q d (cases_Bool (is_in_range x.first x.pages q)) (sym (get-with_cells (cells_of F p) x.first x.pages (segment_cell x.piece) q) ∙ there) (old q d) in
      (e, subst IsFlat (sym e) (flat-unnamed (with_space G p S) (flat-with_space G p S (fine F whole) (ap is_some s) stand)))
    where
      by_range : {o : Option Cell} (q : ℕ) (d : Cell) → (is_in_range x.first x.pages q ≡ true) ⊎ (is_in_range x.first x.pages q ≡ false) → cond (is_in_range x.first x.pages q) (Some (segment_cell x.piece (q - x.first))) o ≡ Some d → (o ≡ Some d → IsUserPage q × IsCell d) → IsUserPage q × IsCell d
      by_range {o} q d (inl t) e old =
          let low = in_range-low x.first x.pages q t in
          let high = in_range-high x.first x.pages q t in
          let behind = c.place.placed.behind in
          let end = c.place.placed.within in
          let same : segment_cell x.piece (q - x.first) ≡ d = let k : Some (segment_cell x.piece (q - x.first)) ≡ Some d = ap (λ (b : Bool). cond b (Some (segment_cell x.piece (q - x.first))) o) (sym t) ∙ e in cc in
          ((omega (arith, low, behind), omega (arith, high, end)), subst IsCell same (good (q - x.first)))
      by_range {o} q d (inr f) e old = old (ap (λ (b : Bool). cond b (Some (segment_cell x.piece (q - x.first))) o) (sym f) ∙ e)

  pub part-comes : (zeros : Flat → finite.FinMap nat_cmp (List Page)) → HasZeros m now Z zeros → ((F : Flat) → IsFlat F → IsFlat (record F { zeros = zeros F }))
      → ((notes : Notes) (i : ℕ) → cell_of (place_contents (page_value m.world notes) now) (x.piece, i) ≡ segment_cell x.piece i) → ((i : ℕ) → IsCell (segment_cell x.piece i))
      → ChangesSegments p m (with_segments m now r p new) (λ F. with_new_cells (record F { zeros = zeros F }) p x.first x.pages (segment_cell x.piece))
  part-comes zeros have fine cell good = change-memory m now r after p (λ F. with_new_cells (record F { zeros = zeros F }) p x.first x.pages (segment_cell x.piece)) fits (λ q ne. get-insert_apart m.spaces p new q ne) c.counts segments
      (λ place t there l. (l.spot, spot-after t.space t.page l.spot l.here, shows-kept maps now l.spot (spot-keeps t.space t.page l.spot l.here)))
      (flat-is zeros have cell) (flat zeros have fine cell good)
