-- A place of any mapping: its maps, and what its cell has and shows in flat memory.
use Rattle.seg_ops.proofs.SlotOwners.{has-own as kind-by}
use Rattle.seg_ops.proofs.vm_world.PartSums.{all-left, all-right}
use Rattle.std.proofs.Common.{◌≡◌, ℕ, ◌<◌, ◌+◌, ◌-◌, Bool, cond, List, [], ◌∷◌, ◌++◌, map, length, Option, Some, None, refl, sym, ap, ◌∙◌, inl, inr, subst, arith}
use Rattle.std.specs.Prelude.{IsSome, flat_map, option_map, option_and_then, slice_get, unwrap_or, All}
use Rattle.std.specs.Option.{option_or}
use Rattle.std.specs.FinMap as finite
use Rattle.std.specs.FinSet as set
use Rattle.std.specs.Ordering.{nat_cmp, is_eq}
use Rattle.std.proofs.lemmas.Bool.{cases_Bool}
use Rattle.std.proofs.lemmas.List.Elements.{All-nil, All-cons, All-head, All-tail}
use Rattle.std.proofs.lemmas.Option.{slice_get-map}
use Rattle.seg_ops.specs.vm_types.declared.call.Kind.{Kind}
use Rattle.seg_ops.specs.vm_types.declared.call.Kind.TheVariants.{Shared, Private}
use Rattle.seg_ops.specs.vm_types.declared.call.Object.{Object}
use Rattle.seg_ops.specs.vm_types.declared.call.Object.TheVariants as object
use Rattle.seg_ops.specs.addr_space.Space.{Part, has, piece_at, part_at}
use Rattle.seg_ops.specs.anon_map.Maps.{Map, IsMapThere, places_of}
use Rattle.seg_ops.specs.page_hash.declared.PageName.{PageName}
use Rattle.seg_ops.specs.page_store.Notes.{Notes}
use Rattle.seg_ops.specs.vnode_files.declared.vnode.FileInfo.{FileInfo}
use Rattle.seg_ops.specs.vnode_files.Files.{vnode_at}
use Rattle.seg_ops.specs.vnode_files.Vnode.{VnodeSeen}
use Rattle.seg_ops.specs.flat_model.Flat.{Cell, File, Flat, cell_at, shown, pages_of}
use Rattle.seg_ops.specs.flat_model.Words.{Page, zero_page, pages_in}
use Rattle.seg_ops.specs.vm_world.CountsFit.{SegmentFits, OwnFits, ObjectFits, ShowsZero}
use Rattle.seg_ops.specs.vm_world.FlatMemory.{flat_memory, shape_of, cell_of, own_without_slot, file_with_pages, pages_from, zero_maps, zero_pages}
use Rattle.seg_ops.specs.vm_world.MemoryFits.{MemoryFits}
use Rattle.seg_ops.specs.vm_world.Pages.{page_value, contents_of}
use Rattle.seg_ops.specs.vm_world.declared.segment.Segment.{Segment}
use Rattle.seg_ops.specs.vm_world.Segments.{Spot, Spaces, spot_at, own_slot, object_name, segments_of}
use Rattle.seg_ops.specs.vm_world.World.{World, slot_in, slot_name, file_name}
use Rattle.seg_ops.proofs.vm_world.FilePages.{page-in, file-in}
use Rattle.seg_ops.proofs.vm_world.FlatWhole.{some-inj}
use Rattle.seg_ops.proofs.vm_world.Maps.{get-map_with, cell-at}
use Rattle.seg_ops.proofs.vm_world.PageNames.{not-slot, file-apart}
use Rattle.seg_ops.proofs.vm_world.PageNames as names
use Rattle.seg_ops.proofs.vm_world.Spots.{IsSpotOf, spot-part}
use Rattle.seg_ops.specs.OwnPages.{with_own_shown}
use Rattle.seg_ops.specs.Slots.{with_own_page}
use Rattle.seg_ops.proofs.OwnShown.{own_shown_law}
use Rattle.seg_ops.proofs.StillSteps.{memory_of}

abbrev pieces : List (Part Segment) → List Segment
pieces parts = map (λ (p : Part Segment). p.piece) parts

in-space : (P : Segment → Type 0) (parts : List (Part Segment)) (q : ℕ) (x : Spot) → piece_at parts q ≡ Some x → All P (pieces parts) → P x.0
in-space P [] q x is all = absurd (cc)
in-space P (p ∷ ps) q x is all = elim (cases_Bool (has p q)) [
  | inl here ↦
      let same : p.piece ≡ x.0 = ap (λ (y : Spot). y.0) (some-inj (p.piece, q - p.first) x (sym (ap (λ (b : Bool). option_map (λ (r : Part Segment). (r.piece, q - r.first)) (cond b (Some p) (part_at ps q))) here) ∙ is)) in
      subst P same (All-head P p.piece (pieces ps) all)
  | inr past ↦ in-space P ps q x (sym (ap (λ (b : Bool). option_map (λ (r : Part Segment). (r.piece, q - r.first)) (cond b (Some p) (part_at ps q))) past) ∙ is) (All-tail P p.piece (pieces ps) all)
]

in-spaces : (P : Segment → Type 0) (p : ℕ) (es : List (ℕ × List (Part Segment))) (parts : List (Part Segment)) → finite.find nat_cmp p es ≡ Some parts → All P (flat_map pieces (map (λ e. e.1) es)) → All P (pieces parts)
in-spaces P p [] parts is all = absurd (cc)
in-spaces P p (e ∷ es) parts is all = elim (cases_Bool (is_eq (nat_cmp p e.0))) [
  | inl here ↦
      let same : e.1 ≡ parts = some-inj e.1 parts (sym (ap (λ (b : Bool). cond b (Some e.1) (finite.find nat_cmp p es)) here) ∙ is) in
      subst (λ (ps : List (Part Segment)). All P (pieces ps)) same (all-left P (pieces e.1) (flat_map pieces (map (λ e. e.1) es)) all)
  | inr past ↦ in-spaces P p es parts (sym (ap (λ (b : Bool). cond b (Some e.1) (finite.find nat_cmp p es)) past) ∙ is) (all-right P (pieces e.1) (flat_map pieces (map (λ e. e.1) es)) all)
]

pub of-spot : (P : Segment → Type 0) (spaces : Spaces) (p q : ℕ) (x : Spot) → spot_at spaces p q ≡ Some x → All P (segments_of spaces) → P x.0
of-spot P spaces p q x is all = by_space (finite.get spaces p) refl is
  where
    by_space : (o : Option (List (Part Segment))) → finite.get spaces p ≡ o → option_and_then (λ (ps : List (Part Segment)). piece_at ps q) o ≡ Some x → P x.0
    by_space None e is = absurd (let z : None ≡ Some x = is in cc)
    by_space (Some parts) e is = in-space P parts q x is (in-spaces P p (finite.entries spaces) parts (sym (finite.get-entries spaces p) ∙ e) all)

-- what shows a page of an object isn't new zero memory
pub not-new : (maps : List (Option Map)) (x : Spot) (name : PageName) → object_name maps x.0.shown (x.0.index + x.1) x.0.object ≡ Some name → own_without_slot x.0.object ≡ None
not-new maps x name is = by_object x.0.object refl
  where
    by_object : (o : Object) → x.0.object ≡ o → own_without_slot x.0.object ≡ None
    by_object (object.File f) ob = ap own_without_slot ob
    by_object (object.Zero z) ob = ap own_without_slot ob
    by_object object.NewZero ob = absurd (let z : None ≡ Some name = sym (ap (object_name maps x.0.shown (x.0.index + x.1)) ob) ∙ is in cc)

own-by : (maps : List (Option Map)) (s : Segment) (k : Kind) → k ≡ Private → OwnFits maps s k → (m : ℕ) × (s.own ≡ Some m) × IsMapThere maps m × (length (places_of maps m) ≡ s.pages)
own-by maps s Shared kind fit = absurd (let z : Shared ≡ Private = kind in cc)
own-by maps s Private kind fit = (fit.0, fit.1, fit.2, fit.3)

none-by : (maps : List (Option Map)) (s : Segment) (k : Kind) → k ≡ Shared → OwnFits maps s k → s.own ≡ None
none-by maps s Shared kind fit = fit
none-by maps s Private kind fit = absurd (let z : Private ≡ Shared = kind in cc)

module _ (w : World) (spaces : Spaces) (p q : ℕ) (x : Spot) (fits : MemoryFits (memory_of w spaces)) (here : spot_at spaces p q ≡ Some x) where
  spot : IsSpotOf (SegmentFits (length w.files.files) w.maps) q x
  spot = spot-part (SegmentFits (length w.files.files) w.maps) spaces p q x fits.segments.ordered fits.segments.each here

  own-fits : OwnFits w.maps x.0 x.0.kind
  own-fits = subst (λ (s : Segment). OwnFits w.maps s s.kind) spot.piece spot.fits.own

  pub object-fits : ObjectFits (length w.files.files) w.maps x.0 x.0.object
  object-fits = subst (λ (s : Segment). ObjectFits (length w.files.files) w.maps s s.object) spot.piece spot.fits.object

  -- THE PLACE lies in its segment; a private one's map is there, and a shared one has none.
  pub place-in : x.1 < x.0.pages
  place-in =
      let b = spot.fits.pages in
      let c = spot.place in
      let d = spot.low in
      let e = spot.high in
      let n : spot.part.piece.pages ≡ x.0.pages = ap (λ (s : Segment). s.pages) spot.piece in
      omega (arith, b, c, d, e, n)

  pub own-there : (m : ℕ) → x.0.own ≡ Some m → IsMapThere w.maps m × (x.1 < length (places_of w.maps m))
  own-there m own =
      let a = own-by w.maps x.0 x.0.kind (kind-by w.maps x.0 x.0.kind m own own-fits) own-fits in
      let same : a.0 ≡ m = some-inj a.0 m (sym a.1 ∙ own) in
      let size : length (places_of w.maps m) ≡ x.0.pages = ap (λ (j : ℕ). length (places_of w.maps j)) (sym same) ∙ a.3 in
      let lt = place-in in
      (subst (λ (j : ℕ). IsMapThere w.maps j) same a.2, omega (arith, size, lt))

  pub private-has : x.0.kind ≡ Private → (m : ℕ) × (x.0.own ≡ Some m)
  private-has kind = let a = own-by w.maps x.0 x.0.kind kind own-fits in (a.0, a.1)

  pub shared-own : x.0.kind ≡ Shared → x.0.own ≡ None
  shared-own kind = none-by w.maps x.0 x.0.kind kind own-fits

  pub own-private : (m : ℕ) → x.0.own ≡ Some m → x.0.kind ≡ Private
  own-private m own = kind-by w.maps x.0 x.0.kind m own own-fits

  -- THE OBJECT is there: its file, or its map.
  pub file-at : (f : ℕ) → x.0.object ≡ object.File f → f < length w.files.files
  file-at f is = (subst (λ (o : Object). ObjectFits (length w.files.files) w.maps x.0 o) is object-fits).0

  pub new-private : x.0.object ≡ object.NewZero → x.0.kind ≡ Private
  new-private is = (subst (λ (o : Object). ObjectFits (length w.files.files) w.maps x.0 o) is object-fits).0

  pub zero-at : (z : ℕ) → x.0.object ≡ object.Zero z → (n : ℕ) × (x.0.shown ≡ Some n) × IsMapThere w.maps n
  zero-at z is = subst (λ (o : Object). ObjectFits (length w.files.files) w.maps x.0 o) is object-fits

  pub zero-map-at : (z n : ℕ) → x.0.object ≡ object.Zero z → x.0.shown ≡ Some n → finite.get (zero_maps spaces) z ≡ Some n
  zero-map-at z n is shows =
      let shows_zero : ShowsZero (zero_maps spaces) x.0 = of-spot (ShowsZero (zero_maps spaces)) spaces p q x here fits.segments.zeros in
      shows_zero z n (ap (λ (o : Object). elim o as (λ (a : Object). Option (ℕ × ℕ)) [ object.Zero z ↦ option_map (λ (number : ℕ). (z, number)) x.0.shown | object.File f ↦ None | object.NewZero ↦ None ]) is ∙ ap (option_map (λ (number : ℕ). (z, number))) shows)

  module _ (born : set.FinSet nat_cmp) (notes : Notes) where
    abbrev F : Flat
    F = flat_memory (memory_of w spaces) born notes

    abbrev cell : Cell
    cell = cell_of (contents_of w notes).place x

    -- THE CELL, and its own page.
    pub cell-is : cell_at F p q ≡ Some cell
    cell-is = cell-at (contents_of w notes).place spaces p q ∙ ap (option_map (cell_of (contents_of w notes).place)) here

    pub own-by_slot : (s : ℕ) (o : Option ℕ) → option_and_then (λ number. slot_in w.maps number x.1) o ≡ Some s
        → option_and_then (λ (number : ℕ). option_or ((contents_of w notes).place number x.1) (own_without_slot x.0.object)) o ≡ Some (page_value w notes (slot_name s))
    own-by_slot s None is = absurd (let z : None ≡ Some s = is in cc)
    own-by_slot s (Some m) is = ap (λ (o : Option ℕ). option_or (option_map (λ t. page_value w notes (slot_name t)) o) (own_without_slot x.0.object)) is

    own-by_none : (o : Option ℕ) → option_and_then (λ number. slot_in w.maps number x.1) o ≡ None → own_without_slot x.0.object ≡ None
        → option_and_then (λ (number : ℕ). option_or ((contents_of w notes).place number x.1) (own_without_slot x.0.object)) o ≡ None
    own-by_none None is bare = refl
    own-by_none (Some m) is bare = ap (λ (o : Option ℕ). option_or (option_map (λ t. page_value w notes (slot_name t)) o) (own_without_slot x.0.object)) is ∙ bare

    some-zero : (o : Option Page) → IsSome (option_or o (Some zero_page))
    some-zero None = refl
    some-zero (Some page) = refl

    -- FLAT MEMORY IS AS IT WAS where the page is shared, or is its cell's own.
    pub kept-shared : x.0.kind ≡ Shared → with_own_shown F p q ≡ F
    kept-shared kind = own_shown_law.same F p q cell cell-is (λ private. absurd (let z : Shared ≡ Private = sym kind ∙ private in cc))

    pub kept-own : (s : ℕ) → own_slot w.maps x ≡ Some s → with_own_shown F p q ≡ F
    kept-own s is = own_shown_law.same F p q cell cell-is (λ private. subst (λ (o : Option Page). IsSome o) (sym (own-by_slot s x.0.own is)) refl)

    pub kept-new : (m : ℕ) → x.0.own ≡ Some m → x.0.object ≡ object.NewZero → with_own_shown F p q ≡ F
    kept-new m own new = own_shown_law.same F p q cell cell-is (λ private.
        subst (λ (o : Option Page). IsSome o) (sym (ap (option_and_then (λ (number : ℕ). option_or ((contents_of w notes).place number x.1) (own_without_slot x.0.object))) own ∙ ap (λ (ob : Object). option_or ((contents_of w notes).place m x.1) (own_without_slot ob)) new))
        (some-zero ((contents_of w notes).place m x.1)))

    -- WHAT THE OBJECT SHOWS, the cell shows, where it has no page of its own.
    pub own-none : own_slot w.maps x ≡ None → own_without_slot x.0.object ≡ None → cell.own ≡ None
    own-none is bare = own-by_none x.0.own is bare

    abbrev index : ℕ
    index = x.0.index + x.1

    pub shown-by : (o : Object) → cell.own ≡ None → x.0.object ≡ o → shown F cell ≡ option_and_then (λ (ps : List Page). slice_get ps index) (pages_of F o)
    shown-by o none is = ap (λ (own : Option Page). option_or own (option_and_then (λ (ps : List Page). slice_get ps index) (pages_of F x.0.object))) none ∙ ap (λ (a : Object). option_and_then (λ (ps : List Page). slice_get ps index) (pages_of F a)) is

    pub file-shown : (f : ℕ) → x.0.object ≡ object.File f → cell.own ≡ None → index < pages_in (vnode_at w.files f).info.length → shown F cell ≡ Some (page_value w notes (file_name f index))
    file-shown f is none below =
        let info : FileInfo = (vnode_at w.files f).info in
        let page : ℕ → ℕ → Page = (contents_of w notes).file in
        let begin : 0 + f ≡ f = omega arith in
        let first : 0 + index ≡ index = omega arith in
        let record_there : slice_get (shape_of (memory_of w spaces)).files f ≡ Some info = slice_get-map (λ (v : VnodeSeen). v.info) w.files.files f ∙ ap (option_map (λ (v : VnodeSeen). v.info)) (names.file-there w.files f (file-at f is)) in
        let pages : pages_of F (object.File f) ≡ Some (pages_from (page f) 0 (pages_in info.length)) =
        ap (option_map (λ (file : File). file.pages)) (file-in page 0 f (shape_of (memory_of w spaces)).files ∙ ap (λ (j : ℕ). option_map (file_with_pages (page j)) (slice_get (shape_of (memory_of w spaces)).files f)) begin ∙ ap (option_map (file_with_pages (page f))) record_there) in
        shown-by (object.File f) none is
        ∙ ap (option_and_then (λ (ps : List Page). slice_get ps index)) pages
        ∙ page-in (page f) 0 (pages_in info.length) index below
        ∙ ap (λ (j : ℕ). Some (page f j)) first
        ∙ ap (λ (b : Bool). Some (cond b [] (page_value w notes (file_name f index)))) (not-slot f (file-apart w.files f fits.files (file-at f is)))

    pub zero-shown : (z n : ℕ) → x.0.object ≡ object.Zero z → x.0.shown ≡ Some n → cell.own ≡ None → index < length (places_of w.maps n)
        → shown F cell ≡ Some (unwrap_or (option_map (λ s. page_value w notes (slot_name s)) (slot_in w.maps n index)) zero_page)
    zero-shown z n is shows none below =
        let lengths : ℕ → ℕ = λ number. length (places_of w.maps number) in
        let held : ℕ → ℕ → Option Page = (contents_of w notes).place in
        let first : 0 + index ≡ index = omega arith in
        shown-by (object.Zero z) none is
        ∙ ap (option_and_then (λ (ps : List Page). slice_get ps index)) (get-map_with (zero_pages held lengths) (zero_maps spaces) z ∙ ap (option_map (zero_pages held lengths)) (zero-map-at z n is shows))
        ∙ page-in (λ place. unwrap_or (held n place) zero_page) 0 (lengths n) index below
        ∙ ap (λ (j : ℕ). Some (unwrap_or (held n j) zero_page)) first

    -- A PRIVATE CELL gets the page that it shows.
    pub gets-page : (bytes : Page) → x.0.kind ≡ Private → shown F cell ≡ Some bytes → with_own_page F p q bytes ≡ with_own_shown F p q
    gets-page bytes kind shows = sym (own_shown_law.gets F p q cell bytes cell-is kind shows)
