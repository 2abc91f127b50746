-- What a place shows, in flat memory: the page of its name, or nothing past the end.
use Rattle.seg_ops.proofs.page_store.FrameLaws.{false-left as or-left, unset as is-none}
use Rattle.std.proofs.Common.{◌≡◌, ℕ, zero, suc, ◌+◌, ◌<◌, ◌≤◌, Bool, true, false, cond, List, [], ◌∷◌, length, Option, Some, None, refl, sym, ap, ◌∙◌, inl, inr, subst, arith, slice_index_or}
use Rattle.std.specs.Prelude.{IsTrue, IsFalse, ◌||◌, is_some, nat_lt, option_map, option_and_then, slice_get, unwrap_or}
use Rattle.std.specs.Option.{option_or, option_map_or}
use Rattle.std.specs.FinMap as finite
use Rattle.std.specs.FinSet as set
use Rattle.std.specs.Ordering.{nat_cmp}
use Rattle.std.proofs.lemmas.Bool.{ltb-false, lt-ltb}
use Rattle.std.proofs.lemmas.Option.{slice_get-map}
use Rattle.seg_ops.specs.anon_map.Maps.{Map, places_of}
use Rattle.seg_ops.specs.anon_slots.Slots.{count_at, is_used}
use Rattle.seg_ops.specs.page_hash.declared.PageName.{PageName}
use Rattle.seg_ops.specs.page_store.Notes.{Notes}
use Rattle.seg_ops.specs.vm_types.declared.call.Object.{Object}
use Rattle.seg_ops.specs.vm_types.declared.call.Object.TheVariants as object
use Rattle.seg_ops.specs.vnode_files.declared.vnode.FileInfo.{FileInfo}
use Rattle.seg_ops.specs.vnode_files.Files.{vnode_at}
use Rattle.seg_ops.specs.vnode_files.Vnode.{VnodeSeen}
use Rattle.seg_ops.specs.flat_model.Flat.{Cell, File, Flat, pages_of, shown}
use Rattle.seg_ops.specs.flat_model.Words.{Page, pages_in, zero_page}
use Rattle.seg_ops.specs.vm_world.FlatMemory.{cell_of, file_with_pages, flat_memory, own_without_slot, pages_from, shape_of, zero_maps, zero_pages}
use Rattle.seg_ops.specs.vm_world.MemoryFits.{MemoryFits}
use Rattle.seg_ops.specs.vm_world.Pages.{page_value, contents_of}
use Rattle.seg_ops.specs.vm_world.Segments.{Spot, Spaces, spot_at, own_slot, shown_name, object_name}
use Rattle.seg_ops.specs.vm_world.Wants.{object_has, shows_page}
use Rattle.seg_ops.specs.vm_world.World.{World, slot_in, slot_name, file_name, page_exists}
use Rattle.seg_ops.proofs.vm_world.FilePages.{file-in, page-past}
use Rattle.seg_ops.proofs.vm_world.FlatWhole.{some-inj}
use Rattle.seg_ops.proofs.vm_world.Maps.{get-map_with}
use Rattle.seg_ops.proofs.vm_world.PageNames.{not-slot, file-apart}
use Rattle.seg_ops.proofs.vm_world.PageNames as names
use Rattle.seg_ops.proofs.StillSteps.{memory_of}
use Rattle.seg_vn.proofs.FaultPlaces.{file-at, not-new, own-by_slot, own-none, shown-by, zero-at, zero-map-at}
use Rattle.seg_vn.proofs.CopySteps.{object-shows}

or-right : (a b : Bool) → a ≡ false → (a || b) ≡ b
or-right true b is = absurd (let z : true ≡ false = is in cc)
or-right false b is = refl

-- a place that holds a slot is there
pub holds-within : (places : List (Option ℕ)) (i s : ℕ) → slice_index_or places i None ≡ Some s → i < length places
holds-within [] i s is = absurd (let z : None ≡ Some s = is in cc)
holds-within (o ∷ os) zero s is = omega arith
holds-within (o ∷ os) (suc i) s is = let r = holds-within os i s is in omega (arith, r)

module _ (w : World) (spaces : Spaces) (p q : ℕ) (x : Spot) (fits : MemoryFits (memory_of w spaces)) (here : spot_at spaces p q ≡ Some x) where
  abbrev index : ℕ
  index = x.0.index + x.1

  -- the slot that a zero object's map holds for the place
  pub zero-slot : (z n : ℕ) (o : Option PageName) → x.0.object ≡ object.Zero z → x.0.shown ≡ Some n → object_name w.maps x.0.shown index x.0.object ≡ o → option_map slot_name (slot_in w.maps n index) ≡ o
  zero-slot z n o is shows name =
      sym (ap (option_and_then (λ number. option_map slot_name (slot_in w.maps number index))) shows) ∙ sym (ap (object_name w.maps x.0.shown index) is) ∙ name

  -- its object's name, where its own map holds no slot
  pub bare-name : (name : PageName) → own_slot w.maps x ≡ None → shown_name w.maps x ≡ Some name → object_name w.maps x.0.shown index x.0.object ≡ Some name
  bare-name name bare shows = sym (ap (λ (o : Option ℕ). option_or (option_map slot_name o) (object_name w.maps x.0.shown index x.0.object)) bare) ∙ shows

  object-there : (name : PageName) → object_name w.maps x.0.shown index x.0.object ≡ Some name → IsTrue (page_exists w.files w.anon name) → IsTrue (object_has w x.0.shown index x.0.object)
  object-there name is exists = by_object x.0.object refl
    where
      by_slot : (n : ℕ) (o : Option ℕ) → slot_in w.maps n index ≡ o → option_map slot_name o ≡ Some name → index < length (places_of w.maps n)
      by_slot n None held e = absurd (let z : None ≡ Some name = e in cc)
      by_slot n (Some s) held e = holds-within (places_of w.maps n) index s held

      by_object : (o : Object) → x.0.object ≡ o → IsTrue (object_has w x.0.shown index x.0.object)
      by_object (object.File f) ob =
          let same : file_name f index ≡ name = some-inj (file_name f index) name (sym (ap (object_name w.maps x.0.shown index) ob) ∙ is) in
          ap (object_has w x.0.shown index) ob
          ∙ sym (ap (λ (b : Bool). cond b (is_used (count_at w.anon index)) (nat_lt index (pages_in (vnode_at w.files f).info.length))) (not-slot f (file-apart w.files f fits.files (file-at w spaces p q x fits here f ob))))
          ∙ ap (page_exists w.files w.anon) same ∙ exists
      by_object (object.Zero z) ob =
          let zero = zero-at w spaces p q x fits here z ob in
          ap (object_has w x.0.shown index) ob
          ∙ ap (λ (o : Option ℕ). option_map_or (λ number. nat_lt index (length (places_of w.maps number))) o false) zero.1
          ∙ lt-ltb index (length (places_of w.maps zero.0)) (by_slot zero.0 (slot_in w.maps zero.0 index) refl (zero-slot z zero.0 (Some name) ob zero.1 is))
      by_object object.NewZero ob = absurd (let z : None ≡ Some name = sym (ap (object_name w.maps x.0.shown index) ob) ∙ is in cc)

  -- A PAGE THAT EXISTS and is shown isn't past the end.
  pub page-there : (name : PageName) → shown_name w.maps x ≡ Some name → IsTrue (page_exists w.files w.anon name) → IsTrue (shows_page w x)
  page-there name shows exists = by_own (own_slot w.maps x) refl
    where
      by_own : (o : Option ℕ) → own_slot w.maps x ≡ o → IsTrue (shows_page w x)
      by_own None bare =
          ap (λ (o : Option ℕ). is_some o || object_has w x.0.shown index x.0.object) bare ∙ object-there name (bare-name name bare shows) exists
      by_own (Some s) own = ap (λ (o : Option ℕ). is_some o || object_has w x.0.shown index x.0.object) own

  module _ (born : set.FinSet nat_cmp) (notes : Notes) where
    abbrev F : Flat
    F = flat_memory (memory_of w spaces) born notes

    abbrev cell : Cell
    cell = cell_of (contents_of w notes).place x

    -- THE CELL SHOWS the page of the name.
    pub shown-page : (name : PageName) → shown_name w.maps x ≡ Some name → IsTrue (shows_page w x) → shown F cell ≡ Some (page_value w notes name)
    shown-page name shows some = by_own (own_slot w.maps x) refl
      where
        by_own : (o : Option ℕ) → own_slot w.maps x ≡ o → shown F cell ≡ Some (page_value w notes name)
        by_own (Some s) own =
            let same : slot_name s ≡ name = some-inj (slot_name s) name (sym (ap (λ (o : Option ℕ). option_or (option_map slot_name o) (object_name w.maps x.0.shown index x.0.object)) own) ∙ shows) in
            ap (λ (o : Option Page). option_or o (option_and_then (λ (ps : List Page). slice_get ps index) (pages_of F x.0.object))) (own-by_slot w spaces p q x fits here born notes s x.0.own own)
            ∙ ap (λ (n : PageName). Some (page_value w notes n)) same
        by_own None bare =
            let is = bare-name name bare shows in
            object-shows w spaces p q x fits here born notes name (own-none w spaces p q x fits here born notes bare (not-new w.maps x name is)) is
            (sym (ap (λ (o : Option ℕ). is_some o || object_has w x.0.shown index x.0.object) bare) ∙ some)

    -- PAST THE END it shows nothing.
    pub shown-past : IsFalse (shows_page w x) → shown F cell ≡ None
    shown-past past = by_object x.0.object refl
      where
        bare : own_slot w.maps x ≡ None
        bare = is-none (own_slot w.maps x) (or-left (is_some (own_slot w.maps x)) (object_has w x.0.shown index x.0.object) past)

        none : object_has w x.0.shown index x.0.object ≡ false
        none = sym (ap (λ (o : Option ℕ). is_some o || object_has w x.0.shown index x.0.object) bare) ∙ past

        by_object : (o : Object) → x.0.object ≡ o → shown F cell ≡ None
        by_object (object.File f) ob =
            let info : FileInfo = (vnode_at w.files f).info in
            let page : ℕ → ℕ → Page = (contents_of w notes).file in
            let begin : 0 + f ≡ f = omega arith in
            let there : slice_get (shape_of (memory_of w spaces)).files f ≡ Some info = slice_get-map (λ (v : VnodeSeen). v.info) w.files.files f ∙ ap (option_map (λ (v : VnodeSeen). v.info)) (names.file-there w.files f (file-at w spaces p q x fits here f ob)) in
            let pages : pages_of F (object.File f) ≡ Some (pages_from (page f) 0 (pages_in info.length)) =
            ap (option_map (λ (file : File). file.pages)) (file-in page 0 f (shape_of (memory_of w spaces)).files ∙ ap (λ (j : ℕ). option_map (file_with_pages (page j)) (slice_get (shape_of (memory_of w spaces)).files f)) begin ∙ ap (option_map (file_with_pages (page f))) there) in
            shown-by w spaces p q x fits here born notes (object.File f) (own-none w spaces p q x fits here born notes bare (ap own_without_slot ob)) ob
            ∙ ap (option_and_then (λ (ps : List Page). slice_get ps index)) pages
            ∙ page-past (page f) 0 (pages_in info.length) index (ltb-false index (pages_in info.length) (sym (ap (object_has w x.0.shown index) ob) ∙ none))
        by_object (object.Zero z) ob =
            let zero = zero-at w spaces p q x fits here z ob in
            let lengths : ℕ → ℕ = λ number. length (places_of w.maps number) in
            let held : ℕ → ℕ → Option Page = (contents_of w notes).place in
            shown-by w spaces p q x fits here born notes (object.Zero z) (own-none w spaces p q x fits here born notes bare (ap own_without_slot ob)) ob
            ∙ ap (option_and_then (λ (ps : List Page). slice_get ps index)) (get-map_with (zero_pages held lengths) (zero_maps spaces) z ∙ ap (option_map (zero_pages held lengths)) (zero-map-at w spaces p q x fits here z zero.0 ob zero.1))
            ∙ page-past (λ place. unwrap_or (held zero.0 place) zero_page) 0 (lengths zero.0) index
            (ltb-false index (lengths zero.0) (sym (ap (λ (o : Option ℕ). option_map_or (λ number. nat_lt index (length (places_of w.maps number))) o false) zero.1) ∙ sym (ap (object_has w x.0.shown index) ob) ∙ none))
        by_object object.NewZero ob = absurd (let z : true ≡ false = sym (ap (object_has w x.0.shown index) ob) ∙ none in cc)
