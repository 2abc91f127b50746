-- FLAT MEMORY WHERE THE VALUE OF ONE PAGE CHANGED: a file's page, a zero object's, or a private cell's own.
use Rattle.std.proofs.Common.{◌≡◌, ◌≢◌, ℕ, zero, suc, ◌+◌, ◌<◌, ◌==◌, Bool, cond, List, [], ◌∷◌, Option, Some, None, refl, sym, ap, ◌∙◌, inl, inr, arith, slice_set}
use Rattle.std.specs.Prelude.{option_map, option_and_then, unwrap_or}
use Rattle.std.specs.Option.{option_or}
use Rattle.std.specs.FinMap as finite
use Rattle.std.specs.FinSet as set
use Rattle.std.specs.Ordering.{nat_cmp}
use Rattle.std.proofs.lemmas.Bool.Decides.{eqb_tells}
use Rattle.seg_vn.specs.vm_types.declared.call.Kind.{Kind}
use Rattle.seg_vn.specs.vm_types.declared.call.Kind.TheVariants.{Shared, Private}
use Rattle.seg_vn.specs.vm_types.declared.call.Object.{Object}
use Rattle.seg_vn.specs.vm_types.declared.call.Object.TheVariants as object
use Rattle.seg_vn.specs.vnode_files.declared.vnode.FileInfo.{FileInfo}
use Rattle.seg_vn.specs.page_hash.declared.PageName.{PageName}
use Rattle.seg_vn.specs.page_store.Notes.{Notes}
use Rattle.seg_vn.specs.anon_map.Maps.{Map}
use Rattle.seg_vn.specs.anon_slots.Slots.{AnonSlotsSeen, count_at}
use Rattle.seg_vn.specs.flat_model.Words.{Page, pages_in, zero_page}
use Rattle.seg_vn.specs.flat_model.Flat.{Cell, Flat}
use Rattle.seg_vn.specs.flat_model.Access.{with_page, with_cell, with_page_stored, file_with_page, with_change_at}
use Rattle.seg_vn.specs.vm_world.CountsFit.{CountsFit}
use Rattle.seg_vn.specs.vm_world.FlatMemory.{Shape, flat_shaped, flat_memory, shape_of, cell_of, files_with_pages, file_with_pages, map_with, pages_from, space_with, zero_maps, zero_pages}
use Rattle.seg_vn.specs.vm_world.MemoryFits.{MemoryFits}
use Rattle.seg_vn.specs.vm_world.Pages.{Contents, contents_of, contents_by, file_contents, page_value, place_contents}
use Rattle.seg_vn.specs.vm_world.Segments.{Spot, Spaces, spot_at, own_slot, object_name, shown_name}
use Rattle.seg_vn.specs.vm_world.TranslationsFit.{MayWriteInPlace}
use Rattle.seg_vn.specs.vm_world.World.{World, file_name, slot_name, slot_in}
use Rattle.seg_vn.proofs.vm_world.Counts.{only-place}
use Rattle.seg_vn.proofs.vm_world.FlatWhole.{some-inj}
use Rattle.seg_vn.proofs.vm_world.Maps.{get-map_with, map_with-same, map_with-but_one}
use Rattle.seg_vn.proofs.vm_world.PageNames.{not-slot, file-apart}
use Rattle.seg_vn.proofs.seg_ops.SlotCells.{PutsHeld, cell-else, cells-else, flat-owned, pages-same, spot-in}
use Rattle.seg_vn.proofs.seg_ops.SlotOwners.{places_law}
use Rattle.seg_vn.proofs.seg_ops.StillSteps.{memory_of}
use Rattle.seg_vn.proofs.FaultPlaces.{file-at, new-private, private-has, shared-own, zero-at, zero-map-at}
use Rattle.seg_vn.proofs.PlacesShown.{bare-name, zero-slot}

-- A PAGE OF A FILE IS PUT.
record PutsPage (old new : Contents) (f i : ℕ) (bytes : Page) : Type 0 where
  pub there : new.file f i ≡ bytes
  pub others : (g k : ℕ) → ((g ≡ f) × (k ≡ i) → ⊥) → new.file g k ≡ old.file g k
  pub place : (m k : ℕ) → new.place m k ≡ old.place m k

beyond : (old new : ℕ → Page) (a b k : ℕ) → k < a → ((j : ℕ) → j ≢ k → new j ≡ old j) → pages_from new a b ≡ pages_from old a b
beyond old new a zero k lt others = refl
beyond old new a (suc b) k lt others =
    let ne : a ≢ k = omega (arith, lt) in
    let first = others a ne in
    let rest = beyond old new (suc a) b k (omega (arith, lt)) others in
    λ j. first j ∷ rest j

pages-set : (old new : ℕ → Page) (k n i : ℕ) (bytes : Page) → new (k + i) ≡ bytes → ((j : ℕ) → j ≢ k + i → new j ≡ old j) → pages_from new k n ≡ slice_set (pages_from old k n) i bytes
pages-set old new k zero i bytes is others = refl
pages-set old new k (suc n) zero bytes is others =
    let here : k + 0 ≡ k = omega arith in
    let first : new k ≡ bytes = ap new (sym here) ∙ is in
    let rest = beyond old new (suc k) n k (omega arith) (λ j ne. others j (λ e. ne (e ∙ here))) in
    λ j. first j ∷ rest j
pages-set old new k (suc n) (suc i) bytes is others =
    let ne : k ≢ k + suc i = omega arith in
    let at : k + suc i ≡ suc k + i = omega arith in
    let first = others k ne in
    let rest = pages-set old new (suc k) n i bytes (ap new (sym at) ∙ is) (λ j apart. others j (λ e. apart (e ∙ at))) in
    λ j. first j ∷ rest j

file-set : (old new : ℕ → Page) (info : FileInfo) (i : ℕ) (bytes : Page) → new i ≡ bytes → ((j : ℕ) → j ≢ i → new j ≡ old j) → file_with_pages new info ≡ file_with_page i bytes (file_with_pages old info)
file-set old new info i bytes is others =
    let at : 0 + i ≡ i = omega arith in
    ap (λ (ps : List Page). record (file_with_pages old info) { pages = ps }) (pages-set old new 0 (pages_in info.length) i bytes (ap new at ∙ is) (λ j ne. others j (λ e. ne (e ∙ sym at))))

files-beyond : (old new : ℕ → ℕ → Page) (k f : ℕ) (infos : List FileInfo) → f < k → ((g i : ℕ) → g ≢ f → new g i ≡ old g i) → files_with_pages new k infos ≡ files_with_pages old k infos
files-beyond old new k f [] lt same = refl
files-beyond old new k f (x ∷ xs) lt same =
    let ne : k ≢ f = omega (arith, lt) in
    let page_same : new k ≡ old k = λ j i. same k i ne j in
    let rest = files-beyond old new (suc k) f xs (omega (arith, lt)) same in
    λ j. file_with_pages (page_same j) x ∷ rest j

files-set : (old new : ℕ → ℕ → Page) (k n i : ℕ) (bytes : Page) (infos : List FileInfo) → new (k + n) i ≡ bytes → ((g j : ℕ) → ((g ≡ k + n) × (j ≡ i) → ⊥) → new g j ≡ old g j)
    → files_with_pages new k infos ≡ with_change_at (file_with_page i bytes) (files_with_pages old k infos) n
files-set old new k n i bytes [] is others = refl
files-set old new k zero i bytes (x ∷ xs) is others =
    let here : k + 0 ≡ k = omega arith in
    let first = file-set (old k) (new k) x i bytes (ap (λ g. new g i) (sym here) ∙ is) (λ j ne. others k j (λ both. ne both.1)) in
    let rest = files-beyond old new (suc k) k xs (omega arith) (λ g j ne. others g j (λ both. ne (both.0 ∙ here))) in
    λ j. first j ∷ rest j
files-set old new k (suc n) i bytes (x ∷ xs) is others =
    let at : k + suc n ≡ suc k + n = omega arith in
    let ne : k ≢ k + suc n = omega arith in
    let page_same : new k ≡ old k = λ j i. others k i (λ both. ne both.0) j in
    let rest = files-set old new (suc k) n i bytes xs (ap (λ g. new g i) (sym at) ∙ is) (λ g j apart. others g j (λ both. apart (both.0 ∙ at, both.1))) in
    λ j. file_with_pages (page_same j) x ∷ rest j

flat-put : (s : Shape) (born : set.FinSet nat_cmp) (old new : Contents) (f i : ℕ) (bytes : Page) → PutsPage old new f i bytes → flat_shaped s born new ≡ with_page (flat_shaped s born old) (object.File f) i bytes
flat-put s born old new f i bytes puts =
    let place : ◌≡◌ {A = ℕ → ℕ → Option Page} new.place old.place = λ j m k. puts.place m k j in
    let at : 0 + f ≡ f = omega arith in
    let files = files-set old.file new.file 0 f i bytes s.files (ap (λ g. new.file g i) at ∙ puts.there) (λ g j apart. puts.others g j (λ both. apart (both.0 ∙ sym at, both.1))) in
    λ j. record (flat_shaped s born (record { file = old.file; place = place j })) { files = files j }

-- the value of one page of a file changed, and no other
puts-page : (old new : PageName → Page) (maps : List (Option Map)) (f i : ℕ) (bytes : Page) → f ≢ 64 → new (file_name f i) ≡ bytes → ((n : PageName) → n ≢ file_name f i → new n ≡ old n)
    → PutsPage (contents_by old maps) (contents_by new maps) f i bytes
puts-page old new maps f i bytes file is others = record {
  there = ap (λ b. cond b [] (new (file_name f i))) (not-slot f file) ∙ is;
  others = λ g k apart. ap (cond (g == 64) []) (others (file_name g k) (λ e. apart (ap (λ (n : PageName). n.object) e, ap (λ (n : PageName). n.page) e)));
  place = λ m k. ap (λ (h : ℕ → Page). option_map h (slot_in maps m k)) (λ j s. others (slot_name s) (λ e. file (sym (ap (λ (n : PageName). n.object) e))) j);
}

pub flat-puts : (s : Shape) (born : set.FinSet nat_cmp) (old new : PageName → Page) (maps : List (Option Map)) (f i : ℕ) (bytes : Page) → f ≢ 64 → new (file_name f i) ≡ bytes → ((n : PageName) → n ≢ file_name f i → new n ≡ old n)
    → flat_shaped s born (contents_by new maps) ≡ with_page (flat_shaped s born (contents_by old maps)) (object.File f) i bytes
flat-puts s born old new maps f i bytes file is others = flat-put s born (contents_by old maps) (contents_by new maps) f i bytes (puts-page old new maps f i bytes file is others)

-- THE PAGE OF A SLOT IS PUT that one place holds: that place has the bytes, every other what it had, and so has every file.
files-same : (old new : PageName → Page) (s : ℕ) → ((n : PageName) → n ≢ slot_name s → new n ≡ old n) → ◌≡◌ {A = ℕ → ℕ → Page} (file_contents new) (file_contents old)
files-same old new s others = λ j g k. at g k j
  where
    at : (g k : ℕ) → file_contents new g k ≡ file_contents old g k
    at g k = elim (eqb_tells g 64) [
      | inl same ↦ ap (λ (b : Bool). cond b [] (new (file_name g k))) same.0 ∙ sym (ap (λ (b : Bool). cond b [] (old (file_name g k))) same.0)
      | inr apart ↦ ap (cond (g == 64) []) (others (file_name g k) (λ e. apart.1 (ap (λ (n : PageName). n.object) e)))
    ]

puts-held : (old new : PageName → Page) (anon : AnonSlotsSeen) (maps : List (Option Map)) (m i s : ℕ) (bytes : Page) → CountsFit anon maps → slot_in maps m i ≡ Some s → count_at anon s ≡ 1 → new (slot_name s) ≡ bytes
    → ((n : PageName) → n ≢ slot_name s → new n ≡ old n) → PutsHeld (place_contents old maps) (place_contents new maps) m i (Some bytes)
puts-held old new anon maps m i s bytes fit held one is others = record {
  there = ap (option_map (λ t. new (slot_name t))) held ∙ ap (λ (b : Page). Some b) is;
  others = λ a b apart. by_slot a b apart (slot_in maps a b) refl;
}
  where
    by_slot : (a b : ℕ) → ((a ≡ m) × (b ≡ i) → ⊥) → (o : Option ℕ) → slot_in maps a b ≡ o → option_map (λ t. new (slot_name t)) o ≡ option_map (λ t. old (slot_name t)) o
    by_slot a b apart None there = refl
    by_slot a b apart (Some t) there = ap (λ (c : Page). Some c) (others (slot_name t) (λ e.
        let same : t ≡ s = ap (λ (n : PageName). n.page) e in
        apart (only-place s maps m i a b (sym (fit.counts s) ∙ one) held (there ∙ ap (λ (k : ℕ). Some k) same))))

flat-slot : (s : Shape) (born : set.FinSet nat_cmp) (old new : PageName → Page) (maps : List (Option Map)) (t : ℕ) → ((n : PageName) → n ≢ slot_name t → new n ≡ old n)
    → flat_shaped s born (contents_by new maps) ≡ flat_shaped s born (record { file = file_contents old; place = place_contents new maps })
flat-slot s born old new maps t others = ap (λ (f : ℕ → ℕ → Page). flat_shaped s born (record { file = f; place = place_contents new maps })) (files-same old new t others)

-- A ZERO OBJECT'S PAGE: its map is no page's own.
flat-zero : (s : Shape) (born : set.FinSet nat_cmp) (file : ℕ → ℕ → Page) (old new : ℕ → ℕ → Option Page) (m i z : ℕ) (bytes : Page) → PutsHeld old new m i (Some bytes) → finite.get (zero_maps s.spaces) z ≡ Some m
    → ((y : ℕ) → finite.get (zero_maps s.spaces) y ≡ Some m → y ≡ z) → ((p q : ℕ) (x : Spot) → spot_at s.spaces p q ≡ Some x → x.0.own ≢ Some m)
    → flat_shaped s born (record { file = file; place = new }) ≡ with_page (flat_shaped s born (record { file = file; place = old })) (object.Zero z) i bytes
flat-zero s born file old new m i z bytes puts is alone hidden =
    let spaces = map_with-same (space_with old) (space_with new) s.spaces (λ p parts there. cells-else old new parts (λ q y at. cell-else old new m i (Some bytes) y puts (λ own place. hidden p q y (spot-in s.spaces p q parts there ∙ at) own))) in
    let first : 0 + i ≡ i = omega arith in
    let one : zero_pages new s.lengths m ≡ slice_set (zero_pages old s.lengths m) i bytes =
    pages-set (λ k. unwrap_or (old m k) zero_page) (λ k. unwrap_or (new m k) zero_page) 0 (s.lengths m) i bytes (ap (λ (k : ℕ). unwrap_or (new m k) zero_page) first ∙ ap (λ (o : Option Page). unwrap_or o zero_page) puts.there)
    (λ k ne. ap (λ (o : Option Page). unwrap_or o zero_page) (puts.others m k (λ e. ne (e.1 ∙ sym first)))) in
    let changed = map_with-but_one (zero_pages old s.lengths) (zero_pages new s.lengths) (zero_maps s.spaces) z m is
    (λ y n there ne. pages-same (λ k. unwrap_or (old n k) zero_page) (λ k. unwrap_or (new n k) zero_page) 0 (s.lengths n)
    (λ k. ap (λ (o : Option Page). unwrap_or o zero_page) (puts.others n k (λ e. ne (alone y (there ∙ ap (λ (a : ℕ). Some a) e.0)))))) in
    let was : unwrap_or (finite.get (map_with (zero_pages old s.lengths) (zero_maps s.spaces)) z) [] ≡ zero_pages old s.lengths m =
    ap (λ (o : Option (List Page)). unwrap_or o []) (get-map_with (zero_pages old s.lengths) (zero_maps s.spaces) z ∙ ap (option_map (zero_pages old s.lengths)) is) in
    let zeros = changed ∙ ap (finite.insert (map_with (zero_pages old s.lengths) (zero_maps s.spaces)) z) (one ∙ ap (λ (ps : List Page). slice_set ps i bytes) (sym was)) in
    λ j. record (flat_shaped s born (record { file = file; place = old })) { spaces = spaces j; zeros = zeros j }

-- THE PAGE THAT A PLACE SHOWS IS PUT, where it may be written in place: it is stored to the place's cell.
module _ (w : World) (spaces : Spaces) (born : set.FinSet nat_cmp) (notes : Notes) (p q : ℕ) (x : Spot) (name : PageName) (bytes : Page) (new : PageName → Page) (fits : MemoryFits (memory_of w spaces)) (here : spot_at spaces p q ≡ Some x)
    (shows : shown_name w.maps x ≡ Some name) (may : MayWriteInPlace w.anon w.maps x) (written : new name ≡ bytes) (others : (n : PageName) → n ≢ name → new n ≡ page_value w notes n) where
  abbrev old : PageName → Page
  old = page_value w notes

  abbrev F : Flat
  F = flat_memory (memory_of w spaces) born notes

  abbrev G : Flat
  G = flat_shaped (shape_of (memory_of w spaces)) born (contents_by new w.maps)

  abbrev cell : Cell
  cell = cell_of (contents_of w notes).place x

  abbrev index : ℕ
  index = x.0.index + x.1

  put-others : (m : PageName) → m ≡ name → (n : PageName) → n ≢ m → new n ≡ old n
  put-others m same n ne = others n (λ e. ne (e ∙ sym same))

  put-shared : x.0.kind ≡ Shared → (o : Object) → x.0.object ≡ o → G ≡ with_page F o index bytes
  put-shared kind o ob =
      let none = shared-own w spaces p q x fits here kind in
      let bare : own_slot w.maps x ≡ None = ap (option_and_then (λ number. slot_in w.maps number x.1)) none in
      by_object o ob (bare-name w spaces p q x fits here name bare shows)
    where
      by_slot : (z n : ℕ) → finite.get (zero_maps spaces) z ≡ Some n → x.0.shown ≡ Some n → (o : Option ℕ) → slot_in w.maps n index ≡ o → option_map slot_name o ≡ Some name → G ≡ with_page F (object.Zero z) index bytes
      by_slot z n at shown None held is = absurd (let e : None ≡ Some name = is in cc)
      by_slot z n at shown (Some s) held is =
          let same : slot_name s ≡ name = some-inj (slot_name s) name is in
          let rest = put-others (slot_name s) same in
          flat-slot (shape_of (memory_of w spaces)) born old new w.maps s rest
          ∙ flat-zero (shape_of (memory_of w spaces)) born (file_contents old) (place_contents old w.maps) (place_contents new w.maps) n index z bytes
          (puts-held old new w.anon w.maps n index s bytes fits.counts held (fits.segments.once z n index s at held) (ap new same ∙ written) rest) at
          (λ y there. fits.segments.apart y z n there at)
          (λ r k y there own. (places_law.alone (memory_of w spaces) r k n y fits there own).hidden z n at refl)

      by_object : (o : Object) → x.0.object ≡ o → object_name w.maps x.0.shown index x.0.object ≡ Some name → G ≡ with_page F o index bytes
      by_object (object.File f) ob is =
          let same : file_name f index ≡ name = some-inj (file_name f index) name (sym (ap (object_name w.maps x.0.shown index) ob) ∙ is) in
          flat-puts (shape_of (memory_of w spaces)) born old new w.maps f index bytes (file-apart w.files f fits.files (file-at w spaces p q x fits here f ob)) (ap new same ∙ written) (put-others (file_name f index) same)
      by_object (object.Zero z) ob is =
          let zero = zero-at w spaces p q x fits here z ob in
          by_slot z zero.0 (zero-map-at w spaces p q x fits here z zero.0 ob zero.1) zero.1 (slot_in w.maps zero.0 index) refl (zero-slot w spaces p q x fits here z zero.0 (Some name) ob zero.1 is)
      by_object object.NewZero ob is = absurd (let z : Shared ≡ Private = sym kind ∙ new-private w spaces p q x fits here ob in cc)

  put-private : x.0.kind ≡ Private → G ≡ with_cell F p q (record cell { own = Some bytes })
  put-private kind =
      let a = may.alone kind in
      let o = private-has w spaces p q x fits here kind in
      let held : slot_in w.maps o.0 x.1 ≡ Some a.0 = sym (ap (option_and_then (λ number. slot_in w.maps number x.1)) o.1) ∙ a.1 in
      let same : slot_name a.0 ≡ name = some-inj (slot_name a.0) name (sym (ap (λ (s : Option ℕ). option_or (option_map slot_name s) (object_name w.maps x.0.shown index x.0.object)) a.1) ∙ shows) in
      let rest = put-others (slot_name a.0) same in
      flat-slot (shape_of (memory_of w spaces)) born old new w.maps a.0 rest
      ∙ flat-owned (shape_of (memory_of w spaces)) born (file_contents old) (place_contents old w.maps) (place_contents new w.maps) p q o.0 x.1 x (Some bytes)
      (puts-held old new w.anon w.maps o.0 x.1 a.0 bytes fits.counts held a.2 (ap new same ∙ written) rest) (places_law.alone (memory_of w spaces) p q o.0 x fits here o.1)

  pub flat-stored : G ≡ with_page_stored F p q cell bytes
  flat-stored = by_kind x.0.kind refl
    where
      by_kind : (k : Kind) → x.0.kind ≡ k → G ≡ with_page_stored F p q cell bytes
      by_kind Shared kind =
          put-shared kind x.0.object refl
          ∙ sym (ap (λ (k : Kind). elim k as (λ (a : Kind). Flat) [ Shared ↦ with_page F x.0.object index bytes | Private ↦ with_cell F p q (record cell { own = Some bytes }) ]) kind)
      by_kind Private kind =
          put-private kind
          ∙ sym (ap (λ (k : Kind). elim k as (λ (a : Kind). Flat) [ Shared ↦ with_page F x.0.object index bytes | Private ↦ with_cell F p q (record cell { own = Some bytes }) ]) kind)
