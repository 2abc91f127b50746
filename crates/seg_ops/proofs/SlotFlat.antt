-- FLAT MEMORY once a slot was made for a place, with its page: the place holds the page, and the tails of the files whose last page was cut are zeros.
use Rattle.vm_world.proofs.flat_model.Bytes.{All-slice_get as all-get}
use Rattle.std.proofs.Common.{◌≡◌, ◌≢◌, ℕ, ◌+◌, ◌-◌, ◌*◌, ◌<◌, min, Bool, cond, List, [], map, Option, Some, None, refl, sym, ap, ◌∙◌, subst, arith}
use Rattle.std.specs.Prelude.{IsTrue, nat_lt, option_map, slice_get}
use Rattle.std.specs.Option.{option_map_or}
use Rattle.std.specs.Ordering.{nat_cmp}
use Rattle.std.specs.FinSet as set
use Rattle.std.proofs.lemmas.Bool.{lt-ltb}
use Rattle.page_store.specs.core_arena.Bytes.{zeros}
use Rattle.page_store.specs.page_hash.declared.PageName.{PageName}
use Rattle.page_store.specs.Notes.{Notes}
use Rattle.page_store.specs.declared.place.Place.{Place}
use Rattle.vm_world.specs.anon_map.Maps.{Map}
use Rattle.vm_world.specs.anon_slots.Slots.{count_at, is_used}
use Rattle.vm_world.specs.vnode_files.declared.vnode.FileInfo.{FileInfo}
use Rattle.vm_world.specs.vnode_files.Files.{FilesSeen, vnode_at}
use Rattle.vm_world.specs.vnode_files.Grow.{page_count}
use Rattle.vm_world.specs.vnode_files.Vnode.{VnodeSeen}
use Rattle.vm_world.specs.flat_model.Access.{with_cell}
use Rattle.vm_world.specs.flat_model.Flat.{Cell, File, Flat, IsFile, IsFlat}
use Rattle.vm_world.specs.flat_model.Parts.{without_tail}
use Rattle.vm_world.specs.flat_model.Shapes.{SameShape, without_bytes}
use Rattle.vm_world.specs.flat_model.Step.{tails_cleared, files_cleared}
use Rattle.vm_world.proofs.flat_model.ShapeSteps.{tails-same}
use Rattle.vm_world.specs.flat_model.Words.{Page, IsPage, pages_in, zero_page}
use Rattle.vm_world.specs.CallSteps.{ChangesMemory}
use Rattle.vm_world.specs.FlatMemory.{Shape, cell_of, flat_shaped, flat_memory, shape_of, file_with_pages, files_with_pages, pages_from}
use Rattle.vm_world.specs.MemoryFits.{MemoryFits}
use Rattle.vm_world.specs.NotesFit.{NotesFit}
use Rattle.vm_world.specs.Pages.{page_value, contents_of, contents_by, file_contents, place_contents}
use Rattle.vm_world.specs.Segments.{Spot, Spaces, spot_at}
use Rattle.vm_world.specs.State.{mode_of}
use Rattle.vm_world.specs.World.{World, file_name, slot_name, slot_in, world_table, page_exists, AllTell}
use Rattle.vm_world.specs.WorldSteps.{cut_page, tails_lost}
use Rattle.vm_world.proofs.Clips.{cut-none}
use Rattle.vm_world.proofs.Counts.{held-used, used-below}
use Rattle.vm_world.proofs.CutFiles.{cut-file, cut-files}
use Rattle.vm_world.proofs.FilePages.{page-in, file-in}
use Rattle.vm_world.proofs.PageNames.{not-slot, info-there, file-apart, below-kept, file-place, slot-place}
use Rattle.vm_world.proofs.Maps.{cell-at}
use Rattle.vm_world.proofs.StoredPages.{zeros-are}
use Rattle.seg_ops.specs.Slots.{MakesPage, IsNewZero, OwnsAlone, with_own_page}
use Rattle.seg_ops.proofs.SlotCells.{PutsHeld, flat-owned, flat-zeros}
use Rattle.seg_ops.proofs.SlotMemory.{lengths-set, lt-used}
use Rattle.seg_ops.proofs.SlotPlaces.{slot-here, slot-else}
use Rattle.seg_ops.proofs.SlotShapes.{bare, bare-puts, bare-shape, no-bytes, owned-shape}
use Rattle.seg_ops.proofs.StillSteps.{memory_of}

-- the shape stays
shape-made : (old new : World) (spaces : Spaces) (cut : PageName → Bool) (m i s : ℕ) (bytes : Page) → MakesPage old new spaces cut m i s bytes → shape_of (memory_of new spaces) ≡ shape_of (memory_of old spaces)
shape-made old new spaces cut m i s bytes k = λ j. record {
  slots = k.slot.slots j;
  disks = (k.files j).disks;
  files = map (λ (v : VnodeSeen). v.info) (k.files j).files;
  lengths = lengths-set old.maps new.maps m i (Some s) k.slot.within k.slot.set j;
  spaces = spaces;
}

module _ (old new : World) (spaces : Spaces) (cut : PageName → Bool) (m i s : ℕ) (bytes : Page) (fits : MemoryFits (memory_of old spaces)) (k : MakesPage old new spaces cut m i s bytes) (notes : Notes) (nf : NotesFit old notes) (tell : AllTell old notes) where
  -- the page of a slot that is in use stays
  slot-stays : (t : ℕ) → 0 < count_at old.anon t → page_value new notes (slot_name t) ≡ page_value old notes (slot_name t)
  slot-stays t used =
      let exists : IsTrue (page_exists old.files old.anon (slot_name t)) = lt-used (count_at old.anon t) used in
      let full : (world_table old (slot_name t)).valid ≡ 4096 = ap (λ (p : Place). p.valid) (slot-place old.files old.anon t fits.files (used-below old.anon.counts t used)) in
      k.pages notes (slot_name t) nf tell exists ∙ ap (λ (v : ℕ). cut_page (cut (slot_name t)) v (page_value old notes (slot_name t))) full
      ∙ cut-none (cut (slot_name t)) (page_value old notes (slot_name t)) (λ c. k.whole notes (slot_name t) nf tell exists c)

  -- what the places hold
  pub places-made : PutsHeld (place_contents (page_value old notes) old.maps) (place_contents (page_value new notes) new.maps) m i (Some bytes)
  places-made = record {
    there = ap (λ (ps : List (Option Map)). place_contents (page_value new notes) ps m i) k.slot.set ∙ ap (option_map (λ t. page_value new notes (slot_name t))) (slot-here old.maps m i (Some s) k.slot.within) ∙ ap (λ (b : Page). Some b) (k.page notes nf);
    others = λ a b apart.
        ap (λ (ps : List (Option Map)). place_contents (page_value new notes) ps a b) k.slot.set ∙ ap (option_map (λ t. page_value new notes (slot_name t))) (slot-else old.maps m i a b (Some s) k.slot.within apart)
        ∙ by_slot a b (slot_in old.maps a b) refl;
  }
    where
      by_slot : (a b : ℕ) (o : Option ℕ) → slot_in old.maps a b ≡ o → option_map (λ t. page_value new notes (slot_name t)) o ≡ option_map (λ t. page_value old notes (slot_name t)) o
      by_slot a b None is = refl
      by_slot a b (Some t) is = ap (λ (p : Page). Some p) (slot-stays t (held-used old.anon old.maps a b t fits.counts is))

  -- one file, its tail cleared or not
  one-file : (born : set.FinSet nat_cmp) → IsFlat (flat_memory (memory_of old spaces) born notes) → (f : ℕ) (info : FileInfo) → slice_get (shape_of (memory_of old spaces)).files f ≡ Some info
      → file_with_pages (file_contents (page_value new notes) f) info ≡ cond (tails_lost old cut f) (without_tail (file_with_pages (file_contents (page_value old notes) f) info)) (file_with_pages (file_contents (page_value old notes) f) info)
  one-file born whole f info is =
      let at = info-there old.files f info is in
      let far = file-apart old.files f fits.files at.0 in
      let same : pages_in (vnode_at old.files f).info.length ≡ pages_in info.length = ap (λ (x : FileInfo). pages_in x.length) at.1 in
      let old_page : (j : ℕ) → file_contents (page_value old notes) f j ≡ page_value old notes (file_name f j) = λ j. ap (λ (b : Bool). cond b [] (page_value old notes (file_name f j))) (not-slot f far) in
      let new_page : (j : ℕ) → file_contents (page_value new notes) f j ≡ page_value new notes (file_name f j) = λ j. ap (λ (b : Bool). cond b [] (page_value new notes (file_name f j))) (not-slot f far) in
      let file : IsFile (file_with_pages (file_contents (page_value old notes) f) info) =
      all-get IsFile (files_with_pages (file_contents (page_value old notes)) 0 (shape_of (memory_of old spaces)).files) f (file_with_pages (file_contents (page_value old notes) f) info) whole.files
      (file-in (file_contents (page_value old notes)) 0 f (shape_of (memory_of old spaces)).files ∙ ap (option_map (file_with_pages (file_contents (page_value old notes) (0 + f)))) is ∙ zero_plus) in
      let lost : cut (file_name f (pages_in info.length - 1)) ≡ tails_lost old cut f = ap (λ (x : FileInfo). cut (file_name f (pages_in x.length - 1))) (sym at.1) in
      cut-file (file_contents (page_value old notes) f) (file_contents (page_value new notes) f) info (λ j. cut (file_name f j))
      (λ j lt. (all-get IsPage (pages_from (file_contents (page_value old notes) f) 0 (pages_in info.length)) j (file_contents (page_value old notes) f j) file.pages (at_place j (pages_in info.length) lt)).whole)
      (λ j lt.
      let kept : j < page_count (vnode_at old.files f).info.extents = below-kept (vnode_at old.files f) j (fits.files.each f at.0) (omega (arith, same, lt)) in
      let valid : (world_table old (file_name f j)).valid ≡ min (info.length - j * 4096) 4096 = ap (λ (p : Place). p.valid) (file-place old.files old.anon f j at.0 kept) ∙ ap (λ (x : FileInfo). min (x.length - j * 4096) 4096) at.1 in
      new_page j ∙ k.pages notes (file_name f j) nf tell (exists j far (omega (arith, same, lt)))
      ∙ ap (λ (v : ℕ). cut_page (cut (file_name f j)) v (page_value old notes (file_name f j))) valid
      ∙ ap (cut_page (cut (file_name f j)) (min (info.length - j * 4096) 4096)) (sym (old_page j)))
      ∙ ap (λ (b : Bool). cond b (without_tail (file_with_pages (file_contents (page_value old notes) f) info)) (file_with_pages (file_contents (page_value old notes) f) info)) lost
    where
      exists : (j : ℕ) → f ≢ 64 → j < pages_in (vnode_at old.files f).info.length → IsTrue (page_exists old.files old.anon (file_name f j))
      exists j far lt = ap (λ (b : Bool). cond b (is_used (count_at old.anon j)) (nat_lt j (pages_in (vnode_at old.files f).info.length))) (not-slot f far) ∙ lt-ltb j (pages_in (vnode_at old.files f).info.length) lt

      zero_plus : Some (file_with_pages (file_contents (page_value old notes) (0 + f)) info) ≡ Some (file_with_pages (file_contents (page_value old notes) f) info)
      zero_plus = let z : 0 + f ≡ f = omega arith in ap (λ (j : ℕ). Some (file_with_pages (file_contents (page_value old notes) j) info)) z

      at_place : (j n : ℕ) → j < n → slice_get (pages_from (file_contents (page_value old notes) f) 0 n) j ≡ Some (file_contents (page_value old notes) f j)
      at_place j n lt = let z : 0 + j ≡ j = omega arith in page-in (file_contents (page_value old notes) f) 0 n j lt ∙ ap (λ (a : ℕ). Some (file_contents (page_value old notes) f a)) z

  -- the files apart from the places
  flat-made : (born : set.FinSet nat_cmp) → IsFlat (flat_memory (memory_of old spaces) born notes)
      → flat_memory (memory_of new spaces) born notes ≡ tails_cleared (flat_shaped (shape_of (memory_of old spaces)) born (record { file = file_contents (page_value old notes); place = place_contents (page_value new notes) new.maps })) (tails_lost old cut)
  flat-made born whole =
      let shape : Shape = shape_of (memory_of old spaces) in
      let files : files_with_pages (file_contents (page_value new notes)) 0 shape.files ≡ files_cleared (tails_lost old cut) (files_with_pages (file_contents (page_value old notes)) 0 shape.files) =
      cut-files (file_contents (page_value old notes)) (file_contents (page_value new notes)) (tails_lost old cut) 0 shape.files (λ f info is. let z : f ≡ 0 + f = omega arith in
      subst (λ (j : ℕ). file_with_pages (file_contents (page_value new notes) j) info ≡ cond (tails_lost old cut f) (without_tail (file_with_pages (file_contents (page_value old notes) j) info)) (file_with_pages (file_contents (page_value old notes) j) info)) z (one-file born whole f info is)) in
      ap (λ (h : Shape). flat_shaped h born (contents_by (page_value new notes) new.maps)) (shape-made old new spaces cut m i s bytes k)
      ∙ ap (λ (fs : List File). record (flat_shaped shape born (contents_by (page_value new notes) new.maps)) { files = fs }) files

  -- A PAGE OF ZEROS: nothing else changes.
  pub flat-made_zeros : (born : set.FinSet nat_cmp) → IsFlat (flat_memory (memory_of old spaces) born notes) → bytes ≡ zero_page → slot_in old.maps m i ≡ None → IsNewZero spaces m i
      → flat_memory (memory_of new spaces) born notes ≡ tails_cleared (flat_memory (memory_of old spaces) born notes) (tails_lost old cut)
  flat-made_zeros born whole zeroed empty new_zero =
      flat-made born whole
      ∙ ap (λ (F : Flat). tails_cleared F (tails_lost old cut)) (flat-zeros (shape_of (memory_of old spaces)) born (file_contents (page_value old notes)) (place_contents (page_value old notes) old.maps) (place_contents (page_value new notes) new.maps) m i
      (subst (λ (b : Page). PutsHeld (place_contents (page_value old notes) old.maps) (place_contents (page_value new notes) new.maps) m i (Some b)) zeroed places-made) (ap (option_map (λ t. page_value old notes (slot_name t))) empty) new_zero)

  -- A PAGE OF A PRIVATE CELL: it is the cell's own.
  pub flat-made_owned : (born : set.FinSet nat_cmp) (p q : ℕ) (x : Spot) → IsFlat (flat_memory (memory_of old spaces) born notes) → OwnsAlone spaces p q m i x
      → flat_memory (memory_of new spaces) born notes ≡ tails_cleared (with_cell (flat_memory (memory_of old spaces) born notes) p q (record (cell_of (contents_of old notes).place x) { own = Some bytes })) (tails_lost old cut)
  flat-made_owned born p q x whole owns =
      flat-made born whole
      ∙ ap (λ (F : Flat). tails_cleared F (tails_lost old cut)) (flat-owned (shape_of (memory_of old spaces)) born (file_contents (page_value old notes)) (place_contents (page_value old notes) old.maps) (place_contents (page_value new notes) new.maps) p q m i x (Some bytes) places-made owns)

-- A CHANGE OF MEMORY, of any process.
pub changes-by : (p : ℕ) (old new : World) (spaces : Spaces) (cut : PageName → Bool) (m i s : ℕ) (bytes : Page) (f : Flat → Flat) → MakesPage old new spaces cut m i s bytes
    → ((born : set.FinSet nat_cmp) (notes : Notes) → NotesFit old notes → AllTell old notes → IsFlat (flat_memory (memory_of old spaces) born notes) → flat_memory (memory_of new spaces) born notes ≡ f (flat_memory (memory_of old spaces) born notes))
    → ((born : set.FinSet nat_cmp) (notes : Notes) → SameShape (flat_memory (memory_of new spaces) born notes) (f (flat_memory (memory_of old spaces) born notes))) → ChangesMemory p (memory_of old spaces) (memory_of new spaces) (λ F. f F)
changes-by p old new spaces cut m i s bytes f k flat shaped = record {
  machine = record { core = k.core; frames = k.frames; slots = k.slot.slots; disks = ap (λ (fs : FilesSeen). fs.disks) k.files; modes = ap (λ (fs : FilesSeen). map mode_of fs.files) k.files; bays = k.bays };
  others = λ q ne. refl;
  memory = k.memory;
  notes = k.notes;
  tells = k.tells;
  flat = flat;
  shaped = shaped;
}

pub changes-zeros : (p : ℕ) (old new : World) (spaces : Spaces) (cut : PageName → Bool) (m i s : ℕ) → MemoryFits (memory_of old spaces) → MakesPage old new spaces cut m i s zeros → slot_in old.maps m i ≡ None → IsNewZero spaces m i
    → ChangesMemory p (memory_of old spaces) (memory_of new spaces) (λ F. tails_cleared F (tails_lost old cut))
changes-zeros p old new spaces cut m i s fits k empty new_zero = changes-by p old new spaces cut m i s zeros (λ F. tails_cleared F (tails_lost old cut)) k
    (λ born notes nf tell whole. flat-made_zeros old new spaces cut m i s zeros fits k notes nf tell born whole zeros-are empty new_zero)
    (λ born notes.
    let shape : Shape = shape_of (memory_of old spaces) in
    bare-shape new spaces born notes
    ∙ ap (λ (h : Shape). without_bytes (flat_shaped h born (record { file = no-bytes; place = bare new.maps }))) (shape-made old new spaces cut m i s zeros k)
    ∙ ap without_bytes (flat-zeros shape born no-bytes (bare old.maps) (bare new.maps) m i (bare-puts old.maps new.maps m i (Some s) k.slot.within k.slot.set) (ap (option_map (λ slot. zero_page)) empty) new_zero)
    ∙ sym (bare-shape old spaces born notes) ∙ sym (tails-same (flat_memory (memory_of old spaces) born notes) (tails_lost old cut)))

-- the cell of a spot has the page as its own
own-page-is : (old : World) (spaces : Spaces) (notes : Notes) (born : set.FinSet nat_cmp) (p q : ℕ) (x : Spot) (bytes : Page) → spot_at spaces p q ≡ Some x
    → with_own_page (flat_memory (memory_of old spaces) born notes) p q bytes ≡ with_cell (flat_memory (memory_of old spaces) born notes) p q (record (cell_of (contents_of old notes).place x) { own = Some bytes })
own-page-is old spaces notes born p q x bytes here =
    let F : Flat = flat_memory (memory_of old spaces) born notes in
    ap (λ (o : Option Cell). option_map_or (λ c. with_cell F p q (record c { own = Some bytes })) o F) (cell-at (contents_of old notes).place spaces p q ∙ ap (option_map (cell_of (contents_of old notes).place)) here)

pub changes-owned : (p q : ℕ) (x : Spot) (old new : World) (spaces : Spaces) (cut : PageName → Bool) (m i s : ℕ) (bytes : Page) → MemoryFits (memory_of old spaces) → MakesPage old new spaces cut m i s bytes → OwnsAlone spaces p q m i x
    → ChangesMemory p (memory_of old spaces) (memory_of new spaces) (λ F. tails_cleared (with_own_page F p q bytes) (tails_lost old cut))
changes-owned p q x old new spaces cut m i s bytes fits k owns = changes-by p old new spaces cut m i s bytes (λ F. tails_cleared (with_own_page F p q bytes) (tails_lost old cut)) k
    (λ born notes nf tell whole. flat-made_owned old new spaces cut m i s bytes fits k notes nf tell born p q x whole owns ∙ ap (λ (F : Flat). tails_cleared F (tails_lost old cut)) (sym (own-page-is old spaces notes born p q x bytes owns.here)))
    (λ born notes.
    owned-shape old new spaces p q m i x (Some s) (record (cell_of (contents_of old notes).place x) { own = Some bytes }) born notes (shape-made old new spaces cut m i s bytes k) (bare-puts old.maps new.maps m i (Some s) k.slot.within k.slot.set) owns (λ place. refl)
    ∙ ap without_bytes (sym (own-page-is old spaces notes born p q x bytes owns.here))
    ∙ sym (tails-same (with_own_page (flat_memory (memory_of old spaces) born notes) p q bytes) (tails_lost old cut)))
