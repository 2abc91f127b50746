-- The frame rule: what a step of the world does to flat memory, and one step after another.
use Rattle.flat_model.proofs.Bytes.{All-slice_get as all-get}
use Rattle.std.proofs.Common.{◌≡◌, ◌≢◌, false, None, ℕ, ◌+◌, ◌-◌, ◌*◌, ◌<◌, ◌≤◌, ◌==◌, min, zero, suc, Bool, true, cond, List, [], ◌∷◌, length, map, Option, Some, refl, sym, ap, ◌∙◌, inl, inr, subst, arith}
use Rattle.std.specs.Prelude.{option_map, slice_get, slice_index_or, IsTrue, nat_lt, ◌||◌}
use Rattle.std.specs.FinSet as set
use Rattle.std.specs.Ordering.{nat_cmp}
use Rattle.std.proofs.lemmas.Bool.{cases_Bool}
use Rattle.std.proofs.lemmas.List.{length-map}
use Rattle.page_store.specs.page_hash.declared.PageName.{PageName}
use Rattle.page_store.specs.Notes.{Notes}
use Rattle.page_store.specs.declared.place.Place.{Place}
use Rattle.anon_map.specs.Maps.{places_of}
use Rattle.flat_model.specs.vnode_files.declared.vnode.FileInfo.{FileInfo}
use Rattle.flat_model.specs.vnode_files.Files.{vnode_at}
use Rattle.flat_model.specs.vnode_files.Grow.{page_count}
use Rattle.flat_model.specs.vnode_files.Vnode.{VnodeSeen, no_vnode}
use Rattle.flat_model.specs.Words.{Page, pages_in}
use Rattle.flat_model.specs.Flat.{File, IsFile, IsFlat}
use Rattle.flat_model.specs.Step.{files_cleared, tails_cleared}
use Rattle.vm_world.specs.World.{World, file_name, slot_name, slot_in, world_table, is_page_name, page_exists, AllTell}
use Rattle.vm_world.specs.Pages.{page_value, contents_of, contents_by, file_contents, Contents}
use Rattle.vm_world.specs.Segments.{Spaces}
use Rattle.vm_world.specs.FlatMemory.{Memory, Shape, flat_shaped, flat_memory, shape_of, file_with_pages, files_with_pages, pages_from}
use Rattle.vm_world.specs.FramesFit.{FilesFit}
use Rattle.vm_world.specs.MemoryFits.{MemoryFits}
use Rattle.vm_world.specs.NotesFit.{NotesFit}
use Rattle.vm_world.specs.WorldSteps.{Trip, stays, leaves, returns, HasTrip, MovesBay, notes_after, KeepsTables, cut_page, WorldStep, tails_lost}
use Rattle.std.proofs.lemmas.Bool.{lt-ltb}
use Rattle.std.proofs.lemmas.Bool.Decides.{eqb_tells}
use Rattle.std.specs.Prelude.{slice_index, not}
use Rattle.anon_slots.specs.Slots.{is_used, count_at}
use Rattle.vm_world.proofs.Counts.{held-used, used-below}
use Rattle.vm_world.proofs.Clips.{cut-none, cut-twice, whole-before}
use Rattle.vm_world.proofs.CutFiles.{cut-file, cut-files}
use Rattle.vm_world.proofs.PageNames.{not-slot, info-there, file-apart, below-kept, page-cases, file-place, slot-place}
use Rattle.vm_world.proofs.FilePages.{page-in, file-in}
use Rattle.vm_world.specs.Laws.{FrameRule}
use Rattle.page_store.specs.Bays.{BaySeen}
use Rattle.flat_model.specs.Parts.{without_tail}
use Rattle.flat_model.specs.Words.{IsPage}
use Rattle.std.proofs.lemmas.Bool.{ltb-true}

abbrev pub memory_of : World → Spaces → Memory
memory_of w spaces = record { world = w; spaces = spaces }

-- the record of a file, from the records of all
pub info-at : (vs : List VnodeSeen) (f : ℕ) → (slice_index_or vs f no_vnode).info ≡ slice_index_or (map (λ (v : VnodeSeen). v.info) vs) f no_vnode.info
info-at [] f = refl
info-at (v ∷ vs) zero = refl
info-at (v ∷ vs) (suc f) = info-at vs f

pub info-same : (old new : World) (f : ℕ) → KeepsTables old new → (vnode_at new.files f).info ≡ (vnode_at old.files f).info
info-same old new f k = info-at new.files.files f ∙ ap (λ (infos : List FileInfo). slice_index_or infos f no_vnode.info) k.infos ∙ sym (info-at old.files.files f)

-- names of pages stay names of pages
pub name-same : (old new : World) (name : PageName) → KeepsTables old new → is_page_name new.files new.anon name ≡ is_page_name old.files old.anon name
name-same old new name k =
    let slots : length new.anon.counts ≡ length old.anon.counts = ap length k.counts in
    let info = info-same old new name.object k in
    ap (λ (n : ℕ). cond (name.object == 64) (nat_lt name.page n) (nat_lt name.page (page_count (vnode_at new.files name.object).info.extents))) slots
    ∙ ap (λ (i : FileInfo). cond (name.object == 64) (nat_lt name.page (length old.anon.counts)) (nat_lt name.page (page_count i.extents))) info

-- the shape of memory stays
pub shape-same : (old new : World) (spaces : Spaces) → KeepsTables old new → shape_of (memory_of new spaces) ≡ shape_of (memory_of old spaces)
shape-same old new spaces k = λ i. record {
  slots = length (k.counts i);
  disks = k.disks i;
  files = k.infos i;
  lengths = λ number. length (places_of (k.maps i) number);
  spaces = spaces;
}

-- at most 4096 bytes of a page are valid, and all of a slot's
pub valid-within : (w : World) (name : PageName) → FilesFit w.files → IsTrue (is_page_name w.files w.anon name) → (world_table w name).valid ≤ 4096
valid-within w name fit is = elim (page-cases w.files w.anon name is) [
  | inl s ↦ let e = slot-valid w name s fit in omega (arith, e)
  | inr f ↦ let e : (world_table w name).valid ≡ min ((vnode_at w.files name.object).info.length - name.page * 4096) 4096 = ap (λ (p : Place). p.valid) (file-place w.files w.anon name.object name.page f.1 f.2) in omega (arith, e)
]
  where
    slot-valid : (w : World) (name : PageName) → (name.object ≡ 64) × (name.page < length w.anon.counts) → FilesFit w.files → (world_table w name).valid ≡ 4096
    slot-valid w name s fit = ap (λ (n : PageName). (world_table w n).valid) (λ i. record { object = s.0 i; page = name.page }) ∙ ap (λ (p : Place). p.valid) (slot-place w.files w.anon name.page fit s.1)

-- the valid bytes of a page stay
pub valid-same : (old new : World) (name : PageName) → KeepsTables old new → FilesFit old.files → FilesFit new.files → IsTrue (is_page_name old.files old.anon name) → (world_table new name).valid ≡ (world_table old name).valid
valid-same old new name k fit fit' is = elim (page-cases old.files old.anon name is) [
  | inl s ↦
      let at : name ≡ slot_name name.page = λ i. record { object = s.0 i; page = name.page } in
      let low = s.1 in
      let count : length new.anon.counts ≡ length old.anon.counts = ap length k.counts in
      let lt : name.page < length new.anon.counts = omega (arith, low, count) in
      ap (λ (n : PageName). (world_table new n).valid) at ∙ ap (λ (p : Place). p.valid) (slot-place new.files new.anon name.page fit' lt)
      ∙ sym (ap (λ (n : PageName). (world_table old n).valid) at ∙ ap (λ (p : Place). p.valid) (slot-place old.files old.anon name.page fit low))
  | inr f ↦
      let info = info-same old new name.object k in
      let low = f.2 in
      let there = f.1 in
      let count : length new.files.files ≡ length old.files.files = sym (length-map new.files.files (λ (v : VnodeSeen). v.info)) ∙ ap length k.infos ∙ length-map old.files.files (λ (v : VnodeSeen). v.info) in
      let kept : page_count (vnode_at new.files name.object).info.extents ≡ page_count (vnode_at old.files name.object).info.extents = ap (λ (i : FileInfo). page_count i.extents) info in
      ap (λ (p : Place). p.valid) (file-place new.files new.anon name.object name.page (omega (arith, there, count)) (omega (arith, low, kept)))
      ∙ ap (λ (i : FileInfo). min (i.length - name.page * 4096) 4096) info
      ∙ sym (ap (λ (p : Place). p.valid) (file-place old.files old.anon name.object name.page there low))
]

-- a page that exists is one that a file keeps, or a slot's
pub exists-page : (w : World) (name : PageName) → FilesFit w.files → IsTrue (page_exists w.files w.anon name) → IsTrue (is_page_name w.files w.anon name)
exists-page w name fit is = elim (eqb_tells name.object 64) [
  | inl slot ↦
      let used : is_used (count_at w.anon name.page) ≡ true = sym (ap (λ (b : Bool). cond b (is_used (count_at w.anon name.page)) (nat_lt name.page (pages_in (vnode_at w.files name.object).info.length))) slot.0) ∙ is in
      ap (λ (b : Bool). cond b (nat_lt name.page (length w.anon.counts)) (nat_lt name.page (page_count (vnode_at w.files name.object).info.extents))) slot.0
      ∙ lt-ltb name.page (length w.anon.counts) (used-below w.anon.counts name.page (in-use (count_at w.anon name.page) used))
  | inr file ↦
      let below : name.page < pages_in (vnode_at w.files name.object).info.length = ltb-true name.page (pages_in (vnode_at w.files name.object).info.length) (sym (ap (λ (b : Bool). cond b (is_used (count_at w.anon name.page)) (nat_lt name.page (pages_in (vnode_at w.files name.object).info.length))) file.0) ∙ is) in
      ap (λ (b : Bool). cond b (nat_lt name.page (length w.anon.counts)) (nat_lt name.page (page_count (vnode_at w.files name.object).info.extents))) file.0
      ∙ lt-ltb name.page (page_count (vnode_at w.files name.object).info.extents) (below-kept (vnode_at w.files name.object) name.page (fit.each name.object (there name.object name.page w.files.files below)) below)
]
  where
    in-use : (n : ℕ) → is_used n ≡ true → 0 < n
    in-use zero h = absurd (let z : false ≡ true = h in cc)
    in-use (suc n) h = omega arith

    there : (f i : ℕ) (vs : List VnodeSeen) → i < pages_in (slice_index_or vs f no_vnode).info.length → f < length vs
    there f i [] lt = absurd (omega (arith, lt))
    there zero i (v ∷ vs) lt = omega arith
    there (suc f) i (v ∷ vs) lt = let more = there f i vs lt in omega (arith, more)

-- pages that exist go on to
pub exists-same : (old new : World) (name : PageName) → KeepsTables old new → page_exists new.files new.anon name ≡ page_exists old.files old.anon name
exists-same old new name k =
    ap (λ (cs : List ℕ). cond (name.object == 64) (is_used (slice_index cs name.page)) (nat_lt name.page (pages_in (vnode_at new.files name.object).info.length))) k.counts
    ∙ ap (λ (i : FileInfo). cond (name.object == 64) (is_used (count_at old.anon name.page)) (nat_lt name.page (pages_in i.length))) (info-same old new name.object k)

-- the page of a slot that is in use stays
slot-same : (old new : World) (spaces : Spaces) (trip : Trip) (cut : PageName → Bool) (notes : Notes) (s : ℕ) → 0 < count_at old.anon s → MemoryFits (memory_of old spaces) → WorldStep old new spaces trip cut → HasTrip trip notes → NotesFit old notes → AllTell old notes
    → page_value new (notes_after trip notes) (slot_name s) ≡ page_value old notes (slot_name s)
slot-same old new spaces trip cut notes s used fits step has nf tell =
    let exists : IsTrue (page_exists old.files old.anon (slot_name s)) = in-use (count_at old.anon s) used in
    let full : (world_table old (slot_name s)).valid ≡ 4096 = ap (λ (p : Place). p.valid) (slot-place old.files old.anon s fits.files (used-below old.anon.counts s used)) in
    step.pages notes (slot_name s) has nf tell exists ∙ ap (λ (v : ℕ). cut_page (cut (slot_name s)) v (page_value old notes (slot_name s))) full
    ∙ cut-none (cut (slot_name s)) (page_value old notes (slot_name s)) (λ c. step.whole notes (slot_name s) has nf tell exists c)
  where
    in-use : (n : ℕ) → 0 < n → is_used n ≡ true
    in-use n lt = elim (eqb_tells n 0) [ inl y ↦ absurd (let e = y.1 in omega (arith, e, lt)) | inr x ↦ ap (λ (b : Bool). not b) x.0 ]

-- A STEP ON FLAT MEMORY.
pub frame-flat : (old new : World) (spaces : Spaces) (trip : Trip) (cut : PageName → Bool) (born : set.FinSet nat_cmp) (notes : Notes) → MemoryFits (memory_of old spaces) → WorldStep old new spaces trip cut → HasTrip trip notes → NotesFit old notes → AllTell old notes
    → IsFlat (flat_memory (memory_of old spaces) born notes) → flat_memory (memory_of new spaces) born (notes_after trip notes) ≡ tails_cleared (flat_memory (memory_of old spaces) born notes) (tails_lost old cut)
frame-flat old new spaces trip cut born notes fits step has nf tell whole =
    let shape : Shape = shape_of (memory_of old spaces) in
    let c : Contents = contents_of old notes in
    let c' : Contents = contents_by (page_value new (notes_after trip notes)) old.maps in
    let same_shape : flat_memory (memory_of new spaces) born (notes_after trip notes) ≡ flat_shaped shape born c' =
    λ i. flat_shaped (shape-same old new spaces step.tables i) born (contents_by (page_value new (notes_after trip notes)) (step.tables.maps i)) in
    let places : c'.place ≡ c.place = λ i number place. one-place number place (slot_in old.maps number place) refl i in
    let files : files_with_pages c'.file 0 shape.files ≡ files_cleared (tails_lost old cut) (files_with_pages c.file 0 shape.files) =
    cut-files c.file c'.file (tails_lost old cut) 0 shape.files (λ f info is. let z : f ≡ 0 + f = omega arith in
    subst (λ (j : ℕ). file_with_pages (c'.file j) info ≡ cond (tails_lost old cut f) (without_tail (file_with_pages (c.file j) info)) (file_with_pages (c.file j) info)) z (one-file f info is)) in
    same_shape ∙ ap (λ (place : ℕ → ℕ → Option Page). flat_shaped shape born (record { file = c'.file; place = place })) places
    ∙ ap (λ (fs : List File). record (flat_shaped shape born c) { files = fs }) files
  where
    one-place : (number place : ℕ) (o : Option ℕ) → slot_in old.maps number place ≡ o
        → option_map (λ (s : ℕ). page_value new (notes_after trip notes) (slot_name s)) o ≡ option_map (λ (s : ℕ). page_value old notes (slot_name s)) o
    one-place number place None is = refl
    one-place number place (Some s) is = ap (λ (page : Page). Some page) (slot-same old new spaces trip cut notes s (held-used old.anon old.maps number place s fits.counts is) fits step has nf tell)

    one-file : (f : ℕ) (info : FileInfo) → slice_get (shape_of (memory_of old spaces)).files f ≡ Some info
        → file_with_pages (file_contents (page_value new (notes_after trip notes)) f) info ≡ cond (tails_lost old cut f) (without_tail (file_with_pages (file_contents (page_value old notes) f) info)) (file_with_pages (file_contents (page_value old notes) f) info)
    one-file f info is =
        let at = info-there old.files f info is in
        let far = file-apart old.files f fits.files at.0 in
        let old_page : (i : ℕ) → file_contents (page_value old notes) f i ≡ page_value old notes (file_name f i) = λ i. ap (λ (b : Bool). cond b [] (page_value old notes (file_name f i))) (not-slot f far) in
        let new_page : (i : ℕ) → file_contents (page_value new (notes_after trip notes)) f i ≡ page_value new (notes_after trip notes) (file_name f i) = λ i. ap (λ (b : Bool). cond b [] (page_value new (notes_after trip notes) (file_name f i))) (not-slot f far) in
        let file : IsFile (file_with_pages (file_contents (page_value old notes) f) info) =
        all-get IsFile (files_with_pages (file_contents (page_value old notes)) 0 (shape_of (memory_of old spaces)).files) f (file_with_pages (file_contents (page_value old notes) f) info) whole.files
        (file-in (file_contents (page_value old notes)) 0 f (shape_of (memory_of old spaces)).files ∙ ap (option_map (file_with_pages (file_contents (page_value old notes) (0 + f)))) is ∙ zero_plus f info) in
        let lost : cut (file_name f (pages_in info.length - 1)) ≡ tails_lost old cut f = ap (λ (i : FileInfo). cut (file_name f (pages_in i.length - 1))) (sym at.1) in
        cut-file (file_contents (page_value old notes) f) (file_contents (page_value new (notes_after trip notes)) f) info (λ i. cut (file_name f i))
        (λ i lt. (all-get IsPage (pages_from (file_contents (page_value old notes) f) 0 (pages_in info.length)) i (file_contents (page_value old notes) f i) file.pages (at_place f i (pages_in info.length) lt)).whole)
        (λ i lt.
        let kept : i < page_count (vnode_at old.files f).info.extents = below-kept (vnode_at old.files f) i (fits.files.each f at.0) (let e : pages_in (vnode_at old.files f).info.length ≡ pages_in info.length = ap (λ (x : FileInfo). pages_in x.length) at.1 in omega (arith, e, lt)) in
        let valid : (world_table old (file_name f i)).valid ≡ min (info.length - i * 4096) 4096 = ap (λ (p : Place). p.valid) (file-place old.files old.anon f i at.0 kept) ∙ ap (λ (x : FileInfo). min (x.length - i * 4096) 4096) at.1 in
        new_page i ∙ step.pages notes (file_name f i) has nf tell (exists f i far (let e : pages_in (vnode_at old.files f).info.length ≡ pages_in info.length = ap (λ (x : FileInfo). pages_in x.length) at.1 in omega (arith, e, lt)))
        ∙ ap (λ (v : ℕ). cut_page (cut (file_name f i)) v (page_value old notes (file_name f i))) valid
        ∙ ap (cut_page (cut (file_name f i)) (min (info.length - i * 4096) 4096)) (sym (old_page i)))
        ∙ ap (λ (b : Bool). cond b (without_tail (file_with_pages (file_contents (page_value old notes) f) info)) (file_with_pages (file_contents (page_value old notes) f) info)) lost
      where
        exists : (f i : ℕ) → f ≢ 64 → i < pages_in (vnode_at old.files f).info.length → IsTrue (page_exists old.files old.anon (file_name f i))
        exists f i far lt = ap (λ (b : Bool). cond b (is_used (count_at old.anon i)) (nat_lt i (pages_in (vnode_at old.files f).info.length))) (not-slot f far) ∙ lt-ltb i (pages_in (vnode_at old.files f).info.length) lt

        zero_plus : (f : ℕ) (info : FileInfo) → Some (file_with_pages (file_contents (page_value old notes) (0 + f)) info) ≡ Some (file_with_pages (file_contents (page_value old notes) f) info)
        zero_plus f info = let z : 0 + f ≡ f = omega arith in ap (λ (j : ℕ). Some (file_with_pages (file_contents (page_value old notes) j) info)) z

        at_place : (f i n : ℕ) → i < n → slice_get (pages_from (file_contents (page_value old notes) f) 0 n) i ≡ Some (file_contents (page_value old notes) f i)
        at_place f i n lt = let z : 0 + i ≡ i = omega arith in page-in (file_contents (page_value old notes) f) 0 n i lt ∙ ap (λ (j : ℕ). Some (file_contents (page_value old notes) f j)) z

-- tables that stay, one step after another
pub tables-then : (u v w : World) → KeepsTables u v → KeepsTables v w → KeepsTables u w
tables-then u v w a b = record { maps = b.maps ∙ a.maps; counts = b.counts ∙ a.counts; reserved = b.reserved ∙ a.reserved; disks = b.disks ∙ a.disks; infos = b.infos ∙ a.infos }

-- a bay that goes with a trip, and stays then
bays-then : (trip : Trip) (old mid new : List BaySeen) → MovesBay trip old mid → new ≡ mid → MovesBay trip old new
bays-then stays old mid new a b = b ∙ a
bays-then (leaves seat note) old mid new a b = (a.0, b ∙ a.1)
bays-then (returns seat note) old mid new a b = (a.0, (a.1.0, b ∙ a.1.1))

-- ONE STEP AFTER ANOTHER.
pub step-then : (u v w : World) (spaces : Spaces) (trip : Trip) (first second : PageName → Bool) → MemoryFits (memory_of u spaces) → WorldStep u v spaces trip first → WorldStep v w spaces stays second → WorldStep u w spaces trip (λ name. first name || second name)
step-then u v w spaces trip first second fits a b =
    let whole : (notes : Notes) (name : PageName) → HasTrip trip notes → NotesFit u notes → AllTell u notes → IsTrue (page_exists u.files u.anon name) → (first name || second name) ≡ true → length (page_value u notes name) ≡ 4096 =
    λ notes name has nf tell exists is. elim (cases_Bool (first name)) [
      | inl cut ↦ a.whole notes name has nf tell exists cut
      | inr keep ↦
          let later : second name ≡ true = sym (ap (λ (c : Bool). c || second name) keep) ∙ is in
          let mid : length (page_value v (notes_after trip notes) name) ≡ 4096 = b.whole (notes_after trip notes) name tt (a.notes notes has nf) ((a.tells notes has nf).0 tell) (exists-same u v name a.tables ∙ exists) later in
          whole-before (first name) (world_table u name).valid (page_value u notes name) (λ c. a.whole notes name has nf tell exists c) (sym (ap length (a.pages notes name has nf tell exists)) ∙ mid)
    ] in
    record {
      tables = tables-then u v w a.tables b.tables;
      core = b.core ∙ a.core;
      frames = b.frames ∙ a.frames;
      bays = bays-then trip u.store.bays v.store.bays w.store.bays a.bays b.bays;
      memory = b.memory;
      notes = λ notes has nf. b.notes (notes_after trip notes) tt (a.notes notes has nf);
      tells = λ notes has nf. let first_tells = a.tells notes has nf in let then_tells = b.tells (notes_after trip notes) tt (a.notes notes has nf) in ((λ tell. then_tells.0 (first_tells.0 tell)), (λ tell. first_tells.1 (then_tells.1 tell)));
      whole = whole;
      pages = λ notes name has nf tell exists.
          let real = exists-page u name fits.files exists in
          b.pages (notes_after trip notes) name tt (a.notes notes has nf) ((a.tells notes has nf).0 tell) (exists-same u v name a.tables ∙ exists)
          ∙ ap (λ (n : ℕ). cut_page (second name) n (page_value v (notes_after trip notes) name)) (valid-same u v name a.tables fits.files a.memory.files real)
          ∙ ap (cut_page (second name) (world_table u name).valid) (a.pages notes name has nf tell exists)
          ∙ cut-twice (first name) (second name) (world_table u name).valid (page_value u notes name) (valid-within u name fits.files real) (λ c. a.whole notes name has nf tell exists c);
    }

-- A STEP AFTER ONE THAT KEEPS ALL PAGES.
pub step-later : (u v w : World) (spaces : Spaces) (trip : Trip) (cut : PageName → Bool) → MemoryFits (memory_of u spaces) → WorldStep u v spaces stays (λ name. false) → WorldStep v w spaces trip cut → WorldStep u w spaces trip cut
step-later u v w spaces trip cut fits a b =
    let same : (notes : Notes) (name : PageName) → NotesFit u notes → AllTell u notes → IsTrue (page_exists u.files u.anon name) → page_value v notes name ≡ page_value u notes name =
    λ notes name nf tell exists. a.pages notes name tt nf tell exists in
    record {
      tables = tables-then u v w a.tables b.tables;
      core = b.core ∙ a.core;
      frames = b.frames ∙ a.frames;
      bays = subst (λ (bs : List BaySeen). MovesBay trip bs w.store.bays) a.bays b.bays;
      memory = b.memory;
      notes = λ notes has nf. b.notes notes has (a.notes notes tt nf);
      tells = λ notes has nf. let first = a.tells notes tt nf in let second = b.tells notes has (a.notes notes tt nf) in ((λ tell. second.0 (first.0 tell)), (λ tell. first.1 (second.1 tell)));
      whole = λ notes name has nf tell exists is.
          sym (ap length (same notes name nf tell exists)) ∙ b.whole notes name has (a.notes notes tt nf) ((a.tells notes tt nf).0 tell) (exists-same u v name a.tables ∙ exists) is;
      pages = λ notes name has nf tell exists.
          b.pages notes name has (a.notes notes tt nf) ((a.tells notes tt nf).0 tell) (exists-same u v name a.tables ∙ exists)
          ∙ ap (λ (n : ℕ). cut_page (cut name) n (page_value v notes name)) (valid-same u v name a.tables fits.files a.memory.files (exists-page u name fits.files exists))
          ∙ ap (cut_page (cut name) (world_table u name).valid) (same notes name nf tell exists);
    }

pub frame_law : FrameRule
frame_law = record { flat = frame-flat; joined = step-then; later = step-later }
