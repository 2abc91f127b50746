-- Pages of files that are pushed: one after another, one that isn't modified, and one push.
use Rattle.std.proofs.Common.{◌≡◌, ◌⊎◌, ℕ, ◌≤◌, ◌-◌, ◌*◌, ◌==◌, min, Bool, true, false, cond, List, Option, Some, None, Result, Ok, Err, refl, sym, ap, ◌∙◌, inl, inr, subst, arith}
use Rattle.std.specs.Prelude.{OnOk, IsTrue, IsSome, is_some, is_none, not, nat_lt, slice_index_or}
use Rattle.std.proofs.lemmas.Bool.{lt-ltb}
use Rattle.seg_ops.specs.block_device.DiskSeen.{DiskSeen}
use Rattle.seg_ops.specs.block_device.declared.disk_fault.DiskFault.{DiskFault}
use Rattle.seg_ops.specs.core_arena.Bytes.{bytes_at, zeros}
use Rattle.seg_ops.specs.page_hash.Names.{find}
use Rattle.seg_ops.specs.page_hash.declared.PageName.{PageName}
use Rattle.seg_ops.proofs.page_hash.NameLaws.{find-at}
use Rattle.seg_ops.specs.page_lock.Rows.{row_at}
use Rattle.seg_ops.specs.page_store.Bays.{BaySeen, missing, home, out, bay_at, block_of, disk_in}
use Rattle.seg_ops.specs.page_store.Bytes.{clip}
use Rattle.seg_ops.specs.page_store.Layout.{page_place}
use Rattle.seg_ops.specs.page_store.Notes.{Note, no_notes}
use Rattle.seg_ops.specs.page_store.Seen.{IsSoundStore, IsListedFrame, residence}
use Rattle.seg_ops.specs.page_store.Value.{value_in, backing_value, content_of, content_in_bay, frame_value, note_of_holder}
use Rattle.seg_ops.specs.page_store.declared.place.Place.{Place}
use Rattle.seg_ops.specs.page_store.declared.residence.Residence.TheVariants.{Home}
use Rattle.seg_ops.proofs.page_store.QueryLemmas.{found-within, residence-home}
use Rattle.seg_ops.proofs.page_store.FrameLaws.{some-or-none}
use Rattle.seg_ops.specs.anon_slots.Slots.{is_used, count_at}
use Rattle.seg_ops.specs.vnode_files.Files.{FilesSeen, vnode_at}
use Rattle.seg_ops.specs.vnode_files.Layout.{disk_of_file, block_of_page}
use Rattle.seg_ops.specs.vnode_files.Vnode.{is_blank}
use Rattle.seg_ops.specs.flat_model.Words.{Page, pages_in}
use Rattle.seg_ops.specs.vm_world.FramesFit.{FilesFit}
use Rattle.seg_ops.specs.vm_world.MemoryFits.{MemoryFits}
use Rattle.seg_ops.specs.vm_world.NotesFit.{NotesFit}
use Rattle.seg_ops.specs.vm_world.Pages.{page_value}
use Rattle.seg_ops.specs.vm_world.Segments.{Spaces}
use Rattle.seg_ops.specs.vm_world.TranslationsFit.{IsModified}
use Rattle.seg_ops.specs.vm_world.World.{World, StoreCore, world_table, file_blocks, is_page_name, page_exists, is_unpushed, AllTell}
use Rattle.seg_ops.specs.vm_world.WorldSteps.{KeepsTables}
use Rattle.seg_ops.proofs.vm_world.Clips.{clip-twice}
use Rattle.seg_ops.proofs.vm_world.FrameRule.{memory_of}
use Rattle.seg_ops.proofs.vm_world.PageNames.{not-slot, file-apart, file-page, file-place}
use Rattle.seg_ops.specs.vm_world.Words.{KeepsPages}
use Rattle.seg_ops.specs.Steps.{IsUnwritten}
use Rattle.seg_ops.proofs.Evictions.{clean-page, not-modified}
use Rattle.seg_ops.proofs.StillSteps.{value-is}
use Rattle.kernel_close.specs.Finish.{IsFilePage, LiesIn, bytes_of_page, KeepRecords}
use Rattle.kernel_close.specs.Closing.{KeepsBay, PushesPages, IsStored, StoresPages, IsFaultOfBays, FailsToPush, GoOrStay, GoesOrStays, HasPageAndZeros, block_on, no_page, page_on_disk}
use Rattle.kernel_close.proofs.Records.{page-kept, bytes-kept, lies-back, keeps-disk-refl, keeps-disk-then}
use Rattle.kernel_close.proofs.Fills.{kept-page}

pub records-of : (u v : World) → KeepsTables u v → KeepRecords u.files v.files
records-of u v t = record { disks = t.disks; infos = t.infos }

home-inj : (d e : DiskSeen) → home d ≡ home e → d ≡ e
home-inj d e h = cc

-- BAYS whose disks stay
pub bay-refl : (F : FilesSeen) (number : ℕ) (b : BaySeen) → KeepsBay F number b b
bay-refl F number missing = refl
bay-refl F number (home d) = (d, refl, keeps-disk-refl F (number, d))
bay-refl F number (out seat) = refl

bay-then : (F G : FilesSeen) (number : ℕ) (a b c : BaySeen) → KeepRecords F G → KeepsBay F number a b → KeepsBay G number b c → KeepsBay F number a c
bay-then F G number missing b c k p q = subst (λ (x : BaySeen). KeepsBay G number x c) p q
bay-then F G number (home d) b c k p q =
    let more = subst (λ (x : BaySeen). KeepsBay G number x c) p.1 q in
    (more.0, more.1, keeps-disk-then F G (number, d) (number, p.0) (number, more.0) k p.2 more.2)
bay-then F G number (out seat) b c k p q = subst (λ (x : BaySeen). KeepsBay G number x c) p q

-- ONE AFTER ANOTHER
pub pushes-refl : (w : World) (spaces : Spaces) → MemoryFits (memory_of w spaces) → NotesFit w no_notes → PushesPages w w spaces
pushes-refl w spaces fits nf = record {
  tables = record { maps = refl; counts = refl; reserved = refl; disks = refl; infos = refl };
  order = refl;
  swap = refl;
  disks = λ number. bay-refl w.files number (bay_at w.store.bays number);
  memory = fits;
  notes = nf;
  tells = λ tell. tell;
  values = λ tell name page. refl;
}

pub pushes-then : (u v w : World) (spaces : Spaces) → PushesPages u v spaces → PushesPages v w spaces → PushesPages u w spaces
pushes-then u v w spaces p q = record {
  tables = record {
    maps = q.tables.maps ∙ p.tables.maps;
    counts = q.tables.counts ∙ p.tables.counts;
    reserved = q.tables.reserved ∙ p.tables.reserved;
    disks = q.tables.disks ∙ p.tables.disks;
    infos = q.tables.infos ∙ p.tables.infos;
  };
  order = q.order ∙ p.order;
  swap = q.swap ∙ p.swap;
  disks = λ number. bay-then u.files v.files number (bay_at u.store.bays number) (bay_at v.store.bays number) (bay_at w.store.bays number) (records-of u v p.tables) (p.disks number) (q.disks number);
  memory = q.memory;
  notes = q.notes;
  tells = λ tell. q.tells (p.tells tell);
  values = λ tell name page.
      let k = records-of u v p.tables in
      subst (λ (n : ℕ). clip n (page_value w no_notes name) ≡ clip n (page_value v no_notes name)) (bytes-kept u.files v.files k name)
      (q.values (p.tells tell) name (page-kept u.files v.files k name page)) ∙ p.values tell name page;
}

pub stores-then : (u v w : World) (spaces : Spaces) (P Q R : PageName → Type 0) → PushesPages u v spaces → StoresPages u v P → StoresPages v w Q → ((n : PageName) → IsFilePage u.files n → R n → P n ⊎ Q n) → StoresPages u w R
stores-then u v w spaces P Q R p first second split tell name page or =
    let on = second (p.tells tell) name (page-kept u.files v.files (records-of u v p.tables) name page) in
    elim or [
      | inl was ↦ on (inl (first tell name page (inl was)))
      | inr is ↦ elim (split name page is) [ inl a ↦ on (inl (first tell name page (inr a))) | inr b ↦ on (inr b) ]
    ]

pub stores-none : (u : World) (P : PageName → Type 0) → ((n : PageName) → P n → ⊥) → StoresPages u u P
stores-none u P none tell name page or = elim or [ inl was ↦ was | inr is ↦ absurd (none name is) ]

-- the fault of a later push
was-home : (F : FilesSeen) (number : ℕ) (a : BaySeen) (d : DiskSeen) → KeepsBay F number a (home d) → (e : DiskSeen) × (a ≡ home e) × (e.faults ≤ d.faults)
was-home F number missing d k = absurd (cc)
was-home F number (home e) d k = let same : k.0 ≡ d = home-inj k.0 d (sym k.1) in (e, refl, subst (λ (x : DiskSeen). e.faults ≤ x.faults) same k.2.faults)
was-home F number (out seat) d k = absurd (cc)

pub fault-later : (u v w : World) (spaces : Spaces) (fault : DiskFault) → PushesPages u v spaces → IsFaultOfBays v.store.bays w.store.bays fault → IsFaultOfBays u.store.bays w.store.bays fault
fault-later u v w spaces fault p f =
    let was = was-home u.files fault.disk (bay_at u.store.bays fault.disk) f.before (subst (KeepsBay u.files fault.disk (bay_at u.store.bays fault.disk)) f.was (p.disks fault.disk)) in
    record {
      before = was.0;
      after = f.after;
      low = f.low;
      was = was.1;
      is = f.is;
      since = record { disk = f.since.disk; since = let a = was.2 in let b = f.since.since in omega (arith, a, b); after = f.since.after };
    }

-- WHAT HAS COME TO ITS BLOCK, one push after another
pub goes-refl : (w : World) → GoOrStay w w no_page
goes-refl w tell name page = inr (inr refl)

written-before : (u v : World) (spaces : Spaces) (name : PageName) (block : List ℕ) → PushesPages u v spaces → AllTell u no_notes → IsFilePage u.files name → HasPageAndZeros v name block → HasPageAndZeros u name block
written-before u v spaces name block p tell page h =
    let n = bytes-kept u.files v.files (records-of u v p.tables) name in
    record {
      page = subst (λ (k : ℕ). clip k block ≡ clip k (page_value v no_notes name)) n h.page ∙ p.values tell name page;
      rest = subst (λ (k : ℕ). block ≡ clip k block) n h.rest;
    }

goes-both : (u v w : World) (spaces : Spaces) (name : PageName) → PushesPages u v spaces → AllTell u no_notes → IsFilePage u.files name → GoesOrStays u v name → GoesOrStays v w name → GoesOrStays u w name
goes-both u v w spaces name p tell page first second = elim second [
  | inl went ↦ inl (written-before u v spaces name (block_on w name) p tell page went)
  | inr stayed ↦ elim first [
    | inl went ↦ inl (subst (HasPageAndZeros u name) (sym stayed) went)
    | inr still ↦ inr (stayed ∙ still)
  ]
]

pub goes-then : (u v w : World) (spaces : Spaces) (P Q : PageName → Type 0) → PushesPages u v spaces → GoOrStay u v no_page → GoOrStay v w P → ((n : PageName) → P n → Q n) → GoOrStay u w Q
goes-then u v w spaces P Q p first second more tell name page =
    elim (second (p.tells tell) name (page-kept u.files v.files (records-of u v p.tables) name page)) [
      | inl spoiled ↦ inl (more name spoiled)
      | inr now ↦ elim (first tell name page) [ inl none ↦ absurd none | inr was ↦ inr (goes-both u v w spaces name p tell page was now) ]
    ]

pub fails-later : (u v w : World) (spaces : Spaces) (fault : DiskFault) → PushesPages u v spaces → GoOrStay u v no_page → FailsToPush v w fault → FailsToPush u w fault
fails-later u v w spaces fault p first f = record {
  cause = fault-later u v w spaces fault p f.cause;
  block = f.block;
  others = goes-then u v w spaces (LiesIn v.files fault.disk f.block) (LiesIn u.files fault.disk f.block) p first f.others (λ n. lies-back u.files v.files fault.disk f.block n (records-of u v p.tables));
}

-- where disks and files are as they were
pub calm-goes : (u v : World) → v.store.bays ≡ u.store.bays → v.files ≡ u.files → GoOrStay u v no_page
calm-goes u v bays files tell name page =
    inr (inr (λ i. block_of (disk_in (bay_at (bays i) (disk_of_file (files i) name.object))).content (block_of_page (files i) name.object name.page)))

-- WHERE A PAGE OF A FILE LIVES
module _ (w : World) (name : PageName) (fit : FilesFit w.files) (p : IsFilePage w.files name) where
  pub no-slot : (name.object == 64) ≡ false
  no-slot = not-slot name.object (file-apart w.files name.object fit p.file)

  pub page-exists : IsTrue (page_exists w.files w.anon name)
  page-exists = ap (λ (b : Bool). cond b (is_used (count_at w.anon name.page)) (nat_lt name.page (pages_in (vnode_at w.files name.object).info.length))) no-slot ∙ lt-ltb name.page (pages_in (vnode_at w.files name.object).info.length) p.below

  pub page-is : IsTrue (is_page_name w.files w.anon name)
  page-is = file-page w.files w.anon name.object name.page (file-apart w.files name.object fit p.file) (kept-page w.files name fit p)

  pub place-is : world_table w name ≡ page_place (file_blocks (vnode_at w.files name.object)) name.page (is_unpushed w.files w.anon name) (block_of_page w.files name.object name.page)
  place-is = file-place w.files w.anon name.object name.page p.file (kept-page w.files name fit p)

  pub valid-is : (world_table w name).valid ≡ bytes_of_page w.files name
  valid-is = let e : min ((vnode_at w.files name.object).info.length - name.page * 4096) 4096 ≡ bytes_of_page w.files name = omega arith in ap (λ (x : Place). x.valid) place-is ∙ e

  content-in : (b : BaySeen) → content_in_bay b no_notes ≡ (disk_in b).content
  content-in missing = refl
  content-in (home d) = refl
  content-in (out seat) = refl

  -- what its place has
  pub backing_value-is : backing_value w.store no_notes (world_table w name) ≡ page_on_disk w.files (disk_in (bay_at w.store.bays (disk_of_file w.files name.object))) name
  backing_value-is =
      let e : min ((vnode_at w.files name.object).info.length - name.page * 4096) 4096 ≡ bytes_of_page w.files name = omega arith in
      ap (backing_value w.store no_notes) place-is
      ∙ ap (λ (b : Bool). cond (cond b (not (slice_index_or w.anon.swapped name.page false)) (is_blank (vnode_at w.files name.object) name.page)) zeros
      (clip (min ((vnode_at w.files name.object).info.length - name.page * 4096) 4096) (block_of (content_of w.store no_notes (disk_of_file w.files name.object)) (block_of_page w.files name.object name.page)))) no-slot
      ∙ ap (λ (v : ℕ). cond (is_blank (vnode_at w.files name.object) name.page) zeros (clip v (block_of (content_of w.store no_notes (disk_of_file w.files name.object)) (block_of_page w.files name.object name.page)))) e
      ∙ ap (λ (o : Option (List (List ℕ))). cond (is_blank (vnode_at w.files name.object) name.page) zeros (clip (bytes_of_page w.files name) (block_of o (block_of_page w.files name.object name.page)))) (content-in (bay_at w.store.bays (disk_of_file w.files name.object)))

-- A PAGE THAT ISN'T MODIFIED is stored, where no seat has anything outside.
pub unmodified-stored : (w : World) (spaces : Spaces) (name : PageName) → MemoryFits (memory_of w spaces) → NotesFit w no_notes → IsFilePage w.files name
    → ((frame : ℕ) → residence w.store name ≡ Home frame → ¬ IsModified w.store w.hat.places frame) → AllTell w no_notes → IsStored w name
unmodified-stored w spaces name fits nf p clear tell =
    ap (clip (bytes_of_page w.files name)) (sym (backing_value-is w name fits.files p)) ∙ by_find (find w.store.names name) refl ∙ sym (ap (clip (bytes_of_page w.files name)) (value-is w no_notes name (page-is w name fits.files p)))
  where
    sound : IsSoundStore w.store
    sound = fits.frames.sound

    by_bytes : (frame : ℕ) (o : Option (List ℕ)) → find w.store.names name ≡ Some frame → bytes_at w.store.frames frame ≡ o
        → clip (bytes_of_page w.files name) (backing_value w.store no_notes (world_table w name)) ≡ clip (bytes_of_page w.files name) (frame_value o (note_of_holder (row_at w.store.rows frame).holder no_notes) (backing_value w.store no_notes (world_table w name)))
    by_bytes frame (Some bytes) found there =
        let named = find-at w.store.names name frame found in
        let some : IsSome (bytes_at w.store.frames frame) = ap is_some there in
        let clean = clean-page w no_notes frame name nf (clear frame (residence-home w.store name frame sound.distinct named some)) named some in
        let whole = (sound.each frame (found-within w.store name frame sound found)).size bytes there in
        let low : bytes_of_page w.files name ≤ 4096 = omega arith in
        ap (clip (bytes_of_page w.files name)) (sym (clean.same (tell name (page-is w name fits.files p)) bytes there))
        ∙ ap (λ (v : ℕ). clip (bytes_of_page w.files name) (clip v bytes)) (valid-is w name fits.files p) ∙ clip-twice (bytes_of_page w.files name) bytes low whole
    by_bytes frame None found there = elim (some-or-none (row_at w.store.rows frame).holder) [
      | inl none ↦ absurd (let z : true ≡ false = sym (ap is_none there) ∙ (sound.each frame (found-within w.store name frame sound found)).away ∙ ap is_some none in cc)
      | inr held_by ↦ let out = nf.stored.each_frame frame held_by.0 held_by.1 in let z : ◌≡◌ {A = Option Note} None (Some out.0) = out.1 in absurd (cc)
    ]

    by_find : (o : Option ℕ) → find w.store.names name ≡ o → clip (bytes_of_page w.files name) (backing_value w.store no_notes (world_table w name)) ≡ clip (bytes_of_page w.files name) (value_in o w.store no_notes (world_table w name))
    by_find None e = refl
    by_find (Some frame) e = by_bytes frame (bytes_at w.store.frames frame) e refl

-- A STEP THAT KEEPS ALL PAGES, and the files
pub calm-pushes : (u v : World) (spaces : Spaces) → MemoryFits (memory_of u spaces) → NotesFit u no_notes → KeepsPages u v spaces → PushesPages u v spaces
calm-pushes u v spaces fits nf step = record {
  tables = step.tables;
  order = ap (λ (k : StoreCore). k.order) step.core;
  swap = ap (λ (l : List BaySeen). bay_at l 8) step.bays;
  disks = λ number. subst (λ (l : List BaySeen). KeepsBay u.files number (bay_at u.store.bays number) (bay_at l number)) (sym step.bays) (bay-refl u.files number (bay_at u.store.bays number));
  memory = step.memory;
  notes = step.notes no_notes tt nf;
  tells = (step.tells no_notes tt nf).0;
  values = λ tell name page. ap (clip (bytes_of_page u.files name)) (step.pages no_notes name tt nf tell (page-exists u name fits.files page));
}

abbrev stored-with : (name : PageName) (F : FilesSeen) (l : List BaySeen) (page : Page) → Type 0
stored-with name F l page = clip (bytes_of_page F name) (page_on_disk F (disk_in (bay_at l (disk_of_file F name.object))) name) ≡ clip (bytes_of_page F name) page

pub calm-stores : (u v : World) (spaces : Spaces) (P : PageName → Type 0) → MemoryFits (memory_of u spaces) → NotesFit u no_notes → KeepsPages u v spaces → v.files ≡ u.files
    → ((name : PageName) → IsFilePage u.files name → AllTell u no_notes → P name → IsStored v name) → StoresPages u v P
calm-stores u v spaces P fits nf step files these tell name page or = elim or [
  | inl was ↦
      let value = step.pages no_notes name tt nf tell (page-exists u name fits.files page) in
      subst (λ (F : FilesSeen). stored-with name F v.store.bays (page_value v no_notes name)) (sym files)
      (subst (λ (l : List BaySeen). stored-with name u.files l (page_value v no_notes name)) (sym step.bays) (subst (stored-with name u.files u.store.bays) (sym value) was))
  | inr is ↦ these name page tell is
]

-- a page that is looked at: left where it isn't modified, or its bits are gathered
pub skips-page : (u : World) (spaces : Spaces) (name : PageName) (P : PageName → Type 0) → MemoryFits (memory_of u spaces) → NotesFit u no_notes → IsFilePage u.files name
    → ((frame : ℕ) → residence u.store name ≡ Home frame → ¬ IsModified u.store u.hat.places frame) → ((n : PageName) → P n → n ≡ name) → StoresPages u u P
skips-page u spaces name P fits nf p clear one tell n page or = elim or [ inl was ↦ was | inr is ↦ subst (IsStored u) (sym (one n is)) (unmodified-stored u spaces name fits nf p clear tell) ]

pub listed-clear : (w : World) (spaces : Spaces) (frame : ℕ) → MemoryFits (memory_of w spaces) → IsListedFrame w.store frame → ¬ IsModified w.store w.hat.places frame
listed-clear w spaces frame fits listed =
    not-modified w.store w.hat.places frame (fits.frames.unmodified frame listed)
    (λ place t there leads. absurd ((fits.translations place t there).unlisted (subst (IsListedFrame w.store) (sym leads) listed)))

one-home : (f g : ℕ) → Home f ≡ Home g → f ≡ g
one-home f g e = cc

pub clear-of : (w : World) (name : PageName) (frame : ℕ) → residence w.store name ≡ Home frame → ¬ IsModified w.store w.hat.places frame → (g : ℕ) → residence w.store name ≡ Home g → ¬ IsModified w.store w.hat.places g
clear-of w name frame here clear g there = subst (λ (k : ℕ). ¬ IsModified w.store w.hat.places k) (one-home frame g (sym here ∙ there)) clear

pub gathers-page : (u v : World) (spaces : Spaces) (name : PageName) (frame : ℕ) (modified : Bool) → MemoryFits (memory_of u spaces) → NotesFit u no_notes → IsFilePage u.files name → KeepsPages u v spaces → v.files ≡ u.files
    → residence v.store name ≡ Home frame → modified ≡ (row_at v.store.rows frame).modified → IsUnwritten v.hat.places frame → StoresPages u v (λ (n : PageName). (n ≡ name) × (modified ≡ false))
gathers-page u v spaces name frame modified fits nf p step files here bit unwritten =
    let q = calm-pushes u v spaces fits nf step in
    calm-stores u v spaces (λ (n : PageName). (n ≡ name) × (modified ≡ false)) fits nf step files
    (λ n page tell is. subst (IsStored v) (sym is.0)
    (unmodified-stored v spaces name q.memory q.notes (page-kept u.files v.files (records-of u v q.tables) name p)
    (clear-of v name frame here (not-modified v.store v.hat.places frame (sym bit ∙ is.1) unwritten)) (q.tells tell)))

pub ok-more : {T E : Type 0} (r : Result T E) (P Q : Type 0) → (P → Q) → OnOk r P → OnOk r Q
ok-more (Ok x) P Q more h = more h
ok-more (Err e) P Q more h = tt
