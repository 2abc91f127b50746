-- A PAGE THAT COUNTS AS PUSHED from now on: its place differs in "blank" alone, and it is home and modified, so that no page changes.
use Rattle.std.proofs.Common.{◌≡◌, ◌≢◌, ℕ, ◌<◌, ◌≤◌, Bool, true, false, cond, List, [], ◌∷◌, map, length, Option, Some, None, refl, sym, ap, ◌∙◌, ◌⊎◌, inl, inr, subst, slice_index_or}
use Rattle.std.specs.Prelude.{IsSome, option_map, option_and_then, slice_get, not, unwrap_or}
use Rattle.std.specs.Ordering.{nat_cmp}
use Rattle.std.specs.FinMap as finite
use Rattle.std.proofs.lemmas.Bool.{cases_Bool}
use Rattle.std.proofs.lemmas.List.{length-map}
use Rattle.page_store.specs.page_hash.Names.{is_name}
use Rattle.page_store.specs.page_hash.declared.PageName.{PageName}
use Rattle.page_store.proofs.page_hash.NameLaws.{is_name-true, is_name-same}
use Rattle.page_store.specs.Layout.{FileBlocks, KeepsPage, AreDisjoint, file_page_place, page_place, slot_place, own_place, is_slot, table_of}
use Rattle.page_store.specs.Notes.{Notes}
use Rattle.page_store.specs.Seen.{IsSoundStore, IsListedFrame, residence}
use Rattle.page_store.specs.StoreFits.{StoreFits}
use Rattle.page_store.specs.TableLaws.{MayReplaceTable}
use Rattle.page_store.specs.Value.{value, tells}
use Rattle.page_store.specs.declared.place.Place.{Place}
use Rattle.page_store.specs.declared.residence.Residence.TheVariants.{Home}
use Rattle.page_store.proofs.TableLemmas.{table_law}
use Rattle.vm_world.specs.anon_slots.Slots.{AnonSlotsSeen, IsSoundAnonSlots, count_at}
use Rattle.vm_world.specs.vnode_files.declared.vnode.FileInfo.{FileInfo}
use Rattle.vm_world.specs.vnode_files.Files.{FilesSeen, vnode_at, block_count}
use Rattle.vm_world.specs.vnode_files.Vnode.{VnodeSeen, page_blocks, IsSoundVnode}
use Rattle.vm_world.specs.CountsFit.{CountsFit, SegmentsFit}
use Rattle.vm_world.specs.FramesFit.{FilesFit, DisksFit, HasSize}
use Rattle.vm_world.specs.MemoryFits.{MemoryFits}
use Rattle.vm_world.specs.NotesFit.{NotesFit}
use Rattle.vm_world.specs.Segments.{Spaces}
use Rattle.vm_world.specs.TranslationsFit.{IsModified}
use Rattle.vm_world.specs.World.{World, file_blocks, slot_name, is_unpushed, page_table, world_table}
use Rattle.vm_world.specs.Wants.{IsDirtyPage}
use Rattle.vm_world.specs.WorldSteps.{KeepsTables}
use Rattle.vm_world.proofs.FrameRule.{name-same, exists-same, exists-page, info-same}
use Rattle.vm_world.proofs.LieAlike.{lie-alike}
use Rattle.vm_world.specs.Words.{KeepsPages}
use Rattle.seg_ops.proofs.StillSteps.{memory_of, value-is}
use Rattle.seg_ops.proofs.Fills.{held-by}

abbrev pub with_marks : World → FilesSeen → AnonSlotsSeen → World
with_marks w files anon = record w { files = files; anon = anon }

-- What changes where a page is marked: whether it counts as pushed, and nothing else.
pub record Marks (w : World) (files : FilesSeen) (anon : AnonSlotsSeen) (name : PageName) : Type 0 where
  pub disks : files.disks ≡ w.files.disks
  pub infos : map (λ (v : VnodeSeen). v.info) files.files ≡ map (λ (v : VnodeSeen). v.info) w.files.files
  pub bits : (f : ℕ) → length (vnode_at files f).blanks ≡ length (vnode_at w.files f).blanks
  pub counts : anon.counts ≡ w.anon.counts
  pub reserved : anon.reserved ≡ w.anon.reserved
  pub swapped : length anon.swapped ≡ length w.anon.swapped
  pub marked : is_unpushed files anon name ≡ false
  pub others : (n : PageName) → n ≢ name → is_unpushed files anon n ≡ is_unpushed w.files w.anon n

-- names are the same, or not
pub cases-name : (m n : PageName) → (n ≡ m) ⊎ (n ≢ m)
cases-name m n = elim (cases_Bool (is_name (Some m) n)) [
  | inl is ↦ inl (let z : Some m ≡ Some n = is_name-true (Some m) n is in let e : m ≡ n = cc in sym e)
  | inr other ↦ inr (λ e. let z : true ≡ false = sym (is_name-same m) ∙ ap (is_name (Some m)) (sym e) ∙ other in cc)
]

-- Two places that differ in "blank" alone.
pub record SameSpot (p q : Place) : Type 0 where
  pub disk : p.disk ≡ q.disk
  pub block : p.block ≡ q.block
  pub valid : p.valid ≡ q.valid

pub page-spot : (file : FileBlocks) (page : ℕ) (a b : Bool) (o : Option ℕ) (p q : Place) → SameSpot p q → SameSpot (unwrap_or (option_map (page_place file page a) o) p) (unwrap_or (option_map (page_place file page b) o) q)
page-spot file page a b None p q same = same
page-spot file page a b (Some block) p q same = record { disk = refl; block = refl; valid = refl }

file-spot : (name : PageName) (a b : Bool) (o : Option FileBlocks) (p q : Place) → SameSpot p q
    → SameSpot (unwrap_or (option_and_then (λ file. option_map (page_place file name.page a) (slice_get file.blocks name.page)) o) p) (unwrap_or (option_and_then (λ file. option_map (page_place file name.page b) (slice_get file.blocks name.page)) o) q)
file-spot name a b None p q same = same
file-spot name a b (Some file) p q same = page-spot file name.page a b (slice_get file.blocks name.page) p q same

slot-spot : (name : PageName) (a b slot : Bool) → SameSpot (cond slot (slot_place name.page a) (own_place name)) (cond slot (slot_place name.page b) (own_place name))
slot-spot name a b true = record { disk = refl; block = refl; valid = refl }
slot-spot name a b false = record { disk = refl; block = refl; valid = refl }

-- two tables of the same files and slots have each name in one place
pub spot-any : (files : List FileBlocks) (slots : ℕ) (n : PageName) (a b : PageName → Bool) → SameSpot (table_of files slots a n) (table_of files slots b n)
spot-any files slots n a b =
    file-spot n (a n) (b n) (slice_get files n.object) (cond (is_slot slots n) (slot_place n.page (a n)) (own_place n)) (cond (is_slot slots n) (slot_place n.page (b n)) (own_place n)) (slot-spot n (a n) (b n) (is_slot slots n))

map-blocks : (xs ys : List VnodeSeen) → map (λ (v : VnodeSeen). v.info) xs ≡ map (λ (v : VnodeSeen). v.info) ys → map file_blocks xs ≡ map file_blocks ys
map-blocks xs ys e = sym (through xs) ∙ ap (λ (infos : List FileInfo). map blocks_in infos) e ∙ through ys
  where
    blocks_in : FileInfo → FileBlocks
    blocks_in i = record { disk = i.disk; length = i.length; blocks = page_blocks i.extents }

    through : (zs : List VnodeSeen) → map blocks_in (map (λ (v : VnodeSeen). v.info) zs) ≡ map file_blocks zs
    through [] = refl
    through (z ∷ zs) = ap (λ (more : List FileBlocks). file_blocks z ∷ more) (through zs)

-- the table with one mark more: the same at any other name, and the same but for "blank" at each
table-by : (w : World) (files : FilesSeen) (anon : AnonSlotsSeen) (name : PageName) (k : Marks w files anon name) (n : PageName)
    → page_table files anon n ≡ table_of (map file_blocks w.files.files) (length w.anon.counts) (is_unpushed files anon) n
table-by w files anon name k n =
    ap (λ (bs : List FileBlocks). table_of bs (length anon.counts) (is_unpushed files anon) n) (map-blocks files.files w.files.files k.infos)
    ∙ ap (λ (c : List ℕ). table_of (map file_blocks w.files.files) (length c) (is_unpushed files anon) n) k.counts

pub table-other : (w : World) (files : FilesSeen) (anon : AnonSlotsSeen) (name : PageName) (k : Marks w files anon name) (n : PageName) → n ≢ name → page_table files anon n ≡ world_table w n
table-other w files anon name k n ne =
    table-by w files anon name k n
    ∙ ap (λ (b : Bool). unwrap_or (file_page_place (map file_blocks w.files.files) n b) (cond (is_slot (length w.anon.counts) n) (slot_place n.page b) (own_place n))) (k.others n ne)

pub table-spot : (w : World) (files : FilesSeen) (anon : AnonSlotsSeen) (name : PageName) (k : Marks w files anon name) (n : PageName) → SameSpot (page_table files anon n) (world_table w n)
table-spot w files anon name k n =
    subst (λ (p : Place). SameSpot p (world_table w n)) (sym (table-by w files anon name k n))
    (file-spot n (is_unpushed files anon n) (is_unpushed w.files w.anon n) (slice_get (map file_blocks w.files.files) n.object)
    (cond (is_slot (length w.anon.counts) n) (slot_place n.page (is_unpushed files anon n)) (own_place n)) (cond (is_slot (length w.anon.counts) n) (slot_place n.page (is_unpushed w.files w.anon n)) (own_place n))
    (slot-spot n (is_unpushed files anon n) (is_unpushed w.files w.anon n) (is_slot (length w.anon.counts) n)))

keeps-tables : (w : World) (files : FilesSeen) (anon : AnonSlotsSeen) (name : PageName) → Marks w files anon name → KeepsTables w (with_marks w files anon)
keeps-tables w files anon name k = record { maps = refl; counts = k.counts; reserved = k.reserved; disks = k.disks; infos = k.infos }

-- the marked page isn't blank, and none becomes blank
pub marked-blank : (w : World) (files : FilesSeen) (anon : AnonSlotsSeen) (name : PageName) (k : Marks w files anon name) → (page_table files anon name).blank ≡ false
marked-blank w files anon name k =
    ap (λ (p : Place). p.blank) (table-by w files anon name k name)
    ∙ ap (λ (b : Bool). (unwrap_or (file_page_place (map file_blocks w.files.files) name b) (cond (is_slot (length w.anon.counts) name) (slot_place name.page b) (own_place name))).blank) k.marked
    ∙ unblank (slice_get (map file_blocks w.files.files) name.object)
  where
    rest : (slot : Bool) → (cond slot (slot_place name.page false) (own_place name)).blank ≡ false
    rest true = refl
    rest false = refl

    in_file : (file : FileBlocks) (o : Option ℕ) → (unwrap_or (option_map (page_place file name.page false) o) (cond (is_slot (length w.anon.counts) name) (slot_place name.page false) (own_place name))).blank ≡ false
    in_file file None = rest (is_slot (length w.anon.counts) name)
    in_file file (Some block) = refl

    unblank : (o : Option FileBlocks) → (unwrap_or (option_and_then (λ file. option_map (page_place file name.page false) (slice_get file.blocks name.page)) o) (cond (is_slot (length w.anon.counts) name) (slot_place name.page false) (own_place name))).blank ≡ false
    unblank None = rest (is_slot (length w.anon.counts) name)
    unblank (Some file) = in_file file (slice_get file.blocks name.page)

never-blank : (w : World) (files : FilesSeen) (anon : AnonSlotsSeen) (name : PageName) (k : Marks w files anon name) (n : PageName) → (world_table w n).blank ≡ false → (page_table files anon n).blank ≡ false
never-blank w files anon name k n old = elim (cases-name name n) [
  | inr ne ↦ ap (λ (p : Place). p.blank) (table-other w files anon name k n ne) ∙ old
  | inl e ↦ subst (λ (m : PageName). (page_table files anon m).blank ≡ false) (sym e) (marked-blank w files anon name k)
]

files-kept : (w : World) (files : FilesSeen) (anon : AnonSlotsSeen) (name : PageName) → Marks w files anon name → FilesFit w.files → FilesFit files
files-kept w files anon name k f =
    let blocks = map-blocks files.files w.files.files k.infos in
    let count : length files.files ≡ length w.files.files = sym (length-map files.files (λ (v : VnodeSeen). v.info)) ∙ ap length k.infos ∙ length-map w.files.files (λ (v : VnodeSeen). v.info) in
    let info : (x : ℕ) → (vnode_at files x).info ≡ (vnode_at w.files x).info = λ x. info-same w (with_marks w files anon) x (keeps-tables w files anon name k) in
    let alike = lie-alike w.files files k.disks k.infos in
    record {
      small = λ number blocks is. f.small number blocks (ap (λ (d : finite.FinMap nat_cmp ℕ). finite.get d number) (sym k.disks) ∙ is);
      each = λ x lt.
          let s = f.each x (subst (λ (n : ℕ). x < n) count lt) in
          subst (λ (v : VnodeSeen). IsSoundVnode v) (λ i. record { info = sym (info x) i; blanks = (vnode_at files x).blanks })
          (record { bits = k.bits x ∙ s.bits; pages = s.pages; blocks = s.blocks; within = s.within });
      disjoint = subst AreDisjoint (sym blocks) f.disjoint;
      set = λ x lt. subst (λ (d : finite.FinMap nat_cmp ℕ). IsSome (finite.get d (vnode_at files x).info.disk)) (sym k.disks) (subst (λ (i : FileInfo). IsSome (finite.get w.files.disks i.disk)) (sym (info x)) (f.set x (subst (λ (n : ℕ). x < n) count lt)));
      low = λ n file block keeps. f.low n file block (subst (λ (bs : List FileBlocks). KeepsPage bs n file block) blocks keeps);
      high = λ n file block keeps. subst (λ (d : finite.FinMap nat_cmp ℕ). block < block_count d file.disk) (sym k.disks) (f.high n file block (subst (λ (bs : List FileBlocks). KeepsPage bs n file block) blocks keeps));
      lie = alike.on_disks f.lie;
      apart = alike.none_meet f.apart;
      few = alike.few f.few;
      some = λ x lt. subst (λ (i : FileInfo). 1 ≤ length i.extents) (sym (info x)) (f.some x (subst (λ (n : ℕ). x < n) count lt));
    }

counts-kept : (w : World) (files : FilesSeen) (anon : AnonSlotsSeen) (name : PageName) → Marks w files anon name → CountsFit w.anon w.maps → CountsFit anon w.maps
counts-kept w files anon name k f = record {
  sound = subst (λ (cs : List ℕ). IsSoundAnonSlots (record anon { counts = cs })) (sym k.counts)
      (subst (λ (r : ℕ). IsSoundAnonSlots (record anon { counts = w.anon.counts; reserved = r })) (sym k.reserved)
      (record { lengths = k.swapped ∙ f.sound.lengths; used = f.sound.used; reserved = f.sound.reserved; fits = f.sound.fits }));
  counts = λ slot. ap (λ (cs : List ℕ). count_at (record w.anon { counts = cs }) slot) k.counts ∙ f.counts slot;
  places = f.places ∙ sym k.reserved;
}

segments-kept : (w : World) (files : FilesSeen) (anon : AnonSlotsSeen) (name : PageName) (spaces : Spaces) → Marks w files anon name → SegmentsFit (length w.files.files) w.anon w.maps spaces → SegmentsFit (length files.files) anon w.maps spaces
segments-kept w files anon name spaces k f =
    let count : length files.files ≡ length w.files.files = sym (length-map files.files (λ (v : VnodeSeen). v.info)) ∙ ap length k.infos ∙ length-map w.files.files (λ (v : VnodeSeen). v.info) in
    subst (λ (n : ℕ). SegmentsFit n anon w.maps spaces) (sym count)
    (record { ordered = f.ordered; each = f.each; holders = f.holders; zeros = f.zeros; apart = f.apart; once = λ z number place slot is held. ap (λ (cs : List ℕ). count_at (record w.anon { counts = cs }) slot) k.counts ∙ f.once z number place slot is held; reserved = f.reserved ∙ sym k.reserved })

same-not : (a b : Bool) → not a ≡ not b → a ≡ b
same-not true true e = refl
same-not true false e = absurd (let z : false ≡ true = e in cc)
same-not false true e = absurd (let z : true ≡ false = e in cc)
same-not false false e = refl

pub marks-memory : (w : World) (files : FilesSeen) (anon : AnonSlotsSeen) (name : PageName) (spaces : Spaces) → MemoryFits (memory_of w spaces) → Marks w files anon name → MemoryFits (memory_of (with_marks w files anon) spaces)
marks-memory w files anon name spaces f k = record {
  frames = record {
    sound = f.frames.sound;
    unkept = f.frames.unkept;
    unmodified = f.frames.unmodified;
    exist = λ j n h. exists-same w (with_marks w files anon) n (keeps-tables w files anon name k) ∙ f.frames.exist j n h;
  };
  files = files-kept w files anon name k f.files;
  disks = subst (λ (d : finite.FinMap nat_cmp ℕ). DisksFit w.store.bays d (length anon.counts)) (sym k.disks) (subst (λ (cs : List ℕ). DisksFit w.store.bays w.files.disks (length cs)) (sym k.counts) f.disks);
  pool = f.pool;
  translations = λ i t is.
      let l = f.translations i t is in
      record {
        spot = l.spot;
        here = l.here;
        name = l.name;
        shows = l.shows;
        home = l.home;
        unlisted = l.unlisted;
        allowed = l.allowed;
        writable = λ h.
            let m = l.writable h in
            record { prot = m.prot; alone = λ private. let a = m.alone private in (a.0, a.1, ap (λ (cs : List ℕ). count_at (record w.anon { counts = cs }) a.0) k.counts ∙ a.2) };
      };
  unpushed = λ j s held unpushed home. elim (cases-name name (slot_name s)) [
    | inl e ↦ absurd (let z : true ≡ false = sym (ap not unpushed) ∙ ap (λ (n : PageName). is_unpushed files anon n) e ∙ k.marked in cc)
    | inr ne ↦ f.unpushed j s held (same-not (slice_index_or w.anon.swapped s false) false (sym (k.others (slot_name s) ne) ∙ ap not unpushed)) home
  ];
  counts = counts-kept w files anon name k f.counts;
  segments = segments-kept w files anon name spaces k f.segments;
}

-- The page is home in a frame on no list, and modified.
pub record IsHomeModified (w : World) (name : PageName) (frame : ℕ) : Type 0 where
  pub home : residence w.store name ≡ Home frame
  pub unlisted : ¬ IsListedFrame w.store frame
  pub modified : IsModified w.store w.hat.places frame

-- a page that is modified is on no list
pub modified-unlisted : (w : World) (spaces : Spaces) (frame : ℕ) → MemoryFits (memory_of w spaces) → IsModified w.store w.hat.places frame → ¬ IsListedFrame w.store frame
modified-unlisted w spaces frame f m = λ listed. elim m [
  | inl r ↦ let z : true ≡ false = sym r ∙ f.frames.unmodified frame listed in cc
  | inr x ↦ (f.translations x.place x.translation x.there).unlisted (subst (λ (i : ℕ). IsListedFrame w.store i) (sym x.leads) listed)
]

pub home-modified : (w : World) (spaces : Spaces) (name : PageName) (d : IsDirtyPage w name) → MemoryFits (memory_of w spaces) → IsHomeModified w name d.frame
home-modified w spaces name d f = record { home = d.home; unlisted = modified-unlisted w spaces d.frame f d.modified; modified = d.modified }

may-replace : (w : World) (files : FilesSeen) (anon : AnonSlotsSeen) (name : PageName) (frame : ℕ) (notes : Notes) → IsSoundStore w.store → Marks w files anon name → IsHomeModified w name frame → StoreFits w.store notes (world_table w) → MayReplaceTable w.store notes (page_table files anon)
may-replace w files anon name frame notes sound k home fits = record {
  apart = λ m n disk block.
      let a = table-spot w files anon name k m in
      let b = table-spot w files anon name k n in
      fits.apart m n (sym a.disk ∙ disk ∙ b.disk) (sym a.block ∙ block ∙ b.block);
  each_note = λ seat note is.
      let agrees = fits.each_note seat note is in
      let spot = table-spot w files anon name k note.name in
      record {
        disk = spot.disk ∙ agrees.disk;
        block = spot.block ∙ agrees.block;
        read = λ reads there. let r = agrees.read reads there in (spot.valid ∙ r.0, never-blank w files anon name k note.name r.1);
      };
  cached = λ j n cached held.
      let ne : n ≢ name = λ e. home.unlisted (subst (λ (i : ℕ). IsListedFrame w.store i) (sound.distinct j frame n held (held-by w.store name frame home.home ∙ ap (λ (m : PageName). Some m) (sym e))) (inr cached)) in
      table_law.clean w.store notes (world_table w) (page_table files anon) j n (table-other w files anon name k n ne) (fits.each_cached j n cached held);
}

pub marks-notes : (w : World) (files : FilesSeen) (anon : AnonSlotsSeen) (name : PageName) (frame : ℕ) (notes : Notes) → IsSoundStore w.store → Marks w files anon name → IsHomeModified w name frame → NotesFit w notes → NotesFit (with_marks w files anon) notes
marks-notes w files anon name frame notes sound k home nf = record {
  stored = table_law.fits w.store notes (world_table w) (page_table files anon) nf.stored (may-replace w files anon name frame notes sound k home nf.stored);
  clean = λ j n held there. elim (cases-name name n) [
    | inl e ↦ inl (subst (λ (i : ℕ). IsModified w.store w.hat.places i) (sound.distinct frame j n (held-by w.store name frame home.home ∙ ap (λ (m : PageName). Some m) (sym e)) held) home.modified)
    | inr ne ↦ elim (nf.clean j n held there) [
      | inl m ↦ inl m
      | inr c ↦ inr (table_law.clean w.store notes (world_table w) (page_table files anon) j n (table-other w files anon name k n ne) c)
    ]
  ];
  pushes = λ seat note is writes there.
      let p = nf.pushes seat note is writes there in
      record {
        pushed = never-blank w files anon name k note.name p.pushed;
        same = elim p.same [ inl r ↦ inl r | inr s ↦ inr (record { valid = (table-spot w files anon name k note.name).valid ∙ s.valid; bytes = s.bytes }) ];
      };
  gone = λ seat note is writes gone. elim (nf.gone seat note is writes gone) [
    | inl a ↦ elim (cases-name name note.name) [
      | inl e ↦ inr (inr (frame, ap (residence w.store) e ∙ home.home))
      | inr ne ↦ inl (k.others note.name ne ∙ a.0, a.1)
    ]
    | inr b ↦ elim b [
      | inl none ↦ inr (inl (exists-same w (with_marks w files anon) note.name (keeps-tables w files anon name k) ∙ none))
      | inr anew ↦ inr (inr anew)
    ]
  ];
  sizes = λ seat note is.
      subst (λ (d : finite.FinMap nat_cmp ℕ). HasSize d (length anon.counts) note.number note.disk.size) (sym k.disks) (subst (λ (cs : List ℕ). HasSize w.files.disks (length cs) note.number note.disk.size) (sym k.counts) (nf.sizes seat note is));
}

-- THE MARK changes no page.
pub marks-step : (w : World) (files : FilesSeen) (anon : AnonSlotsSeen) (name : PageName) (frame : ℕ) (spaces : Spaces) → MemoryFits (memory_of w spaces) → Marks w files anon name → IsHomeModified w name frame → KeepsPages w (with_marks w files anon) spaces
marks-step w files anon name frame spaces f k home =
    let tables = keeps-tables w files anon name k in
    let new = with_marks w files anon in
    record {
      tables = tables;
      core = refl;
      frames = refl;
      bays = refl;
      memory = marks-memory w files anon name spaces f k;
      notes = λ notes trip nf. marks-notes w files anon name frame notes f.frames.sound k home nf;
      tells = λ notes trip nf. (
        (λ tell n is. ap (λ (d : ℕ). tells w.store notes d) (table-spot w files anon name k n).disk ∙ tell n (sym (name-same w new n tables) ∙ is)),
        (λ tell n is. ap (λ (d : ℕ). tells w.store notes d) (sym (table-spot w files anon name k n).disk) ∙ tell n (name-same w new n tables ∙ is)),
      );
      whole = λ notes n trip nf tell exists cut. absurd (let z : false ≡ true = cut in cc);
      pages = λ notes n trip nf tell exists.
          let is = exists-page w n f.files exists in
          value-is new notes n (name-same w new n tables ∙ is) ∙ value-marked notes n (cases-name name n) ∙ sym (value-is w notes n is);
    }
  where
    value-marked : (notes : Notes) (n : PageName) → (n ≡ name) ⊎ (n ≢ name) → value w.store notes (page_table files anon) n ≡ value w.store notes (world_table w) n
    value-marked notes n (inl e) = table_law.home w.store notes (world_table w) (page_table files anon) n frame (ap (residence w.store) e ∙ home.home)
    value-marked notes n (inr ne) = table_law.same w.store notes (world_table w) (page_table files anon) n (table-other w files anon name k n ne)
