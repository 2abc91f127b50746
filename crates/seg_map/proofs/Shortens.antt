-- A FILE THAT GETS SHORTER: pages that it loses, zeros behind its new end, and that it is shorter once its record has the nearer end.
use Rattle.std.proofs.Common.{◌≡◌, ◌≢◌, ℕ, ◌+◌, ◌-◌, ◌%◌, ◌<◌, ◌≤◌, Bool, true, cond, List, [], ◌++◌, length, map, Option, Some, None, refl, sym, ap, ◌∙◌, ◌⊎◌, inl, inr, subst, arith, slice_index_or, get_or-set_same}
use Rattle.std.specs.Prelude.{IsTrue, take, replicate, remove, nat_lt, unwrap_or}
use Rattle.std.proofs.lemmas.Bool.{cases_eq, lt-ltb, ltb-true, cases_lt}
use Rattle.std.proofs.lemmas.List.{append-nil, drop_all, length-replicate, length-map, get_or-map}
use Rattle.seg_ops.specs.core_arena.Bytes.{bytes_at, bytes_with_piece}
use Rattle.seg_ops.specs.page_hash.Names.{name_at, find}
use Rattle.seg_ops.specs.page_hash.declared.PageName.{PageName}
use Rattle.seg_ops.proofs.page_hash.NameLaws.{find-at, find-none}
use Rattle.seg_ops.specs.page_store.Bytes.{clip}
use Rattle.seg_ops.specs.page_store.Seen.{StoreSeen, IsSoundStore, residence}
use Rattle.seg_ops.specs.page_store.Steps.{with_piece}
use Rattle.seg_ops.specs.page_store.declared.residence.Residence.{Residence}
use Rattle.seg_ops.specs.page_store.declared.residence.Residence.TheVariants.{Home, Moving, Absent}
use Rattle.seg_ops.proofs.page_store.QueryLemmas.{home-is, absent-is, found-within}
use Rattle.seg_ops.specs.anon_slots.Slots.{count_at, is_used}
use Rattle.seg_ops.specs.hat_layer.Pool.{HatSeen}
use Rattle.seg_ops.specs.vnode_files.declared.extent.Extent.{Extent}
use Rattle.seg_ops.specs.vnode_files.declared.vnode.FileInfo.{FileInfo}
use Rattle.seg_ops.specs.vnode_files.Files.{FilesSeen, vnode_at, growth_of, block_count, extents_on}
use Rattle.seg_ops.specs.vnode_files.Grow.{page_count, with_next_blocks}
use Rattle.seg_ops.specs.vnode_files.Vnode.{VnodeSeen, no_vnode}
use Rattle.seg_ops.specs.flat_model.Parts.{file_of_length}
use Rattle.seg_ops.specs.flat_model.Words.{page, pages_in}
use Rattle.seg_ops.specs.vm_world.FileSteps.{ChangesFile}
use Rattle.seg_ops.specs.vm_world.FlatMemory.{Memory}
use Rattle.seg_ops.specs.vm_world.MemoryFits.{MemoryFits}
use Rattle.seg_ops.specs.vm_world.Segments.{Spaces}
use Rattle.seg_ops.specs.vm_world.Wants.{IsCutPage}
use Rattle.seg_ops.specs.vm_world.Words.{KeepsPages}
use Rattle.seg_ops.specs.vm_world.World.{World, file_name, page_exists}
use Rattle.seg_ops.specs.vm_world.declared.world.World as rust
use Rattle.seg_ops.proofs.vm_world.Clips.{clip-whole, clip-twice}
use Rattle.seg_ops.proofs.vm_world.FileSteps.{files-then, still-file}
use Rattle.seg_ops.proofs.vm_world.FlatWhole.{some-inj}
use Rattle.seg_ops.proofs.vm_world.PageNames.{not-slot, file-apart}
use Rattle.seg_ops.proofs.Composed.{keeps-same}
use Rattle.seg_ops.proofs.StillSteps.{memory_of}
use Rattle.seg_map.specs.Ends.{valid_in, IsReadyPage, MaySetEnd, SetsEnd}
use Rattle.seg_map.specs.Longer.{GrowsInto}
use Rattle.seg_map.specs.Puts.{with_bytes_in}
use Rattle.seg_map.specs.Shorter.{NoneHeldPast, MayShorten}
use Rattle.seg_map.specs.VoidedPages.{VoidsUpTo}
use Rattle.seg_map.specs.Voids.{VoidsPage, files_voided, with_page_void}
use Rattle.seg_map.proofs.Cuts.{cut_law}
use Rattle.seg_map.proofs.Ends.{ends_law}
use Rattle.seg_map.proofs.Voids.{voided, blank-inside}
use Rattle.seg_map.proofs.Wholes.{grown-none}

-- a page whose bytes from a place on were made zeros
pub tail-zeros : (old : List ℕ) (at : ℕ) → at ≤ 4096 → length old ≡ 4096 → bytes_with_piece old at (replicate (4096 - at) 0) ≡ clip at old
tail-zeros old at low whole =
    let count = length-replicate {A = ℕ} (4096 - at) 0 in
    ap (λ (rest : List ℕ). take at old ++ replicate (4096 - at) 0 ++ rest) (drop_all (at + length (replicate (4096 - at) 0)) old (omega (arith, count, low, whole)))
    ∙ append-nil (take at old ++ replicate (4096 - at) 0)

module _ (w : World) (spaces : Spaces) (f n : ℕ) (fits : MemoryFits (memory_of w spaces)) (there : f < length w.files.files) (less : n < (vnode_at w.files f).info.length) where
  abbrev len : ℕ
  len = (vnode_at w.files f).info.length

  -- the page that stays and whose valid bytes change is the new last one, and gets a tail
  is-cut : (i : ℕ) → i < pages_in n → valid_in n i ≢ valid_in len i → IsCutPage w f n (file_name f i)
  is-cut i below differs = record {
    shorter = less;
    tail = λ e. differs (let same : valid_in n i ≡ valid_in len i = omega (arith, e, below, less) in same);
    last = elim (cases_eq i (page n)) [ inl e ↦ ap (file_name f) e | inr ne ↦ absurd (differs (let same : valid_in n i ≡ valid_in len i = omega (arith, ne, below, less) in same)) ];
  }

  module _ (s : StoreSeen) (names : s.names ≡ w.store.names) (sound : IsSoundStore s) (none : NoneHeldPast w.store f n)
      (tail : (frame : ℕ) (bytes : List ℕ) → n % 4096 ≢ 0 → residence s (file_name f (page n)) ≡ Home frame → bytes_at s.frames frame ≡ Some bytes → clip (n % 4096) bytes ≡ bytes) where
    -- a page that stays has zeros past the end: it ends before it, or is the one that has zeros there
    clipped : (i frame : ℕ) (bytes : List ℕ) → residence s (file_name f i) ≡ Home frame → bytes_at s.frames frame ≡ Some bytes → clip (valid_in n i) bytes ≡ bytes
    clipped i frame bytes home at =
        let h = home-is s (file_name f i) frame home in
        let below : i < pages_in n = none frame (file_name f i) (ap (λ (ns : List (Option PageName)). name_at ns frame) (sym names) ∙ find-at s.names (file_name f i) frame h.found) refl in
        let whole : length bytes ≡ 4096 = (sound.each frame (found-within s (file_name f i) frame sound h.found)).size bytes at in
        elim (cases_eq (valid_in n i) 4096) [
          | inl full ↦ ap (λ (k : ℕ). clip k bytes) full ∙ clip-whole bytes whole
          | inr part ↦
              let e : i ≡ page n = omega (arith, below, part) in
              let v : valid_in n i ≡ n % 4096 = omega (arith, e) in
              ap (λ (k : ℕ). clip k bytes) v ∙ tail frame bytes (λ z. part (let full : valid_in n i ≡ 4096 = omega (arith, z, below) in full)) (ap (λ (k : ℕ). residence s (file_name f k)) (sym e) ∙ home) at
        ]

    may-cut : ((name : PageName) → IsCutPage w f n name → IsReadyPage (record w { store = s }) name ⊎ (find s.names name ≡ None)) → MaySetEnd (record w { store = s }) f n
    may-cut last = record {
      below = λ frame name held e. none frame name (ap (λ (ns : List (Option PageName)). name_at ns frame) (sym names) ∙ held) e;
      last = λ i lt below differs. elim (last (file_name f i) (is-cut i below differs)) [ inl r ↦ inl r | inr absent ↦ inr (absent, inr less) ];
      tail = λ i frame bytes nearer home at. clipped i frame bytes home at;
    }

  -- NOTHING IS PUT where the file gets no tail, and where no frame holds the page that gets it.
  pub none-shortens : NoneHeldPast w.store f n → ((name : PageName) → IsCutPage w f n name → find w.store.names name ≡ None) → MayShorten (memory_of w spaces) (memory_of w spaces) f n
  none-shortens none absent = record {
    loses = record { change = λ file. file; changes = still-file f w w spaces fits there (keeps-same w spaces fits); past = cut_law.none n };
    may = may-cut w.store refl fits.frames.sound none (λ frame bytes t home at.
        let z : None ≡ Some frame = sym (absent (file_name f (page n)) (record { shorter = less; tail = t; last = refl })) ∙ (home-is w.store (file_name f (page n)) frame home).found in
        absurd (none-is-some frame z)) (λ name cut. inr (absent name cut));
  }
    where
      none-is-some : (k : ℕ) → ◌≡◌ {A = Option ℕ} None (Some k) → ⊥
      none-is-some k e = cc

  -- ZEROS ARE PUT behind the end, once the page is on no list.
  pub put-shortens : (m s : StoreSeen) (frame : ℕ) → NoneHeldPast w.store f n → KeepsPages w (record w { store = m }) spaces → m.names ≡ w.store.names → residence m (file_name f (page n)) ≡ Home frame
      → s ≡ with_piece m frame (n % 4096) (replicate (4096 - n % 4096) 0) true → IsReadyPage (record w { store = s }) (file_name f (page n))
      → ChangesFile f (memory_of (record w { store = m }) spaces) (memory_of (record w { store = s }) spaces) (with_bytes_in (page n) (n % 4096) (replicate (4096 - n % 4096) 0))
      → MayShorten (memory_of w spaces) (memory_of (record w { store = s }) spaces) f n
  put-shortens m s frame none keeps names home step ready put = record {
    loses = record {
      change = with_bytes_in (page n) (n % 4096) (replicate (4096 - n % 4096) 0);
      changes = files-then f (memory_of w spaces) (memory_of (record w { store = m }) spaces) (memory_of (record w { store = s }) spaces) (λ file. file) (with_bytes_in (page n) (n % 4096) (replicate (4096 - n % 4096) 0))
          (still-file f w (record w { store = m }) spaces fits there keeps) put;
      past = cut_law.tail n;
    };
    may = may-cut s (ap (λ (x : StoreSeen). x.names) step ∙ names) put.memory.frames.sound none zeros-behind (λ name cut. inl (subst (IsReadyPage (record w { store = s })) (sym cut.last) ready));
  }
    where
      zeros-behind : (g : ℕ) (bytes : List ℕ) → n % 4096 ≢ 0 → residence s (file_name f (page n)) ≡ Home g → bytes_at s.frames g ≡ Some bytes → clip (n % 4096) bytes ≡ bytes
      zeros-behind g bytes t there_home at =
          let sound = keeps.memory.frames.sound in
          let h = home-is m (file_name f (page n)) frame home in
          let found : Some g ≡ Some frame = sym (home-is s (file_name f (page n)) g there_home).found ∙ ap (λ (x : StoreSeen). find x.names (file_name f (page n))) step ∙ h.found in
          let inside : frame < length m.frames = found-within m (file_name f (page n)) frame sound h.found in
          let whole : length h.bytes ≡ 4096 = (sound.each frame inside).size h.bytes h.there in
          let piece = replicate (4096 - n % 4096) 0 in
          let is : bytes_at s.frames frame ≡ Some (bytes_with_piece h.bytes (n % 4096) piece) =
          ap (λ (x : StoreSeen). bytes_at x.frames frame) step ∙ get_or-set_same m.frames frame (Some (bytes_with_piece (unwrap_or (bytes_at m.frames frame) []) (n % 4096) piece)) None inside
          ∙ ap (λ (o : Option (List ℕ)). Some (bytes_with_piece (unwrap_or o []) (n % 4096) piece)) h.there in
          let now : bytes ≡ clip (n % 4096) h.bytes =
          some-inj bytes (bytes_with_piece h.bytes (n % 4096) piece) (sym at ∙ ap (bytes_at s.frames) (some-inj g frame found) ∙ is) ∙ tail-zeros h.bytes (n % 4096) (omega arith) whole in
          ap (clip (n % 4096)) now ∙ clip-twice (n % 4096) h.bytes (omega arith) whole ∙ sym now

-- THE PAGES PAST THE END are given up, one after another.
pub void-first : (w : World) (spaces : Spaces) (f n upto : ℕ) → MemoryFits (memory_of w spaces) → f < length w.files.files → upto ≡ pages_in n → VoidsUpTo (memory_of w spaces) (memory_of w spaces) f n upto
void-first w spaces f n upto fits there e = record {
  loses = record { change = λ file. file; changes = still-file f w w spaces fits there (keeps-same w spaces fits); past = cut_law.none n };
  disks = refl;
  infos = refl;
  absent = λ i low high. absurd (omega (arith, low, high, e));
  stay = λ name before. refl;
}

-- how many files there are, by their records
pub infos-count : (u v : FilesSeen) → map (λ (x : VnodeSeen). x.info) v.files ≡ map (λ (x : VnodeSeen). x.info) u.files → length v.files ≡ length u.files
infos-count u v same = sym (length-map v.files (λ (x : VnodeSeen). x.info)) ∙ ap length same ∙ length-map u.files (λ (x : VnodeSeen). x.info)

pub info-of : (u v : FilesSeen) (f : ℕ) → f < length u.files → map (λ (x : VnodeSeen). x.info) v.files ≡ map (λ (x : VnodeSeen). x.info) u.files → (vnode_at v f).info ≡ (vnode_at u f).info
info-of u v f lt same =
    let d = (vnode_at u f).info in
    let below : f < length v.files = let c = infos-count u v same in omega (arith, c, lt) in
    sym (get_or-map (λ (x : VnodeSeen). x.info) v.files f no_vnode d below) ∙ ap (λ (xs : List FileInfo). slice_index_or xs f d) same ∙ get_or-map (λ (x : VnodeSeen). x.info) u.files f no_vnode d lt

pub void-next : (old : Memory) (mid new : World) (spaces : Spaces) (f n p : ℕ) → f < length old.world.files.files → pages_in n ≤ p → p < pages_in (vnode_at old.world.files f).info.length → VoidsUpTo old (memory_of mid spaces) f n p
    → ChangesFile f (memory_of mid spaces) (memory_of new spaces) (with_page_void p) → new.files ≡ files_voided mid.files f p → residence new.store (file_name f p) ≡ Absent
    → ((name : PageName) → name ≢ file_name f p → residence new.store name ≡ residence mid.store name) → VoidsUpTo old (memory_of new spaces) f n (p + 1)
void-next old mid new spaces f n p there le lt b void files absent stay = record {
  loses = record {
    change = λ file. with_page_void p (b.loses.change file);
    changes = files-then f old (memory_of mid spaces) (memory_of new spaces) b.loses.change (with_page_void p) b.loses.changes void;
    past = cut_law.joined n b.loses.change (with_page_void p) b.loses.past (cut_law.void n p le);
  };
  disks = ap (λ (x : FilesSeen). x.disks) files ∙ b.disks;
  infos = ap (λ (x : FilesSeen). map (λ (v : VnodeSeen). v.info) x.files) files ∙ voids.infos ∙ b.infos;
  absent = λ i low high. elim (cases_eq i p) [
    | inl e ↦ ap (λ (k : ℕ). residence new.store (file_name f k)) e ∙ absent
    | inr ne ↦ stay (file_name f i) (λ e. ne (ap (λ (x : PageName). x.page) e)) ∙ b.absent i low (omega (arith, high, ne))
  ];
  stay = λ name before. stay name (λ e. (let low = before (ap (λ (x : PageName). x.object) e) in let same = ap (λ (x : PageName). x.page) e in omega (arith, low, same, le))) ∙ b.stay name before;
}
  where
    fits : MemoryFits (memory_of mid spaces)
    fits = b.loses.changes.memory

    below : f < length mid.files.files
    below = let c = infos-count old.world.files mid.files b.infos in omega (arith, c, there)

    exists : IsTrue (page_exists mid.files mid.anon (file_name f p))
    exists =
        ap (λ (x : Bool). cond x (is_used (count_at mid.anon p)) (nat_lt p (pages_in (vnode_at mid.files f).info.length))) (not-slot f (file-apart mid.files f fits.files below))
        ∙ lt-ltb p (pages_in (vnode_at mid.files f).info.length) (let e = ap (λ (x : FileInfo). x.length) (info-of old.world.files mid.files f there b.infos) in omega (arith, e, lt))

    voids : VoidsPage mid.files (files_voided mid.files f p) f p
    voids = voided mid.files f p below fits.files.each (blank-inside mid spaces f p fits below exists)

-- a page past the end exists still, until it is given up
pub void-exists : (old : Memory) (mid : World) (spaces : Spaces) (f n p : ℕ) → f < length old.world.files.files → p < pages_in (vnode_at old.world.files f).info.length → VoidsUpTo old (memory_of mid spaces) f n p
    → IsTrue (page_exists mid.files mid.anon (file_name f p))
void-exists old mid spaces f n p there lt b =
    let below : f < length mid.files.files = let c = infos-count old.world.files mid.files b.infos in omega (arith, c, there) in
    ap (λ (x : Bool). cond x (is_used (count_at mid.anon p)) (nat_lt p (pages_in (vnode_at mid.files f).info.length))) (not-slot f (file-apart mid.files f b.loses.changes.memory.files below))
    ∙ lt-ltb p (pages_in (vnode_at mid.files f).info.length) (let e = ap (λ (x : FileInfo). x.length) (info-of old.world.files mid.files f there b.infos) in omega (arith, e, lt))

-- then no frame holds one of them
pub none-held : (old : Memory) (mid : World) (spaces : Spaces) (f n upto : ℕ) → f < length old.world.files.files → upto ≡ pages_in (vnode_at old.world.files f).info.length → VoidsUpTo old (memory_of mid spaces) f n upto → NoneHeldPast mid.store f n
none-held old mid spaces f n upto there e b = λ frame name held same.
    let fits = b.loses.changes.memory in
    let below : f < length mid.files.files = let c = infos-count old.world.files mid.files b.infos in omega (arith, c, there) in
    let is : name ≡ file_name f name.page = λ j. record { object = same j; page = name.page } in
    let exists : nat_lt name.page (pages_in (vnode_at mid.files f).info.length) ≡ true =
    sym (ap (λ (x : Bool). cond x (is_used (count_at mid.anon name.page)) (nat_lt name.page (pages_in (vnode_at mid.files f).info.length))) (not-slot f (file-apart mid.files f fits.files below)))
    ∙ ap (page_exists mid.files mid.anon) (sym is) ∙ fits.frames.exist frame name held in
    let under = ltb-true name.page (pages_in (vnode_at mid.files f).info.length) exists in
    let length_is = ap (λ (x : FileInfo). x.length) (info-of old.world.files mid.files f there b.infos) in
    elim (cases_lt name.page (pages_in n)) [
      | inl lt ↦ lt
      | inr past ↦ absurd (find-none mid.store.names (file_name f name.page) frame (absent-is mid.store (file_name f name.page) fits.frames.sound (b.absent name.page past (omega (arith, under, length_is, e)))) (held ∙ ap (λ (x : PageName). Some x) is))
    ]

-- a page that is neither home nor moving is in no frame
pub not-held : (s : StoreSeen) (name : PageName) → IsSoundStore s → ((frame : ℕ) → residence s name ≢ Home frame) → ((seat : ℕ) → residence s name ≢ Moving seat) → find s.names name ≡ None
not-held s name sound away still = by_residence (residence s name) refl
  where
    by_residence : (r : Residence) → residence s name ≡ r → find s.names name ≡ None
    by_residence (Home frame) e = absurd (away frame e)
    by_residence (Moving seat) e = absurd (still seat e)
    by_residence Absent e = absent-is s name sound e

-- SO IT IS SHORTER. No block is taken for it, and none given back.
pub own-growth : (files : FilesSeen) (f pages : ℕ) → pages ≤ page_count (vnode_at files f).info.extents → growth_of files f pages ≡ Some (vnode_at files f).info.extents
own-growth files f pages le =
    let none : pages - page_count (vnode_at files f).info.extents ≡ 0 = omega (arith, le) in
    ap (λ (more : ℕ). with_next_blocks (block_count files.disks (vnode_at files f).info.disk) (extents_on (vnode_at files f).info.disk (remove files.files f)) more (vnode_at files f).info.extents) none

pub shortens : (old : Memory) (mid last : World) (files : FilesSeen) (spaces : Spaces) (f n upto : ℕ) → MemoryFits old → f < length old.world.files.files → n < (vnode_at old.world.files f).info.length
    → VoidsUpTo old (memory_of mid spaces) f n upto → MayShorten (memory_of mid spaces) (memory_of last spaces) f n → last.files ≡ mid.files
    → ((extents : List Extent) → growth_of last.files f (pages_in n) ≡ Some extents → SetsEnd last.files files f n extents)
    → GrowsInto old (memory_of (record last { files = files }) spaces) f n (file_of_length n)
shortens old mid last files spaces f n upto fits there less b m same sets = λ extents grown.
    let own = (vnode_at old.world.files f).info.extents in
    let info : (vnode_at last.files f).info ≡ (vnode_at old.world.files f).info = ap (λ (x : FilesSeen). (vnode_at x f).info) same ∙ info-of old.world.files mid.files f there b.infos in
    let kept : pages_in n ≤ page_count own = let w = (fits.files.each f there).within in omega (arith, w, less) in
    let is : extents ≡ own = grown-none old.world.files f (pages_in n) extents kept grown in
    let kept' : pages_in n ≤ page_count (vnode_at last.files f).info.extents = subst (λ (x : FileInfo). pages_in n ≤ page_count x.extents) (sym info) kept in
    let set : SetsEnd last.files files f n extents = sets extents (own-growth last.files f (pages_in n) kept' ∙ ap (λ (x : FileInfo). Some x.extents) info ∙ ap (λ (es : List Extent). Some es) (sym is)) in
    let less' : n < (vnode_at last.files f).info.length = subst (λ (x : FileInfo). n < x.length) (sym info) less in
    cut_law.cuts f n extents old (memory_of last spaces) (memory_of (record last { files = files }) spaces) (λ file. m.loses.change (b.loses.change file)) there less
    (cut_law.joined n b.loses.change m.loses.change b.loses.past m.loses.past)
    (files-then f old (memory_of mid spaces) (memory_of last spaces) b.loses.change m.loses.change b.loses.changes m.loses.changes)
    (ends_law.shorter (memory_of last spaces) files f n extents m.loses.changes.memory set m.may less')

-- WHAT STAYS of the world, over one step and another.
pub rest-then : {D : Type 0} (u v w : rust.World D) → v ≡ record u { store = v.store; hat = v.hat; files = v.files } → w ≡ record v { store = w.store; hat = w.hat; files = w.files } → w ≡ record u { store = w.store; hat = w.hat; files = w.files }
rest-then {D} u v w first second = second ∙ ap {A = rust.World D} (λ x. record x { store = w.store; hat = w.hat; files = w.files }) first

pub rest-shorter : {D : Type 0} (u v w : rust.World D) (files : FilesSeen) → v ≡ record u { store = v.store; hat = v.hat; files = v.files } → w ≡ record v { store = w.store } → record w { files = files } ≡ record u { store = w.store; hat = w.hat; files = files }
rest-shorter {D} u v w files first second =
    ap {A = rust.World D} (λ x. record x { files = files }) second ∙ ap {A = rust.World D} (λ x. record x { store = w.store; files = files }) first
    ∙ ap (λ (h : HatSeen). record u { store = w.store; hat = h; files = files }) (sym (ap {A = rust.World D} (λ x. x.hat) second))
