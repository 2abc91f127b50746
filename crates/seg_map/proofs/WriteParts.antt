-- WHAT IS ANSWERED TO A PART OF A WRITE.
use Rattle.std.proofs.Common.{◌≡◌, ◌≢◌, ℕ, ◌+◌, ◌%◌, ◌<◌, ◌≤◌, Bool, true, false, cond, List, length, Option, Some, None, refl, sym, ap, ◌∙◌, ◌⊎◌, inl, inr, subst, arith, ◌||◌, ◌^◌, get_or-set_same}
use Rattle.std.specs.Prelude.{IfSome, nat_lt, Ok, Err, Result, unwrap_or}
use Rattle.std.proofs.lemmas.Bool.{ltb-true}
use Rattle.std.specs.FinMap as finite
use Rattle.seg_ops.specs.anon_slots.Slots.{count_at, is_used}
use Rattle.seg_ops.specs.page_hash.Names.{find, is_name, name_at}
use Rattle.seg_ops.specs.page_hash.declared.PageName.{PageName}
use Rattle.seg_ops.proofs.page_hash.NameLaws.{find-at}
use Rattle.seg_ops.specs.page_store.Laws.{SameResidence}
use Rattle.seg_ops.specs.page_store.Seen.{IsListedFrame, residence, residence_in}
use Rattle.seg_ops.specs.page_store.Steps.{next_frame, next_name}
use Rattle.seg_ops.specs.page_store.declared.plan.Plan.TheVariants as plan
use Rattle.seg_ops.specs.page_store.declared.residence.Residence.TheVariants.{Home, Absent}
use Rattle.seg_ops.proofs.page_store.QueryLemmas.{absent-is, home-is}
use Rattle.seg_ops.specs.vm_types.WellFormed.{IsInOneLine}
use Rattle.seg_ops.specs.vm_types.declared.call.Call.TheVariants.{Write}
use Rattle.seg_ops.specs.vm_types.declared.call.Reply.TheVariants as reply
use Rattle.seg_ops.specs.vnode_files.declared.extent.Extent.{Extent}
use Rattle.seg_ops.specs.vnode_files.Files.{FilesSeen, vnode_at, growth_of, with_growth, block_count}
use Rattle.seg_ops.proofs.vnode_files.GrowLemmas.{some_of}
use Rattle.seg_ops.specs.flat_model.Parts.{longer_file, with_extents_of, with_part}
use Rattle.seg_ops.specs.flat_model.Words.{page, pages_in}
use Rattle.seg_ops.proofs.flat_model.Lines.{line-in_page}
use Rattle.seg_ops.specs.vm_world.FileCalls.{room_refusal}
use Rattle.seg_ops.specs.vm_world.FileSteps.{ChangesFile}
use Rattle.seg_ops.specs.vm_world.MemoryFits.{MemoryFits}
use Rattle.seg_ops.specs.vm_world.Segments.{Spaces}
use Rattle.seg_ops.specs.vm_world.Serving.{AreReplaced, LosesFrame, ModifiesNone, ModifiesOnly, ServesDone, TakesFrames}
use Rattle.seg_ops.specs.vm_world.StateSteps.{PendsTails}
use Rattle.seg_ops.specs.vm_world.Wants.{GrowthWants, HasRoomFor, IsDirtyPage, IsGapPage}
use Rattle.seg_ops.specs.vm_world.Words.{KeepsPages}
use Rattle.seg_ops.specs.vm_world.World.{World, file_name, is_unpushed, page_exists}
use Rattle.seg_ops.specs.vm_world.WorldSteps.{WorldStep, stays, tails_lost}
use Rattle.seg_ops.specs.vm_world.declared.wants.Wants.{Wants}
use Rattle.seg_ops.specs.vm_world.declared.wants.Wants.TheVariants.{Transfer, Seat}
use Rattle.seg_ops.proofs.vm_world.FileCalls.{file_calls_law}
use Rattle.seg_ops.proofs.vm_world.FileSteps.{file_rule}
use Rattle.seg_ops.proofs.vm_world.PageNames.{not-slot, file-apart}
use Rattle.seg_ops.specs.Plans.{FetchesPage, IsAsked}
use Rattle.seg_ops.proofs.Disks.{pushes-page}
use Rattle.seg_ops.proofs.Modified.{modifies-then}
use Rattle.seg_ops.proofs.NewlyModified.{none-of, none-then, only-as, only-then, then-none}
use Rattle.seg_ops.proofs.StillSteps.{memory_of}
use Rattle.home_pages.specs.Brings.{BringsPage, BringModifies}
use Rattle.home_pages.proofs.Takes.{or-false, takes-later, takes-next, takes-none, takes-then}
use Rattle.home_pages.proofs.Replacements.{none-replaced, replaced-beside, replaced-fill, replaced-then}
use Rattle.seg_map.specs.Longer.{GrowsInto, IsLastReady}
use Rattle.seg_map.specs.Puts.{with_bytes_in}
use Rattle.seg_map.specs.Served.{ServesReply, ServesWant}
use Rattle.seg_map.proofs.Lengthens.{gap-unlisted}
use Rattle.seg_map.proofs.ReadParts.{brings-none}
use Rattle.seg_map.proofs.Waits.{gap-as, growth-as, none-due, waits}
use Rattle.seg_map.proofs.Wholes.{part_law}
use Rattle.std.proofs.lemmas.List.{length-set}
use Rattle.seg_ops.specs.vnode_files.Vnode.{VnodeSeen, no_vnode, with_extents}
use Rattle.seg_ops.specs.vnode_files.Layout.{KeepsLayout, disk_of_file, pages_kept}
use Rattle.seg_ops.proofs.vnode_files.LayoutLaws.{file_layout_law, grows, keeps-growth}
use Rattle.seg_ops.specs.vm_world.FramesFit.{FilesFit}
use Rattle.seg_ops.specs.flat_model.Step.{is_bit_set}

-- a call that isn't refused, with its end said in another way
pub served-as : (files : FilesSeen) (f end n : ℕ) → end ≡ n → room_refusal files f end ≡ None → room_refusal files f n ≡ None
served-as files f end n e served = ap (λ (k : ℕ). room_refusal files f k) (sym e) ∙ served

-- a file keeps few pages, however it grew
few-blocks : (files : FilesSeen) (f : ℕ) → FilesFit files → f < length files.files → (grown : FilesSeen) → KeepsLayout files grown → grown.disks ≡ files.disks → length grown.files ≡ length files.files → disk_of_file grown f ≡ disk_of_file files f
    → pages_kept grown f < 2 ^ 20
few-blocks files f fit there grown k disks count disk =
    let most = file_layout_law.pages grown (k.none_meet fit.apart) (k.on_disks fit.lie) f (subst (λ (n : ℕ). f < n) (sym count) there) in
    let same : block_count grown.disks (disk_of_file grown f) ≡ block_count files.disks (disk_of_file files f) = λ i. block_count (disks i) (disk i) in
    let some = some_of (finite.get files.disks (disk_of_file files f)) (fit.set f there) in
    let small = fit.small (disk_of_file files f) some.0 some.1 in
    let is : block_count files.disks (disk_of_file files f) ≡ some.0 = ap (λ (o : Option ℕ). unwrap_or o 0) some.1 in
    omega (arith, most, same, small, is)

-- a file that can have so many bytes has fewer than 2^32, since its disk has fewer blocks than that many pages
pub end-fits : (files : FilesSeen) (f end : ℕ) → FilesFit files → room_refusal files f end ≡ None → end < 2 ^ 32
end-fits files f end fit served =
    let room = file_calls_law.room files f end served in
    let g = some_of (growth_of files f (pages_in end)) room.room in
    let k = keeps-growth files f (pages_in end) (Some g.0) room.there g.1 in
    let grown = grows files f (pages_in end) g.0 room.there g.1 in
    let count = grown.count in
    let after : FilesSeen = with_growth files f (Some g.0) in
    let v : VnodeSeen = with_extents (vnode_at files f) g.0 in
    let most = few-blocks files f fit room.there after k refl (length-set files.files f v) (ap (λ (x : VnodeSeen). x.info.disk) (get_or-set_same files.files f v no_vnode room.there)) in
    omega (arith, count, most)

-- tails that are pending after a frame was taken that held no page
pub pends-on : (u v : World) (cut : PageName → Bool) (a b c : ℕ) → PendsTails u cut a b → PendsTails v (is_name (next_name v.store)) b c → next_name v.store ≡ None → length v.files.files ≡ length u.files.files → PendsTails u cut a c
pends-on u v cut a b c first second none count = record {
  bits = λ g lt.
      second.bits g (subst (λ (k : ℕ). g < k) (sym count) lt)
      ∙ ap (λ (o : Option PageName). is_bit_set b g || tails_lost v (is_name o) g) none
      ∙ or-false (is_bit_set b g) ∙ first.bits g lt;
  below = λ low. subst (λ (k : ℕ). c < 2 ^ k) count (second.below (subst (λ (k : ℕ). b < 2 ^ k) (sym count) (first.below low)));
}

-- pages whose frames are taken after a step that moves no name
replaced-later : (old mid new : World) (cut : PageName → Bool) → mid.store.names ≡ old.store.names → AreReplaced mid new cut → AreReplaced old new cut
replaced-later old mid new cut names are name is =
    let r = are name is in
    record { frame = r.frame; other = r.other; held = ap (λ (ns : List (Option PageName)). name_at ns r.frame) (sym names) ∙ r.held; taken = r.taken; differs = r.differs }

-- a page that doesn't exist is nowhere
pub absent-past : (w : World) (spaces : Spaces) (name : PageName) → MemoryFits (memory_of w spaces) → page_exists w.files w.anon name ≡ false → residence w.store name ≡ Absent
absent-past w spaces name fits past = by_frame (find w.store.names name) refl
  where
    by_frame : (o : Option ℕ) → find w.store.names name ≡ o → residence w.store name ≡ Absent
    by_frame None e = ap (λ (o : Option ℕ). residence_in o w.store) e
    by_frame (Some frame) e = absurd (let z : false ≡ true = sym past ∙ fits.frames.exist frame name (find-at w.store.names name frame e) in cc)

-- the old last page stays ready over a step that keeps it home on no list, or absent
pub last-later : (u v : World) (f n : ℕ) (spaces : Spaces) → MemoryFits (memory_of v spaces) → v.files ≡ u.files → v.anon ≡ u.anon
    → ((name : PageName) (frame : ℕ) → IsGapPage u f n name → residence u.store name ≡ Home frame → ¬ IsListedFrame u.store frame → (residence v.store name ≡ Home frame) × (¬ IsListedFrame v.store frame))
    → ((name : PageName) → residence u.store name ≡ Absent → residence v.store name ≡ Absent) → IsLastReady u f n → IsLastReady v f n
last-later u v f n spaces fits files anon homes absent ready = λ name gap.
    let was = gap-as v u f n name (sym files) gap in
    elim (ready name was) [
      | inl h ↦ let k = homes name h.0 was h.1 h.2 in inl (h.0, k.0, k.1)
      | inr b ↦ inr (
        absent-is v.store name fits.frames.sound (absent name (ap (λ (o : Option ℕ). residence_in o u.store) b.0)),
        (λ j. is_unpushed (files j) (anon j) name) ∙ b.1,
      )
    ]

module _ (old : World) (spaces : Spaces) (pending p f offset rest : ℕ) (line : List ℕ) (fits : MemoryFits (memory_of old spaces)) (inside : IsInOneLine offset line) (served : room_refusal old.files f (offset + length line) ≡ None) where
  abbrev name : PageName
  name = file_name f (page offset)

  room : HasRoomFor old.files f (offset + length line)
  room = file_calls_law.room old.files f (offset + length line) served

  far : f ≢ 64
  far = file-apart old.files f fits.files room.there

  in-page : offset % 4096 + length line ≤ 4096
  in-page = line-in_page offset (length line) inside.inside

  room-still : (new : World) → new.files ≡ old.files → HasRoomFor new.files f (offset + length line)
  room-still new files = subst (λ (fs : FilesSeen). HasRoomFor fs f (offset + length line)) (sym files) room

  -- IT IS DONE: first frames may be taken, and then the file changes as flat memory says.
  written : (mid new : World) (more : ℕ) (first : TakesFrames (memory_of old spaces) mid pending more) → AreReplaced old new first.cut → ModifiesNone old mid → mid.files ≡ old.files
      → ((extents : List Extent) → growth_of mid.files f (pages_in (offset + length line)) ≡ Some extents → ChangesFile f (memory_of mid spaces) (memory_of new spaces) (λ file. with_part offset line (with_extents_of extents file)))
      → ModifiesOnly (λ n. (n ≡ name) ⊎ IsGapPage old f (offset + length line) n) mid new → ServesDone (memory_of old spaces) (memory_of new spaces) pending more p (Write f offset line rest) reply.Done
  written mid new more first replaced none files changes only =
      let g = some_of (growth_of old.files f (pages_in (offset + length line))) room.room in
      let grown : growth_of mid.files f (pages_in (offset + length line)) ≡ Some g.0 = ap (λ (fs : FilesSeen). growth_of fs f (pages_in (offset + length line))) files ∙ g.1 in
      record {
        mid = mid;
        first = first;
        acts = λ cleared. file_calls_law.written p f offset rest cleared line g.0 (memory_of mid spaces) (memory_of new spaces) first.step.memory
            (ap (λ (fs : FilesSeen). room_refusal fs f (offset + length line)) files ∙ served) grown (changes g.0 grown);
        replaced = replaced;
        refusal = none-due old spaces p f (Write f offset line rest) fits refl served;
        modified = none-then (λ n. (n ≡ name) ⊎ IsGapPage old f (offset + length line) n) old mid new none only;
        clean = λ from n is wants. absurd (let z : reply.Done ≡ reply.Synced from = is in cc);
      }

  -- WITHIN THE FILE.
  pub writes-within : (home mid new : World) (more : ℕ) → BringsPage (memory_of old spaces) (memory_of home spaces) pending more name (Ok tt) → offset + length line ≤ (vnode_at old.files f).info.length
      → KeepsPages home mid spaces → mid.store.names ≡ home.store.names → ModifiesNone home mid → mid.files ≡ old.files
      → ChangesFile f (memory_of mid spaces) (memory_of new spaces) (with_bytes_in (page offset) (offset % 4096) line) → new.store.names ≡ mid.store.names → ModifiesOnly (λ n. n ≡ name) mid new
      → ServesDone (memory_of old spaces) (memory_of new spaces) pending more p (Write f offset line rest) reply.Done
  writes-within home mid new more b le keeps names none files puts put-names only =
      written mid new more (takes-then old home mid spaces pending more fits b.first keeps names)
      (replaced-beside old new b.first.cut (replaced-then old home new b.first.cut (put-names ∙ names) b.replaced))
      (modifies-then old home mid (none-of (BringModifies home name (Ok tt)) old home (brings-none old home f (page offset) far) b.modified) none) files
      (λ extents grown. part_law.within f offset line extents (memory_of mid spaces) (memory_of new spaces) keeps.memory (subst (λ (fs : FilesSeen). f < length fs.files) (sym files) room.there) in-page
      (subst (λ (fs : FilesSeen). offset + length line ≤ (vnode_at fs f).info.length) (sym files) le) grown puts)
      (only-as (λ n. n ≡ name) (λ n. (n ≡ name) ⊎ IsGapPage old f (offset + length line) n) mid new (λ n is. inl is) only)

  -- ITS PAGE, WHICH ISN'T HOME, is wanted first; no other one is.
  pub write-waits : (new : World) (more : ℕ) (want : Wants) → BringsPage (memory_of old spaces) (memory_of new spaces) pending more name (Err want) → new.files ≡ old.files
      → ((n : PageName) → IsGapPage old f (offset + length line) n → n ≡ name) → ServesWant (memory_of old spaces) (memory_of new spaces) pending more p (Write f offset line rest) want
  write-waits new more want b files gap =
      waits old new spaces pending more p f (Write f offset line rest) name want b.first fits refl served files b.replaced (none-of (BringModifies new name (Err want)) old new (λ n is. is) b.modified)
      (room-still new files, inl (inside.some, refl))
      (λ m frame w home. absurd (b.means.1 frame (ap (residence old.store) (sym (elim w.1 [ inl part ↦ part.1 | inr g ↦ gap m (gap-as new old f (offset + length line) m (sym files) g.gap) ])) ∙ home))) b.means.0

  -- the part's page is the old last one, where it exists and the part ends past the file's end
  own-last : (len : ℕ) → len < offset + length line → page offset < pages_in len → len % 4096 ≢ 0 → page len ≡ page offset
  own-last len longer below tail = omega (arith, in-page, longer, below, tail)

  pub gap-own : page offset < pages_in (vnode_at old.files f).info.length → (n : PageName) → IsGapPage old f (offset + length line) n → n ≡ name
  gap-own below n gap = gap.last ∙ ap (file_name f) (own-last (vnode_at old.files f).info.length gap.longer below gap.tail)

  -- whether the part's page exists
  own-exists : page_exists old.files old.anon name ≡ nat_lt (page offset) (pages_in (vnode_at old.files f).info.length)
  own-exists = ap (λ (b : Bool). cond b (is_used (count_at old.anon (page offset))) (nat_lt (page offset) (pages_in (vnode_at old.files f).info.length))) (not-slot f far)

  -- THE OLD LAST PAGE must come home first; the part's page is that one, or isn't there yet.
  pub last-waits : (new : World) (n : PageName) (want : Wants) → KeepsPages old new spaces → ModifiesNone old new → new.files ≡ old.files → new.anon ≡ old.anon → new.store.names ≡ old.store.names
      → GrowthWants old f (offset + length line) n → ((frame : ℕ) → residence old.store n ≢ Home frame) → FetchesPage (memory_of new spaces) n want
      → ServesWant (memory_of old spaces) (memory_of new spaces) pending pending p (Write f offset line rest) want
  last-waits new n want keeps none files anon names wants away needs =
      waits old new spaces pending pending p f (Write f offset line rest) n want (takes-none old new spaces pending keeps) fits refl served files (none-replaced old new) none
      (room-still new files, inr (growth-as old new f (offset + length line) n files anon names wants))
      (λ m frame w home. absurd (elim w.1 [
        | inl part ↦
            let at : residence old.store name ≡ Home frame = ap (residence old.store) (sym part.1) ∙ home in
            let exists = fits.frames.exist frame name (find-at old.store.names name frame (home-is old.store name frame at).found) in
            let below = ltb-true (page offset) (pages_in (vnode_at old.files f).info.length) (sym own-exists ∙ exists) in
            away frame (ap (residence old.store) (gap-own below n wants.gap) ∙ at)
        | inr g ↦ let gap = gap-as new old f (offset + length line) m (sym files) g.gap in away frame (ap (residence old.store) (wants.gap.last ∙ sym gap.last) ∙ home)
      ])) needs

  -- THE FILE GETS LONGER, its last page is the part's.
  pub writes-last : (home mid long new : World) (more : ℕ) → BringsPage (memory_of old spaces) (memory_of home spaces) pending more name (Ok tt)
      → KeepsPages home mid spaces → mid.store.names ≡ home.store.names → ModifiesNone home mid → mid.files ≡ old.files
      → GrowsInto (memory_of mid spaces) (memory_of long spaces) f (offset + length line) (longer_file (offset + length line)) → long.store.names ≡ mid.store.names
      → ModifiesOnly (IsGapPage mid f (offset + length line)) mid long → f < length long.files.files
      → ((m : MemoryFits (memory_of long spaces)) → KeepsPages long long spaces)
      → ChangesFile f (memory_of long spaces) (memory_of new spaces) (with_bytes_in (page offset) (offset % 4096) line) → new.store.names ≡ long.store.names → ModifiesOnly (λ n. n ≡ name) long new
      → ServesDone (memory_of old spaces) (memory_of new spaces) pending more p (Write f offset line rest) reply.Done
  writes-last home mid long new more b keeps names none files grows long-names gap there-long same puts put-names only =
      written mid new more (takes-then old home mid spaces pending more fits b.first keeps names)
      (replaced-beside old new b.first.cut (replaced-then old home new b.first.cut (put-names ∙ long-names ∙ names) b.replaced))
      (modifies-then old home mid (none-of (BringModifies home name (Ok tt)) old home (brings-none old home f (page offset) far) b.modified) none) files
      (λ extents grown. part_law.grows f offset line extents (memory_of mid spaces) (memory_of long spaces) (memory_of long spaces) (memory_of new spaces) (subst (λ (fs : FilesSeen). f < length fs.files) (sym files) room.there) in-page
      (grows extents grown) (let m = (grows extents grown).memory in file_rule.still f long long spaces m there-long (same m)) puts)
      (only-then (IsGapPage mid f (offset + length line)) (λ n. n ≡ name) (λ n. (n ≡ name) ⊎ IsGapPage old f (offset + length line) n) mid long new
      (λ n g. inr (gap-as mid old f (offset + length line) n (sym files) g)) (λ n is. inl is) gap only)

  -- THE FILE GETS LONGER, and its last page is new: the next frame is freed, the file gets its end, the page is filled there, and gets the bytes.
  pub writes-new : (room freed long filled new : World) (more : ℕ) → KeepsPages old room spaces → room.store.names ≡ old.store.names → ModifiesNone old room → room.files ≡ old.files → residence room.store name ≡ Absent
      → WorldStep room freed spaces stays (is_name (next_name room.store)) → PendsTails room (is_name (next_name room.store)) pending more → IfSome (next_name room.store) (λ (n : PageName). LosesFrame room freed n)
      → ModifiesNone room freed → freed.files ≡ room.files
      → GrowsInto (memory_of freed spaces) (memory_of long spaces) f (offset + length line) (longer_file (offset + length line)) → ModifiesOnly (IsGapPage freed f (offset + length line)) freed long → f < length long.files.files
      → (MemoryFits (memory_of long spaces) → KeepsPages long filled spaces) → ModifiesNone long filled
      → ChangesFile f (memory_of filled spaces) (memory_of new spaces) (with_bytes_in (page offset) (offset % 4096) line) → ModifiesOnly (λ n. n ≡ name) filled new
      → IfSome (next_frame room.store) (λ (frame : ℕ). residence new.store name ≡ Home frame) → ServesDone (memory_of old spaces) (memory_of new spaces) pending more p (Write f offset line rest) reply.Done
  writes-new at freed long filled new more keeps names none files absent frees pends lost freed-none freed-files grows gap there-long fills fill-none puts only home =
      written freed new more (takes-later old at freed spaces pending more fits keeps names files (takes-next at freed spaces pending more frees pends lost))
      (replaced-fill old at new spaces name keeps.memory names absent home) (modifies-then old at freed none freed-none) (freed-files ∙ files)
      (λ extents grown. part_law.grows f offset line extents (memory_of freed spaces) (memory_of long spaces) (memory_of filled spaces) (memory_of new spaces) (subst (λ (fs : FilesSeen). f < length fs.files) (sym (freed-files ∙ files)) room.there) in-page
      (grows extents grown) (let m = (grows extents grown).memory in file_rule.still f long filled spaces m there-long (fills m)) puts)
      (only-then (IsGapPage freed f (offset + length line)) (λ n. n ≡ name) (λ n. (n ≡ name) ⊎ IsGapPage old f (offset + length line) n) freed filled new
      (λ n g. inr (gap-as freed old f (offset + length line) n (sym (freed-files ∙ files)) g)) (λ n is. inl is) (then-none (IsGapPage freed f (offset + length line)) freed long filled gap fill-none) only)

  -- A FRAME FOR IT must be had first: a page is to be pushed.
  pub frame-waits : (new : World) (victim : PageName) (want : Wants) → KeepsPages old new spaces → ModifiesNone old new → new.files ≡ old.files → SameResidence old.store new.store → residence old.store name ≡ Absent
      → IsLastReady old f (offset + length line)
      → ((n : PageName) (frame : ℕ) → IsGapPage old f (offset + length line) n → residence old.store n ≡ Home frame → IsListedFrame new.store frame → IsListedFrame old.store frame)
      → next_frame new.store ≡ None → IsDirtyPage new victim → IsAsked new (plan.Push victim) want
      → ServesWant (memory_of old spaces) (memory_of new spaces) pending pending p (Write f offset line rest) want
  frame-waits new victim want keeps none files stay absent ready lists no-frame dirty asked =
      waits old new spaces pending pending p f (Write f offset line rest) name want (takes-none old new spaces pending keeps) fits refl served files (none-replaced old new) none
      (room-still new files, inl (inside.some, refl))
      (λ m frame w home. elim w.1 [
        | inl part ↦ absurd (let z : Absent ≡ Home frame = sym absent ∙ ap (residence old.store) (sym part.1) ∙ home in cc)
        | inr g ↦
            let gap = gap-as new old f (offset + length line) m (sym files) g.gap in
            (stay m ∙ home, (λ l. gap-unlisted old f (offset + length line) m frame ready gap home (lists m frame gap home l)))
      ])
      (pushes-page new spaces name victim want keeps.memory (stay name ∙ absent) no-frame dirty asked)

  -- THE SAME ANSWER after a step that keeps all pages, names and files.
  pub serves-later : (mid new : World) (more : ℕ) (result : Result Unit Wants) → KeepsPages old mid spaces → mid.store.names ≡ old.store.names → mid.files ≡ old.files → SameResidence old.store mid.store → ModifiesNone old mid
      → ServesReply reply.Done (memory_of mid spaces) (memory_of new spaces) pending more p (Write f offset line rest) result → ServesReply reply.Done (memory_of old spaces) (memory_of new spaces) pending more p (Write f offset line rest) result
  serves-later mid new more (Ok done) keeps names files stay none d = record {
    mid = d.mid;
    first = takes-later old mid d.mid spaces pending more fits keeps names files d.first;
    acts = d.acts;
    replaced = replaced-later old mid new d.first.cut names d.replaced;
    refusal = none-due old spaces p f (Write f offset line rest) fits refl served;
    modified = none-then (λ n. (n ≡ name) ⊎ IsGapPage old f (offset + length line) n) old mid new none (only-as (λ n. (n ≡ name) ⊎ IsGapPage mid f (offset + length line) n) (λ n. (n ≡ name) ⊎ IsGapPage old f (offset + length line) n) mid new
        (λ n may. elim may [ inl own ↦ inl own | inr gap ↦ inr (gap-as mid old f (offset + length line) n (sym files) gap) ]) d.modified);
    clean = d.clean;
  }
  serves-later mid new more (Err (Transfer plan)) keeps names files stay none d = record {
    first = takes-later old mid new spaces pending more fits keeps names files d.first;
    replaced = replaced-later old mid new d.first.cut names d.replaced;
    spaces = d.spaces;
    runs = d.runs;
    fault = d.fault;
    refusal = none-due old spaces p f (Write f offset line rest) fits refl served;
    wanted = λ n frame wants home. d.wanted n frame wants (stay n ∙ home);
    files = λ k at. d.files k at ∙ files;
    modified = modifies-then old mid new none d.modified;
  }
  serves-later mid new more (Err (Seat h)) keeps names files stay none d = λ calls. let b = d calls in record {
    first = takes-later old mid new spaces pending more fits keeps names files b.first;
    replaced = replaced-later old mid new b.first.cut names b.replaced;
    spaces = b.spaces;
    holds = b.holds;
    refusal = λ file. none-due old spaces p f (Write f offset line rest) fits refl served;
    modified = modifies-then old mid new none b.modified;
  }
