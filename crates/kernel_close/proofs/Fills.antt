-- Zeros that are written to blank pages of files: plain files and plain disks.
use Rattle.seg_ops.proofs.page_store.Returning.{other_block as block-other}
use Rattle.seg_ops.proofs.Fills.{clip-zeros}
use Rattle.seg_ops.proofs.Pushed.{infos-set, cleared}
use Rattle.seg_ops.proofs.page_store.NewLemmas.{length-numbers}
use Rattle.std.proofs.Common.{◌≡◌, ◌≢◌, ◌⊎◌, ℕ, zero, suc, ◌<◌, ◌≤◌, Bool, true, false, cond, List, [], ◌∷◌, length, map, Option, Some, None, Result, Ok, Err, refl, sym, ap, ◌∙◌, inl, inr, subst, arith, length-set, get_or-set_same, get_or-set_other}
use Rattle.std.specs.Prelude.{slice_index, slice_index_or, slice_set, IfErr, IsSome, IsTrue, unwrap_or}
use Rattle.std.specs.FinMap as finite
use Rattle.std.proofs.lemmas.Bool.{cases_eq}
use Rattle.std.proofs.lemmas.List.{length-map}
use Rattle.seg_ops.specs.block_device.DiskSeen.{DiskSeen, HasBlocks, Writes, with_block}
use Rattle.seg_ops.specs.block_device.Faults.{IsFaultOf}
use Rattle.seg_ops.specs.block_device.declared.disk_fault.DiskFault.{DiskFault}
use Rattle.seg_ops.specs.core_arena.Bytes.{zeros}
use Rattle.seg_ops.specs.page_hash.declared.PageName.{PageName}
use Rattle.seg_ops.specs.page_store.Bays.{no_disk, numbers_of, block_of, pairs_seen}
use Rattle.seg_ops.specs.page_store.Bytes.{clip}
use Rattle.seg_ops.specs.page_store.Layout.{KeepsPage}
use Rattle.seg_ops.proofs.page_store.TransferLemmas.{is-or-not}
use Rattle.seg_ops.specs.vnode_files.Files.{FilesSeen, vnode_at, with_vnode}
use Rattle.seg_ops.specs.vnode_files.Grow.{page_count}
use Rattle.seg_ops.specs.vnode_files.Layout.{disk_of_file, block_of_page}
use Rattle.seg_ops.specs.vnode_files.Vnode.{VnodeSeen, no_vnode, is_blank, with_blank, IsSoundVnode}
use Rattle.seg_ops.specs.vm_world.FramesFit.{FilesFit}
use Rattle.seg_ops.specs.vm_world.World.{file_blocks, file_name}
use Rattle.seg_ops.proofs.vm_world.PageNames.{keeps-page, below-kept}
use Rattle.seg_ops.proofs.Places.{index-set}
use Rattle.kernel_close.specs.Finish.{IsFilePage, LiesIn, bytes_of_page, disk_at, IsPageBlock, KeepsOtherBlocks, KeepsDisk, KeepDisks, KeepRecords, IsLastFault}
use Rattle.kernel_close.specs.Closing.{AreDisksOf, page_on_disk, WritesBlanks, FillsPages, ZeroedOrStays, ZeroedOrStay, FailsToFill, WritesZeros, no_page}
use Rattle.kernel_close.proofs.Records.{count-kept, disk-kept, block-kept, bytes-kept, page-kept, lies-back, records-refl, records-then, files-fit-kept, keeps-disk-refl, keep-disks-then}

-- a page of a file is one that the file keeps
pub kept-page : (F : FilesSeen) (n : PageName) → FilesFit F → IsFilePage F n → n.page < page_count (vnode_at F n.object).info.extents
kept-page F n fit p = below-kept (vnode_at F n.object) n.page (fit.each n.object p.file) p.below

-- NO TWO PAGES SHARE A BLOCK of a disk
pub one-page : (F : FilesSeen) (m n : PageName) → FilesFit F → IsFilePage F m → IsFilePage F n → disk_of_file F m.object ≡ disk_of_file F n.object → block_of_page F m.object m.page ≡ block_of_page F n.object n.page → m ≡ n
one-page F m n fit p q disk block =
    fit.disjoint.apart m n (file_blocks (vnode_at F m.object)) (file_blocks (vnode_at F n.object)) (block_of_page F n.object n.page)
    (subst (λ (b : ℕ). KeepsPage (map file_blocks F.files) m (file_blocks (vnode_at F m.object)) b) block (keeps-page F m.object m.page p.file (kept-page F m fit p)))
    (keeps-page F n.object n.page q.file (kept-page F n fit q)) disk

within-size : (o : Option ℕ) (block size : ℕ) → ((blocks : ℕ) → o ≡ Some blocks → size ≡ blocks) → IsSome o → block < unwrap_or o 0 → block < size
within-size None block size same some low = absurd (cc)
within-size (Some blocks) block size same some low = subst (λ (n : ℕ). block < n) (sym (same blocks refl)) low

-- a page's block lies on its disk
pub block-within : (F : FilesSeen) (L : List (ℕ × DiskSeen)) (i : ℕ) (n : PageName) → AreDisksOf F L → i < length L → IsFilePage F n → disk_of_file F n.object ≡ (disk_at L i).0 → block_of_page F n.object n.page < (disk_at L i).1.size
block-within F L i n are lt p disk =
    within-size (finite.get F.disks (disk_of_file F n.object)) (block_of_page F n.object n.page) (disk_at L i).1.size
    (λ blocks is. are.sizes i blocks lt (ap (finite.get F.disks) (sym disk) ∙ is))
    (are.fits.set n.object p.file)
    (are.fits.high n (file_blocks (vnode_at F n.object)) (block_of_page F n.object n.page) (keeps-page F n.object n.page p.file (kept-page F n are.fits p)))

-- the number of a disk of a list
pub number-of : (L : List (ℕ × DiskSeen)) (i : ℕ) → slice_index (numbers_of L) i ≡ (disk_at L i).0
number-of [] i = refl
number-of (d ∷ ds) zero = refl
number-of (d ∷ ds) (suc i) = number-of ds i

-- a disk of a list, by its number
pub one-disk : (F : FilesSeen) (L : List (ℕ × DiskSeen)) (i j : ℕ) → AreDisksOf F L → i < length L → j < length L → (disk_at L i).0 ≡ (disk_at L j).0 → i ≡ j
one-disk F L i j are a b same = let n = length-numbers L in are.numbers.apart i j (omega (arith, a, n)) (omega (arith, b, n)) (number-of L i ∙ same ∙ sym (number-of L j))

-- THEY GO ON to be the disks of the files.
pub are-kept : (F G : FilesSeen) (L M : List (ℕ × DiskSeen)) → KeepRecords F G → ((f : ℕ) → f < length G.files → IsSoundVnode (vnode_at G f)) → KeepDisks F L M → AreDisksOf F L → AreDisksOf G M
are-kept F G L M k sound d are =
    let long = d.count in
    let a = length-numbers L in
    let b = length-numbers M in
    let number : (i : ℕ) → i < length L → slice_index (numbers_of M) i ≡ slice_index (numbers_of L) i = λ i lt. number-of M i ∙ (d.each i lt).number ∙ sym (number-of L i) in
    record {
      fits = files-fit-kept F G k sound are.fits;
      numbers = record {
        below = λ i lt. subst (λ (n : ℕ). n < 8) (sym (number i (omega (arith, lt, b, long)))) (are.numbers.below i (omega (arith, lt, a, b, long)));
        apart = λ i j x y e. are.numbers.apart i j (omega (arith, x, a, b, long)) (omega (arith, y, a, b, long)) (sym (number i (omega (arith, x, b, long))) ∙ e ∙ number j (omega (arith, y, b, long)));
      };
      there = λ f lt. let count = count-kept F G k in let at = are.there f (omega (arith, lt, count)) in
          (at.0, (let x = at.1 in omega (arith, x, long)), (d.each at.0 at.1).number ∙ at.2 ∙ sym (disk-kept F G k f));
      sizes = λ i blocks lt is. let x : i < length L = omega (arith, lt, long) in
          (d.each i x).size ∙ are.sizes i blocks x (ap (λ (m : finite.FinMap _ ℕ). finite.get m (disk_at L i).0) (sym k.disks) ∙ ap (finite.get G.disks) (sym (d.each i x).number) ∙ is);
    }

-- a block that is written, or spoiled
some-bytes : {E : Type 0} (old new : DiskSeen) (block : ℕ) (from : List ℕ) (result : Result (Unit {0}) E) → Writes old new block from result → (bytes : List ℕ) × (new.content ≡ with_block old.content block bytes)
some-bytes old new block from (Ok u) w = (from, w.written)
some-bytes old new block from (Err e) w = (w.spoiled.0, w.spoiled.2)

pub other-blocks-written : (F : FilesSeen) (disk block : ℕ) (bytes : List ℕ) (old new : Option (List (List ℕ))) → IsPageBlock F disk block → new ≡ with_block old block bytes → KeepsOtherBlocks F disk old new
other-blocks-written F disk block bytes old new is e = subst (KeepsOtherBlocks F disk old) (sym e) (by_content old)
  where
    by_content : (o : Option (List (List ℕ))) → KeepsOtherBlocks F disk o (with_block o block bytes)
    by_content None = tt
    by_content (Some blocks) = (length-set blocks block bytes, λ b out. get_or-set_other blocks block b bytes [] (λ same. out (subst (IsPageBlock F disk) (sym same) is)))

-- a disk of a list that is another
at-set : (L : List (ℕ × DiskSeen)) (at i : ℕ) (d : ℕ × DiskSeen) → at < length L → (P : ℕ × DiskSeen → Type 0) → (i ≡ at → P d) → (i ≢ at → P (disk_at L i)) → P (disk_at (slice_set L at d) i)
at-set L at i d lt P here there = elim (cases_eq i at) [
  | inl e ↦ subst (λ (j : ℕ). P (disk_at (slice_set L at d) j)) (sym e) (subst P (sym (get_or-set_same L at d (0, no_disk) lt)) (here e))
  | inr ne ↦ subst P (sym (get_or-set_other L at i d (0, no_disk) ne)) (there ne)
]

-- ZEROS IN ONE BLOCK leave every other block, and every other disk.
pub writes-keep : {E : Type 0} (F : FilesSeen) (L M : List (ℕ × DiskSeen)) (number block : ℕ) (result : Result (Unit {0}) E) → WritesZeros L M number block result → IsPageBlock F number block → KeepDisks F L M
writes-keep F L M number block result w is =
    let some = some-bytes (disk_at L w.at).1 w.disk block zeros result w.writes in
    record {
      count = ap length w.new ∙ length-set L w.at (number, w.disk);
      each = λ i lt. subst (λ (l : List (ℕ × DiskSeen)). KeepsDisk F (disk_at L i) (disk_at l i)) (sym w.new)
          (at-set L w.at i (number, w.disk) w.within (λ (d : ℕ × DiskSeen). KeepsDisk F (disk_at L i) d)
          (λ e. record {
            number = sym w.on_disk ∙ ap (λ (k : ℕ). (disk_at L k).0) (sym e);
            size = w.writes.size ∙ ap (λ (k : ℕ). (disk_at L k).1.size) (sym e);
            kind = w.writes.kind ∙ ap (λ (k : ℕ). (disk_at L k).1.kind) (sym e);
            faults = subst (λ (k : ℕ). (disk_at L k).1.faults ≤ w.disk.faults) (sym e) w.writes.cause.later;
            blocks = subst (λ (k : ℕ). KeepsOtherBlocks F (disk_at L k).0 (disk_at L k).1.content w.disk.content) (sym e)
                (other-blocks-written F (disk_at L w.at).0 block some.0 (disk_at L w.at).1.content w.disk.content (subst (λ (n : ℕ). IsPageBlock F n block) (sym w.on_disk) is) some.1);
          })
          (λ ne. keeps-disk-refl F (disk_at L i)));
    }

-- the fault of that transfer
pub last-fault : (L M : List (ℕ × DiskSeen)) (at number : ℕ) (disk : DiskSeen) (fault : DiskFault) → at < length L → (disk_at L at).0 ≡ number → M ≡ slice_set L at (number, disk) → IsFaultOf number (disk_at L at).1 disk fault → IsLastFault L M fault
last-fault L M at number disk fault lt is new f = (
  at,
  lt,
  record {
    disk = f.disk ∙ sym is;
    since = let b = f.before in omega (arith, b);
    after = f.after ∙ sym (ap (λ (l : List (ℕ × DiskSeen)). (disk_at l at).1.faults) new ∙ ap (λ (d : ℕ × DiskSeen). d.1.faults) (get_or-set_same L at (number, disk) _ lt));
  },
)

pub fault-then : (F : FilesSeen) (L M N : List (ℕ × DiskSeen)) (fault : DiskFault) → KeepDisks F L M → IsLastFault M N fault → IsLastFault L N fault
fault-then F L M N fault k f =
    let same = k.count in
    let lt = f.1 in
    let within : f.0 < length L = omega (arith, same, lt) in
    let each = k.each f.0 within in (
      f.0,
      within,
      record {
        disk = f.2.disk ∙ each.number;
        since = let a = each.faults in let b = f.2.since in omega (arith, a, b);
        after = f.2.after;
      },
    )

-- A PAGE THAT ISN'T BLANK any more
abbrev pub with_page_filled : FilesSeen → ℕ → ℕ → FilesSeen
with_page_filled F file page = with_vnode F file (with_blank (vnode_at F file) page false)

pub records-filled : (F : FilesSeen) (file page : ℕ) → KeepRecords F (with_page_filled F file page)
records-filled F file page = record { disks = refl; infos = infos-set F.files file page }

pub sound-filled : (F : FilesSeen) (file page : ℕ) → file < length F.files → ((f : ℕ) → f < length F.files → IsSoundVnode (vnode_at F f)) → (f : ℕ) → f < length (with_page_filled F file page).files → IsSoundVnode (vnode_at (with_page_filled F file page) f)
sound-filled F file page lt sound f low = elim (index-set F.files file (with_blank (vnode_at F file) page false) f no_vnode) [
  | inl same ↦ subst IsSoundVnode (sym same) (sound f (let e = length-set F.files file (with_blank (vnode_at F file) page false) in omega (arith, low, e)))
  | inr at ↦ let s = sound file lt in subst IsSoundVnode (sym at.1) (record { bits = length-set (vnode_at F file).blanks page false ∙ s.bits; pages = s.pages; blocks = s.blocks; within = s.within })
]

pub one-name : (n : PageName) (file page : ℕ) → n.object ≡ file → n.page ≡ page → n ≡ file_name file page
one-name n file page a b = λ i. record { object = a i; page = b i }

pub blank-other : (F : FilesSeen) (file page : ℕ) (n : PageName) → n ≢ file_name file page → is_blank (vnode_at (with_page_filled F file page) n.object) n.page ≡ is_blank (vnode_at F n.object) n.page
blank-other F file page n ne = elim (index-set F.files file (with_blank (vnode_at F file) page false) n.object no_vnode) [
  | inl same ↦ ap (λ (v : VnodeSeen). is_blank v n.page) same
  | inr at ↦ ap (λ (v : VnodeSeen). is_blank v n.page) at.1
      ∙ (elim (index-set (vnode_at F file).blanks page false n.page false) [ inl same ↦ same | inr here ↦ absurd (ne (one-name n file page at.0 here.0)) ])
      ∙ ap (λ (f : ℕ). is_blank (vnode_at F f) n.page) (sym at.0)
]

pub blank-now : (F : FilesSeen) (file page : ℕ) → file < length F.files → is_blank (vnode_at (with_page_filled F file page) file) page ≡ false
blank-now F file page lt = ap (λ (v : VnodeSeen). is_blank v page) (get_or-set_same F.files file (with_blank (vnode_at F file) page false) no_vnode lt) ∙ cleared (vnode_at F file).blanks page

pub block-now : (o : Option (List (List ℕ))) (block size : ℕ) (bytes : List ℕ) → IsSome o → HasBlocks o size → block < size → block_of (with_block o block bytes) block ≡ bytes
block-now None block size bytes some whole lt = absurd (cc)
block-now (Some blocks) block size bytes some whole lt = let e = whole.0 in get_or-set_same blocks block bytes [] (omega (arith, e, lt))

pub stored-same : (F G : FilesSeen) (d e : DiskSeen) (n : PageName) → KeepRecords F G → is_blank (vnode_at G n.object) n.page ≡ is_blank (vnode_at F n.object) n.page
    → block_of e.content (block_of_page F n.object n.page) ≡ block_of d.content (block_of_page F n.object n.page) → page_on_disk G e n ≡ page_on_disk F d n
stored-same F G d e n k blank block =
    ap (λ (b : ℕ). cond (is_blank (vnode_at G n.object) n.page) zeros (clip (bytes_of_page G n) (block_of e.content b))) (block-kept F G k n)
    ∙ (λ i. cond (blank i) zeros (clip (bytes-kept F G k n i) (block i)))

-- A WRITE IN ONE BLOCK leaves the block of every page but the one.
other-block-stays : (F : FilesSeen) (L M : List (ℕ × DiskSeen)) (file page at : ℕ) (disk : DiskSeen) (bytes : List ℕ) → AreDisksOf F L → IsFilePage F (file_name file page) → at < length L → (disk_at L at).0 ≡ disk_of_file F file
    → M ≡ slice_set L at (disk_of_file F file, disk) → disk.content ≡ with_block (disk_at L at).1.content (block_of_page F file page) bytes
    → (i : ℕ) (n : PageName) → n ≢ file_name file page → IsFilePage F n → disk_of_file F n.object ≡ (disk_at L i).0
    → block_of (disk_at M i).1.content (block_of_page F n.object n.page) ≡ block_of (disk_at L i).1.content (block_of_page F n.object n.page)
other-block-stays F L M file page at disk bytes are p within number new written i n ne q on =
    subst (λ (l : List (ℕ × DiskSeen)). block_of (disk_at l i).1.content (block_of_page F n.object n.page) ≡ block_of (disk_at L i).1.content (block_of_page F n.object n.page)) (sym new)
    (at-set L at i (disk_of_file F file, disk) within (λ (d : ℕ × DiskSeen). block_of d.1.content (block_of_page F n.object n.page) ≡ block_of (disk_at L i).1.content (block_of_page F n.object n.page))
    (λ e.
    let far : block_of_page F n.object n.page ≢ block_of_page F file page = λ same. ne (one-page F n (file_name file page) are.fits q p (on ∙ ap (λ (j : ℕ). (disk_at L j).0) e ∙ number) same) in
    ap (λ (o : Option (List (List ℕ))). block_of o (block_of_page F n.object n.page)) written ∙ block-other (disk_at L at).1.content (block_of_page F file page) (block_of_page F n.object n.page) bytes far
    ∙ ap (λ (j : ℕ). block_of (disk_at L j).1.content (block_of_page F n.object n.page)) (sym e))
    (λ apart. refl))

-- A BLANK PAGE GETS ZEROS: each place has what it had.
module _ (F : FilesSeen) (L M : List (ℕ × DiskSeen)) (file page : ℕ) (are : AreDisksOf F L) (p : IsFilePage F (file_name file page)) (whole : (i : ℕ) → HasBlocks (disk_at L i).1.content (disk_at L i).1.size)
    (blank : is_blank (vnode_at F file) page ≡ true) (at : ℕ) (within : at < length L) (number : (disk_at L at).0 ≡ disk_of_file F file) (disk : DiskSeen)
    (new : M ≡ slice_set L at (disk_of_file F file, disk)) (written : disk.content ≡ with_block (disk_at L at).1.content (block_of_page F file page) zeros) where
  abbrev G : FilesSeen
  G = with_page_filled F file page

  zeroed : (i : ℕ) → i ≡ at → IsSome (disk_at L i).1.content → block_of (disk_at M i).1.content (block_of_page F file page) ≡ zeros
  zeroed i e told =
      let some : IsSome (disk_at L at).1.content = subst (λ (j : ℕ). IsSome (disk_at L j).1.content) e told in
      let disk_is : disk_at M i ≡ (disk_of_file F file, disk) = ap (disk_at M) e ∙ ap (λ (l : List (ℕ × DiskSeen)). disk_at l at) new ∙ get_or-set_same L at (disk_of_file F file, disk) _ within in
      ap (λ (d : ℕ × DiskSeen). block_of d.1.content (block_of_page F file page)) disk_is
      ∙ ap (λ (o : Option (List (List ℕ))). block_of o (block_of_page F file page)) written
      ∙ block-now (disk_at L at).1.content (block_of_page F file page) (disk_at L at).1.size zeros some (whole at) (block-within F L at (file_name file page) are within p (sym number))

  here : (i : ℕ) → i ≡ at → IsSome (disk_at L i).1.content → page_on_disk G (disk_at M i).1 (file_name file page) ≡ page_on_disk F (disk_at L i).1 (file_name file page)
  here i e told =
      let k = records-filled F file page in
      let low : bytes_of_page F (file_name file page) ≤ 4096 = omega arith in
      ap (λ (b : Bool). cond b zeros (clip (bytes_of_page G (file_name file page)) (block_of (disk_at M i).1.content (block_of_page G file page)))) (blank-now F file page p.file)
      ∙ ap (λ (b : ℕ). clip (bytes_of_page G (file_name file page)) (block_of (disk_at M i).1.content b)) (block-kept F G k (file_name file page))
      ∙ ap (clip (bytes_of_page G (file_name file page))) (zeroed i e told)
      ∙ ap (λ (v : ℕ). clip v zeros) (bytes-kept F G k (file_name file page))
      ∙ clip-zeros (bytes_of_page F (file_name file page)) low
      ∙ sym (ap (λ (b : Bool). cond b zeros (clip (bytes_of_page F (file_name file page)) (block_of (disk_at L i).1.content (block_of_page F file page)))) blank)

  beside : (i : ℕ) (n : PageName) → n ≢ file_name file page → IsFilePage F n → disk_of_file F n.object ≡ (disk_at L i).0
      → block_of (disk_at M i).1.content (block_of_page F n.object n.page) ≡ block_of (disk_at L i).1.content (block_of_page F n.object n.page)
  beside = other-block-stays F L M file page at disk zeros are p within number new written

  there : (i : ℕ) (n : PageName) → n ≢ file_name file page → IsFilePage F n → disk_of_file F n.object ≡ (disk_at L i).0 → page_on_disk G (disk_at M i).1 n ≡ page_on_disk F (disk_at L i).1 n
  there i n ne q on = stored-same F G (disk_at L i).1 (disk_at M i).1 n (records-filled F file page) (blank-other F file page n ne) (beside i n ne q on)

  its-place : (i : ℕ) (n : PageName) → n ≡ file_name file page → i < length L → disk_of_file F n.object ≡ (disk_at L i).0 → i ≡ at
  its-place i n same lt on = one-disk F L i at are lt within (sym on ∙ ap (λ (m : PageName). disk_of_file F m.object) same ∙ sym number)

  pub page-zeroed : ZeroedOrStay F L M no_page
  page-zeroed i n lt q on told = elim (is-or-not n (file_name file page)) [
    | inl same ↦ inr (inl (subst (λ (m : PageName). IsTrue (is_blank (vnode_at F m.object) m.page) × (block_of (disk_at M i).1.content (block_of_page F m.object m.page) ≡ zeros)) (sym same)
        (blank, zeroed i (its-place i n same lt on) told)))
    | inr ne ↦ inr (inr (beside i n ne q on))
  ]

  pub page-filled : FillsPages F L G M (λ (n : PageName). n ≡ file_name file page)
  page-filled = record {
    stored = λ i n lt q on told. elim (is-or-not n (file_name file page)) [
      | inl same ↦ subst (λ (m : PageName). page_on_disk G (disk_at M i).1 m ≡ page_on_disk F (disk_at L i).1 m) (sym same) (here i (its-place i n same lt on) told)
      | inr ne ↦ there i n ne q on
    ];
    filled = λ n q or. elim (is-or-not n (file_name file page)) [
      | inl same ↦ subst (λ (m : PageName). is_blank (vnode_at G m.object) m.page ≡ false) (sym same) (blank-now F file page p.file)
      | inr ne ↦ elim or [ inl clear ↦ blank-other F file page n ne ∙ clear | inr same ↦ absurd (ne same) ]
    ];
  }

-- zeros that were written, to a block that may be harmed, or with the page marked as filled
pub zeros-written : {E : Type 0} (F : FilesSeen) (L M : List (ℕ × DiskSeen)) (file page : ℕ) (result : Result (Unit {0}) E) → AreDisksOf F L → IsFilePage F (file_name file page)
    → WritesZeros L M (disk_of_file F file) (block_of_page F file page) result → WritesBlanks F L F M
zeros-written F L M file page result are p w =
    let keeps = writes-keep F L M (disk_of_file F file) (block_of_page F file page) result w (record { name = file_name file page; page = p; on_disk = refl; in_block = refl }) in
    record { records = records-refl F; disks = keeps; are = are-kept F F L M (records-refl F) are.fits.each keeps are }

pub zeros-filled : {E : Type 0} (F : FilesSeen) (L M : List (ℕ × DiskSeen)) (file page : ℕ) (result : Result (Unit {0}) E) → AreDisksOf F L → IsFilePage F (file_name file page)
    → WritesZeros L M (disk_of_file F file) (block_of_page F file page) result → WritesBlanks F L (with_page_filled F file page) M
zeros-filled F L M file page result are p w =
    let keeps = writes-keep F L M (disk_of_file F file) (block_of_page F file page) result w (record { name = file_name file page; page = p; on_disk = refl; in_block = refl }) in
    record { records = records-filled F file page; disks = keeps; are = are-kept F (with_page_filled F file page) L M (records-filled F file page) (sound-filled F file page p.file are.fits.each) keeps are }

-- a write of zeros that failed: its fault, and the block that it spoiled
pub zeros-failed : {E : Type 0} (F : FilesSeen) (L M : List (ℕ × DiskSeen)) (file page : ℕ) (result : Result (Unit {0}) E) (fault : DiskFault) → AreDisksOf F L → IsFilePage F (file_name file page)
    → WritesZeros L M (disk_of_file F file) (block_of_page F file page) result → fault.disk ≡ disk_of_file F file → IsLastFault L M fault → FailsToFill F L M fault
zeros-failed F L M file page result fault are p w on last =
    let some = some-bytes (disk_at L w.at).1 w.disk (block_of_page F file page) zeros result w.writes in
    record {
      cause = last;
      block = block_of_page F file page;
      others = λ i n lt q at told. elim (is-or-not n (file_name file page)) [
        | inl same ↦ inl (ap (λ (m : PageName). disk_of_file F m.object) same ∙ sym on, ap (λ (m : PageName). block_of_page F m.object m.page) same)
        | inr ne ↦ inr (inr (other-block-stays F L M file page w.at w.disk some.0 are p w.within w.on_disk w.new some.1 i n ne q at))
      ];
    }

-- ONE AFTER ANOTHER
pub writes-then : (F G H : FilesSeen) (L M N : List (ℕ × DiskSeen)) → WritesBlanks F L G M → WritesBlanks G M H N → WritesBlanks F L H N
writes-then F G H L M N p q = record { records = records-then F G H p.records q.records; disks = keep-disks-then F G L M N p.records p.disks q.disks; are = q.are }

told-kept : (F : FilesSeen) (disk : ℕ) (a b : Option (List (List ℕ))) → KeepsOtherBlocks F disk a b → IsSome a → IsSome b
told-kept F disk None b k some = absurd (cc)
told-kept F disk (Some a) None k some = absurd k
told-kept F disk (Some a) (Some b) k some = refl

pub fills-then : (F G H : FilesSeen) (L M N : List (ℕ × DiskSeen)) (P Q R : PageName → Type 0) → WritesBlanks F L G M → FillsPages F L G M P → FillsPages G M H N Q
    → ((n : PageName) → IsFilePage F n → R n → P n ⊎ Q n) → FillsPages F L H N R
fills-then F G H L M N P Q R w p q split = record {
  stored = λ i n lt page on told.
      let long = w.disks.count in
      let each = w.disks.each i lt in
      q.stored i n (omega (arith, lt, long)) (page-kept F G w.records n page) (disk-kept F G w.records n.object ∙ on ∙ sym each.number)
      (told-kept F (disk_at L i).0 (disk_at L i).1.content (disk_at M i).1.content each.blocks told)
      ∙ p.stored i n lt page on told;
  filled = λ n page or.
      let on : IsFilePage G n = page-kept F G w.records n page in
      elim or [
        | inl clear ↦ q.filled n on (inl (p.filled n page (inl clear)))
        | inr is ↦ elim (split n page is) [ inl first ↦ q.filled n on (inl (p.filled n page (inr first))) | inr second ↦ q.filled n on (inr second) ]
      ];
}

-- what came to a page's block in two steps: a page that is blank was blank before
blank-before : (b c : Bool) → (b ≡ false → c ≡ false) → c ≡ true → b ≡ true
blank-before true c keeps is = refl
blank-before false c keeps is = absurd (let z : false ≡ true = sym (keeps refl) ∙ is in cc)

zeroed-both : (F G : FilesSeen) (a b c : DiskSeen) (n : PageName) → KeepRecords F G → (is_blank (vnode_at F n.object) n.page ≡ false → is_blank (vnode_at G n.object) n.page ≡ false)
    → ZeroedOrStays F a b n → ZeroedOrStays G b c n → ZeroedOrStays F a c n
zeroed-both F G a b c n k clear first second = elim second [
  | inl blanked ↦ inl (blank-before (is_blank (vnode_at F n.object) n.page) (is_blank (vnode_at G n.object) n.page) clear blanked.0, subst (λ (m : ℕ). block_of c.content m ≡ zeros) (block-kept F G k n) blanked.1)
  | inr stays ↦
      let here : block_of c.content (block_of_page F n.object n.page) ≡ block_of b.content (block_of_page F n.object n.page) = subst (λ (m : ℕ). block_of c.content m ≡ block_of b.content m) (block-kept F G k n) stays in
      elim first [ inl blanked ↦ inl (blanked.0, here ∙ blanked.1) | inr still ↦ inr (here ∙ still) ]
]

pub zeroed-then : (F G : FilesSeen) (L M N : List (ℕ × DiskSeen)) (R P Q : PageName → Type 0) → WritesBlanks F L G M → FillsPages F L G M R → ZeroedOrStay F L M no_page → ZeroedOrStay G M N P
    → ((n : PageName) → P n → Q n) → ZeroedOrStay F L N Q
zeroed-then F G L M N R P Q w fills first second more i n lt page on told =
    let long = w.disks.count in
    let each = w.disks.each i lt in
    elim (second i n (omega (arith, lt, long)) (page-kept F G w.records n page) (disk-kept F G w.records n.object ∙ on ∙ sym each.number)
    (told-kept F (disk_at L i).0 (disk_at L i).1.content (disk_at M i).1.content each.blocks told)) [
      | inl spoiled ↦ inl (more n spoiled)
      | inr now ↦ elim (first i n lt page on told) [
        | inl none ↦ absurd none
        | inr was ↦ inr (zeroed-both F G (disk_at L i).1 (disk_at M i).1 (disk_at N i).1 n w.records (λ clear. fills.filled n page (inl clear)) was now)
      ]
    ]

pub fails-then : (F G : FilesSeen) (L M N : List (ℕ × DiskSeen)) (R : PageName → Type 0) (fault : DiskFault) → WritesBlanks F L G M → FillsPages F L G M R → ZeroedOrStay F L M no_page → FailsToFill G M N fault → FailsToFill F L N fault
fails-then F G L M N R fault w fills first f = record {
  cause = fault-then F L M N fault w.disks f.cause;
  block = f.block;
  others = zeroed-then F G L M N R (LiesIn G fault.disk f.block) (LiesIn F fault.disk f.block) w fills first f.others (λ n. lies-back F G fault.disk f.block n w.records);
}

-- disks that tell are whole
pub whole-seen : {D : Type 0} (seen : D → DiskSeen) → ((d : D) → HasBlocks (seen d).content (seen d).size) → (xs : List (ℕ × D)) (i : ℕ) → HasBlocks (disk_at (pairs_seen seen xs) i).1.content (disk_at (pairs_seen seen xs) i).1.size
whole-seen seen law [] i = tt
whole-seen seen law (x ∷ xs) zero = law x.1
whole-seen seen law (x ∷ xs) (suc i) = whole-seen seen law xs i

-- a disk of a list, by what is seen of it
pub number-seen : {D : Type 0} (seen : D → DiskSeen) (xs : List (ℕ × D)) (i : ℕ) (d : ℕ × D) → i < length xs → (disk_at (pairs_seen seen xs) i).0 ≡ (slice_index_or xs i d).0
number-seen seen [] i d lt = absurd (omega (arith, lt))
number-seen seen (x ∷ xs) zero d lt = refl
number-seen seen (x ∷ xs) (suc i) d lt = number-seen seen xs i d (omega (arith, lt))

pub disk-seen : {D : Type 0} (seen : D → DiskSeen) (xs : List (ℕ × D)) (i : ℕ) (d : ℕ × D) → i < length xs → (disk_at (pairs_seen seen xs) i).1 ≡ seen (slice_index_or xs i d).1
disk-seen seen [] i d lt = absurd (omega (arith, lt))
disk-seen seen (x ∷ xs) zero d lt = refl
disk-seen seen (x ∷ xs) (suc i) d lt = disk-seen seen xs i d (omega (arith, lt))

pub length-seen : {D : Type 0} (seen : D → DiskSeen) (xs : List (ℕ × D)) → length (pairs_seen seen xs) ≡ length xs
length-seen seen xs = length-map xs (λ disk. (disk.0, seen disk.1))

pub pairs-set : {D : Type 0} (seen : D → DiskSeen) (xs : List (ℕ × D)) (i : ℕ) (x : ℕ × D) → pairs_seen seen (slice_set xs i x) ≡ slice_set (pairs_seen seen xs) i (x.0, seen x.1)
pairs-set seen [] i x = refl
pairs-set seen (y ∷ ys) zero x = refl
pairs-set seen (y ∷ ys) (suc i) x = ap (λ (l : List (ℕ × DiskSeen)). (y.0, seen y.1) ∷ l) (pairs-set seen ys i x)

pub err-then : {T E : Type 0} (r : Result T E) (P Q : E → Type 0) → ((e : E) → P e → Q e) → IfErr r P → IfErr r Q
err-then (Ok x) P Q then h = tt
err-then (Err e) P Q then h = then e h
