-- Marks that are true of the disks which a kernel leaves as it is closed.
use Rattle.std.proofs.Common.{◌≡◌, ◌≢◌, ◌⊎◌, ℕ, zero, suc, ◌<◌, ◌≤◌, ◌+◌, true, false, List, [], ◌∷◌, length, min, map, Option, Some, None, refl, sym, ap, ◌∙◌, inl, inr, subst, arith}
use Rattle.std.specs.Prelude.{slice_get, slice_index, slice_index_or, IfSome, IsSomeAnd, option_map, option_and_then}
use Rattle.std.specs.Option.{option_map_or}
use Rattle.std.proofs.lemmas.Bool.{cases_eq, cases_lt}
use Rattle.std.specs.List.{Contains}
use Rattle.std.proofs.lemmas.List.{append-nil, length-map}
use Rattle.std.proofs.lemmas.Option.{none-some, slice_get-map, slice_get_within}
use Rattle.seg_ops.specs.block_device.DiskSeen.{DiskSeen}
use Rattle.seg_ops.specs.block_device.Counts.{HasRisen}
use Rattle.seg_ops.specs.block_device.declared.disk_fault.DiskFault.{DiskFault}
use Rattle.seg_ops.specs.page_hash.declared.PageName.{PageName}
use Rattle.seg_ops.specs.page_store.Bays.{BaySeen, bay_at, bay_of, block_of, disk_in, home, missing}
use Rattle.seg_ops.specs.page_store.Bytes.{clip}
use Rattle.seg_ops.specs.page_store.Layout.{FileBlocks, KeepsPage}
use Rattle.seg_ops.specs.page_store.Notes.{no_notes}
use Rattle.seg_ops.specs.page_store.Value.{content_in_bay, content_of}
use Rattle.seg_ops.specs.vm_types.Pages.{bytes_before}
use Rattle.seg_ops.specs.vm_types.declared.call.Entry.{Entry}
use Rattle.seg_ops.specs.vnode_files.Files.{FilesSeen, vnode_at}
use Rattle.seg_ops.specs.vnode_files.Layout.{disk_of_file, block_of_page}
use Rattle.seg_ops.specs.vnode_files.Vnode.{VnodeSeen, page_blocks}
use Rattle.seg_ops.specs.vnode_files.declared.vnode.FileInfo.{FileInfo}
use Rattle.seg_ops.specs.flat_model.Counted.{top_count}
use Rattle.seg_ops.specs.flat_model.Flat.{Flat}
use Rattle.seg_ops.specs.flat_model.History.{replay}
use Rattle.seg_ops.specs.flat_model.Words.{pages_in}
use Rattle.mark_laws.specs.disk_marks.declared.marks.Mark.TheVariants.{Held, Blank, Unsure}
use Rattle.mark_laws.specs.disk_marks.declared.marks.MarkRow.{MarkRow}
use Rattle.mark_laws.specs.disk_marks.Marks.{MarksSeen, HasRow, mark_row, unused_row}
use Rattle.mark_laws.specs.disk_marks.Changes.{row_spoiled}
use Rattle.mark_laws.specs.MarksFit.{BlockFits, FailureFits, MarksFit, OfBlock}
use Rattle.mark_laws.specs.AccountLaws.{AccountsFor, HasItsPage, IsUnsure}
use Rattle.mark_laws.specs.Pages.{ArePageOf, HasPage, after_first, bytes_there, disk_place, page_there}
use Rattle.mark_laws.specs.Syncs.{HasSynced, ReachesDisk, entries_in}
use Rattle.mark_laws.proofs.Along.{before-some}
use Rattle.mark_laws.proofs.Words.{all-entries, held-inj, unsure-inj}
use Rattle.seg_ops.specs.vm_world.DiskPlaces.{faults_in}
use Rattle.seg_ops.specs.vm_world.Events.{moment_of}
use Rattle.seg_ops.specs.vm_world.FlatMemory.{flat_memory}
use Rattle.seg_ops.specs.vm_world.HistoryFits.{HistoryFits}
use Rattle.seg_ops.specs.vm_world.Opening.{no_seats}
use Rattle.seg_ops.specs.vm_world.Pages.{page_value}
use Rattle.seg_ops.specs.vm_world.State.{KernelState}
use Rattle.seg_ops.specs.vm_world.StateFits.{StateFits}
use Rattle.seg_ops.specs.vm_world.World.{World, AllTell, file_blocks}
use Rattle.seg_ops.proofs.vm_world.FlatWhole.{some-inj}
use Rattle.seg_ops.proofs.vm_world.PageNames.{file-apart, file-there, index-of}
use Rattle.seg_ops.proofs.vm_world.Places.{end-now, kept-place, kept-there, page-now, places-apart}
use Rattle.kernel_close.specs.Closing.{AreDisksOf, IsSpoiled, HasPageAndZeros, IsWrittenOrKept, WriteAllPages}
use Rattle.kernel_close.specs.Finish.{IsFilePage, IsLastFault, IsPageBlock, KeepDisks, KeepsOtherBlocks, bytes_of_page, disk_at, disks_of}
use Rattle.kernel_close.specs.LeftMarks.{IsRowLeft, LeavesMarks, contents_by_number, disk_by_number, faults_by_number, moment_left}
use Rattle.kernel_close.proofs.Fills.{kept-page, one-disk}
use Rattle.kernel_close.proofs.Finishes.{are-disks, disk-in-order, home-of, missing-or-home, still}
use Rattle.kernel_close.proofs.PageBlocks.{paged-or-not}
use Rattle.kernel_close.proofs.MarkTables.{AreFound, found-both, found-some, marks_by_block, row-changed, row-either, row-kept, same-or-not}

-- The row of a block that a push or zeros came to.
abbrev row_held : ℕ → MarkRow
row_held j = record { mark = Held j; pushed = true }

-- THE BLOCK OF WHICH A TRANSFER FAILED, where one did
abbrev IsThere : Option DiskFault → ℕ → ℕ → ℕ → Type 0
IsThere fault spoiled disk block = IsSomeAnd fault (λ f. (f.disk ≡ disk) × (spoiled ≡ block))

abbrev IsRowSpoiled : ℕ → Option DiskFault → ℕ → ℕ → ℕ → MarkRow → Type 0
IsRowSpoiled j fault spoiled disk block now = IsSomeAnd fault (λ f. (f.disk ≡ disk) × (spoiled ≡ block) × (now ≡ row_spoiled j f.before f.after))

there-or-not : (fault : Option DiskFault) (spoiled disk block : ℕ) → IsThere fault spoiled disk block ⊎ (¬ IsThere fault spoiled disk block)
there-or-not None spoiled disk block = inr (λ none. none)
there-or-not (Some f) spoiled disk block = elim (cases_eq f.disk disk) [
  | inl on ↦ elim (cases_eq spoiled block) [ inl in_block ↦ inl (on, in_block) | inr far ↦ inr (λ is. far is.1) ]
  | inr far ↦ inr (λ is. far is.0)
]

row-there : (j : ℕ) (fault : Option DiskFault) (spoiled disk block : ℕ) → IsThere fault spoiled disk block → (now : MarkRow) × IsRowSpoiled j fault spoiled disk block now
row-there j None spoiled disk block none = absurd none
row-there j (Some f) spoiled disk block is = (row_spoiled j f.before f.after, (is.0, is.1, refl))

lies-there : (files : FilesSeen) (fault : Option DiskFault) (spoiled disk block : ℕ) (name : PageName) → disk_of_file files name.object ≡ disk → block_of_page files name.object name.page ≡ block
    → IsSpoiled files fault spoiled name → IsThere fault spoiled disk block
lies-there files None spoiled disk block name on in_block none = none
lies-there files (Some f) spoiled disk block name on in_block lies = (sym lies.0 ∙ on, sym lies.1 ∙ in_block)

-- what its row says
spoiled-entries : (j : ℕ) (fault : Option DiskFault) (spoiled disk block : ℕ) (now : MarkRow) → IsRowSpoiled j fault spoiled disk block now → entries_in now.mark ≡ j
spoiled-entries j None spoiled disk block now none = absurd none
spoiled-entries j (Some f) spoiled disk block now is = ap (λ (row : MarkRow). entries_in row.mark) is.2

spoiled-unpushed : (j : ℕ) (fault : Option DiskFault) (spoiled disk block : ℕ) (now : MarkRow) → IsRowSpoiled j fault spoiled disk block now → now.pushed ≡ false
spoiled-unpushed j None spoiled disk block now none = absurd none
spoiled-unpushed j (Some f) spoiled disk block now is = ap (λ (row : MarkRow). row.pushed) is.2

spoiled-unheld : (j : ℕ) (fault : Option DiskFault) (spoiled disk block : ℕ) (now : MarkRow) → IsRowSpoiled j fault spoiled disk block now → (k : ℕ) → now.mark ≢ Held k
spoiled-unheld j None spoiled disk block now none k held = absurd none
spoiled-unheld j (Some f) spoiled disk block now is k held = let z : Unsure j f.before f.after ≡ Held k = sym (ap (λ (row : MarkRow). row.mark) is.2) ∙ held in cc

spoiled-unblank : (j : ℕ) (fault : Option DiskFault) (spoiled disk block : ℕ) (now : MarkRow) → IsRowSpoiled j fault spoiled disk block now → (k : ℕ) → now.mark ≢ Blank k
spoiled-unblank j None spoiled disk block now none k blank = absurd none
spoiled-unblank j (Some f) spoiled disk block now is k blank = let z : Unsure j f.before f.after ≡ Blank k = sym (ap (λ (row : MarkRow). row.mark) is.2) ∙ blank in cc

-- a count that rose by a failure
rise : (before after : ℕ) → HasRisen before after → before ≤ top_count → after ≤ top_count → (before < after) ⊎ ((before ≡ top_count) × (after ≡ top_count))
rise before after risen low high = elim (cases_lt before top_count) [
  | inl lt ↦ inl (omega (arith, risen, lt))
  | inr top ↦ inr (omega (arith, low, top), omega (arith, low, top, risen, high))
]

-- blocks of no page
other-same : (F : FilesSeen) (disk block : ℕ) (a b : Option (List (List ℕ))) → KeepsOtherBlocks F disk a b → ¬ IsPageBlock F disk block → block_of b block ≡ block_of a block
other-same F disk block None None k out = refl
other-same F disk block None (Some b) k out = absurd k
other-same F disk block (Some a) None k out = absurd k
other-same F disk block (Some a) (Some b) k out = k.1 block out

-- THE KERNEL AS IT WAS CLOSED
module _ (opening : Flat) (s : KernelState) (fit : StateFits opening s no_seats) (N : List (ℕ × DiskSeen)) (fault : Option DiskFault) (tell : AllTell s.memory.world no_notes)
    (keeps : KeepDisks s.memory.world.files (disks_of s.memory.world) N) (written : WriteAllPages s.memory.world (disks_of s.memory.world) N fault)
    (last : IfSome fault (IsLastFault (disks_of s.memory.world) N)) (within : IfSome fault (λ f. (f.before ≤ top_count) × (f.after ≤ top_count))) where
  abbrev w : World
  w = s.memory.world

  abbrev H : List Entry
  H = s.history

  abbrev O : List (ℕ × DiskSeen)
  O = disks_of w

  history : HistoryFits opening H s.pending (flat_memory s.memory s.born no_notes)
  history = fit.replays tell

  marks : MarksFit opening H (content_of w.store no_notes) no_notes s.marks
  marks = fit.marks tell

  are : AreDisksOf w.files O
  are = are-disks w s.memory.spaces fit.memory fit.notes

  found : (number : ℕ) → AreFound O N number ⊎ ((disk_by_number O number ≡ None) × (disk_by_number N number ≡ None))
  found = found-both O N keeps.count (λ i lt. (keeps.each i lt).number)

  -- a disk that is listed is home
  home-listed : (i : ℕ) → i < length O → bay_at w.store.bays (disk_at O i).0 ≡ home (disk_at O i).1
  home-listed i lt =
      let long = length-map {B = ℕ × DiskSeen} w.store.order (λ (number : ℕ). (number, disk_in (bay_at w.store.bays number))) in
      let low : i < length w.store.order = omega (arith, lt, long) in
      let number : ℕ = slice_index w.store.order i in
      subst (λ (d : ℕ × DiskSeen). bay_at w.store.bays d.0 ≡ home d.1) (sym (disk-in-order w.store.bays w.store.order i low))
      (home-of (bay_at w.store.bays number) (still w fit.notes number) (fit.memory.frames.sound.order.there i low))

  -- THE PAGE of a place
  module _ (name : PageName) (disk block : ℕ) (at : disk_place (replay opening H) name ≡ Some (disk, block)) where
    abbrev info : FileInfo
    info = (vnode_at w.files name.object).info

    place : (f : FileBlocks) × KeepsPage (map file_blocks w.files.files) name f block × (f.disk ≡ disk) × (f ≡ file_blocks (vnode_at w.files name.object)) × (name.object < length w.files.files)
    place = kept-there s.memory s.born no_notes opening H s.pending history name disk block at

    on-disk : disk_of_file w.files name.object ≡ disk
    on-disk = ap (λ (f : FileBlocks). f.disk) (sym place.3) ∙ place.2

    in-block : block_of_page w.files name.object name.page ≡ block
    in-block = index-of (page_blocks info.extents) name.page 0 block (ap (λ (f : FileBlocks). slice_get f.blocks name.page) (sym place.3) ∙ place.1.place)

    ends : bytes_there (replay opening H) name ≡ bytes_of_page w.files name
    ends = end-now s.memory s.born no_notes opening H s.pending history name
        ∙ ap (λ (o : Option FileInfo). option_map_or (λ (it : FileInfo). bytes_before it.length name.page) o 0)
        (slice_get-map (λ (v : VnodeSeen). v.info) w.files.files name.object ∙ ap (option_map (λ (v : VnodeSeen). v.info)) (file-there w.files name.object place.4))

    -- its disk is listed
    listed : disk_by_number O disk ≢ None
    listed = let i = are.there name.object place.4 in found-some O i.0 disk i.1 (i.2 ∙ on-disk)

    -- a block that has it up to the file's end, with zeros after it, has it as all entries leave it
    page-held : (bytes : List ℕ) → name.page < pages_in info.length → HasPageAndZeros w name bytes → BlockFits opening H name (row_held (length H)) bytes
    page-held bytes below has =
        let far = file-apart w.files name.object fit.memory.files place.4 in
        let now : page_there (replay opening H) name ≡ clip (bytes_there (replay opening H) name) (page_value w no_notes name) = page-now s.memory s.born no_notes opening H s.pending history name place.4 far below in
        let same : clip (bytes_there (replay opening H) name) bytes ≡ page_there (replay opening H) name = ap (λ (n : ℕ). clip n bytes) ends ∙ has.page ∙ sym (now ∙ ap (λ (n : ℕ). clip n (page_value w no_notes name)) ends) in
        let rest : bytes ≡ clip (bytes_there (replay opening H) name) bytes = has.rest ∙ sym (ap (λ (n : ℕ). clip n bytes) ends) in
        record {
          held = λ j is. subst (λ (F : Flat). HasPage F name true bytes) (sym (all-entries opening H) ∙ ap (after_first opening H) (held-inj (length H) j is)) (record { same = same; rest = λ pushed. rest ∙ same });
          zeros = λ pushed. rest;
        }

  -- a page of a file has its place
  page-place : (disk block : ℕ) (p : IsPageBlock w.files disk block) → disk_place (replay opening H) p.name ≡ Some (disk, block)
  page-place disk block p = kept-place s.memory s.born no_notes opening H s.pending history p.name p.page.file (kept-page w.files p.name fit.memory.files p.page) ∙ (λ i. Some (p.on_disk i, p.in_block i))

  -- WHAT A BLOCK HAD AND HAS
  abbrev had : ℕ → ℕ → List ℕ
  had disk block = block_of (contents_by_number O disk) block

  abbrev has : ℕ → ℕ → List ℕ
  has disk block = block_of (contents_by_number N disk) block

  abbrev told-in : ℕ → Option DiskSeen → List ℕ
  told-in block o = block_of (option_and_then (λ (d : DiskSeen). d.content) o) block

  unpaged-same : (disk block : ℕ) → ¬ IsPageBlock w.files disk block → has disk block ≡ had disk block
  unpaged-same disk block out = elim (found disk) [
    | inl both ↦
        let k = keeps.each both.place both.within in
        ap (told-in block) both.new
        ∙ other-same w.files (disk_at O both.place).0 block (disk_at O both.place).1.content (disk_at N both.place).1.content k.blocks (subst (λ (n : ℕ). ¬ IsPageBlock w.files n block) (sym both.number) out)
        ∙ sym (ap (told-in block) both.old)
    | inr none ↦ ap (told-in block) none.1 ∙ sym (ap (told-in block) none.0)
  ]

  -- HOW A ROW IS LEFT, by what the block has
  abbrev IsLeft : ℕ → ℕ → MarkRow → MarkRow → Type 0
  IsLeft disk block was now =
      ((has disk block ≡ had disk block) × (now ≡ was))
      ⊎ ((has disk block ≢ had disk block) × (¬ IsThere fault written.0 disk block) × (now ≡ row_held (length H)))
      ⊎ ((has disk block ≢ had disk block) × IsRowSpoiled (length H) fault written.0 disk block now)

  choose : (disk block : ℕ) (was : MarkRow) → (now : MarkRow) × IsLeft disk block was now
  choose disk block was = elim (same-or-not (has disk block) (had disk block)) [
    | inl same ↦ (was, inl (same, refl))
    | inr changed ↦ elim (there-or-not fault written.0 disk block) [
      | inl there ↦ let row = row-there (length H) fault written.0 disk block there in (row.0, inr (inr (changed, row.1)))
      | inr far ↦ (row_held (length H), inr (inl (changed, far, refl)))
    ]
  ]

  abbrev left-row : ℕ → ℕ → MarkRow → MarkRow
  left-row disk block was = (choose disk block was).0

  abbrev left-marks : MarksSeen
  left-marks = marks_by_block left-row s.marks

  abbrev row-was : ℕ → ℕ → MarkRow
  row-was disk block = mark_row s.marks disk block

  abbrev row-now : ℕ → ℕ → MarkRow
  row-now disk block = mark_row left-marks disk block

  is-left : (disk block : ℕ) → HasRow s.marks disk block → IsLeft disk block (row-was disk block) (row-now disk block)
  is-left disk block there = subst (IsLeft disk block (row-was disk block)) (sym (row-changed left-row s.marks disk block there)) (choose disk block (row-was disk block)).1

  -- a row that stays may be one that isn't there
  either-left : (disk block : ℕ) → IsLeft disk block (row-was disk block) (row-now disk block) ⊎ ((row-was disk block ≡ unused_row) × (row-now disk block ≡ unused_row))
  either-left disk block = elim (row-either left-row s.marks disk block) [ inl there ↦ inl (is-left disk block there) | inr none ↦ inr none ]

  page-left : (name : PageName) (disk block : ℕ) → disk_place (replay opening H) name ≡ Some (disk, block) → IsLeft disk block (row-was disk block) (row-now disk block)
  page-left name disk block at = is-left disk block (marks.there name disk block at)

  -- a block that changed is that of a page, so its mark named no entry that wasn't made
  changed-early : (disk block : ℕ) → has disk block ≢ had disk block → entries_in (row-was disk block).mark ≤ length H
  changed-early disk block changed = elim (cases_lt (length H) (entries_in (row-was disk block).mark)) [
    | inl late ↦ absurd (changed (unpaged-same disk block (λ p. let early = marks.early p.name disk block (page-place disk block p) in omega (arith, late, early))))
    | inr early ↦ early
  ]

  -- THE BLOCK OF A PAGE has what its row says
  module _ (name : PageName) (disk block : ℕ) (at : disk_place (replay opening H) name ≡ Some (disk, block)) (both : AreFound O N disk) (old new : List (List ℕ))
      (is_old : (disk_at O both.place).1.content ≡ Some old) (is_new : (disk_at N both.place).1.content ≡ Some new) where
    had-old : had disk block ≡ slice_index_or old block []
    had-old = ap (told-in block) both.old ∙ ap (λ (o : Option (List (List ℕ))). block_of o block) is_old

    has-new : has disk block ≡ slice_index_or new block []
    has-new = ap (told-in block) both.new ∙ ap (λ (o : Option (List (List ℕ))). block_of o block) is_new

    before : BlockFits opening H name (row-was disk block) (slice_index_or old block [])
    before = subst (λ (o : Option (List (List ℕ))). IfSome o (λ blocks. BlockFits opening H name (row-was disk block) (slice_index_or blocks block [])))
        (ap (λ (n : ℕ). content_of w.store no_notes n) (sym both.number) ∙ ap (λ (b : BaySeen). content_in_bay b no_notes) (home-listed both.place both.within) ∙ is_old)
        (marks.blocks name disk block at (λ out. absurd (none-some out.1 out.2)))

    pages : IsFilePage w.files name → IsSpoiled w.files fault written.0 name ⊎ IsWrittenOrKept w old new name
    pages page =
        let all = written.1 both.place both.within in
        let on = on-disk name disk block at ∙ sym both.number in
        subst (λ (o : Option (List (List ℕ))). IfSome o (λ now. (n : PageName) → IsFilePage w.files n → disk_of_file w.files n.object ≡ (disk_at O both.place).0 → IsSpoiled w.files fault written.0 n ⊎ IsWrittenOrKept w old now n)) is_new
        (subst (λ (o : Option (List (List ℕ))). IfSome o (λ was. IfSome (disk_at N both.place).1.content (λ now. (n : PageName) → IsFilePage w.files n → disk_of_file w.files n.object ≡ (disk_at O both.place).0
        → IsSpoiled w.files fault written.0 n ⊎ IsWrittenOrKept w was now n))) is_old all) name page on

    -- where it changed, and isn't the one that failed
    changed-held : has disk block ≢ had disk block → ¬ IsThere fault written.0 disk block → BlockFits opening H name (row_held (length H)) (slice_index_or new block [])
    changed-held changed far = elim (cases_lt name.page (pages_in (vnode_at w.files name.object).info.length)) [
      | inl below ↦ elim (pages (record { file = (place name disk block at).4; below = below })) [
        | inl spoiled ↦ absurd (far (lies-there w.files fault written.0 disk block name (on-disk name disk block at) (in-block name disk block at) spoiled))
        | inr (inl comes) ↦ page-held name disk block at (slice_index_or new block []) below (subst (λ (n : ℕ). HasPageAndZeros w name (slice_index_or new n [])) (in-block name disk block at) comes)
        | inr (inr same) ↦ absurd (changed (has-new ∙ subst (λ (n : ℕ). slice_index_or new n [] ≡ slice_index_or old n []) (in-block name disk block at) same ∙ sym had-old))
      ]
      | inr past ↦ absurd (changed (unpaged-same disk block (λ p.
          let one = places-apart s.memory s.born no_notes opening H s.pending history fit.memory.files p.name name disk block (page-place disk block p) at in
          let below : name.page < pages_in (vnode_at w.files name.object).info.length = subst (λ (n : PageName). n.page < pages_in (vnode_at w.files n.object).info.length) one p.page.below in
          omega (arith, past, below))))
    ]

    told-fits : BlockFits opening H name (row-now disk block) (slice_index_or new block [])
    told-fits = elim (page-left name disk block at) [
      | inl stays ↦ subst (λ (row : MarkRow). BlockFits opening H name row (slice_index_or new block [])) (sym stays.1) (subst (BlockFits opening H name (row-was disk block)) (sym had-old ∙ sym stays.0 ∙ has-new) before)
      | inr (inl held) ↦ subst (λ (row : MarkRow). BlockFits opening H name row (slice_index_or new block [])) (sym held.2) (changed-held held.0 held.1)
      | inr (inr spoiled) ↦ record {
        held = λ j is. absurd (spoiled-unheld (length H) fault written.0 disk block (row-now disk block) spoiled.1 j is);
        zeros = λ pushed. absurd (let z : true ≡ false = sym pushed ∙ spoiled-unpushed (length H) fault written.0 disk block (row-now disk block) spoiled.1 in cc);
      }
    ]

  page-fits : (name : PageName) (disk block : ℕ) → disk_place (replay opening H) name ≡ Some (disk, block) → OfBlock (contents_by_number N) disk block (BlockFits opening H name (row-now disk block))
  page-fits name disk block at = elim (found disk) [
    | inl both ↦
        subst (λ (o : Option DiskSeen). IfSome (option_and_then (λ (d : DiskSeen). d.content) o) (λ blocks. BlockFits opening H name (row-now disk block) (slice_index_or blocks block []))) (sym both.new)
        (by_content both (disk_at O both.place).1.content (disk_at N both.place).1.content refl refl (keeps.each both.place both.within).blocks)
    | inr none ↦ absurd (listed name disk block at none.0)
  ]
    where
      by_content : (both : AreFound O N disk) (a b : Option (List (List ℕ))) → (disk_at O both.place).1.content ≡ a → (disk_at N both.place).1.content ≡ b → KeepsOtherBlocks w.files (disk_at O both.place).0 a b
          → IfSome b (λ blocks. BlockFits opening H name (row-now disk block) (slice_index_or blocks block []))
      by_content both a None is_old is_new k = tt
      by_content both None (Some new) is_old is_new k = absurd k
      by_content both (Some old) (Some new) is_old is_new k = told-fits name disk block at both old new is_old is_new

  -- THE COUNTS that rows name
  module _ (disk block j before after : ℕ) (is : (row-now disk block).mark ≡ Unsure j before after) where
    unused-not : row-now disk block ≢ unused_row
    unused-not unused = let z : Unsure j before after ≡ Blank 0 = sym is ∙ ap (λ (row : MarkRow). row.mark) unused in cc

    -- that of a disk that is listed
    kept-failure : (both : AreFound O N disk) → FailureFits (λ d. faults_in (bay_at w.store.bays d) no_notes) disk before after → FailureFits (faults_by_number N) disk before after
    kept-failure both f =
        let faults : (disk_at O both.place).1.faults ≡ f.count = some-inj (disk_at O both.place).1.faults f.count
        (sym (ap (λ (b : BaySeen). faults_in b no_notes) (home-listed both.place both.within)) ∙ ap (λ (n : ℕ). faults_in (bay_at w.store.bays n) no_notes) both.number ∙ f.counted) in
        let more = (keeps.each both.place both.within).faults in
        let enough = f.enough in
        record {
          risen = f.risen;
          count = (disk_at N both.place).1.faults;
          counted = ap (option_map (λ (d : DiskSeen). d.faults)) both.new;
          enough = omega (arith, enough, faults, more);
        }

    -- that of the transfer which failed
    new-failure : (fault : Option DiskFault) (spoiled : ℕ) → IfSome fault (IsLastFault O N) → IfSome fault (λ f. (f.before ≤ top_count) × (f.after ≤ top_count)) → IsRowSpoiled (length H) fault spoiled disk block (row-now disk block)
        → FailureFits (faults_by_number N) disk before after
    new-failure None spoiled last within none = absurd none
    new-failure (Some f) spoiled last within row =
        let same = unsure-inj (length H) f.before f.after j before after (sym (ap (λ (row : MarkRow). row.mark) row.2) ∙ is) in
        let on : (disk_at O last.0).0 ≡ disk = sym last.2.disk ∙ row.0 in
        subst (λ (n : ℕ). FailureFits (faults_by_number N) disk n after) same.1 (subst (λ (n : ℕ). FailureFits (faults_by_number N) disk f.before n) same.2 (elim (found disk) [
          | inl both ↦
              let one : both.place ≡ last.0 = one-disk w.files O both.place last.0 are both.within last.1 (both.number ∙ sym on) in
              let ends : f.after ≡ (disk_at N both.place).1.faults = last.2.after ∙ ap (λ (i : ℕ). (disk_at N i).1.faults) (sym one) in
              record {
                risen = rise f.before f.after f.risen within.0 within.1;
                count = (disk_at N both.place).1.faults;
                counted = ap (option_map (λ (d : DiskSeen). d.faults)) both.new;
                enough = omega (arith, ends);
              }
          | inr none ↦ absurd (found-some O last.0 disk last.1 on none.0)
        ]))

    left-failure : FailureFits (faults_by_number N) disk before after
    left-failure = elim (either-left disk block) [
      | inl (inl stays) ↦
          let was : (row-was disk block).mark ≡ Unsure j before after = ap (λ (row : MarkRow). row.mark) (sym stays.1) ∙ is in
          elim (found disk) [
            | inl both ↦ kept-failure both (fit.failures disk block j before after was)
            | inr none ↦ absurd (unused-not (stays.1 ∙ marks.free disk block (λ name at. listed name disk block at none.0)))
          ]
      | inl (inr (inl held)) ↦ absurd (let z : Held (length H) ≡ Unsure j before after = sym (ap (λ (row : MarkRow). row.mark) held.2) ∙ is in cc)
      | inl (inr (inr spoiled)) ↦ new-failure fault written.0 last within spoiled.1
      | inr none ↦ absurd (unused-not none.1)
    ]

  -- HOW FAR SYNCS REACHED
  page-synced : (k b : ℕ) (name : PageName) (disk block : ℕ) → HasSynced opening H k b name → disk_place (replay opening H) name ≡ Some (disk, block) → ReachesDisk k b (row-now disk block).mark
  page-synced k b name disk block synced at =
      let reached = marks.synced k b name disk block synced at in
      let since = reached.since in
      let early = marks.early name disk block at in
      elim (page-left name disk block at) [
        | inl stays ↦ subst (λ (row : MarkRow). ReachesDisk k b row.mark) (sym stays.1) reached
        | inr (inl held) ↦ subst (λ (row : MarkRow). ReachesDisk k b row.mark) (sym held.2)
            (record { since = omega (arith, since, early); later = λ j before after is. absurd (let z : Held (length H) ≡ Unsure j before after = is in cc) })
        | inr (inr spoiled) ↦ by_fault fault written.0 spoiled.1 (omega (arith, since, early))
      ]
    where
      by_fault : (fault : Option DiskFault) (at : ℕ) → IsRowSpoiled (length H) fault at disk block (row-now disk block) → b ≤ length H → ReachesDisk k b (row-now disk block).mark
      by_fault None at none low = absurd none
      by_fault (Some f) at row low = subst (λ (row : MarkRow). ReachesDisk k b row.mark) (sym row.2)
          (record { since = low; later = λ j before after is. subst (λ (n : ℕ). k < n) (unsure-inj (length H) f.before f.after j before after is).0 (slice_get_within H k synced.entry synced.at) })

  page-early : (name : PageName) (disk block : ℕ) → disk_place (replay opening H) name ≡ Some (disk, block) → entries_in (row-now disk block).mark ≤ length H
  page-early name disk block at = elim (page-left name disk block at) [
    | inl stays ↦ let early = marks.early name disk block at in let same = ap (λ (row : MarkRow). entries_in row.mark) stays.1 in omega (arith, early, same)
    | inr (inl held) ↦ let same : entries_in (row-now disk block).mark ≡ length H = ap (λ (row : MarkRow). entries_in row.mark) held.2 in omega (arith, same)
    | inr (inr spoiled) ↦ let same = spoiled-entries (length H) fault written.0 disk block (row-now disk block) spoiled.1 in omega (arith, same)
  ]

  page-blank : (name : PageName) (disk block j : ℕ) → disk_place (replay opening H) name ≡ Some (disk, block) → (row-now disk block).mark ≡ Blank j → (row-was disk block).mark ≡ Blank j
  page-blank name disk block j at is = elim (page-left name disk block at) [
    | inl stays ↦ ap (λ (row : MarkRow). row.mark) (sym stays.1) ∙ is
    | inr (inl held) ↦ absurd (let z : Held (length H) ≡ Blank j = sym (ap (λ (row : MarkRow). row.mark) held.2) ∙ is in cc)
    | inr (inr spoiled) ↦ absurd (spoiled-unblank (length H) fault written.0 disk block (row-now disk block) spoiled.1 j is)
  ]

  free-left : (disk block : ℕ) → ((name : PageName) → disk_place (replay opening H) name ≢ Some (disk, block)) → row-now disk block ≡ unused_row
  free-left disk block free =
      let same = unpaged-same disk block (λ p. free p.name (page-place disk block p)) in
      elim (either-left disk block) [
        | inl (inl stays) ↦ stays.1 ∙ marks.free disk block free
        | inl (inr (inl held)) ↦ absurd (held.0 same)
        | inl (inr (inr spoiled)) ↦ absurd (spoiled.0 same)
        | inr none ↦ none.1
      ]

  left-rows : (disk block : ℕ) → IsRowLeft (length H) fault written.0 disk block (row-was disk block) (row-now disk block)
  left-rows disk block = elim (either-left disk block) [
    | inl (inl stays) ↦ inl stays.1
    | inl (inr (inl held)) ↦ inr (inl held.2)
    | inl (inr (inr spoiled)) ↦ inr (inr spoiled.1)
    | inr none ↦ inl (none.1 ∙ sym none.0)
  ]

  left-later : (disk block : ℕ) → entries_in (row-was disk block).mark ≤ entries_in (row-now disk block).mark
  left-later disk block = elim (either-left disk block) [
    | inl (inl stays) ↦ let same = ap (λ (row : MarkRow). entries_in row.mark) stays.1 in omega (arith, same)
    | inl (inr (inl held)) ↦ let low = changed-early disk block held.0 in let same : entries_in (row-now disk block).mark ≡ length H = ap (λ (row : MarkRow). entries_in row.mark) held.2 in omega (arith, low, same)
    | inl (inr (inr spoiled)) ↦ let low = changed-early disk block spoiled.0 in let same = spoiled-entries (length H) fault written.0 disk block (row-now disk block) spoiled.1 in omega (arith, low, same)
    | inr none ↦ let same = ap (λ (row : MarkRow). entries_in row.mark) (none.1 ∙ sym none.0) in omega (arith, same)
  ]

  -- THE DISKS AS THEY WERE, by their numbers
  bay-missing : (number : ℕ) → number < 8 → disk_by_number O number ≡ None → bay_at w.store.bays number ≡ missing
  bay-missing number low none = elim (missing-or-home (bay_at w.store.bays number) (still w fit.notes number)) [
    | inl gone ↦ gone
    | inr here ↦
        let at = fit.memory.frames.sound.order.all number low (λ gone. let z : home (disk_in (bay_at w.store.bays number)) ≡ missing = sym here ∙ gone in cc) in
        let long = length-map {B = ℕ × DiskSeen} w.store.order (λ (n : ℕ). (n, disk_in (bay_at w.store.bays n))) in
        let lt = at.1 in
        absurd (found-some O at.0 number (omega (arith, lt, long)) (ap (λ (d : ℕ × DiskSeen). d.0) (disk-in-order w.store.bays w.store.order at.0 at.1) ∙ at.2) none)
  ]

  bay-listed : (number : ℕ) → number < 8 → bay_at w.store.bays number ≡ bay_of (disk_by_number O number)
  bay-listed number low = elim (found number) [
    | inl both ↦ ap (bay_at w.store.bays) (sym both.number) ∙ home-listed both.place both.within ∙ sym (ap bay_of both.old)
    | inr none ↦ bay-missing number low none.0 ∙ sym (ap bay_of none.0)
  ]

  block-was : (disk block : ℕ) → disk < 8 → block_of (content_of w.store no_notes disk) block ≡ had disk block
  block-was disk block low = ap (λ (b : BaySeen). block_of (content_in_bay b no_notes) block) (bay-listed disk low) ∙ by_disk (disk_by_number O disk)
    where
      by_disk : (o : Option DiskSeen) → block_of (content_in_bay (bay_of o) no_notes) block ≡ told-in block o
      by_disk None = refl
      by_disk (Some d) = refl

  count-was : (disk : ℕ) → disk < 8 → faults_in (bay_at w.store.bays disk) no_notes ≡ faults_by_number O disk
  count-was disk low = ap (λ (b : BaySeen). faults_in b no_notes) (bay-listed disk low) ∙ by_disk (disk_by_number O disk)
    where
      by_disk : (o : Option DiskSeen) → faults_in (bay_of o) no_notes ≡ option_map (λ (d : DiskSeen). d.faults) o
      by_disk None = refl
      by_disk (Some d) = refl

  -- its counts: no fewer
  counts-left : (disk before : ℕ) → disk < 8 → faults_in (bay_at w.store.bays disk) no_notes ≡ Some before → (after : ℕ) × (faults_by_number N disk ≡ Some after) × (before ≤ after)
  counts-left disk before low was = elim (found disk) [
    | inl both ↦
        let same = some-inj (disk_at O both.place).1.faults before (sym (ap (option_map (λ (d : DiskSeen). d.faults)) both.old) ∙ sym (count-was disk low) ∙ was) in
        let more = (keeps.each both.place both.within).faults in
        ((disk_at N both.place).1.faults, ap (option_map (λ (d : DiskSeen). d.faults)) both.new, omega (arith, same, more))
    | inr none ↦ absurd (let z : ◌≡◌ {A = Option ℕ} None (Some before) = sym (ap (option_map (λ (d : DiskSeen). d.faults)) none.0) ∙ sym (count-was disk low) ∙ was in cc)
  ]

  -- THE BLOCKS OF A DISK of which a transfer failed: one, where it is that of a page
  record FailedOn (disk : ℕ) : Type 0 where
    blocks : List ℕ
    few : (before after : ℕ) → disk < 8 → faults_in (bay_at w.store.bays disk) no_notes ≡ Some before → faults_by_number N disk ≡ Some after → min (length blocks + before) top_count ≤ after
    paged : (block : ℕ) → Contains blocks block → IsPageBlock w.files disk block
    there : (block : ℕ) → IsThere fault written.0 disk block → IsPageBlock w.files disk block → Contains blocks block

  none-failed : (disk : ℕ) → ((block : ℕ) → IsThere fault written.0 disk block → IsPageBlock w.files disk block → ⊥) → FailedOn disk
  none-failed disk none = record {
    blocks = [];
    few = λ before after low was is. let c = counts-left disk before low was in let same = some-inj c.0 after (sym c.1 ∙ is) in let le = c.2 in omega (arith, same, le);
    paged = λ block c. absurd (let lt = c.1 in omega (arith, lt));
    there = λ block at page. absurd (none block at page);
  }

  one-failed : (f : DiskFault) (disk spoiled : ℕ) → IsLastFault O N f → f.disk ≡ disk → (before after : ℕ) → disk < 8 → faults_in (bay_at w.store.bays disk) no_notes ≡ Some before → faults_by_number N disk ≡ Some after
      → min (length (spoiled ∷ []) + before) top_count ≤ after
  one-failed f disk spoiled last on before after low was is = elim (found disk) [
    | inl both ↦
        let listed : (disk_at O last.0).0 ≡ disk = sym last.2.disk ∙ on in
        let one : both.place ≡ last.0 = one-disk w.files O both.place last.0 are both.within last.1 (both.number ∙ sym listed) in
        let old = some-inj (disk_at O both.place).1.faults before (sym (ap (option_map (λ (d : DiskSeen). d.faults)) both.old) ∙ sym (count-was disk low) ∙ was) in
        let new = some-inj (disk_at N both.place).1.faults after (sym (ap (option_map (λ (d : DiskSeen). d.faults)) both.new) ∙ is) in
        let first : (disk_at O last.0).1.faults ≡ (disk_at O both.place).1.faults = ap (λ (i : ℕ). (disk_at O i).1.faults) (sym one) in
        let ends : f.after ≡ (disk_at N both.place).1.faults = last.2.after ∙ ap (λ (i : ℕ). (disk_at N i).1.faults) (sym one) in
        let since = last.2.since in
        let risen = f.risen in
        omega (arith, old, new, first, ends, since, risen)
    | inr none ↦ absurd (let z : ◌≡◌ {A = Option ℕ} None (Some after) = sym (ap (option_map (λ (d : DiskSeen). d.faults)) none.1) ∙ is in cc)
  ]

  there-fault : (fault : Option DiskFault) (spoiled disk block : ℕ) → IsThere fault spoiled disk block → (f : DiskFault) × (fault ≡ Some f) × (f.disk ≡ disk) × (spoiled ≡ block)
  there-fault None spoiled disk block none = absurd none
  there-fault (Some f) spoiled disk block there = (f, refl, there.0, there.1)

  failed-on : (disk : ℕ) → FailedOn disk
  failed-on disk = elim (there-or-not fault written.0 disk written.0) [
    | inr far ↦ none-failed disk (λ block there page. let t = there-fault fault written.0 disk block there in far (subst (IsThere fault written.0 disk) (sym t.3) there))
    | inl there ↦ elim (paged-or-not w.files disk written.0) [
      | inr out ↦ none-failed disk (λ block at page. let t = there-fault fault written.0 disk block at in out (subst (IsPageBlock w.files disk) (sym t.3) page))
      | inl page ↦
          let t = there-fault fault written.0 disk written.0 there in
          record {
            blocks = written.0 ∷ [];
            few = one-failed t.0 disk written.0 (subst (λ (o : Option DiskFault). IfSome o (IsLastFault O N)) t.1 last) t.2;
            paged = λ block c. subst (IsPageBlock w.files disk) (only block c.0 c.1 c.2) page;
            there = λ block at page. let is = there-fault fault written.0 disk block at in (0, omega arith, is.3);
          }
    ]
  ]
    where
      only : (block k : ℕ) → k < 1 → slice_index_or (written.0 ∷ []) k block ≡ block → written.0 ≡ block
      only block zero lt same = same
      only block (suc k) lt same = absurd (omega (arith, lt))

  -- A BLOCK THAT CHANGED, and isn't that of the transfer which failed, has its page
  changed-page : (disk block : ℕ) (p : IsPageBlock w.files disk block) → has disk block ≢ had disk block → ¬ IsThere fault written.0 disk block → ArePageOf opening H p.name (has disk block)
  changed-page disk block p changed far = elim (found disk) [
    | inl both ↦ by_content both (disk_at O both.place).1.content (disk_at N both.place).1.content refl refl (keeps.each both.place both.within).blocks
    | inr none ↦ absurd (listed p.name disk block (page-place disk block p) none.0)
  ]
    where
      by_content : (both : AreFound O N disk) (a b : Option (List (List ℕ))) → (disk_at O both.place).1.content ≡ a → (disk_at N both.place).1.content ≡ b → KeepsOtherBlocks w.files (disk_at O both.place).0 a b
          → ArePageOf opening H p.name (has disk block)
      by_content both None None is_old is_new k = absurd (changed (ap (told-in block) both.new ∙ ap (λ (o : Option (List (List ℕ))). block_of o block) (is_new ∙ sym is_old) ∙ sym (ap (told-in block) both.old)))
      by_content both None (Some new) is_old is_new k = absurd k
      by_content both (Some old) None is_old is_new k = absurd k
      by_content both (Some old) (Some new) is_old is_new k =
          let at = page-place disk block p in
          subst (ArePageOf opening H p.name) (sym (has-new p.name disk block at both old new is_old is_new)) (record {
            entries = length H;
            made = omega arith;
            inside = subst (λ (F : Flat). 0 < bytes_there F p.name) (sym (all-entries opening H))
                (subst (λ (n : ℕ). 0 < n) (sym (ends p.name disk block at)) (before-some (vnode_at w.files p.name.object).info.length p.name.page p.page.below));
            same = ((changed-held p.name disk block at both old new is_old is_new changed far).held (length H) refl).rest refl;
          })

  -- EACH BLOCK IS ACCOUNTED FOR
  each-left : (disk block : ℕ) → disk < 8 → ¬ Contains (failed-on disk).blocks block
      → (has disk block ≡ block_of (content_of w.store no_notes disk) block) ⊎ HasItsPage opening (moment_left s N left-marks) disk block
  each-left disk block low none = elim (same-or-not (has disk block) (had disk block)) [
    | inl same ↦ inl (same ∙ sym (block-was disk block low))
    | inr changed ↦ elim (paged-or-not w.files disk block) [
      | inr out ↦ absurd (changed (unpaged-same disk block out))
      | inl p ↦ elim (there-or-not fault written.0 disk block) [
        | inl there ↦ absurd (none ((failed-on disk).there block there p))
        | inr far ↦ inr (p.name, page-place disk block p, changed-page disk block p changed far)
      ]
    ]
  ]

  spoiled-there : (fault : Option DiskFault) (spoiled disk block : ℕ) (now : MarkRow) → IsRowSpoiled (length H) fault spoiled disk block now → IsThere fault spoiled disk block
  spoiled-there None spoiled disk block now none = none
  spoiled-there (Some f) spoiled disk block now is = (is.0, is.1)

  unsure-left : (disk block : ℕ) → IsUnsure left-marks disk block → Contains (failed-on disk).blocks block ⊎ IsUnsure s.marks disk block
  unsure-left disk block is = elim (either-left disk block) [
    | inl (inl stays) ↦ inr (is.0, is.1, is.2, ap (λ (row : MarkRow). row.mark) (sym stays.1) ∙ is.3)
    | inl (inr (inl held)) ↦ absurd (let z : Held (length H) ≡ Unsure is.0 is.1 is.2 = sym (ap (λ (row : MarkRow). row.mark) held.2) ∙ is.3 in cc)
    | inl (inr (inr spoiled)) ↦ elim (paged-or-not w.files disk block) [
      | inr out ↦ absurd (spoiled.0 (unpaged-same disk block out))
      | inl p ↦ inl ((failed-on disk).there block (spoiled-there fault written.0 disk block (row-now disk block) spoiled.1) p)
    ]
    | inr none ↦ absurd (let z : Unsure is.0 is.1 is.2 ≡ Blank 0 = sym is.3 ∙ ap (λ (row : MarkRow). row.mark) none.1 in cc)
  ]

  left-accounts : AccountsFor opening (moment_of s no_notes) (moment_left s N left-marks)
  left-accounts = record {
    grown = ([], sym (append-nil H));
    counts = counts-left;
    failed = λ disk. (failed-on disk).blocks;
    few = λ disk. (failed-on disk).few;
    kept = λ disk block c. let p = (failed-on disk).paged block c in (p.name, page-place disk block p);
    each = each-left;
    unsure = unsure-left;
  }

  -- MARKS ARE LEFT.
  pub marks-left : LeavesMarks opening s N fault
  marks-left = record {
    marks = left-marks;
    fits = record {
      kept = marks.kept;
      rows = λ disk block lt. row-kept left-row s.marks disk block (marks.rows disk block lt);
      free = free-left;
      there = λ name disk block at. row-kept left-row s.marks disk block (marks.there name disk block at);
      early = page-early;
      blocks = λ name disk block at out. page-fits name disk block at;
      blanks = λ name disk block j at is. marks.blanks name disk block j at (page-blank name disk block j at is);
      places = λ seat note out. absurd (none-some note out);
      sent = λ seat note out. absurd (none-some note out);
      origin = λ seat note out. absurd (none-some note out);
      out = marks.out;
      inside = marks.inside;
      synced = page-synced;
      later = marks.later;
    };
    failures = left-failure;
    spoiled = written.0;
    rows = left-rows;
    later = left-later;
    accounts = left-accounts;
  }
