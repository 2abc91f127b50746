-- The marks at the opening.
use Rattle.std.proofs.Common.{◌≡◌, ◌≢◌, ℕ, zero, suc, ◌<◌, ◌≤◌, ◌+◌, ◌-◌, ◌*◌, min, Bool, true, false, cond, List, [], ◌∷◌, ◌++◌, length, map, take, replicate, Option, Some, None, refl, sym, ap, ◌∙◌, inl, inr, subst, arith}
use Rattle.std.specs.Prelude.{not, slice_index_or, slice_get, option_map, unwrap_or, IfSome, IsSome}
use Rattle.std.specs.FinMap as finite
use Rattle.std.specs.Option.{option_map_or}
use Rattle.std.proofs.lemmas.Option.{slice_get-map, slice_get_within}
use Rattle.flat_model.specs.vm_types.Pages.{pages_in, bytes_before}
use Rattle.flat_model.specs.vm_types.declared.call.Entry.{Entry}
use Rattle.page_store.specs.core_arena.Bytes.{zeros}
use Rattle.page_store.specs.page_hash.Names.{find}
use Rattle.page_store.specs.page_hash.declared.PageName.{PageName}
use Rattle.page_store.specs.Bays.{block_of}
use Rattle.page_store.specs.Bytes.{clip}
use Rattle.page_store.specs.Layout.{FileBlocks, page_place}
use Rattle.page_store.specs.Notes.{no_notes}
use Rattle.page_store.specs.Value.{content_of, value, value_in, backing_value}
use Rattle.page_store.specs.declared.place.Place.{Place}
use Rattle.flat_model.specs.vnode_files.declared.vnode.FileInfo.{FileInfo}
use Rattle.flat_model.specs.vnode_files.Files.{vnode_at, block_count}
use Rattle.flat_model.specs.vnode_files.Grow.{page_count}
use Rattle.flat_model.specs.vnode_files.Layout.{disk_of_file, block_of_page}
use Rattle.flat_model.specs.vnode_files.Vnode.{VnodeSeen, page_blocks, is_blank}
use Rattle.flat_model.proofs.vnode_files.BlockLemmas.{length-page_blocks}
use Rattle.flat_model.proofs.vnode_files.LayoutLaws.{file_layout_law}
use Rattle.flat_model.specs.Flat.{File, Flat}
use Rattle.vm_world.specs.FlatMemory.{Memory, flat_memory, file_with_pages}
use Rattle.vm_world.specs.HistoryFits.{HistoryFits}
use Rattle.vm_world.specs.Opening.{IsOpening, IsOpeningMemory}
use Rattle.vm_world.specs.Pages.{page_value, contents_of}
use Rattle.vm_world.specs.State.{KernelState}
use Rattle.vm_world.specs.World.{world_table, is_unpushed, file_blocks, AllTell}
use Rattle.mark_laws.specs.disk_marks.declared.marks.Mark.TheVariants.{Held, Blank}
use Rattle.mark_laws.specs.disk_marks.declared.marks.MarkRow.{MarkRow}
use Rattle.mark_laws.specs.disk_marks.declared.marks.Pushing.{Pushing}
use Rattle.mark_laws.specs.disk_marks.Marks.{MarksSeen, HasRow, unused_row, mark_row}
use Rattle.mark_laws.specs.Pages.{after_first, bytes_there, file_page, page_there, disk_place, HasPage}
use Rattle.mark_laws.specs.FileLaws.{HaveBlocks, KeepsPageBlocks}
use Rattle.mark_laws.specs.Syncs.{entries_in}
use Rattle.mark_laws.specs.MarksFit.{BlockFits, MarksFit}
use Rattle.mark_laws.proofs.Rows.{told-all}
use Rattle.mark_laws.proofs.Words.{few-bytes, held-inj, blank-inj}
use Rattle.vm_world.specs.Marks.{AreOpeningMarks, opening_row}
use Rattle.page_store.proofs.page_hash.NameLaws.{find-at}
use Rattle.vm_world.proofs.FilePages.{file-in, length-pages_from}
use Rattle.vm_world.proofs.FlatWhole.{some-inj}
use Rattle.vm_world.proofs.Openings.{opening-pages}
use Rattle.std.proofs.lemmas.Bool.{cases_lt}
use Rattle.std.proofs.lemmas.List.{length-append, length-take, length-replicate}
use Rattle.vm_world.proofs.PageNames.{file-page, file-place, file-there, file-apart, info-there, not-slot}
use Rattle.vm_world.proofs.Places.{kept-there, kept-place, end-now, page-now}
use Rattle.page_store.proofs.EndLemmas.{clip-twice}

-- zeros that end with the file are zeros
pub zeros-there : (F : Flat) (name : PageName) → clip (bytes_there F name) zeros ≡ zeros
zeros-there F name =
    let low = few-bytes F name in
    let e : bytes_there F name + (4096 - bytes_there F name) ≡ 4096 = omega (arith, low) in
    ap (λ (k : ℕ). take (bytes_there F name) (replicate {A = ℕ} k 0) ++ replicate (4096 - bytes_there F name) 0) (sym e)
    ∙ both (bytes_there F name) (4096 - bytes_there F name) ∙ ap (λ (k : ℕ). replicate {A = ℕ} k 0) e
  where
    both : (a b : ℕ) → take a (replicate {A = ℕ} (a + b) 0) ++ replicate b 0 ≡ replicate (a + b) 0
    both zero b = let e : b ≡ 0 + b = omega arith in ap (λ (k : ℕ). replicate {A = ℕ} k 0) e
    both (suc a) b = let e : suc a + b ≡ suc (a + b) = omega arith in
        subst (λ (k : ℕ). take (suc a) (replicate {A = ℕ} k 0) ++ replicate b 0 ≡ replicate k 0) (sym e) (ap (λ (l : List ℕ). 0 ∷ l) (both a b))

-- no push is out
none-out : (n k : ℕ) → slice_index_or (replicate {A = Option Pushing} n None) k None ≡ None
none-out zero k = refl
none-out (suc n) zero = refl
none-out (suc n) (suc k) = none-out n k

-- what no frame holds has the value that its disk has
value-backing_value : (m : Memory) (parents : List ℕ) → IsOpeningMemory m parents → (name : PageName) → value m.world.store no_notes (world_table m.world) name ≡ backing_value m.world.store no_notes (world_table m.world name)
value-backing_value m parents o name = by_found (find m.world.store.names name) refl
  where
    by_found : (f : Option ℕ) → find m.world.store.names name ≡ f → value_in f m.world.store no_notes (world_table m.world name) ≡ backing_value m.world.store no_notes (world_table m.world name)
    by_found None e = refl
    by_found (Some frame) e = absurd (let z : ◌≡◌ {A = Option PageName} None (Some name) = sym (o.store.unnamed frame) ∙ find-at m.world.store.names name frame e in cc)

module _ (s : KernelState) (m : MarksSeen) (seats : ℕ) (o : IsOpening s) (marks : AreOpeningMarks s.memory.world.files seats m) (tell : AllTell s.memory.world no_notes)
    (replays : HistoryFits (flat_memory s.memory s.born no_notes) s.history s.pending (flat_memory s.memory s.born no_notes)) where
  abbrev F : Flat
  F = flat_memory s.memory s.born no_notes

  h : HistoryFits F [] 0 F
  h = subst (λ (H : List Entry). HistoryFits F H 0 F) o.history (subst (λ (p : ℕ). HistoryFits F s.history p F) o.pending replays)

  -- a page that has a place is kept by its file
  kept : (name : PageName) (disk block : ℕ) → disk_place F name ≡ Some (disk, block)
      → (name.object < length s.memory.world.files.files) × (name.page < page_count (vnode_at s.memory.world.files name.object).info.extents)
      × (world_table s.memory.world name ≡ page_place (file_blocks (vnode_at s.memory.world.files name.object)) name.page (is_unpushed s.memory.world.files s.memory.world.anon name) (slice_index_or (page_blocks (vnode_at s.memory.world.files name.object).info.extents) name.page 0))
      × ((world_table s.memory.world name).disk ≡ disk) × ((world_table s.memory.world name).block ≡ block)
  kept name disk block at =
      let k = kept-there s.memory s.born no_notes F [] 0 h name disk block at in
      let on : slice_get (page_blocks (vnode_at s.memory.world.files name.object).info.extents) name.page ≡ Some block = ap (λ (b : FileBlocks). slice_get b.blocks name.page) (sym k.3) ∙ k.1.place in
      let lt : name.page < page_count (vnode_at s.memory.world.files name.object).info.extents =
      (let n = length-page_blocks (vnode_at s.memory.world.files name.object).info.extents in let w = slice_get_within (page_blocks (vnode_at s.memory.world.files name.object).info.extents) name.page block on in omega (arith, n, w)) in
      let p = file-place s.memory.world.files s.memory.world.anon name.object name.page k.4 lt in
      (k.4, lt, p, ap (λ (x : Place). x.disk) p ∙ ap (λ (b : FileBlocks). b.disk) (sym k.3) ∙ k.2, ap (λ (x : Place). x.block) p ∙ at-index (page_blocks (vnode_at s.memory.world.files name.object).info.extents) name.page block on)
    where
      at-index : (xs : List ℕ) (i b : ℕ) → slice_get xs i ≡ Some b → slice_index_or xs i 0 ≡ b
      at-index [] i b is = absurd (let z : ◌≡◌ {A = Option ℕ} None (Some b) = is in cc)
      at-index (x ∷ xs) zero b is = some-inj x b is
      at-index (x ∷ xs) (suc i) b is = at-index xs i b is

  row : (name : PageName) (disk block : ℕ) → disk_place F name ≡ Some (disk, block) → mark_row m disk block ≡ opening_row (is_blank (vnode_at s.memory.world.files name.object) name.page)
  row name disk block at =
      let k = kept name disk block at in
      let d = sym k.3 ∙ ap (λ (p : Place). p.disk) k.2 in
      let b = sym k.4 ∙ ap (λ (p : Place). p.block) k.2 in
      (λ i. mark_row m (d i) (b i)) ∙ marks.pages name.object name.page k.0 k.1

  -- its block has a row
  has : (name : PageName) (disk block : ℕ) → disk_place F name ≡ Some (disk, block) → HasRow m disk block
  has name disk block at =
      let k = kept name disk block at in
      let d : disk_of_file s.memory.world.files name.object ≡ disk = sym (ap (λ (p : Place). p.disk) k.2) ∙ k.3 in
      let b : block_of_page s.memory.world.files name.object name.page ≡ block = sym (ap (λ (p : Place). p.block) k.2) ∙ k.4 in
      subst (λ (x : ℕ). HasRow m x block) d (subst (λ (y : ℕ). HasRow m (disk_of_file s.memory.world.files name.object) y) b
      (by_disk name k.0 k.1 (finite.get s.memory.world.files.disks (disk_of_file s.memory.world.files name.object)) refl (o.memory.files.set name.object k.0)))
    where
      by_disk : (name : PageName) → name.object < length s.memory.world.files.files → name.page < page_count (vnode_at s.memory.world.files name.object).info.extents
          → (c : Option ℕ) → finite.get s.memory.world.files.disks (disk_of_file s.memory.world.files name.object) ≡ c → IsSome c
          → HasRow m (disk_of_file s.memory.world.files name.object) (block_of_page s.memory.world.files name.object name.page)
      by_disk name within below None e some = absurd (let z : false ≡ true = some in cc)
      by_disk name within below (Some blocks) e some =
          let on = file_layout_law.on_disks s.memory.world.files o.memory.files.lie name.object name.page within below in
          marks.there (disk_of_file s.memory.world.files name.object) blocks (block_of_page s.memory.world.files name.object name.page) e
          (subst (λ (n : ℕ). block_of_page s.memory.world.files name.object name.page < n) (ap (λ (c : Option ℕ). unwrap_or c 0) e) on.1)

  -- files have blocks for their pages
  all-kept : HaveBlocks F
  all-kept f file at = by_info (slice_get (map (λ (v : VnodeSeen). v.info) s.memory.world.files.files) f) refl
      (sym (file-in (contents_of s.memory.world no_notes).file 0 f (map (λ (v : VnodeSeen). v.info) s.memory.world.files.files)) ∙ at)
    where
      by_info : (o : Option FileInfo) → slice_get (map (λ (v : VnodeSeen). v.info) s.memory.world.files.files) f ≡ o
          → option_map (file_with_pages ((contents_of s.memory.world no_notes).file (0 + f))) o ≡ Some file → KeepsPageBlocks file
      by_info None e is = absurd (let z : ◌≡◌ {A = Option File} None (Some file) = is in cc)
      by_info (Some info) e is =
          let t = info-there s.memory.world.files f info e in
          let page = (contents_of s.memory.world no_notes).file (0 + f) in
          let within : info.length ≤ page_count info.extents * 4096 = subst (λ (i : FileInfo). i.length ≤ page_count i.extents * 4096) t.1 (o.memory.files.each f t.0).within in
          let blocks = length-page_blocks info.extents in
          let pages = length-pages_from page 0 (pages_in info.length) in
          subst KeepsPageBlocks (some-inj (file_with_pages page info) file is) (record {
            pages = omega (arith, within, blocks, pages);
            len = omega (arith, within, blocks);
          })

  -- each block of a disk has a row
  all-rows : (disk block : ℕ) → block < block_count F.disks disk → HasRow m disk block
  all-rows disk block lt = by_count (finite.get s.memory.world.files.disks disk) refl lt
    where
      by_count : (c : Option ℕ) → finite.get s.memory.world.files.disks disk ≡ c → block < unwrap_or c 0 → HasRow m disk block
      by_count None e lt = absurd (omega (arith, lt))
      by_count (Some blocks) e lt = marks.there disk blocks block e lt

  -- nothing is known of a block that no page has
  all-free : (disk block : ℕ) → ((name : PageName) → disk_place F name ≢ Some (disk, block)) → mark_row m disk block ≡ unused_row
  all-free disk block none = marks.free disk block (λ file page within below on its.
      none (record { object = file; page = page })
      (kept-place s.memory s.born no_notes F [] 0 h (record { object = file; page = page }) within below ∙ (λ i. Some (on i, its i))))

  -- what flat memory has of the page: what its place has
  module _ (name : PageName) (disk block : ℕ) (at : disk_place F name ≡ Some (disk, block)) where
    far : name.object ≢ 64
    far = file-apart s.memory.world.files name.object o.memory.files (kept name disk block at).0

    n : ℕ
    n = bytes_there F name

    unpushed : is_unpushed s.memory.world.files s.memory.world.anon name ≡ is_blank (vnode_at s.memory.world.files name.object) name.page
    unpushed = ap (λ (b : Bool). cond b (not (slice_index_or s.memory.world.anon.swapped name.page false)) (is_blank (vnode_at s.memory.world.files name.object) name.page)) (not-slot name.object far)

    ends : bytes_there F name ≡ bytes_before (vnode_at s.memory.world.files name.object).info.length name.page
    ends = end-now s.memory s.born no_notes F [] 0 h name ∙ ap (λ (i : Option FileInfo). option_map_or (λ (info : FileInfo). bytes_before info.length name.page) i 0)
        (slice_get-map (λ (v : VnodeSeen). v.info) s.memory.world.files.files name.object ∙ ap (option_map (λ (v : VnodeSeen). v.info)) (file-there s.memory.world.files name.object (kept name disk block at).0))

    shows : name.page < pages_in (vnode_at s.memory.world.files name.object).info.length
        → page_there F name ≡ clip (bytes_there F name) (backing_value s.memory.world.store no_notes (world_table s.memory.world name))
    shows below = page-now s.memory s.born no_notes F [] 0 h name (kept name disk block at).0 far below
        ∙ ap (clip (bytes_there F name)) (ap (λ (b : Bool). cond b (value s.memory.world.store no_notes (world_table s.memory.world) name) []) (file-page s.memory.world.files s.memory.world.anon name.object name.page far (kept name disk block at).1)
        ∙ value-backing_value s.memory s.parents o.memory name)

    none : pages_in (vnode_at s.memory.world.files name.object).info.length ≤ name.page → bytes_there F name ≡ 0
    none past = let e = ends in omega (arith, e, past)

    -- a blank page is zeros
    blank-there : is_blank (vnode_at s.memory.world.files name.object) name.page ≡ true → page_there F name ≡ zeros
    blank-there is = elim (cases_lt name.page (pages_in (vnode_at s.memory.world.files name.object).info.length)) [
      | inl below ↦
          shows below ∙ ap (clip (bytes_there F name)) (backed (world_table s.memory.world name) (ap (λ (p : Place). p.blank) (kept name disk block at).2 ∙ unpushed ∙ is))
          ∙ zeros-there F name
      | inr past ↦ ap (λ (k : ℕ). clip k (file_page F name)) (none past)
    ]
      where
        backed : (p : Place) → p.blank ≡ true → backing_value s.memory.world.store no_notes p ≡ zeros
        backed p is = ap (λ (b : Bool). cond b zeros (clip p.valid (block_of (content_of s.memory.world.store no_notes p.disk) p.block))) is

    -- any other has the bytes of its block
    block-there : is_blank (vnode_at s.memory.world.files name.object) name.page ≡ false → (blocks : List (List ℕ)) → content_of s.memory.world.store no_notes disk ≡ Some blocks
        → clip (bytes_there F name) (slice_index_or blocks block []) ≡ page_there F name
    block-there is blocks told = elim (cases_lt name.page (pages_in (vnode_at s.memory.world.files name.object).info.length)) [
      | inl below ↦ sym (shows below ∙ ap (clip (bytes_there F name)) value_is ∙ clip-twice (bytes_there F name) (slice_index_or blocks block []) low)
      | inr past ↦ ap (λ (k : ℕ). clip k (slice_index_or blocks block [])) (none past) ∙ sym (ap (λ (k : ℕ). clip k (file_page F name)) (none past))
    ]
      where
        backed : (p : Place) → p.blank ≡ false → backing_value s.memory.world.store no_notes p ≡ clip p.valid (block_of (content_of s.memory.world.store no_notes p.disk) p.block)
        backed p is = ap (λ (b : Bool). cond b zeros (clip p.valid (block_of (content_of s.memory.world.store no_notes p.disk) p.block))) is

        valid : (world_table s.memory.world name).valid ≡ bytes_there F name
        valid = ap (λ (p : Place). p.valid) (kept name disk block at).2
            ∙ (let z : min ((vnode_at s.memory.world.files name.object).info.length - name.page * 4096) 4096 ≡ min 4096 ((vnode_at s.memory.world.files name.object).info.length - 4096 * name.page) = omega arith in z)
            ∙ sym ends

        value_is : backing_value s.memory.world.store no_notes (world_table s.memory.world name) ≡ clip (bytes_there F name) (slice_index_or blocks block [])
        value_is = backed (world_table s.memory.world name) (ap (λ (p : Place). p.blank) (kept name disk block at).2 ∙ unpushed ∙ is)
            ∙ ap (λ (c : Option (List (List ℕ))). clip (world_table s.memory.world name).valid (block_of c (world_table s.memory.world name).block)) (ap (content_of s.memory.world.store no_notes) (kept name disk block at).3 ∙ told)
            ∙ ap (λ (b : ℕ). clip (world_table s.memory.world name).valid (slice_index_or blocks b [])) (kept name disk block at).4
            ∙ ap (λ (v : ℕ). clip v (slice_index_or blocks block [])) valid

        -- the block has that many bytes, since the page is whole
        low : bytes_there F name ≤ length (slice_index_or blocks block [])
        low =
            let real = file-page s.memory.world.files s.memory.world.anon name.object name.page far (kept name disk block at).1 in
            let whole : length (page_value s.memory.world no_notes name) ≡ 4096 = (opening-pages s.memory s.parents o.memory tell name real).whole in
            let same : page_value s.memory.world no_notes name ≡ clip (bytes_there F name) (slice_index_or blocks block []) =
            ap (λ (b : Bool). cond b (value s.memory.world.store no_notes (world_table s.memory.world) name) []) real ∙ value-backing_value s.memory s.parents o.memory name ∙ value_is in
            let count : length (clip (bytes_there F name) (slice_index_or blocks block [])) ≡ 4096 = sym (ap length same) ∙ whole in
            let a = length-append (take (bytes_there F name) (slice_index_or blocks block [])) (replicate (4096 - bytes_there F name) 0) in
            let b = length-take (bytes_there F name) (slice_index_or blocks block []) in
            let c = length-replicate {A = ℕ} (4096 - bytes_there F name) 0 in
            let most = few-bytes F name in
            omega (arith, count, a, b, c, most)

  -- what an opening row says
  by_row : (P : MarkRow → Type 0) (name : PageName) (disk block : ℕ) → disk_place F name ≡ Some (disk, block) → (is_blank (vnode_at s.memory.world.files name.object) name.page ≡ true → P (record { mark = Blank 0; pushed = false }))
      → (is_blank (vnode_at s.memory.world.files name.object) name.page ≡ false → P (record { mark = Held 0; pushed = false })) → P (mark_row m disk block)
  by_row P name disk block at yes_blank not_blank = subst P (sym (row name disk block at)) (go (is_blank (vnode_at s.memory.world.files name.object) name.page) refl)
    where
      go : (b : Bool) → is_blank (vnode_at s.memory.world.files name.object) name.page ≡ b → P (opening_row b)
      go true e = yes_blank e
      go false e = not_blank e

  -- THE MARKS FIT at the opening.
  pub opening-marks : MarksFit F [] (content_of s.memory.world.store no_notes) no_notes m
  opening-marks = record {
    kept = all-kept;
    rows = all-rows;
    free = all-free;
    there = has;
    early = λ name disk block at. by_row (λ (r : MarkRow). entries_in r.mark ≤ 0) name disk block at (λ _. omega arith) (λ _. omega arith);
    blocks = λ name disk block at free. by_row (λ (r : MarkRow). IfSome (content_of s.memory.world.store no_notes disk) (λ blocks. BlockFits F [] name r (slice_index_or blocks block []))) name disk block at
        (λ is. told-all (BlockFits F [] name (record { mark = Blank 0; pushed = false })) block (content_of s.memory.world.store no_notes disk) (λ blocks told. record {
          held = λ j e. absurd (let z : Blank 0 ≡ Held j = e in cc);
          zeros = λ e. absurd (let z : false ≡ true = e in cc);
        }))
        (λ is. told-all (BlockFits F [] name (record { mark = Held 0; pushed = false })) block (content_of s.memory.world.store no_notes disk) (λ blocks told. record {
          held = λ j e. subst (λ (k : ℕ). HasPage (after_first F [] k) name false (slice_index_or blocks block [])) (held-inj 0 j e) (record {
            same = block-there name disk block at is blocks told;
            rest = λ z. absurd (let y : false ≡ true = z in cc);
          });
          zeros = λ e. absurd (let z : false ≡ true = e in cc);
        }));
    blanks = λ name disk block j at. by_row (λ (r : MarkRow). r.mark ≡ Blank j → page_there (after_first F [] j) name ≡ zeros) name disk block at
        (λ is e. ap (λ (k : ℕ). page_there (after_first F [] k) name) (sym (blank-inj 0 j e)) ∙ blank-there name disk block at is)
        (λ is e. absurd (let z : Held 0 ≡ Blank j = e in cc));
    places = λ seat note is _ _. absurd (cc);
    sent = λ seat note is _ _. absurd (cc);
    origin = λ seat note is _ _. absurd (cc);
    out = λ seat push is. absurd (let z : ◌≡◌ {A = Option Pushing} None (Some push) = sym (ap (λ (ps : List (Option Pushing)). slice_index_or ps seat None) marks.pushes ∙ none-out seats seat) ∙ is in cc);
    inside = λ seat push is. absurd (let z : ◌≡◌ {A = Option Pushing} None (Some push) = sym (ap (λ (ps : List (Option Pushing)). slice_index_or ps seat None) marks.pushes ∙ none-out seats seat) ∙ is in cc);
    synced = λ k b name disk block syn at. absurd (let z : ◌≡◌ {A = Option Entry} None (Some syn.entry) = syn.at in cc);
    later = λ k b seat name push syn is named. absurd (let z : ◌≡◌ {A = Option Entry} None (Some syn.entry) = syn.at in cc);
  }
