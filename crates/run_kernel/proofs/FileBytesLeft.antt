-- The bytes that disks have of files once the kernel is closed.
use Rattle.std.proofs.Common.{◌≡◌, ℕ, zero, suc, ◌+◌, ◌-◌, ◌<◌, ◌≤◌, ◌==◌, Bool, true, false, cond, List, [], ◌∷◌, ◌++◌, length, map, take, replicate, Option, Some, None, refl, sym, ap, ◌∙◌, ◌⊎◌, inl, inr, subst, arith, take_at, length-take, take_all}
use Rattle.std.specs.Prelude.{All, IfSome, IfNone, option_map, slice_get, slice_index_or}
use Rattle.std.specs.List.{concat}
use Rattle.std.proofs.Math.Seq.{take-append-add}
use Rattle.std.proofs.lemmas.List.{length-map, get_or-map, take-append-le}
use Rattle.std.proofs.lemmas.List.Elements.{All-head, All-tail}
use Rattle.std.proofs.lemmas.Option.{slice_get-get_or, slice_get_within}
use Rattle.volume_files.specs.block_device.DiskSeen.{DiskSeen, HasBlocks}
use Rattle.volume_files.specs.block_device.declared.disk_fault.DiskFault.{DiskFault}
use Rattle.vm_core.specs.page_hash.declared.PageName.{PageName}
use Rattle.vm_core.specs.page_store.Bytes.{clip}
use Rattle.vm_core.specs.page_store.Notes.{no_notes}
use Rattle.volume_files.specs.vm_types.Pages.{bytes_before}
use Rattle.volume_files.specs.vm_types.declared.call.Entry.{Entry}
use Rattle.volume_files.specs.vnode_files.declared.vnode.FileInfo.{FileInfo}
use Rattle.volume_files.specs.vnode_files.Files.{FilesSeen, vnode_at}
use Rattle.volume_files.specs.vnode_files.Grow.{page_count}
use Rattle.volume_files.specs.vnode_files.Layout.{disk_of_file}
use Rattle.volume_files.specs.vnode_files.Vnode.{VnodeSeen, IsSoundVnode, no_vnode, page_blocks, block_at}
use Rattle.volume_files.proofs.vnode_files.BlockLemmas.{length-page_blocks}
use Rattle.volume_files.specs.volume_format.Table.{no_entry}
use Rattle.volume_files.specs.flat_model.Flat.{File, Flat, IsFile, IsFlat}
use Rattle.volume_files.specs.flat_model.History.{replay}
use Rattle.volume_files.specs.flat_model.Parts.{file_bytes, without_tail}
use Rattle.volume_files.specs.flat_model.Step.{is_bit_set, files_cleared}
use Rattle.volume_files.specs.flat_model.Words.{Page, IsPage, pages_in}
use Rattle.volume_files.proofs.flat_model.FileBytes.{file_bytes-without_tail}
use Rattle.volume_files.proofs.flat_model.WellFormed.{IsFlat-tails_cleared}
use Rattle.vm_core.specs.kernel_close.Finish.{IsFilePage, disk_at, HoldAllFiles, HoldsPage}
use Rattle.vm_core.proofs.kernel_close.Fills.{block-within}
use Rattle.vm_core.proofs.kernel_close.Records.{disk-kept, info-kept, page-kept, records-back}
use Rattle.vm_core.specs.vm_world.Events.{IsSince}
use Rattle.vm_core.specs.vm_world.FlatMemory.{file_with_pages, files_with_pages, flat_memory, pages_from}
use Rattle.vm_core.specs.vm_world.Opening.{no_seats}
use Rattle.vm_core.specs.vm_world.Pages.{contents_of, page_value}
use Rattle.vm_core.specs.vm_world.State.{KernelState}
use Rattle.vm_core.specs.vm_world.StateFits.{StateFits}
use Rattle.vm_core.specs.vm_world.World.{AllTell, file_name}
use Rattle.vm_core.proofs.vm_world.FilePages.{file-in, length-files_with_pages, length-pages_from, page-in}
use Rattle.vm_core.proofs.vm_world.PageNames.{file-apart, index-of, not-slot}
use Rattle.volume_files.specs.Attached.{bare_disks}
use Rattle.volume_files.specs.stored_files.Closed.{StoreFiles, flat_bytes, info_at, stored_bytes}
use Rattle.volume_files.specs.Handed.{HaveTold}
use Rattle.run_kernel.specs.Played.{LeftSeen}
use Rattle.volume_files.specs.stored_files.Written.{infos_made}
use Rattle.run_kernel.proofs.FileRecords.{history-left, record-at}
use Rattle.run_kernel.proofs.Returned.{Closes, all-tell, are-left, at-place}

-- whole lists of 4096 bytes with equal fronts have equal bytes up to a length
record SameFront (len : ℕ) (b p : List ℕ) : Type 0 where
  block : length b ≡ 4096
  page : length p ≡ 4096
  front : take len b ≡ take len p

cases-le : (a b : ℕ) → (a ≤ b) ⊎ (b < a)
cases-le a b = grind arith

abbrev at : List (List ℕ) → ℕ → List ℕ
at xs j = slice_index_or xs j []

cut-same : (len : ℕ) (bs ps : List (List ℕ)) → pages_in len ≤ length bs → pages_in len ≤ length ps
    → ((j : ℕ) → j < pages_in len → SameFront (bytes_before len j) (at bs j) (at ps j)) → take len (concat bs) ≡ take len (concat ps)
cut-same zero bs ps long_b long_p same = refl
cut-same (suc n) [] ps long_b long_p same = absurd (omega (arith, long_b))
cut-same (suc n) (b ∷ bs) [] long_b long_p same = absurd (omega (arith, long_p))
cut-same (suc n) (b ∷ bs) (p ∷ ps) long_b long_p same =
    let some : 0 < pages_in (suc n) = omega arith in
    let first = same 0 some in
    let whole_b = first.block in
    let whole_p = first.page in
    elim (cases-le (suc n) 4096) [
      | inl last ↦
          let all : bytes_before (suc n) 0 ≡ suc n = omega (arith, last) in
          take-append-le (suc n) b (concat bs) (omega (arith, last, whole_b))
          ∙ subst (λ (k : ℕ). take k b ≡ take k p) all first.front
          ∙ sym (take-append-le (suc n) p (concat ps) (omega (arith, last, whole_p)))
      | inr more ↦
          let full : bytes_before (suc n) 0 ≡ 4096 = omega (arith, more) in
          let same_page : b ≡ p = sym (take_all 4096 b (omega (arith, whole_b))) ∙ subst (λ (k : ℕ). take k b ≡ take k p) full first.front ∙ take_all 4096 p (omega (arith, whole_p)) in
          let rest : ℕ = suc n - 4096 in
          let count : pages_in (suc n) ≡ suc (pages_in rest) = omega (arith, more) in
          let split_b : suc n ≡ length b + rest = omega (arith, more, whole_b) in
          let split_p : suc n ≡ length p + rest = omega (arith, more, whole_p) in
          let later = cut-same rest bs ps (omega (arith, long_b, count)) (omega (arith, long_p, count)) (λ j lt.
          let valid : bytes_before (suc n) (suc j) ≡ bytes_before rest j = omega (arith, more) in
          subst (λ (k : ℕ). SameFront k (at bs j) (at ps j)) valid (same (suc j) (omega (arith, lt, count)))) in
          ap (λ (k : ℕ). take k (b ++ concat bs)) split_b ∙ take-append-add b (concat bs) rest
          ∙ ap (λ (q : List ℕ). q ++ take rest (concat bs)) same_page ∙ ap (λ (q : List ℕ). p ++ q) later
          ∙ sym (ap (λ (k : ℕ). take k (p ++ concat ps)) split_p ∙ take-append-add p (concat ps) rest)
    ]

-- what is clipped alike begins alike
front-of-clip : (valid : ℕ) (b p : List ℕ) → length b ≡ 4096 → length p ≡ 4096 → valid ≤ 4096 → clip valid b ≡ clip valid p → take valid b ≡ take valid p
front-of-clip valid b p whole_b whole_p le same =
    let long_b : length (take valid b) ≡ valid = let e = length-take valid b in omega (arith, e, whole_b, le) in
    let long_p : length (take valid p) ≡ valid = let e = length-take valid p in omega (arith, e, whole_p, le) in
    sym (take_at (take valid b) (replicate (4096 - valid) 0) valid long_b) ∙ ap (take valid) same ∙ take_at (take valid p) (replicate (4096 - valid) 0) valid long_p

-- tails are no bytes of a file
bytes-cleared : (test : ℕ → Bool) (files : List File) (k : ℕ) (d : File) → All IsFile files → file_bytes (slice_index_or (files_cleared test files) k d) ≡ file_bytes (slice_index_or files k d)
bytes-cleared test [] k d all = refl
bytes-cleared test (file ∷ files) zero d all = by_test (test 0)
  where
    by_test : (b : Bool) → file_bytes (cond b (without_tail file) file) ≡ file_bytes file
    by_test true = file_bytes-without_tail file (All-head IsFile file files all)
    by_test false = refl
bytes-cleared test (file ∷ files) (suc k) d all = bytes-cleared (λ f. test (suc f)) files k d (All-tail IsFile file files all)

module _ (F : Flat) (s t : KernelState) (l : LeftSeen) (since : IsSince s t no_seats) (before : StateFits F s no_seats) (c : Closes t l) where
  after : StateFits F t no_seats
  after = since.fits F before

  abbrev old : FilesSeen
  old = t.memory.world.files

  abbrev page_of : ℕ → ℕ → Page
  page_of k j = page_value t.memory.world no_notes (file_name k j)

  abbrev info_of : ℕ → FileInfo
  info_of k = (vnode_at l.files k).info

  apart : (k : ℕ) → k < length l.files.files → (k == 64) ≡ false
  apart k lt = not-slot k (file-apart l.files k (are-left F s t l since before c).fits lt)

  -- the file in flat memory as it is
  file-now : (k : ℕ) (d : File) → k < length l.files.files → slice_index_or (flat_memory t.memory t.born no_notes).files k d ≡ file_with_pages (page_of k) (info_of k)
  file-now k d lt =
      let infos = map (λ (v : VnodeSeen). v.info) old.files in
      let page = (contents_of t.memory.world no_notes).file in
      let there : slice_get infos k ≡ Some (info_of k) =
      ap (λ (is : List FileInfo). slice_get is k) (sym c.files.infos)
      ∙ slice_get-get_or (map (λ (v : VnodeSeen). v.info) l.files.files) k no_entry (let e = length-map l.files.files (λ (v : VnodeSeen). v.info) in omega (arith, e, lt))
      ∙ ap (λ (i : FileInfo). Some i) (record-at l.files k lt) in
      index-of (files_with_pages page 0 infos) k d (file_with_pages (page_of k) (info_of k))
      (file-in page 0 k infos ∙ ap (option_map (file_with_pages (page (0 + k)))) there
      ∙ (let z : 0 + k ≡ k = omega arith in ap (λ (n : ℕ). Some (file_with_pages (page n) (info_of k))) z)
      ∙ ap (λ (b : Bool). Some (file_with_pages (λ (j : ℕ). cond b [] (page_of k j)) (info_of k))) (apart k lt))

  -- its pages are whole
  page-whole : HaveTold (bare_disks l.disks) l.swap → (k j : ℕ) → k < length l.files.files → j < pages_in (info_of k).length → length (page_of k j) ≡ 4096
  page-whole told k j lt below =
      let fits = history-left F s t l since before c told in
      let flat : IsFlat (flat_memory t.memory t.born no_notes) = subst IsFlat (sym fits.shows) (IsFlat-tails_cleared (replay F t.history) (is_bit_set t.pending) fits.whole) in
      let d : File = file_with_pages (page_of k) (info_of k) in
      let count : length (flat_memory t.memory t.born no_notes).files ≡ length l.files.files =
      length-files in
      let is : IsFile (file_with_pages (page_of k) (info_of k)) = subst IsFile (file-now k d lt) (flat.files k d (omega (arith, count, lt))) in
      let here = page-in (page_of k) 0 (pages_in (info_of k).length) j below in
      let long = length-pages_from (page_of k) 0 (pages_in (info_of k).length) in
      let p : IsPage (slice_index_or (pages_from (page_of k) 0 (pages_in (info_of k).length)) j []) = is.pages j [] (omega (arith, long, below)) in
      let z : 0 + j ≡ j = omega arith in
      subst (λ (x : List ℕ). length x ≡ 4096) (index-of (pages_from (page_of k) 0 (pages_in (info_of k).length)) j [] (page_of k (0 + j)) here ∙ ap (page_of k) z) p.whole
    where
      length-files : length (flat_memory t.memory t.born no_notes).files ≡ length l.files.files
      length-files =
          length-files_with_pages (contents_of t.memory.world no_notes).file 0 (map (λ (v : VnodeSeen). v.info) old.files)
          ∙ ap (λ (is : List FileInfo). length is) (sym c.files.infos) ∙ length-map l.files.files (λ (v : VnodeSeen). v.info)

  -- ALL FILES ARE STORED.
  pub stored-left : IfNone l.fault (HaveTold (bare_disks l.disks) l.swap → StoreFiles l.disks (infos_made l.files) (flat_bytes (replay F l.history.entries).files))
  stored-left = by_fault l.fault c.closed
    where
      by_content : (k i : ℕ) (o : Option (List (List ℕ))) → HaveTold (bare_disks l.disks) l.swap → k < length l.files.files → i < length l.disks
          → o ≡ (disk_at l.disks i).1.content → disk_of_file l.files k ≡ (disk_at l.disks i).0
          → IfSome o (λ blocks. (name : PageName) → IsFilePage old name → disk_of_file old name.object ≡ (disk_at l.disks i).0 → HoldsPage old blocks name (page_value t.memory.world no_notes name))
          → IfSome o (λ blocks. stored_bytes blocks (info_of k) ≡ take (info_of k).length (concat (pages_from (page_of k) 0 (pages_in (info_of k).length))))
      by_content k i None told lt inside is on_disk holds = tt
      by_content k i (Some blocks) told lt inside is on_disk holds =
          cut-same (info_of k).length (map (λ block. slice_index_or blocks block []) (page_blocks (info_of k).extents)) (pages_from (page_of k) 0 (pages_in (info_of k).length))
          (let a = length-map (page_blocks (info_of k).extents) (λ block. slice_index_or blocks block []) in let b = length-page_blocks (info_of k).extents in omega (arith, a, b, enough))
          (let e = length-pages_from (page_of k) 0 (pages_in (info_of k).length) in omega (arith, e))
          each
        where
          sound : IsSoundVnode (vnode_at l.files k)
          sound = c.sound k no_vnode lt

          enough : pages_in (info_of k).length ≤ page_count (info_of k).extents
          enough = let within = sound.within in omega (arith, within)

          blocks-whole : HasBlocks (Some blocks) (disk_at l.disks i).1.size
          blocks-whole = subst (λ (x : Option (List (List ℕ))). HasBlocks x (disk_at l.disks i).1.size) (sym is) (c.whole i)

          each : (j : ℕ) → j < pages_in (info_of k).length
              → SameFront (bytes_before (info_of k).length j) (at (map (λ block. slice_index_or blocks block []) (page_blocks (info_of k).extents)) j)
              (at (pages_from (page_of k) 0 (pages_in (info_of k).length)) j)
          each j below =
              let name : PageName = file_name k j in
              let file_page : IsFilePage l.files name = record { file = lt; below = below } in
              let old_page : IsFilePage old name = page-kept l.files old (records-back old l.files c.files) name file_page in
              let place : ℕ = block_at (info_of k).extents j in
              let kept : j < length (page_blocks (info_of k).extents) = let b = length-page_blocks (info_of k).extents in let e = enough in omega (arith, b, e, below) in
              let here_b : at (map (λ block. slice_index_or blocks block []) (page_blocks (info_of k).extents)) j ≡ slice_index_or blocks place [] =
              get_or-map (λ (block : ℕ). slice_index_or blocks block []) (page_blocks (info_of k).extents) j 0 [] kept in
              let z : 0 + j ≡ j = omega arith in
              let here_p : at (pages_from (page_of k) 0 (pages_in (info_of k).length)) j ≡ page_of k j =
              index-of (pages_from (page_of k) 0 (pages_in (info_of k).length)) j [] (page_of k (0 + j)) (page-in (page_of k) 0 (pages_in (info_of k).length) j below) ∙ ap (page_of k) z in
              let low : place < (disk_at l.disks i).1.size = block-within l.files l.disks i name (are-left F s t l since before c) inside file_page on_disk in
              let count = blocks-whole.0 in
              let whole_b : length (slice_index_or blocks place []) ≡ 4096 = (blocks-whole.1 place (omega (arith, low, count))).0 in
              let whole_p : length (page_of k j) ≡ 4096 = page-whole told k j lt below in
              let clips : clip (bytes_before (info_of k).length j) (slice_index_or blocks place []) ≡ clip (bytes_before (info_of k).length j) (page_of k j) =
              subst (λ (i : FileInfo). clip (bytes_before i.length j) (slice_index_or blocks (block_at i.extents j) []) ≡ clip (bytes_before i.length j)
              (page_of k j)) (sym (info-kept old l.files c.files k))
              (holds name old_page (sym (disk-kept old l.files c.files k) ∙ on_disk)) in
              subst (λ (x : List ℕ). SameFront (bytes_before (info_of k).length j) x (at (pages_from (page_of k) 0 (pages_in (info_of k).length)) j)) (sym here_b)
              (subst (λ (y : List ℕ). SameFront (bytes_before (info_of k).length j) (slice_index_or blocks place []) y) (sym here_p)
              (record {
                block = whole_b;
                page = whole_p;
                front = front-of-clip (bytes_before (info_of k).length j) (slice_index_or blocks place [])
                    (page_of k j) whole_b whole_p (omega arith) clips;
              }))

      flat-bytes : HaveTold (bare_disks l.disks) l.swap → (k : ℕ) → k < length l.files.files
          → take (info_of k).length (concat (pages_from (page_of k) 0 (pages_in (info_of k).length))) ≡ flat_bytes (replay F l.history.entries).files k
      flat-bytes told k lt =
          let fits = history-left F s t l since before c told in
          let d : File = record { len = 0; disk = 0; extents = []; writable = false; pages = [] } in
          sym (ap file_bytes (file-now k d lt))
          ∙ ap (λ (G : Flat). file_bytes (slice_index_or G.files k d)) fits.shows
          ∙ bytes-cleared (is_bit_set t.pending) (replay F t.history).files k d fits.whole.files
          ∙ ap (λ (H : List Entry). flat_bytes (replay F H).files k) (sym c.entries)

      by_fault : (o : Option DiskFault) → IfNone o (AllTell t.memory.world no_notes → HoldAllFiles t.memory.world l.disks)
          → IfNone o (HaveTold (bare_disks l.disks) l.swap → StoreFiles l.disks (infos_made l.files) (flat_bytes (replay F l.history.entries).files))
      by_fault (Some fault) closed = tt
      by_fault None closed = λ told i k disk there lt on_disk.
          let inside = slice_get_within l.disks i disk there in
          let count = length-map l.files.files (λ (v : VnodeSeen). v.info) in
          let low : k < length l.files.files = omega (arith, count, lt) in
          let is : disk_at l.disks i ≡ disk = at-place l.disks i disk there in
          let info : info_at (infos_made l.files) k ≡ info_of k = record-at l.files k low in
          let number : disk_of_file l.files k ≡ (disk_at l.disks i).0 = sym (ap (λ (x : FileInfo). x.disk) info) ∙ on_disk ∙ sym (ap (λ (x : ℕ × DiskSeen). x.0) is) in
          let holds = closed (all-tell F s t l since before c told) i inside in
          let have = by_content k i (disk_at l.disks i).1.content told low inside refl number holds in
          subst (λ (x : ℕ × DiskSeen). IfSome x.1.content (λ blocks. stored_bytes blocks (info_at (infos_made l.files) k) ≡ flat_bytes (replay F l.history.entries).files k)) is
          (subst (λ (i' : FileInfo). IfSome (disk_at l.disks i).1.content (λ blocks. stored_bytes blocks i' ≡ flat_bytes (replay F l.history.entries).files k)) (sym info)
          (subst (λ (bytes : List ℕ). IfSome (disk_at l.disks i).1.content (λ blocks. stored_bytes blocks (info_of k) ≡ bytes)) (flat-bytes told k low) have))
