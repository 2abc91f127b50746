-- Where pages of files are by the history, and by the files as they are.
use Rattle.flat_model.proofs.Bytes.{All-slice_get as all-get}
use Rattle.std.proofs.Common.{◌≡◌, ◌≢◌, ℕ, ◌<◌, ◌≤◌, ◌+◌, ◌-◌, ◌*◌, min, Bool, true, false, cond, List, [], length, map, Option, Some, None, refl, sym, ap, ◌∙◌, inl, inr, arith}
use Rattle.std.specs.Prelude.{slice_index_or, slice_get, option_map, option_and_then, unwrap_or, IsTrue, All, nat_lt}
use Rattle.std.specs.Option.{option_map_or}
use Rattle.std.specs.FinSet as set
use Rattle.std.specs.Ordering.{nat_cmp}
use Rattle.std.proofs.lemmas.Bool.{ltb-true}
use Rattle.std.proofs.lemmas.Option.{slice_get-map}
use Rattle.flat_model.specs.vm_types.Pages.{bytes_before, pages_in}
use Rattle.flat_model.specs.vm_types.declared.call.Entry.{Entry}
use Rattle.page_store.specs.page_hash.declared.PageName.{PageName}
use Rattle.page_store.specs.Bytes.{clip}
use Rattle.page_store.specs.Layout.{KeepsPage, FileBlocks, page_place}
use Rattle.page_store.specs.Notes.{Notes}
use Rattle.page_store.specs.declared.place.Place.{Place}
use Rattle.vm_world.specs.anon_slots.Slots.{count_at, is_used}
use Rattle.flat_model.specs.vnode_files.Grow.{page_count}
use Rattle.flat_model.specs.vnode_files.declared.vnode.FileInfo.{FileInfo}
use Rattle.flat_model.specs.vnode_files.Files.{vnode_at}
use Rattle.flat_model.specs.vnode_files.Layout.{disk_of_file, block_of_page}
use Rattle.flat_model.specs.vnode_files.Vnode.{VnodeSeen, page_blocks}
use Rattle.flat_model.specs.Flat.{Flat, File, IsFile}
use Rattle.flat_model.specs.History.{replay}
use Rattle.flat_model.specs.LineLaws.{page_front}
use Rattle.flat_model.specs.Parts.{without_tail}
use Rattle.flat_model.specs.Step.{is_bit_set}
use Rattle.flat_model.specs.Words.{Page}
use Rattle.flat_model.proofs.ClearedTails.{cleared_tails_law}
use Rattle.flat_model.proofs.Lines.{lines_in_pages_law}
use Rattle.vm_world.specs.World.{world_table, file_blocks, is_page_name, is_unpushed, page_exists}
use Rattle.vm_world.specs.FlatMemory.{Memory, flat_memory, file_with_pages, pages_from}
use Rattle.vm_world.specs.FramesFit.{FilesFit}
use Rattle.vm_world.specs.HistoryFits.{HistoryFits}
use Rattle.vm_world.specs.Pages.{page_value, contents_of}
use Rattle.mark_laws.specs.Pages.{disk_place, bytes_there, page_there}
use Rattle.vm_world.proofs.Clips.{clip-twice, front-clip}
use Rattle.vm_world.proofs.FilePages.{file-in, page-in}
use Rattle.vm_world.proofs.FlatWhole.{some-inj}
use Rattle.vm_world.proofs.FrameRule.{exists-page}
use Rattle.vm_world.proofs.PageNames.{info-there, file-there, blocks-there, file-apart, not-slot, file-place, page-cases, keeps-page}

-- the place and the end of a page, by the record of its file
abbrev place-by : Option FileInfo → ℕ → Option (ℕ × ℕ)
place-by o page = option_and_then (λ (info : FileInfo). option_map (λ (block : ℕ). (info.disk, block)) (slice_get (page_blocks info.extents) page)) o

abbrev end-by : Option FileInfo → ℕ → ℕ
end-by o page = option_map_or (λ (info : FileInfo). bytes_before info.length page) o 0

module _ (m : Memory) (born : set.FinSet nat_cmp) (notes : Notes) (opening : Flat) (H : List Entry) (pending : ℕ) (h : HistoryFits opening H pending (flat_memory m born notes)) where
  abbrev infos : List FileInfo
  infos = map (λ (v : VnodeSeen). v.info) m.world.files.files

  -- the file of a number, as it is and by the history
  pub cleared : (f : ℕ) → option_map (λ (file : File). cond (is_bit_set pending f) (without_tail file) file) (slice_get (replay opening H).files f)
      ≡ option_map (file_with_pages ((contents_of m.world notes).file f)) (slice_get infos f)
  cleared f =
      sym (cleared_tails_law.each (replay opening H) (is_bit_set pending) f)
      ∙ sym (ap (λ (F : Flat). slice_get F.files f) h.shows)
      ∙ file-in (contents_of m.world notes).file 0 f infos
      ∙ (let z : 0 + f ≡ f = omega arith in ap (λ (j : ℕ). option_map (file_with_pages ((contents_of m.world notes).file j)) (slice_get infos f)) z)

  pub place-now : (name : PageName) → disk_place (replay opening H) name ≡ place-by (slice_get infos name.object) name.page
  place-now name = by_file (slice_get (replay opening H).files name.object) (slice_get infos name.object) (is_bit_set pending name.object) (cleared name.object)
    where
      by_file : (o : Option File) (p : Option FileInfo) (b : Bool) → option_map (λ (file : File). cond b (without_tail file) file) o ≡ option_map (file_with_pages ((contents_of m.world notes).file name.object)) p
          → option_and_then (λ (file : File). option_map (λ (block : ℕ). (file.disk, block)) (slice_get (page_blocks file.extents) name.page)) o ≡ place-by p name.page
      by_file None None b e = refl
      by_file None (Some info) b e = absurd (let z : ◌≡◌ {A = Option File} None (Some (file_with_pages ((contents_of m.world notes).file name.object) info)) = e in cc)
      by_file (Some file) None b e = absurd (let z : ◌≡◌ {A = Option File} (Some (cond b (without_tail file) file)) None = e in cc)
      by_file (Some file) (Some info) true e = ap (λ (x : File). option_map (λ (block : ℕ). (x.disk, block)) (slice_get (page_blocks x.extents) name.page)) (some-inj (without_tail file) (file_with_pages ((contents_of m.world notes).file name.object) info) e)
      by_file (Some file) (Some info) false e = ap (λ (x : File). option_map (λ (block : ℕ). (x.disk, block)) (slice_get (page_blocks x.extents) name.page)) (some-inj file (file_with_pages ((contents_of m.world notes).file name.object) info) e)

  pub end-now : (name : PageName) → bytes_there (replay opening H) name ≡ end-by (slice_get infos name.object) name.page
  end-now name = by_file (slice_get (replay opening H).files name.object) (slice_get infos name.object) (is_bit_set pending name.object) (cleared name.object)
    where
      by_file : (o : Option File) (p : Option FileInfo) (b : Bool) → option_map (λ (file : File). cond b (without_tail file) file) o ≡ option_map (file_with_pages ((contents_of m.world notes).file name.object)) p
          → option_map_or (λ (file : File). bytes_before file.len name.page) o 0 ≡ end-by p name.page
      by_file None None b e = refl
      by_file None (Some info) b e = absurd (let z : ◌≡◌ {A = Option File} None (Some (file_with_pages ((contents_of m.world notes).file name.object) info)) = e in cc)
      by_file (Some file) None b e = absurd (let z : ◌≡◌ {A = Option File} (Some (cond b (without_tail file) file)) None = e in cc)
      by_file (Some file) (Some info) true e = ap (λ (x : File). bytes_before x.len name.page) (some-inj (without_tail file) (file_with_pages ((contents_of m.world notes).file name.object) info) e)
      by_file (Some file) (Some info) false e = ap (λ (x : File). bytes_before x.len name.page) (some-inj file (file_with_pages ((contents_of m.world notes).file name.object) info) e)

  -- A PAGE THAT HAS A PLACE is kept by its file.
  pub kept-there : (name : PageName) (disk block : ℕ) → disk_place (replay opening H) name ≡ Some (disk, block)
      → (f : FileBlocks) × KeepsPage (map file_blocks m.world.files.files) name f block × (f.disk ≡ disk) × (f ≡ file_blocks (vnode_at m.world.files name.object)) × (name.object < length m.world.files.files)
  kept-there name disk block at = by_info (slice_get infos name.object) refl (sym (place-now name) ∙ at)
    where
      by_info : (o : Option FileInfo) → slice_get infos name.object ≡ o → place-by o name.page ≡ Some (disk, block)
          → (f : FileBlocks) × KeepsPage (map file_blocks m.world.files.files) name f block × (f.disk ≡ disk) × (f ≡ file_blocks (vnode_at m.world.files name.object)) × (name.object < length m.world.files.files)
      by_info None e is = absurd (let z : ◌≡◌ {A = Option (ℕ × ℕ)} None (Some (disk, block)) = is in cc)
      by_info (Some info) e is = by_block (slice_get (page_blocks info.extents) name.page) refl is
        where
          by_block : (c : Option ℕ) → slice_get (page_blocks info.extents) name.page ≡ c → option_map (λ (b : ℕ). (let z : ℕ × ℕ = (info.disk, b) in z)) c ≡ Some (disk, block)
              → (f : FileBlocks) × KeepsPage (map file_blocks m.world.files.files) name f block × (f.disk ≡ disk) × (f ≡ file_blocks (vnode_at m.world.files name.object)) × (name.object < length m.world.files.files)
          by_block None c is = absurd (let z : ◌≡◌ {A = Option (ℕ × ℕ)} None (Some (disk, block)) = is in cc)
          by_block (Some b) c is =
              let t = info-there m.world.files name.object info e in
              let same : ◌≡◌ {A = ℕ × ℕ} (info.disk, b) (disk, block) = some-inj (info.disk, b) (disk, block) is in (
                file_blocks (vnode_at m.world.files name.object),
                record {
                  number = blocks-there m.world.files name.object t.0;
                  place = ap (λ (i : FileInfo). slice_get (page_blocks i.extents) name.page) t.1 ∙ c ∙ ap (λ (p : ℕ × ℕ). Some p.1) same;
                },
                ap (λ (i : FileInfo). i.disk) t.1 ∙ ap (λ (p : ℕ × ℕ). p.0) same,
                refl,
                t.0,
              )

  -- .. and a page that its file keeps has its place
  pub kept-place : (name : PageName) → name.object < length m.world.files.files → name.page < page_count (vnode_at m.world.files name.object).info.extents
      → disk_place (replay opening H) name ≡ Some (disk_of_file m.world.files name.object, block_of_page m.world.files name.object name.page)
  kept-place name lt below = place-now name
      ∙ ap (λ (o : Option FileInfo). place-by o name.page) (slice_get-map (λ (v : VnodeSeen). v.info) m.world.files.files name.object ∙ ap (option_map (λ (v : VnodeSeen). v.info)) (file-there m.world.files name.object lt))
      ∙ ap (option_map (λ (block : ℕ). (let z : ℕ × ℕ = ((vnode_at m.world.files name.object).info.disk, block) in z))) (keeps-page m.world.files name.object name.page lt below).place

  -- no two pages of files have one place
  pub places-apart : FilesFit m.world.files → (a b : PageName) (disk block : ℕ) → disk_place (replay opening H) a ≡ Some (disk, block) → disk_place (replay opening H) b ≡ Some (disk, block) → a ≡ b
  places-apart fits a b disk block ata atb =
      let x = kept-there a disk block ata in
      let y = kept-there b disk block atb in
      fits.disjoint.apart a b x.0 y.0 block x.1 y.1 (x.2 ∙ sym y.2)

  -- none is a slot's, nor on the swap disk
  pub place-low : FilesFit m.world.files → (name : PageName) (disk block : ℕ) → disk_place (replay opening H) name ≡ Some (disk, block) → (name.object ≢ 64) × (disk < 8)
  place-low fits name disk block at =
      let x = kept-there name disk block at in
      (file-apart m.world.files name.object fits x.4, let low = fits.disjoint.disks name x.0 block x.1 in let same = x.2 in omega (arith, low, same))

  -- THE PAGE up to the file's end is the one by the history.
  pub page-now : (name : PageName) → name.object < length m.world.files.files → name.object ≢ 64 → name.page < pages_in (vnode_at m.world.files name.object).info.length
      → page_there (replay opening H) name ≡ clip (bytes_there (replay opening H) name) (page_value m.world notes name)
  page-now name lt far below = by_file (slice_get (replay opening H).files name.object) (is_bit_set pending name.object) refl
      (cleared name.object ∙ ap (option_map (file_with_pages ((contents_of m.world notes).file name.object))) (slice_get-map (λ (v : VnodeSeen). v.info) m.world.files.files name.object ∙ ap (option_map (λ (v : VnodeSeen). v.info)) (file-there m.world.files name.object lt)))
    where
      info : FileInfo
      info = (vnode_at m.world.files name.object).info

      page : Page
      page = page_value m.world notes name

      -- the file as it is has the page
      here : slice_get (pages_from ((contents_of m.world notes).file name.object) 0 (pages_in info.length)) name.page ≡ Some page
      here = page-in ((contents_of m.world notes).file name.object) 0 (pages_in info.length) name.page below
          ∙ (let z : 0 + name.page ≡ name.page = omega arith in ap (λ (j : ℕ). Some ((contents_of m.world notes).file name.object j)) z)
          ∙ ap (λ (b : Bool). Some (cond b [] page)) (not-slot name.object far)

      by_file : (o : Option File) (b : Bool) → slice_get (replay opening H).files name.object ≡ o
          → option_map (λ (file : File). cond b (without_tail file) file) o ≡ Some (file_with_pages ((contents_of m.world notes).file name.object) info)
          → clip (option_map_or (λ (file : File). bytes_before file.len name.page) o 0) (unwrap_or (option_and_then (λ (file : File). slice_get file.pages name.page) o) [])
          ≡ clip (option_map_or (λ (file : File). bytes_before file.len name.page) o 0) page
      by_file None b e is = absurd (let z : ◌≡◌ {A = Option File} None (Some (file_with_pages ((contents_of m.world notes).file name.object) info)) = is in cc)
      by_file (Some file) false e is =
          ap (λ (o : Option Page). clip (bytes_before file.len name.page) (unwrap_or o [])) (ap (λ (x : File). slice_get x.pages name.page) (some-inj file (file_with_pages ((contents_of m.world notes).file name.object) info) is) ∙ here)
      by_file (Some file) true e is = by_page (slice_get file.pages name.page) refl (sym (no_tail) ∙ ap (λ (x : File). slice_get x.pages name.page) (some-inj (without_tail file) (file_with_pages ((contents_of m.world notes).file name.object) info) is) ∙ here)
        where
          sound : IsFile file
          sound = all-get IsFile (replay opening H).files name.object file h.whole.files e

          whole : All (λ (bytes : Page). length bytes ≡ 4096) file.pages
          whole = λ i d below. (sound.pages i d below).whole

          no_tail : slice_get (without_tail file).pages name.page ≡ option_map (page_front (file.len - 4096 * name.page)) (slice_get file.pages name.page)
          no_tail = lines_in_pages_law.no_tail file name.page whole

          by_page : (q : Option Page) → slice_get file.pages name.page ≡ q → option_map (page_front (file.len - 4096 * name.page)) q ≡ Some page
              → clip (bytes_before file.len name.page) (unwrap_or (slice_get file.pages name.page) []) ≡ clip (bytes_before file.len name.page) page
          by_page None c is = absurd (let z : ◌≡◌ {A = Option Page} None (Some page) = is in cc)
          by_page (Some q) c is =
              let full : length q ≡ 4096 = all-get (λ (bytes : Page). length bytes ≡ 4096) file.pages name.page q whole c in
              let n : min (file.len - 4096 * name.page) 4096 ≡ bytes_before file.len name.page = omega arith in
              let low : bytes_before file.len name.page ≤ 4096 = omega arith in
              let front : page ≡ clip (bytes_before file.len name.page) q = sym (some-inj (page_front (file.len - 4096 * name.page) q) page is) ∙ front-clip (file.len - 4096 * name.page) q full ∙ ap (λ (k : ℕ). clip k q) n in
              ap (λ (o : Option Page). clip (bytes_before file.len name.page) (unwrap_or o [])) c ∙ sym (ap (clip (bytes_before file.len name.page)) front ∙ clip-twice (bytes_before file.len name.page) q low full)

  -- A PAGE OF A FILE THAT EXISTS has its place, its end and its bytes by the history.
  module _ (name : PageName) (fits : FilesFit m.world.files) (far : name.object ≢ 64) (exists : IsTrue (page_exists m.world.files m.world.anon name)) where
    abbrev vnode : VnodeSeen
    vnode = vnode_at m.world.files name.object

    pub real : IsTrue (is_page_name m.world.files m.world.anon name)
    real = exists-page m.world name fits exists

    pub below : name.page < pages_in (vnode_at m.world.files name.object).info.length
    below = ltb-true name.page (pages_in vnode.info.length)
        (sym (ap (λ (b : Bool). cond b (is_used (count_at m.world.anon name.page)) (nat_lt name.page (pages_in vnode.info.length))) (not-slot name.object far)) ∙ exists)

    pub kept : (name.object < length m.world.files.files) × (name.page < page_count (vnode_at m.world.files name.object).info.extents)
    kept = elim (page-cases m.world.files m.world.anon name real) [ inl e ↦ absurd (far e.0) | inr k ↦ (k.1, k.2) ]

    pub table-place : world_table m.world name ≡ page_place (file_blocks (vnode_at m.world.files name.object)) name.page (is_unpushed m.world.files m.world.anon name) (slice_index_or (page_blocks (vnode_at m.world.files name.object).info.extents) name.page 0)
    table-place = file-place m.world.files m.world.anon name.object name.page kept.0 kept.1

    info-at : slice_get infos name.object ≡ Some vnode.info
    info-at = slice_get-map (λ (v : VnodeSeen). v.info) m.world.files.files name.object ∙ ap (option_map (λ (v : VnodeSeen). v.info)) (file-there m.world.files name.object kept.0)

    pub place-there : disk_place (replay opening H) name ≡ Some ((world_table m.world name).disk, (world_table m.world name).block)
    place-there = place-now name
        ∙ ap (λ (o : Option FileInfo). place-by o name.page) info-at
        ∙ ap (option_map (λ (block : ℕ). (let z : ℕ × ℕ = (vnode.info.disk, block) in z))) (keeps-page m.world.files name.object name.page kept.0 kept.1).place
        ∙ (λ i. Some (sym (ap (λ (p : Place). p.disk) table-place) i, sym (ap (λ (p : Place). p.block) table-place) i))

    pub ends-there : bytes_there (replay opening H) name ≡ bytes_before (vnode_at m.world.files name.object).info.length name.page
    ends-there = end-now name ∙ ap (λ (o : Option FileInfo). end-by o name.page) info-at

    pub valid-there : (world_table m.world name).valid ≡ bytes_there (replay opening H) name
    valid-there = ap (λ (p : Place). p.valid) table-place
        ∙ (let z : min (vnode.info.length - name.page * 4096) 4096 ≡ min 4096 (vnode.info.length - 4096 * name.page) = omega arith in z)
        ∙ sym ends-there

    pub shows-there : page_there (replay opening H) name ≡ clip (bytes_there (replay opening H) name) (page_value m.world notes name)
    shows-there = page-now name kept.0 far below
