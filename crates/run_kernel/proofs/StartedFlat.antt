-- A kernel at the start fits flat memory as the processes find it.
use Rattle.vm_core.proofs.Starts.{disk-home}
use Rattle.std.proofs.Common.{◌≡◌, ◌≢◌, ℕ, suc, ◌+◌, ◌-◌, ◌*◌, ◌<◌, Bool, true, false, cond, List, [], ◌∷◌, ◌++◌, length, map, replicate, Option, Some, None, refl, sym, ap, ◌∙◌, subst, arith}
use Rattle.std.specs.Prelude.{slice_get, slice_index_or, is_some, unwrap_or, IfSome}
use Rattle.std.specs.FinMap as finite
use Rattle.std.specs.FinSet as set
use Rattle.std.proofs.lemmas.List.{length-map, get_or-map}
use Rattle.std.proofs.lemmas.Option.{slice_get_within}
use Rattle.vm_core.specs.addr_space.Space.{Part}
use Rattle.volume_files.specs.block_device.DiskSeen.{DiskSeen, HasBlocks, AreBlocks}
use Rattle.volume_files.specs.vm_types.declared.call.Entry.{Entry}
use Rattle.volume_files.specs.flat_model.Flat.{Flat}
use Rattle.volume_files.specs.flat_model.History.{replay}
use Rattle.volume_files.specs.flat_model.Shapes.{SameShape, blank_file, blank_pages, blank_space, map_with, without_bytes}
use Rattle.volume_files.specs.flat_model.Words.{Page, pages_in, zero_page}
use Rattle.volume_files.proofs.flat_model.FileBytes.{Whole, length-pages_of_bytes}
use Rattle.vm_core.specs.page_store.Bays.{BaySeen}
use Rattle.vm_core.specs.page_store.New.{AreHome}
use Rattle.vm_core.specs.page_store.Notes.{no_notes}
use Rattle.vm_core.specs.page_store.Value.{content_of, content_in_bay, tells}
use Rattle.vm_core.specs.page_store.declared.place.Place.{Place}
use Rattle.volume_files.specs.vnode_files.declared.vnode.FileInfo.{FileInfo}
use Rattle.volume_files.specs.vnode_files.Files.{vnode_at, block_count}
use Rattle.volume_files.specs.vnode_files.Grow.{page_count}
use Rattle.volume_files.specs.vnode_files.Vnode.{VnodeSeen, no_vnode, page_blocks, fresh_vnode, IsSoundVnode}
use Rattle.volume_files.proofs.vnode_files.BlockLemmas.{length-page_blocks}
use Rattle.volume_files.proofs.vnode_files.LayoutLaws.{file_layout_law}
use Rattle.volume_files.specs.volume_format.Table.{no_entry}
use Rattle.vm_core.specs.vm_world.FlatMemory.{flat_memory, file_with_pages, files_with_pages, shape_of}
use Rattle.vm_core.specs.vm_world.Events.{FollowsHistory}
use Rattle.vm_core.specs.vm_world.HistoryFits.{HistoryFits}
use Rattle.vm_core.specs.vm_world.MarksOf.{MarksOf}
use Rattle.vm_core.specs.vm_world.Opening.{IsOpening, no_seats}
use Rattle.vm_core.specs.vm_world.Pages.{page_value, file_contents, contents_of}
use Rattle.vm_core.specs.vm_world.declared.segment.Segment.{Segment}
use Rattle.vm_core.specs.vm_world.State.{KernelState, is_top}
use Rattle.vm_core.specs.vm_world.StateFits.{StateFits}
use Rattle.vm_core.specs.vm_world.World.{file_name, AllTell}
use Rattle.vm_core.proofs.vm_world.FilePages.{length-pages_from}
use Rattle.vm_core.proofs.vm_world.PageNames.{file-page, file-place, below-kept, index-of, file-there}
use Rattle.vm_core.proofs.vm_world.Spaces.{EmptySpaces}
use Rattle.volume_files.specs.vm_script.PlanSeen.{PlanSeen}
use Rattle.volume_files.specs.vm_script.Rules.{amounts_of}
use Rattle.volume_files.specs.stored_files.Closed.{StoreFiles, info_at, stored_bytes}
use Rattle.volume_files.specs.Opened.{OpenedFile, opened_flat_file, infos_of, opened_bytes_at, opening_flat, top_processes}
use Rattle.volume_files.specs.stored_files.Written.{LieWell, HaveDisks}
use Rattle.run_kernel.proofs.OpeningFlat.{IsAsOpened, opened-files, born-is, spaces-are, zeros-none}

-- blocks that are whole
whole-from : (blocks : List (List ℕ)) (places : List ℕ) → ((j : ℕ) → j < length places → length (slice_index_or blocks (slice_index_or places j 0) []) ≡ 4096)
    → Whole (map (λ (b : ℕ). slice_index_or blocks b []) places)
whole-from blocks [] each = tt
whole-from blocks (b ∷ places) each = (each 0 (omega arith), whole-from blocks places (λ j lt. each (suc j) (omega (arith, lt))))

pub infos-fresh : (infos : List FileInfo) → map (λ (v : VnodeSeen). v.info) (map fresh_vnode infos) ≡ infos
infos-fresh [] = refl
infos-fresh (info ∷ infos) = ap (λ (l : List FileInfo). info ∷ l) (infos-fresh infos)

-- What a kernel was started with.
pub record IsStartedWith (files : List OpenedFile) (disks : List (ℕ × DiskSeen)) (swap : Option DiskSeen) (s : KernelState) : Type 0 where
  pub opening : IsOpening s
  pub fresh : s.memory.world.files.files ≡ map fresh_vnode (infos_of files)
  pub home : AreHome s.memory.world.store.bays disks swap
  pub well : LieWell s.memory.world.files
  pub have : HaveDisks s.memory.world.files disks
  pub stored : StoreFiles disks (infos_of files) (opened_bytes_at files)

module _ (files : List OpenedFile) (disks : List (ℕ × DiskSeen)) (swap : Option DiskSeen) (s : KernelState) (k : IsStartedWith files disks swap s) where
  count : length s.memory.world.files.files ≡ length files
  count = ap length k.fresh ∙ length-map (infos_of files) fresh_vnode ∙ length-map files (λ (f : OpenedFile). f.info)

  -- the record of a file and its bytes
  info-is : (i : ℕ) (f : OpenedFile) (d : FileInfo) → slice_get files i ≡ Some f → slice_index_or (infos_of files) i d ≡ f.info
  info-is i f d at = get_or-map (λ (x : OpenedFile). x.info) files i f d (slice_get_within files i f at) ∙ ap (λ (x : OpenedFile). x.info) (index-of files i f f at)

  bytes-is : (i : ℕ) (f : OpenedFile) → slice_get files i ≡ Some f → opened_bytes_at files i ≡ f.bytes
  bytes-is i f at = get_or-map (λ (x : OpenedFile). x.bytes) files i f [] (slice_get_within files i f at) ∙ ap (λ (x : OpenedFile). x.bytes) (index-of files i f f at)

  fresh-is : (i : ℕ) (f : OpenedFile) → slice_get files i ≡ Some f → vnode_at s.memory.world.files i ≡ fresh_vnode f.info
  fresh-is i f at =
      let lt = slice_get_within files i f at in
      let size = length-map files (λ (x : OpenedFile). x.info) in
      ap (λ (l : List VnodeSeen). slice_index_or l i no_vnode) k.fresh
      ∙ get_or-map fresh_vnode (infos_of files) i f.info no_vnode (omega (arith, lt, size))
      ∙ ap fresh_vnode (info-is i f f.info at)

  module _ (tell : AllTell s.memory.world no_notes) (i : ℕ) (f : OpenedFile) (at : slice_get files i ≡ Some f) where
    within : i < length s.memory.world.files.files
    within = let lt = slice_get_within files i f at in omega (arith, lt, count)

    low : i ≢ 64
    low e = let few = k.well.few_files in let lt = within in omega (arith, few, lt, e)

    sound : IsSoundVnode (vnode_at s.memory.world.files i)
    sound = k.well.sound i no_vnode within

    -- its disk
    its-disk : (n : ℕ) × (d : DiskSeen) × (slice_get disks n ≡ Some (f.info.disk, d))
    its-disk =
        let there = k.have.there i (vnode_at s.memory.world.files i) (file-there s.memory.world.files i within) in
        (there.0, there.1, subst (λ (v : VnodeSeen). slice_get disks there.0 ≡ Some (v.info.disk, there.1)) (fresh-is i f at) there.2)

    content-is : (n : ℕ) (d : DiskSeen) → slice_get disks n ≡ Some (f.info.disk, d) → content_of s.memory.world.store no_notes f.info.disk ≡ d.content
    content-is n d on = ap (λ (b : BaySeen). content_in_bay b no_notes) (disk-home s.memory.world.store.bays disks swap n f.info.disk d k.home on)

    told : (n : ℕ) (d : DiskSeen) → slice_get disks n ≡ Some (f.info.disk, d) → 0 < pages_in f.info.length → is_some d.content ≡ true
    told n d on some =
        let w = s.memory.world in
        let kept = below-kept (vnode_at w.files i) 0 sound (subst (λ (v : VnodeSeen). 0 < pages_in v.info.length) (sym (fresh-is i f at)) some) in
        let place = ap (λ (p : Place). p.disk) (file-place w.files w.anon i 0 within kept) ∙ ap (λ (v : VnodeSeen). v.info.disk) (fresh-is i f at) in
        sym (ap (λ (c : Option (List (List ℕ))). is_some c) (content-is n d on)) ∙ sym (ap (λ (x : ℕ). tells w.store no_notes x) place) ∙ tell (file_name i 0) (file-page w.files w.anon i 0 low kept)

    block-whole : (n : ℕ) (d : DiskSeen) (blocks : List (List ℕ)) → slice_get disks n ≡ Some (f.info.disk, d) → d.content ≡ Some blocks → (j : ℕ) → j < length (page_blocks f.info.extents)
        → length (slice_index_or blocks (slice_index_or (page_blocks f.info.extents) j 0) []) ≡ 4096
    block-whole n d blocks on is j lt =
        let F = s.memory.world.files in
        let has : (length blocks ≡ d.size) × AreBlocks blocks = subst (λ (c : Option (List (List ℕ))). HasBlocks c d.size) is
        (k.opening.memory.store.sound.whole f.info.disk d (disk-home s.memory.world.store.bays disks swap n f.info.disk d k.home on)) in
        let long = length-page_blocks f.info.extents in
        let kept : j < page_count (vnode_at F i).info.extents = subst (λ (v : VnodeSeen). j < page_count v.info.extents) (sym (fresh-is i f at)) (omega (arith, lt, long)) in
        let below = (file_layout_law.on_disks F k.well.on_disks i j within kept).1 in
        let here : slice_index_or (page_blocks f.info.extents) j 0 < block_count F.disks f.info.disk =
        subst (λ (v : VnodeSeen). slice_index_or (page_blocks v.info.extents) j 0 < block_count F.disks v.info.disk) (fresh-is i f at) below in
        let size : block_count F.disks f.info.disk ≡ d.size = ap (λ (o : Option ℕ). unwrap_or o 0) (k.have.sizes n (f.info.disk, d) on) in
        let same = has.0 in
        (has.1 (slice_index_or (page_blocks f.info.extents) j 0) (omega (arith, here, size, same))).0

    as-opened : (blocks : List (List ℕ)) × IsAsOpened s.memory.world i f blocks
    as-opened = by_content its-disk.0 its-disk.1 its-disk.2 its-disk.1.content refl
      where
        stores : (n : ℕ) (d : DiskSeen) (blocks : List (List ℕ)) → slice_get disks n ≡ Some (f.info.disk, d) → d.content ≡ Some blocks → stored_bytes blocks f.info ≡ f.bytes
        stores n d blocks on is =
            let lt = slice_get_within files i f at in
            let size = length-map files (λ (x : OpenedFile). x.info) in
            let info : info_at (infos_of files) i ≡ f.info = info-is i f no_entry at in
            let at-all = k.stored n i (f.info.disk, d) on (omega (arith, lt, size)) (ap (λ (x : FileInfo). x.disk) info) in
            let bytes : stored_bytes blocks (info_at (infos_of files) i) ≡ opened_bytes_at files i = subst
            (λ (c : Option (List (List ℕ))). IfSome c (λ bs. stored_bytes bs (info_at (infos_of files) i) ≡ opened_bytes_at files i)) is at-all in
            ap (stored_bytes blocks) (sym info) ∙ bytes ∙ bytes-is i f at

        by_content : (n : ℕ) (d : DiskSeen) → slice_get disks n ≡ Some (f.info.disk, d) → (c : Option (List (List ℕ))) → d.content ≡ c → (blocks : List (List ℕ)) × IsAsOpened s.memory.world i f blocks
        by_content n d on None is = (
          [],
          record {
            unnamed = k.opening.memory.store.unnamed;
            within = within;
            low = low;
            fresh = fresh-is i f at;
            sound = sound;
            told = λ some. absurd (let z : false ≡ true = sym (ap is_some is) ∙ told n d on some in cc);
            stores = λ some. absurd (let z : false ≡ true = sym (ap is_some is) ∙ told n d on some in cc);
            whole = λ some. absurd (let z : false ≡ true = sym (ap is_some is) ∙ told n d on some in cc);
          },
        )
        by_content n d on (Some blocks) is = (
          blocks,
          record {
            unnamed = k.opening.memory.store.unnamed;
            within = within;
            low = low;
            fresh = fresh-is i f at;
            sound = sound;
            told = λ some. content-is n d on ∙ is;
            stores = λ some. stores n d blocks on is;
            whole = λ some. whole-from blocks (page_blocks f.info.extents) (block-whole n d blocks on is);
          },
        )

  empty-spaces : EmptySpaces s.memory.spaces
  empty-spaces p parts is = by_top (is_top s.parents p) (sym (k.opening.memory.spaces p) ∙ is)
    where
      by_top : (b : Bool) → cond b (Some []) None ≡ Some parts → parts ≡ []
      by_top true e = let z : ◌≡◌ {A = Option (List (Part Segment))} (Some []) (Some parts) = e in cc
      by_top false e = absurd (let z : ◌≡◌ {A = Option (List (Part Segment))} None (Some parts) = e in cc)

  -- FLAT MEMORY AT THE START, where the disks tell.
  pub opening-is : (plan : PlanSeen) (sizes : List (ℕ × ℕ)) → s.parents ≡ plan.parents → length s.memory.world.anon.counts ≡ (amounts_of plan.setup).slots
      → s.memory.world.files.disks ≡ finite.from_entries sizes
      → AllTell s.memory.world no_notes → flat_memory s.memory s.born no_notes ≡ opening_flat plan sizes files
  opening-is plan sizes parents slots sized tell =
      let w = s.memory.world in
      let place = (contents_of w no_notes).place in
      let all : files_with_pages (file_contents (page_value w no_notes)) 0 (map (λ (v : VnodeSeen). v.info) w.files.files) ≡ map opened_flat_file files =
      ap (files_with_pages (file_contents (page_value w no_notes)) 0) (ap (λ (l : List VnodeSeen). map (λ (v : VnodeSeen). v.info) l) k.fresh ∙ infos-fresh (infos_of files))
      ∙ opened-files w 0 files (λ i f at. let e : i ≡ 0 + i = omega arith in let o = as-opened tell i f at in (o.0, subst (λ (n : ℕ). IsAsOpened w n f o.0) e o.1)) in
      let none = zeros-none s.memory.spaces place (shape_of s.memory).lengths empty-spaces in
      let spaces = spaces-are s.memory.spaces s.parents place k.opening.memory.spaces ∙ ap (λ (l : List ℕ). finite.from_entries (map (λ (p : ℕ). (p, finite.empty)) (top_processes 1 l))) parents in
      let born = born-is s.born s.parents k.opening.born ∙ ap (λ (l : List ℕ). set.from_list (top_processes 1 l)) parents in
      λ i. record { slots = slots i; disks = sized i; files = all i; zeros = none i; spaces = spaces i; born = born i }

  -- WHATEVER THE DISKS TELL, it has the shape of flat memory as the processes find it
  file-bare : (page : ℕ → Page) (f : OpenedFile) → blank_file (file_with_pages page f.info) ≡ blank_file (opened_flat_file f)
  file-bare page f =
      let n = pages_in f.info.length in
      let count = length-pages_from page 0 n ∙ sym (length-pages_of_bytes n (f.bytes ++ replicate (4096 * n - f.info.length) 0)) in
      λ i. record { len = f.info.length; disk = f.info.disk; extents = f.info.extents; writable = f.info.writable; pages = replicate (count i) zero_page }

  files-bare : (page : ℕ → ℕ → Page) (j : ℕ) (fs : List OpenedFile) → map blank_file (files_with_pages page j (infos_of fs)) ≡ map blank_file (map opened_flat_file fs)
  files-bare page j [] = refl
  files-bare page j (f ∷ fs) = λ i. file-bare (page j) f i ∷ files-bare page (suc j) fs i

  pub started-follows : (plan : PlanSeen) (sizes : List (ℕ × ℕ)) → s.parents ≡ plan.parents → length s.memory.world.anon.counts ≡ (amounts_of plan.setup).slots
      → s.memory.world.files.disks ≡ finite.from_entries sizes → FollowsHistory (opening_flat plan sizes files) s
  started-follows plan sizes parents slots sized = record {
    shape = λ notes.
        let w = s.memory.world in
        let place = (contents_of w notes).place in
        let page = file_contents (page_value w notes) in
        let all : map blank_file (files_with_pages page 0 (map (λ (v : VnodeSeen). v.info) w.files.files)) ≡ map blank_file (map opened_flat_file files) =
        ap (λ (l : List FileInfo). map blank_file (files_with_pages page 0 l)) (ap (λ (l : List VnodeSeen). map (λ (v : VnodeSeen). v.info) l) k.fresh ∙ infos-fresh (infos_of files)) ∙ files-bare page 0 files in
        let none = zeros-none s.memory.spaces place (shape_of s.memory).lengths empty-spaces in
        let spaces = spaces-are s.memory.spaces s.parents place k.opening.memory.spaces ∙ ap (λ (l : List ℕ). finite.from_entries (map (λ (p : ℕ). (p, finite.empty)) (top_processes 1 l))) parents in
        let born = born-is s.born s.parents k.opening.born ∙ ap (λ (l : List ℕ). set.from_list (top_processes 1 l)) parents in
        same-shape (flat_memory s.memory s.born notes) (opening_flat plan sizes files) slots sized all none spaces born
        ∙ ap (λ (H : List Entry). without_bytes (replay (opening_flat plan sizes files) H)) (sym k.opening.history);
    refusals = λ i e at own. absurd (let z : ◌≡◌ {A = Option Entry} None (Some e) = sym (ap (λ (H : List Entry). slice_get H i) k.opening.history) ∙ at in cc);
  }
    where
      -- field by field
      same-shape : (F G : Flat) → F.slots ≡ G.slots → F.disks ≡ G.disks → map blank_file F.files ≡ map blank_file G.files → F.zeros ≡ G.zeros → F.spaces ≡ G.spaces → F.born ≡ G.born → SameShape F G
      same-shape F G slots disks files zeros spaces born = λ i. record { slots = slots i; disks = disks i; files = files i; zeros = map_with blank_pages (zeros i); spaces = map_with blank_space (spaces i); born = born i }

  pub started-fits : (plan : PlanSeen) (sizes : List (ℕ × ℕ)) → s.parents ≡ plan.parents → length s.memory.world.anon.counts ≡ (amounts_of plan.setup).slots
      → s.memory.world.files.disks ≡ finite.from_entries sizes
      → StateFits (flat_memory s.memory s.born no_notes) s no_seats → StateFits (opening_flat plan sizes files) s no_seats
  started-fits plan sizes parents slots sized fits = record {
    memory = fits.memory;
    notes = fits.notes;
    replays = λ tell. subst (λ (F : Flat). HistoryFits F s.history s.pending (flat_memory s.memory s.born no_notes)) (opening-is plan sizes parents slots sized tell) (fits.replays tell);
    faults = fits.faults;
    calls = fits.calls;
    rooms = fits.rooms;
    births = fits.births;
    plans = fits.plans;
    marks = λ tell. subst (λ (F : Flat). MarksOf F s no_seats s.marks) (opening-is plan sizes parents slots sized tell) fits.marks tell;
    failures = fits.failures;
    pushes = fits.pushes;
  }
