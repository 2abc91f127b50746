-- The flat memory of a kernel at the start: that of the files as they are opened.
use Rattle.vm_core.proofs.vm_world.Openings.{unnamed-find}
use Rattle.std.proofs.Common.{◌≡◌, ◌≢◌, ℕ, zero, suc, ◌+◌, ◌-◌, ◌*◌, ◌<◌, ◌==◌, min, Bool, true, false, cond, List, [], ◌∷◌, ◌++◌, length, map, replicate, Option, Some, None, refl, sym, ap, ◌∙◌, subst, arith}
use Rattle.std.specs.Prelude.{slice_get, slice_index_or, option_map, nat_le, not, ◌||◌}
use Rattle.std.specs.List.{list_any}
use Rattle.std.specs.Ordering.{nat_cmp, is_eq}
use Rattle.std.specs.Cmp.{nat_cmp_total}
use Rattle.std.specs.FinMap as finite
use Rattle.std.specs.FinSet as set
use Rattle.std.proofs.lemmas.Bool.Decides.{nat_tests}
use Rattle.std.proofs.lemmas.List.{length-map, get_or-map}
use Rattle.std.proofs.lemmas.List.FromFn.{get_or-map-range_with_len}
use Rattle.vm_core.specs.addr_space.Pages.{pages_of_parts}
use Rattle.volume_files.specs.flat_model.Flat.{File, Space}
use Rattle.volume_files.specs.flat_model.Parts.{pages_of_bytes}
use Rattle.volume_files.specs.flat_model.Words.{Page, pages_in}
use Rattle.volume_files.proofs.flat_model.FileBytes.{Whole}
use Rattle.vm_core.specs.page_hash.Names.{name_at}
use Rattle.vm_core.specs.page_store.Bays.{block_of}
use Rattle.vm_core.specs.page_store.Bytes.{clip}
use Rattle.vm_core.specs.page_store.Layout.{page_place}
use Rattle.vm_core.specs.page_store.Notes.{no_notes}
use Rattle.vm_core.specs.page_store.Value.{value, value_in, backing_value, content_of}
use Rattle.vm_core.specs.page_store.declared.place.Place.{Place}
use Rattle.volume_files.specs.vnode_files.declared.vnode.FileInfo.{FileInfo}
use Rattle.volume_files.specs.vnode_files.Files.{vnode_at}
use Rattle.volume_files.specs.vnode_files.Grow.{page_count}
use Rattle.volume_files.specs.vnode_files.Vnode.{VnodeSeen, page_blocks, fresh_vnode, is_blank, IsSoundVnode}
use Rattle.volume_files.proofs.vnode_files.BlockLemmas.{length-page_blocks}
use Rattle.vm_core.specs.vm_world.FlatMemory.{pages_from, file_with_pages, files_with_pages, map_with, space_with, cell_of, zero_maps, zero_pages}
use Rattle.vm_core.specs.vm_world.Pages.{page_value, file_contents}
use Rattle.vm_core.specs.vm_world.Segments.{Spaces}
use Rattle.vm_core.specs.vm_world.State.{is_top}
use Rattle.vm_core.specs.vm_world.World.{World, file_name, file_blocks, is_unpushed, world_table}
use Rattle.vm_core.proofs.vm_world.Maps.{get-map_with}
use Rattle.vm_core.proofs.vm_world.PageNames.{file-page, file-place, below-kept, not-slot}
use Rattle.vm_core.proofs.vm_world.Spaces.{EmptySpaces, empty-zeros, map-empty}
use Rattle.vm_core.specs.State.{marked_processes}
use Rattle.vm_core.proofs.Tops.{born-tops}
use Rattle.volume_files.specs.Opened.{OpenedFile, opened_flat_file, top_processes}
use Rattle.volume_files.specs.stored_files.Closed.{stored_bytes}
use Rattle.run_kernel.proofs.OpenedPages.{opened-pages, pages-agree}

-- A FILE that was never written to since it was opened: its number, its record and where its blocks are.
pub record IsAsOpened (w : World) (f : ℕ) (o : OpenedFile) (blocks : List (List ℕ)) : Type 0 where
  pub unnamed : (frame : ℕ) → name_at w.store.names frame ≡ None
  pub within : f < length w.files.files
  pub low : f ≢ 64
  pub fresh : vnode_at w.files f ≡ fresh_vnode o.info
  pub sound : IsSoundVnode (vnode_at w.files f)
  pub told : 0 < pages_in o.info.length → content_of w.store no_notes o.info.disk ≡ Some blocks
  pub stores : 0 < pages_in o.info.length → stored_bytes blocks o.info ≡ o.bytes
  pub whole : 0 < pages_in o.info.length → Whole (map (λ (b : ℕ). slice_index_or blocks b []) (page_blocks o.info.extents))

abbrev its_pages : List (List ℕ) → FileInfo → List Page
its_pages blocks info = map (λ (b : ℕ). slice_index_or blocks b []) (page_blocks info.extents)

module _ (w : World) (f : ℕ) (o : OpenedFile) (blocks : List (List ℕ)) (is : IsAsOpened w f o blocks) where
  kept : (i : ℕ) → i < pages_in o.info.length → i < page_count o.info.extents
  kept i lt =
      subst (λ (v : VnodeSeen). i < page_count v.info.extents) is.fresh
      (below-kept (vnode_at w.files f) i is.sound (subst (λ (v : VnodeSeen). i < pages_in v.info.length) (sym is.fresh) lt))

  -- a page below the length isn't blank
  not-blank : (i : ℕ) → i < pages_in o.info.length → is_unpushed w.files w.anon (file_name f i) ≡ false
  not-blank i lt =
      let below = kept i lt in
      let early : nat_le o.info.length (i * 4096) ≡ false = late o.info.length (i * 4096) (omega (arith, lt)) in
      ap (λ (b : Bool). cond b (not (slice_index_or w.anon.swapped i false)) (is_blank (vnode_at w.files f) i)) (not-slot f is.low)
      ∙ ap (λ (v : VnodeSeen). is_blank v i) is.fresh
      ∙ get_or-map-range_with_len (λ (page : ℕ). nat_le o.info.length (page * 4096)) 0 (page_count o.info.extents) i i false below (omega arith)
      ∙ early
    where
      late : (a b : ℕ) → b < a → nat_le a b ≡ false
      late a b lt = grind (arith, nat_tests)

  -- the page of a name
  page-is : (i : ℕ) → i < pages_in o.info.length → file_contents (page_value w no_notes) f i ≡ clip (min (o.info.length - i * 4096) 4096) (slice_index_or (its_pages blocks o.info) i [])
  page-is i lt =
      let below = kept i lt in
      let some : 0 < pages_in o.info.length = omega (arith, lt) in
      let name = file_name f i in
      let inside : i < page_count (vnode_at w.files f).info.extents = subst (λ (v : VnodeSeen). i < page_count v.info.extents) (sym is.fresh) below in
      let place : world_table w name ≡ page_place (file_blocks (fresh_vnode o.info)) i false (slice_index_or (page_blocks o.info.extents) i 0) =
      file-place w.files w.anon f i is.within inside
      ∙ ap (λ (b : Bool). page_place (file_blocks (vnode_at w.files f)) i b (slice_index_or (page_blocks (vnode_at w.files f).info.extents) i 0)) (not-blank i lt)
      ∙ ap (λ (v : VnodeSeen). page_place (file_blocks v) i false (slice_index_or (page_blocks v.info.extents) i 0)) is.fresh in
      let count = length-page_blocks o.info.extents in
      ap (λ (b : Bool). cond b [] (page_value w no_notes name)) (not-slot f is.low)
      ∙ ap (λ (b : Bool). cond b (value w.store no_notes (world_table w) name) []) (file-page w.files w.anon f i is.low inside)
      ∙ ap (λ (h : Option ℕ). value_in h w.store no_notes (world_table w name)) (unnamed-find w.store.names name is.unnamed)
      ∙ ap (λ (p : Place). backing_value w.store no_notes p) place
      ∙ ap (λ (c : Option (List (List ℕ))). clip (min (o.info.length - i * 4096) 4096) (block_of c (slice_index_or (page_blocks o.info.extents) i 0))) (is.told some)
      ∙ ap (λ (p : Page). clip (min (o.info.length - i * 4096) 4096) p) (sym (get_or-map (λ (b : ℕ). slice_index_or blocks b []) (page_blocks o.info.extents) i 0 [] (omega (arith, below, count))))

  pages-are : pages_from (file_contents (page_value w no_notes) f) 0 (pages_in o.info.length) ≡ (opened_flat_file o).pages
  pages-are = by_count (pages_in o.info.length) refl
    where
      by_count : (n : ℕ) → pages_in o.info.length ≡ n → pages_from (file_contents (page_value w no_notes) f) 0 n ≡ pages_of_bytes n (o.bytes ++ replicate (4096 * n - o.info.length) 0)
      by_count zero e = refl
      by_count (suc m) e =
          let some : 0 < pages_in o.info.length = omega (arith, e) in
          let last = kept m (omega (arith, e)) in
          let count = length-page_blocks o.info.extents in
          let size = length-map (page_blocks o.info.extents) (λ (b : ℕ). slice_index_or blocks b []) in
          pages-agree (file_contents (page_value w no_notes) f) (λ (i : ℕ). clip (min (o.info.length - i * 4096) 4096)
          (slice_index_or (its_pages blocks o.info) i [])) (suc m) (λ i lt. page-is i (subst (λ (n : ℕ). i < n) (sym e) lt))
          ∙ sym (opened-pages (its_pages blocks o.info) o.info.length (suc m) (is.whole some) (omega (arith, last, count, size)))
          ∙ ap (λ (bytes : List ℕ). pages_of_bytes (suc m) (bytes ++ replicate (4096 * suc m - o.info.length) 0)) (is.stores some)

  pub opened-file : file_with_pages (file_contents (page_value w no_notes) f) o.info ≡ opened_flat_file o
  opened-file = λ i. record { len = o.info.length; disk = o.info.disk; extents = o.info.extents; writable = o.info.writable; pages = pages-are i }

-- ALL FILES.
pub opened-files : (w : World) (k : ℕ) (files : List OpenedFile) → ((i : ℕ) (o : OpenedFile) → slice_get files i ≡ Some o → (blocks : List (List ℕ)) × IsAsOpened w (k + i) o blocks)
    → files_with_pages (file_contents (page_value w no_notes)) k (map (λ (o : OpenedFile). o.info) files) ≡ map opened_flat_file files
opened-files w k [] each = refl
opened-files w k (o ∷ files) each =
    let e : k + 0 ≡ k = omega arith in
    let here = each 0 o refl in
    ap (λ (x : File). x ∷ files_with_pages (file_contents (page_value w no_notes)) (suc k) (map (λ (o : OpenedFile). o.info) files))
    (opened-file w k o here.0 (subst (λ (n : ℕ). IsAsOpened w n o here.0) e here.1))
    ∙ ap (λ (xs : List File). opened_flat_file o ∷ xs) (opened-files w (suc k) files
    (λ i p is. let s : k + suc i ≡ suc k + i = omega arith in let next = each (suc i) p is in (next.0, subst (λ (n : ℕ). IsAsOpened w n p next.0) s next.1)))

-- THE PROCESSES without a parent.
tops-marked : (k : ℕ) (parents : List ℕ) → top_processes k parents ≡ marked_processes k (map (λ (n : ℕ). n == 0) parents)
tops-marked k [] = refl
tops-marked k (x ∷ parents) = by_test (x == 0) (ap (λ (n : ℕ). top_processes n parents) next ∙ tops-marked (suc k) parents)
  where
    next : k + 1 ≡ suc k
    next = omega arith

    by_test : (b : Bool) → top_processes (k + 1) parents ≡ marked_processes (suc k) (map (λ (n : ℕ). n == 0) parents)
        → cond b (k ∷ top_processes (k + 1) parents) (top_processes (k + 1) parents) ≡ marked_processes k (b ∷ map (λ (n : ℕ). n == 0) parents)
    by_test true rest = ap (λ (l : List ℕ). k ∷ l) rest
    by_test false rest = rest

contains-tops : (parents : List ℕ) (p : ℕ) → set.contains (set.from_list {R = nat_cmp} (top_processes 1 parents)) p ≡ is_top parents p
contains-tops parents p = ap (λ (l : List ℕ). set.contains (set.from_list {R = nat_cmp} l) p) (tops-marked 1 parents) ∙ born-tops parents p

pub born-is : (born : set.FinSet nat_cmp) (parents : List ℕ) → ((p : ℕ) → set.contains born p ≡ is_top parents p) → born ≡ set.from_list (top_processes 1 parents)
born-is born parents is = set.same_set nat_cmp_total finite.nat_cmp-IsAntisymmetric born (set.from_list (top_processes 1 parents)) (λ p. is p ∙ sym (contains-tops parents p))

find-top : {X : Type 0} (v : X) (roots : List ℕ) (q : ℕ) → finite.find nat_cmp q (map (λ (p : ℕ). (p, v)) roots) ≡ cond (list_any (λ (y : ℕ). y == q) roots) (Some v) None
find-top v [] q = refl
find-top v (p ∷ roots) q =
    ap (λ (b : Bool). cond b (Some v) (finite.find nat_cmp q (map (λ (r : ℕ). (r, v)) roots))) (same-key p q)
    ∙ ap (cond (p == q) (Some v)) (find-top v roots q) ∙ either (p == q) (list_any (λ (y : ℕ). y == q) roots)
  where
    same-key : (p q : ℕ) → is_eq (nat_cmp q p) ≡ (p == q)
    same-key p q = grind (arith, nat_tests)

    either : (a b : Bool) → cond a (Some v) (cond b (Some v) None) ≡ cond (a || b) (Some v) None
    either true b = refl
    either false b = refl

-- their spaces
pub spaces-are : (spaces : Spaces) (parents : List ℕ) (held : ℕ → ℕ → Option Page) → ((p : ℕ) → finite.get spaces p ≡ cond (is_top parents p) (Some []) None)
    → map_with (space_with held) spaces ≡ finite.from_entries (map (λ (p : ℕ). (p, finite.empty)) (top_processes 1 parents))
spaces-are spaces parents held is = finite.same_map nat_cmp_total finite.nat_cmp-IsAntisymmetric _ _ (λ q.
    get-map_with (space_with held) spaces q ∙ ap (option_map (space_with held)) (is q) ∙ by_top q (is_top parents q)
    ∙ sym (finite.get-from_entries nat_cmp_total (map (λ (p : ℕ). (p, finite.empty)) (top_processes 1 parents)) q ∙ find-top finite.empty (top_processes 1 parents) q
    ∙ ap (λ (b : Bool). cond b (Some finite.empty) None) (sym (set.contains-from_list_nat (top_processes 1 parents) q) ∙ contains-tops parents q)))
  where
    none : space_with held [] ≡ finite.empty
    none = map-empty (space_with held []) (λ q. get-map_with (cell_of held) (pages_of_parts []) q ∙ ap (option_map (cell_of held)) (finite.get-empty nat_cmp q))

    by_top : (q : ℕ) (b : Bool) → option_map (space_with held) (cond b (Some []) None) ≡ cond b (Some finite.empty) None
    by_top q true = ap (λ (s : Space). Some s) none
    by_top q false = refl

-- no zero object
pub zeros-none : (spaces : Spaces) (held : ℕ → ℕ → Option Page) (lengths : ℕ → ℕ) → EmptySpaces spaces → map_with (zero_pages held lengths) (zero_maps spaces) ≡ finite.empty
zeros-none spaces held lengths empty = map-empty (map_with (zero_pages held lengths) (zero_maps spaces)) (λ q.
    get-map_with (zero_pages held lengths) (zero_maps spaces) q
    ∙ ap (option_map (zero_pages held lengths)) (ap (λ (m : finite.FinMap nat_cmp ℕ). finite.get m q) (empty-zeros spaces empty) ∙ finite.get-empty nat_cmp q))
