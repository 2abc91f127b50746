-- The bytes of files on disks whose blocks stay, but for block 0.
use Rattle.std.proofs.Common.{◌≡◌, ℕ, zero, suc, ◌≤◌, ◌<◌, ◌+◌, List, [], ◌∷◌, ◌++◌, length, map, take, refl, sym, ap, ◌∙◌, subst, arith}
use Rattle.std.specs.Prelude.{All, IfSome, Option, Some, None, slice_index_or}
use Rattle.std.specs.List.{concat, range_with_len}
use Rattle.volume_files.specs.block_device.DiskSeen.{DiskSeen}
use Rattle.volume_files.specs.vnode_files.declared.extent.Extent.{Extent}
use Rattle.volume_files.specs.vnode_files.declared.vnode.FileInfo.{FileInfo}
use Rattle.volume_files.specs.vnode_files.Files.{FilesSeen, block_count}
use Rattle.volume_files.specs.vnode_files.Layout.{LieOnDisk}
use Rattle.volume_files.specs.vnode_files.Vnode.{VnodeSeen, page_blocks}
use Rattle.volume_files.specs.stored_files.Closed.{StoreFiles, info_at, stored_bytes}
use Rattle.volume_files.specs.stored_files.Written.{infos_made, KeepsBlocks, LieWell, WriteTables}
use Rattle.volume_files.proofs.DiskLists.{mate}

abbrev block_in : List (List ℕ) → ℕ → List ℕ
block_in blocks b = slice_index_or blocks b []

-- the blocks past block 0 of a run of blocks
run-kept : (blocks now : List (List ℕ)) → ((b : ℕ) → ¬ (b ≡ 0) → block_in now b ≡ block_in blocks b) → (start n : ℕ) → 1 ≤ start
    → map (block_in now) (range_with_len start n) ≡ map (block_in blocks) (range_with_len start n)
run-kept blocks now same start zero first = refl
run-kept blocks now same start (suc n) first =
    ap (λ x. x ∷ map (block_in now) (range_with_len (start + 1) n)) (same start (λ e. omega (arith, first, e)))
    ∙ ap (λ l. block_in blocks start ∷ l) (run-kept blocks now same (start + 1) n (omega (arith, first)))

map-append : {A B : Type 0} (f : A → B) (xs ys : List A) → map f (xs ++ ys) ≡ map f xs ++ map f ys
map-append f [] ys = refl
map-append f (x ∷ xs) ys = ap (λ l. f x ∷ l) (map-append f xs ys)

blocks-kept : (blocks now : List (List ℕ)) → ((b : ℕ) → ¬ (b ≡ 0) → block_in now b ≡ block_in blocks b) → (extents : List Extent) → All (λ e. 1 ≤ e.start) extents
    → map (block_in now) (page_blocks extents) ≡ map (block_in blocks) (page_blocks extents)
blocks-kept blocks now same [] first = refl
blocks-kept blocks now same (e ∷ extents) first =
    map-append (block_in now) (range_with_len e.start e.pages) (page_blocks extents)
    ∙ ap (λ l. l ++ map (block_in now) (page_blocks extents)) (run-kept blocks now same e.start e.pages (first 0 e (omega arith)))
    ∙ ap (λ l. map (block_in blocks) (range_with_len e.start e.pages) ++ l) (blocks-kept blocks now same extents (λ k d lt. first (suc k) d (omega (arith, lt))))
    ∙ sym (map-append (block_in blocks) (range_with_len e.start e.pages) (page_blocks extents))

bytes-kept : (old new : DiskSeen) (info : FileInfo) (bytes : List ℕ) → KeepsBlocks old new → All (λ (e : Extent). 1 ≤ e.start) info.extents
    → IfSome old.content (λ blocks. stored_bytes blocks info ≡ bytes) → IfSome new.content (λ blocks. stored_bytes blocks info ≡ bytes)
bytes-kept old new info bytes k first h = by old.content refl h
  where
    by : (content : Option (List (List ℕ))) → old.content ≡ content → IfSome content (λ blocks. stored_bytes blocks info ≡ bytes) → IfSome new.content (λ blocks. stored_bytes blocks info ≡ bytes)
    by None is p = subst (λ c. IfSome c (λ blocks. stored_bytes blocks info ≡ bytes)) (sym (k.untold is)) tt
    by (Some blocks) is p = let now = k.told blocks is in
        subst (λ c. IfSome c (λ blocks. stored_bytes blocks info ≡ bytes)) (sym now.1) (ap (λ l. take info.length (concat l)) (blocks-kept blocks now.0 now.3 info.extents first) ∙ p)

info-of : (vs : List VnodeSeen) (P : VnodeSeen → Type 0) → All P vs → (k : ℕ) → k < length (map (λ (v : VnodeSeen). v.info) vs)
    → (v : VnodeSeen) × (info_at (map (λ (v : VnodeSeen). v.info) vs) k ≡ v.info) × P v
info-of [] P all k lt = absurd (omega (arith, lt))
info-of (v ∷ vs) P all zero lt = (v, refl, all 0 v (omega arith))
info-of (v ∷ vs) P all (suc k) lt = info-of vs P (λ j d jl. all (suc j) d (omega (arith, jl))) k (omega (arith, lt))

-- the disks have the bytes of all files still
pub stored-kept : (files : FilesSeen) (old new : List (ℕ × DiskSeen)) → LieWell files → WriteTables old new → (bytes : ℕ → List ℕ)
    → StoreFiles old (infos_made files) bytes → StoreFiles new (infos_made files) bytes
stored-kept files old new lie w bytes h i k disk at lt own =
    let m = mate new old (sym w.numbers) i disk at in
    let v = info-of files.files (λ (v : VnodeSeen). LieOnDisk (block_count files.disks v.info.disk) v.info.extents) lie.on_disks k lt in
    bytes-kept m.0.1 disk.1 (info_at (infos_made files) k) (bytes k) (w.each i m.0 disk m.1 at)
    (subst (λ (x : FileInfo). All (λ (e : Extent). 1 ≤ e.start) x.extents) (sym v.1) (λ j d jl. (v.2.within j d jl).0))
    (h i k m.0 m.1 lt (own ∙ sym m.2))
