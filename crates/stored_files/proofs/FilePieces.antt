-- The bytes of a file, page by page.
use Rattle.std.proofs.Common.{◌≡◌, ℕ, zero, suc, ◌+◌, ◌-◌, ◌*◌, ◌<◌, ◌≤◌, ◌⊎◌, List, [], ◌∷◌, ◌++◌, length, map, take, drop, min, refl, sym, ap, ◌∙◌, subst}
use Rattle.std.proofs.Common.{arith, inl, inr, take_at, drop_at, append_assoc}
use Rattle.std.specs.Prelude.{IfSome, Option, Some, None, slice_index_or, replicate, unwrap_or}
use Rattle.std.specs.List.{concat}
use Rattle.std.proofs.Math.ListN.{get_or}
use Rattle.std.proofs.Math.Seq.{drop-cons}
use Rattle.std.proofs.lemmas.Bool.{cases_lt}
use Rattle.std.proofs.lemmas.List.{take_all, take-take, take-append-le, drop-take, drop-drop, take_min, take-append-drop, length-take, length-drop}
use Rattle.std.proofs.lemmas.List.{length-append, length-map, length-replicate, get_or-map, append-nil}
use Rattle.vm_report.specs.vm_types.Pages.{bytes_before, pages_in}
use Rattle.vm_report.specs.flat_model.Words.{Page, with_bytes}
use Rattle.vm_report.proofs.flat_model.FileBytes.{Whole, length-concat, length-with_bytes as length-put}
use Rattle.block_device.specs.DiskSeen.{DiskSeen, HasBlocks, AreBlocks, Shows}
use Rattle.volume_format.specs.vnode_files.declared.vnode.FileInfo.{FileInfo}
use Rattle.volume_format.specs.vnode_files.Grow.{page_count}
use Rattle.volume_format.specs.vnode_files.Vnode.{page_blocks, block_at, no_vnode}
use Rattle.volume_format.specs.vnode_files.Files.{FilesSeen, block_count}
use Rattle.volume_format.proofs.vnode_files.BlockLemmas.{length-page_blocks}
use Rattle.volume_format.proofs.vnode_files.LayoutLaws.{file_layout_law}
use Rattle.stored_files.specs.Closed.{stored_bytes}
use Rattle.stored_files.specs.Showing.{LiesOn, shown_info, page_piece, AreFileBytes, ArePageBytes}

-- pages that are whole, one behind another
whole_pages : (ps : List Page) → ((i : ℕ) → i < length ps → length (get_or ps i []) ≡ 4096) → Whole ps
whole_pages [] each = tt
whole_pages (p ∷ ps) each = (each 0 (omega arith), whole_pages ps (λ i below. each (suc i) (omega (arith, below))))

whole_at : (i : ℕ) (ps : List Page) → Whole ps → i < length ps → length (get_or ps i []) ≡ 4096
whole_at i [] whole below = absurd (omega (arith, below))
whole_at zero (p ∷ ps) whole below = whole.0
whole_at (suc i) (p ∷ ps) whole below = whole_at i ps whole.1 (omega (arith, below))

drop_pages : (i at : ℕ) (ps : List Page) → Whole ps → at ≡ 4096 * i → i ≤ length ps → drop at (concat ps) ≡ concat (drop i ps)
drop_pages zero at ps whole is below = let none : at ≡ 0 = omega (arith, is) in ap (λ k. drop k (concat ps)) none
drop_pages (suc i) at [] whole is below = absurd (omega (arith, below))
drop_pages (suc i) at (p ∷ ps) whole is below =
    let more : at ≡ 4096 + 4096 * i = omega (arith, is) in
    ap (λ k. drop k (p ++ concat ps)) more
    ∙ sym (drop-drop (4096 * i) 4096 (p ++ concat ps))
    ∙ ap (drop (4096 * i)) (drop_at p (concat ps) 4096 whole.0)
    ∙ drop_pages i (4096 * i) ps whole.1 refl (omega (arith, below))

front_of : (m k : ℕ) (p rest : List ℕ) → length p ≡ m → take m (take k (p ++ rest)) ≡ take (min m k) p
front_of m k p rest whole = elim (cases_lt k m) [
  | inl less ↦
      let least : min m k ≡ k = omega (arith, less) in
      take_all m (take k (p ++ rest)) (omega (arith, less, length-take k (p ++ rest))) ∙ take-append-le k p rest (omega (arith, less, whole)) ∙ ap (λ j. take j p) (sym least)
  | inr more ↦
      let least : min m k ≡ m = omega (arith, more) in
      take-take m k (p ++ rest) more ∙ take-append-le m p rest (omega (arith, whole)) ∙ ap (λ j. take j p) (sym least)
]

-- the bytes of a page, of pages that are cut at a length
page_of : (len i : ℕ) (ps : List Page) → Whole ps → i < length ps → 4096 * i ≤ len → page_piece (take len (concat ps)) i ≡ take (bytes_before len i) (get_or ps i [])
page_of len i ps whole below inside =
    let at = 4096 * i in
    let k = len - at in
    let split : len ≡ at + k = omega (arith, inside) in
    let p = get_or ps i [] in
    let rest = concat (drop (suc i) ps) in
    ap (λ n. take 4096 (drop at (take n (concat ps)))) split
    ∙ ap (take 4096) (drop-take at k (concat ps))
    ∙ ap (λ (xs : List ℕ). take 4096 (take k xs)) (drop_pages i at ps whole refl (omega (arith, below)) ∙ ap concat (drop-cons ps i [] below))
    ∙ front_of 4096 k p rest (whole_at i ps whole below)

-- the blocks of a file on its disk
abbrev file_pages : List (List ℕ) → FileInfo → List Page
file_pages blocks info = map (λ block. slice_index_or blocks block []) (page_blocks info.extents)

module _ (files : FilesSeen) (file : ℕ) (disk : ℕ × DiskSeen) (lies : LiesOn files file disk) (blocks : List (List ℕ)) (are : (length blocks ≡ disk.1.size) × AreBlocks blocks) where
  pages_whole : Whole (file_pages blocks (shown_info files file))
  pages_whole =
      let info = shown_info files file in
      let f : ℕ → List ℕ = λ block. slice_index_or blocks block [] in
      let bs = page_blocks info.extents in
      let count : block_count files.disks info.disk ≡ disk.1.size = ap (λ (o : Option ℕ). unwrap_or o 0) lies.size in
      whole_pages (file_pages blocks info) (λ i below.
      let low : i < length bs = omega (arith, below, length-map bs f) in
      let b = block_at info.extents i in
      let on = file_layout_law.on_disks files lies.lie.on_disks file i lies.there (omega (arith, low, length-page_blocks info.extents)) in
      let inside : b < length blocks = omega (arith, on.1, count, are.0) in
      ap length (get_or-map f bs i 0 [] low) ∙ (are.1 b inside).0)

  pages_count : length (file_pages blocks (shown_info files file)) ≡ page_count (shown_info files file).extents
  pages_count =
      let info = shown_info files file in
      length-map (page_blocks info.extents) (λ block. slice_index_or blocks block []) ∙ length-page_blocks info.extents

  within : (shown_info files file).length ≤ page_count (shown_info files file).extents * 4096
  within = (lies.lie.sound file no_vnode lies.there).within

  stored_count : length (stored_bytes blocks (shown_info files file)) ≡ (shown_info files file).length
  stored_count =
      let info = shown_info files file in
      let ps = file_pages blocks info in
      omega (arith, length-take info.length (concat ps), length-concat ps pages_whole, pages_count, within)

  stored_page : (page : ℕ) → page < pages_in (shown_info files file).length
      → page_piece (stored_bytes blocks (shown_info files file)) page ≡ take (bytes_before (shown_info files file).length page)
      (slice_index_or blocks (block_at (shown_info files file).extents page) [])
  stored_page page low =
      let info = shown_info files file in
      let ps = file_pages blocks info in
      let f : ℕ → List ℕ = λ block. slice_index_or blocks block [] in
      let inside : page < length ps = omega (arith, low, within, pages_count) in
      let there : page < length (page_blocks info.extents) = omega (arith, inside, pages_count, length-page_blocks info.extents) in
      page_of info.length page ps pages_whole inside (omega (arith, low))
      ∙ ap (take (bytes_before info.length page)) (get_or-map f (page_blocks info.extents) page 0 [] there)

-- what is read of a page is what the disk has of it
pub piece_read : (files : FilesSeen) (file : ℕ) (disk : ℕ × DiskSeen) (page count : ℕ) (block : List ℕ) → LiesOn files file disk → HasBlocks disk.1.content disk.1.size
    → page < pages_in (shown_info files file).length → length block ≡ 4096 → count ≡ bytes_before (shown_info files file).length page
    → Shows disk.1.content (block_at (shown_info files file).extents page) block → ArePageBytes disk.1 (shown_info files file) page (take count block)
piece_read files file disk page count block lies blocks low whole is shows = record {
  count = omega (arith, length-take count block, whole, is);
  told = told disk.1.content refl blocks shows;
}
  where
    told : (o : Option (List (List ℕ))) → disk.1.content ≡ o → HasBlocks o disk.1.size → Shows o (block_at (shown_info files file).extents page) block
        → IfSome o (λ bs. page_piece (stored_bytes bs (shown_info files file)) page ≡ take count block)
    told None same are at = tt
    told (Some bs) same are at =
        stored_page files file disk lies bs are page low
        ∙ ap (λ (xs : List ℕ). take (bytes_before (shown_info files file).length page) xs) (sym at)
        ∙ ap (λ n. take n block) (sym is)

-- bytes of a file, before any are read
pub some_bytes : (files : FilesSeen) (file : ℕ) (disk : ℕ × DiskSeen) → LiesOn files file disk → HasBlocks disk.1.content disk.1.size
    → (bytes : List ℕ) × AreFileBytes disk.1 (shown_info files file) bytes
some_bytes files file disk lies blocks = made disk.1.content refl blocks
  where
    made : (o : Option (List (List ℕ))) → disk.1.content ≡ o → HasBlocks o disk.1.size → (bytes : List ℕ) × AreFileBytes disk.1 (shown_info files file) bytes
    made None same are = (
      replicate (shown_info files file).length 0,
      record {
        count = length-replicate (shown_info files file).length 0;
        told = subst (λ (o : Option (List (List ℕ))). IfSome o (λ bs. stored_bytes bs (shown_info files file) ≡ replicate (shown_info files file).length 0)) (sym same) tt;
      },
    )
    made (Some bs) same are = (
      stored_bytes bs (shown_info files file),
      record {
        count = stored_count files file disk lies bs are;
        told = subst (λ (o : Option (List (List ℕ))). IfSome o (λ cs. stored_bytes cs (shown_info files file) ≡ stored_bytes bs (shown_info files file))) (sym same) refl;
      },
    )

-- a piece that is put back
put_back : (xs : List ℕ) (at n : ℕ) → with_bytes xs at (take n (drop at xs)) ≡ xs
put_back xs at n =
    let ys = drop at xs in
    let m = length (take n ys) in
    let least : m ≡ min n (length ys) = length-take n ys in
    let same : take n ys ≡ take m ys = sym (take_min n ys) ∙ ap (λ k. take k ys) (sym least) in
    append_assoc (take at xs) (take n ys) (drop (at + m) xs)
    ∙ ap (λ (zs : List ℕ). take at xs ++ (zs ++ drop (at + m) xs)) same
    ∙ ap (λ (zs : List ℕ). take at xs ++ (take m ys ++ zs)) (sym (drop-drop m at xs))
    ∙ ap (λ (zs : List ℕ). take at xs ++ zs) (take-append-drop m ys)
    ∙ take-append-drop at xs

-- the bytes with those of a page that was read
pub with_piece : (disk : DiskSeen) (info : FileInfo) (page : ℕ) (bytes piece : List ℕ) → page < pages_in info.length → AreFileBytes disk info bytes → ArePageBytes disk info page piece
    → AreFileBytes disk info (with_bytes bytes (4096 * page) piece)
with_piece disk info page bytes piece low all one = record {
  count = length-put bytes piece (4096 * page) (omega (arith, all.count, one.count, low)) ∙ all.count;
  told = told disk.content all.told one.told;
}
  where
    told : (o : Option (List (List ℕ))) → IfSome o (λ bs. stored_bytes bs info ≡ bytes) → IfSome o (λ bs. page_piece (stored_bytes bs info) page ≡ piece)
        → IfSome o (λ bs. stored_bytes bs info ≡ with_bytes bytes (4096 * page) piece)
    told None whole part = tt
    told (Some bs) whole part =
        let here : piece ≡ page_piece bytes page = sym part ∙ ap (λ (xs : List ℕ). page_piece xs page) whole in
        whole ∙ sym (ap (λ (xs : List ℕ). with_bytes bytes (4096 * page) xs) here ∙ put_back bytes (4096 * page) 4096)

take_front : (xs ys : List ℕ) (n : ℕ) → length xs ≤ n → (n ≡ length xs) ⊎ (length ys ≡ 0) → take n (xs ++ ys) ≡ xs
take_front xs ys n low (inl is) = take_at xs ys n (sym is)
take_front xs ys n low (inr none) = take_all n (xs ++ ys) (omega (arith, none, low, length-append xs ys)) ∙ without ys none
  where
    without : (zs : List ℕ) → length zs ≡ 0 → xs ++ zs ≡ xs
    without [] is = append-nil xs
    without (z ∷ zs) is = absurd (omega (arith, is))

-- the bytes before a page, and those up to its end
module _ (bytes piece : List ℕ) (page : ℕ) (low : page < pages_in (length bytes)) (count : length piece ≡ min 4096 (length bytes - 4096 * page)) where
  pub before_page : take (4096 * page) (with_bytes bytes (4096 * page) piece) ≡ take (4096 * page) bytes
  before_page =
      let at = 4096 * page in
      let front = take at bytes in
      ap (take at) (append_assoc front piece (drop (at + length piece) bytes)) ∙ take_at front (piece ++ drop (at + length piece) bytes) at (omega (arith, length-take at bytes, low))

  pub through_page : take (4096 * (page + 1)) (with_bytes bytes (4096 * page) piece) ≡ take (4096 * page) bytes ++ piece
  through_page =
      let at = 4096 * page in
      let front = take at bytes in
      let rest = drop (at + length piece) bytes in
      let size = length-append front piece in
      let long = length-take at bytes in
      let left = length-drop (at + length piece) bytes in
      take_front (front ++ piece) rest (4096 * (page + 1)) (omega (arith, size, long, low, count))
      (elim (cases_lt (length piece) 4096) [
        | inl short ↦ inr (omega (arith, left, short, count, low))
        | inr full ↦ inl (omega (arith, size, long, full, count, low))
      ])

-- the block of a page is one of its disk
pub block_below : (files : FilesSeen) (file : ℕ) (disk : ℕ × DiskSeen) (page : ℕ) → LiesOn files file disk → page < pages_in (shown_info files file).length
    → block_at (shown_info files file).extents page < disk.1.size
block_below files file disk page lies low =
    let info = shown_info files file in
    let count : block_count files.disks info.disk ≡ disk.1.size = ap (λ (o : Option ℕ). unwrap_or o 0) lies.size in
    let inside : page < page_count info.extents = omega (arith, low, (lies.lie.sound file no_vnode lies.there).within) in
    omega (arith, count, (file_layout_law.on_disks files lies.lie.on_disks file page lies.there inside).1)
