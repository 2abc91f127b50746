-- Pages that are written to blocks, and what files' blocks have then.
use Rattle.std.specs.Prelude.{ℕ, zero, suc, ◌≡◌, ◌≢◌, ◌<◌, ◌≤◌, ◌+◌, ◌-◌, ◌*◌, ◌⊎◌, Bool, true, false, min, ◌||◌, List, [], ◌∷◌, ◌++◌, length, map, take, drop}
use Rattle.std.specs.Prelude.{replicate, Some, None, slice_index_or, slice_set}
use Rattle.std.specs.List.{concat, list_any, range_with_len}
use Rattle.std.proofs.Common.{ap, ◌∙◌, sym, refl, arith, inl, inr, length-append}
use Rattle.std.proofs.lemmas.List.{append_assoc, append-nil, map-append, length-set, length-replicate, take_at, take-append-drop, take_all, get_or-set_same}
use Rattle.std.proofs.lemmas.List.{get_or-set_other, same_lists, drop-drop, length-drop, drop-replicate, drop-append-le, take-append-le}
use Rattle.std.proofs.lemmas.List.Folds.{concat-append}
use Rattle.std.proofs.lemmas.List.FromFn.{length-map-range_with_len, get_or-map-range_with_len, take-map-range_with_len}
use Rattle.std.proofs.lemmas.Bool.{cases_lt, both_ways, or_right}
use Rattle.vm_report.specs.flat_model.Words.{pages_in}
use Rattle.vm_report.specs.flat_model.Parts.{pages_of_bytes}
use Rattle.vm_report.proofs.flat_model.FileBytes.{length-pages_of_bytes, concat-pages_of_bytes}
use Rattle.volume_format.specs.vnode_files.declared.extent.Extent.{Extent}
use Rattle.volume_format.specs.vnode_files.declared.vnode.FileInfo.{FileInfo}
use Rattle.volume_format.specs.vnode_files.Grow.{has_block}
use Rattle.volume_format.specs.vnode_files.Vnode.{page_blocks}
use Rattle.volume_format.proofs.vnode_files.BlockLemmas.{has_block-between}
use Rattle.stored_files.specs.Closed.{stored_bytes}
use Rattle.volume_files.specs.Placing.{filled_pages, with_block_pages}

-- blocks with pages from a block on
pub set_pages : List (List ℕ) → ℕ → List (List ℕ) → List (List ℕ)
set_pages blocks start [] = blocks
set_pages blocks start (p ∷ ps) = set_pages (slice_set blocks start p) (start + 1) ps

pub with_pages-told : (blocks : List (List ℕ)) (start : ℕ) (ps : List (List ℕ)) → with_block_pages (Some blocks) start ps ≡ Some (set_pages blocks start ps)
unfolding set_pages
with_pages-told blocks start [] = refl
with_pages-told blocks start (p ∷ ps) = with_pages-told (slice_set blocks start p) (start + 1) ps

pub with_pages-untold : (start : ℕ) (ps : List (List ℕ)) → with_block_pages None start ps ≡ None
with_pages-untold start [] = refl
with_pages-untold start (p ∷ ps) = with_pages-untold (start + 1) ps

pub length-set_pages : (blocks : List (List ℕ)) (start : ℕ) (ps : List (List ℕ)) → length (set_pages blocks start ps) ≡ length blocks
unfolding set_pages
length-set_pages blocks start [] = refl
length-set_pages blocks start (p ∷ ps) = length-set_pages (slice_set blocks start p) (start + 1) ps ∙ length-set blocks start p

-- a block outside of the pages is as it was
pub set_pages-other : (blocks : List (List ℕ)) (start : ℕ) (ps : List (List ℕ)) (b : ℕ) → (b < start) ⊎ (start + length ps ≤ b)
    → slice_index_or (set_pages blocks start ps) b [] ≡ slice_index_or blocks b []
unfolding set_pages
set_pages-other blocks start [] b out = refl
set_pages-other blocks start (p ∷ ps) b out =
    let other : b ≢ start = elim out [ inl less ↦ λ e. omega (arith, less, e) | inr more ↦ λ e. omega (arith, more, e) ] in
    let out_next : (b < start + 1) ⊎ (start + 1 + length ps ≤ b) = elim out [ inl less ↦ inl (omega (arith, less)) | inr more ↦ inr (omega (arith, more)) ] in
    set_pages-other (slice_set blocks start p) (start + 1) ps b out_next ∙ get_or-set_other blocks start b p [] other

-- a block within them has its page
pub set_pages-at : (blocks : List (List ℕ)) (start : ℕ) (ps : List (List ℕ)) (i : ℕ) → i < length ps → start + length ps ≤ length blocks
    → slice_index_or (set_pages blocks start ps) (start + i) [] ≡ slice_index_or ps i []
unfolding set_pages
set_pages-at blocks start [] i below fits = absurd (omega (arith, below))
set_pages-at blocks start (p ∷ ps) zero below fits =
    let here : start + 0 ≡ start = omega arith in
    ap (λ k. slice_index_or (set_pages (slice_set blocks start p) (start + 1) ps) k []) here
    ∙ set_pages-other (slice_set blocks start p) (start + 1) ps start (inl (omega arith))
    ∙ get_or-set_same blocks start p [] (omega (arith, fits))
set_pages-at blocks start (p ∷ ps) (suc i) below fits =
    let next : start + suc i ≡ start + 1 + i = omega arith in
    ap (λ k. slice_index_or (set_pages (slice_set blocks start p) (start + 1) ps) k []) next
    ∙ set_pages-at (slice_set blocks start p) (start + 1) ps i (omega (arith, below)) (omega (arith, fits, length-set blocks start p))

-- the bytes of pages are the bytes, and zeros
pub length-filled : (bytes : List ℕ) → length (filled_pages bytes) ≡ pages_in (length bytes)
length-filled bytes = length-pages_of_bytes (pages_in (length bytes)) (bytes ++ replicate (4096 * pages_in (length bytes) - length bytes) 0)

concat-filled : (bytes : List ℕ) → concat (filled_pages bytes) ≡ bytes ++ replicate (4096 * pages_in (length bytes) - length bytes) 0
concat-filled bytes =
    let n = pages_in (length bytes) in
    let zeros : List ℕ = replicate (4096 * n - length bytes) 0 in
    concat-pages_of_bytes n (bytes ++ zeros) ∙ take_all (4096 * n) (bytes ++ zeros) (omega (arith, length-append bytes zeros, length-replicate {A = ℕ} (4096 * n - length bytes) 0))

-- a page as code cuts it: the bytes from its first up to an end, and zeros
cut_page : (n i at : ℕ) (bytes : List ℕ) → i < n → at ≡ 4096 * i → slice_index_or (pages_of_bytes n bytes) i [] ≡ take 4096 (drop at bytes)
cut_page zero i at bytes below is = absurd (omega (arith, below))
cut_page (suc n) zero at bytes below is = let none : at ≡ 0 = omega (arith, is) in ap (λ k. take 4096 (drop k bytes)) (sym none)
cut_page (suc n) (suc i) at bytes below is =
    let more : 4096 + 4096 * i ≡ at = omega (arith, is) in
    cut_page n i (4096 * i) (drop 4096 bytes) (omega (arith, below)) refl
    ∙ ap (take 4096) (drop-drop (4096 * i) 4096 bytes ∙ ap (λ k. drop k bytes) more)

fill_short : (own fill copied rest : List ℕ) (k : ℕ) → copied ≡ own → rest ≡ fill → take k (own ++ fill) ≡ own ++ fill → copied ++ rest ≡ take k (own ++ fill)
fill_short own fill copied rest k whole tail full = ap (λ (xs : List ℕ). xs ++ rest) whole ∙ ap (λ (xs : List ℕ). own ++ xs) tail ∙ sym full

fill_long : (own fill copied rest : List ℕ) (k : ℕ) → copied ≡ take k own → rest ≡ [] → k ≤ length own → copied ++ rest ≡ take k (own ++ fill)
fill_long own fill copied rest k copy none enough =
    ap (λ (xs : List ℕ). xs ++ rest) copy ∙ ap (λ (xs : List ℕ). take k own ++ xs) none ∙ append-nil (take k own) ∙ sym (take-append-le k own fill enough)

pub page_filled : (bytes : List ℕ) (page end : ℕ) (copied rest : List ℕ) → page < pages_in (length bytes) → end ≡ min (length bytes) (page * 4096 + 4096)
    → copied ≡ take (end - page * 4096) (drop (page * 4096) bytes) → rest ≡ drop (end - page * 4096) (replicate 4096 0)
    → copied ++ rest ≡ slice_index_or (filled_pages bytes) page []
page_filled bytes page end copied rest below is copy zeros =
    let n = pages_in (length bytes) in
    let at = page * 4096 in
    let more = 4096 * n - length bytes in
    let fill : List ℕ = replicate more 0 in
    let within : at ≤ length bytes = omega (arith, below) in
    let own = drop at bytes in
    let long : length own ≡ length bytes - at = length-drop at bytes in
    let tail : rest ≡ replicate (4096 - (end - at)) 0 = zeros ∙ drop-replicate (end - at) 4096 0 in
    let cut : slice_index_or (filled_pages bytes) page [] ≡ take 4096 (own ++ fill) =
    cut_page n page at (bytes ++ fill) below (omega arith) ∙ ap (take 4096) (drop-append-le at bytes fill within) in
    elim (cases_lt (length own) 4096) [
      | inl short ↦
          let ends : end - at ≡ length own = omega (arith, is, long, short) in
          let whole : copied ≡ own = copy ∙ take_all (end - at) own (omega (arith, ends)) in
          let count : 4096 - (end - at) ≡ more = omega (arith, is, long, short, below) in
          let full : take 4096 (own ++ fill) ≡ own ++ fill =
          take_all 4096 (own ++ fill) (omega (arith, length-append own fill, length-replicate {A = ℕ} more 0, long, short, below)) in
          fill_short own fill copied rest 4096 whole (tail ∙ ap (λ k. replicate k 0) count) full ∙ sym cut
      | inr enough ↦
          let ends : end - at ≡ 4096 = omega (arith, is, long, enough) in
          let none : 4096 - (end - at) ≡ 0 = omega (arith, ends) in
          fill_long own fill copied rest 4096 (copy ∙ ap (λ k. take k own) ends) (tail ∙ ap (λ k. replicate k 0) none) enough ∙ sym cut
    ]

-- blocks whose first pages are those of bytes have the bytes
pub stored_filled : (blocks : List (List ℕ)) (start pages : ℕ) (bytes : List ℕ) → pages_in (length bytes) ≤ pages
    → ((i : ℕ) → i < pages_in (length bytes) → slice_index_or blocks (start + i) [] ≡ slice_index_or (filled_pages bytes) i [])
    → take (length bytes) (concat (map (λ b. slice_index_or blocks b []) (range_with_len start pages))) ≡ bytes
stored_filled blocks start pages bytes fits each =
    let n = pages_in (length bytes) in
    let F : ℕ → List ℕ = λ b. slice_index_or blocks b [] in
    let all = map F (range_with_len start pages) in
    let zeros : List ℕ = replicate (4096 * n - length bytes) 0 in
    let front : take n all ≡ filled_pages bytes =
    take-map-range_with_len F start pages n fits
    ∙ same_lists (map F (range_with_len start n)) (filled_pages bytes) (length-map-range_with_len F start n ∙ sym (length-filled bytes)) (λ k d h.
    let below : k < n = omega (arith, h, length-map-range_with_len F start n) in
    get_or-map-range_with_len F start n k (start + k) d below refl ∙ each k below ∙ other_default (filled_pages bytes) k d (omega (arith, below, length-filled bytes))) in
    let rest = concat (drop n all) in
    ap (λ (ps : List (List ℕ)). take (length bytes) (concat ps)) (sym (take-append-drop n all))
    ∙ ap (take (length bytes)) (concat-append (take n all) (drop n all) ∙ ap (λ (ps : List (List ℕ)). concat ps ++ rest) front ∙ ap
    (λ (xs : List ℕ). xs ++ rest) (concat-filled bytes) ∙ append_assoc bytes zeros rest)
    ∙ take_at bytes (zeros ++ rest) (length bytes) refl
  where
    other_default : (xs : List (List ℕ)) (k : ℕ) (d : List ℕ) → k < length xs → slice_index_or xs k [] ≡ slice_index_or xs k d
    other_default [] k d h = absurd (omega (arith, h))
    other_default (x ∷ xs) zero d h = refl
    other_default (x ∷ xs) (suc k) d h = other_default xs k d (omega (arith, h))

range_same : (old new : List (List ℕ)) (a n : ℕ) → ((b : ℕ) → a ≤ b → b < a + n → slice_index_or new b [] ≡ slice_index_or old b [])
    → map (λ b. slice_index_or new b []) (range_with_len a n) ≡ map (λ b. slice_index_or old b []) (range_with_len a n)
range_same old new a zero each = refl
range_same old new a (suc n) each =
    let rest = range_same old new (a + 1) n (λ b low high. each b (omega (arith, low)) (omega (arith, high))) in
    λ i. each a (omega arith) (omega arith) i ∷ rest i

-- what the blocks of extents have where each of these blocks has what it had
pub blocks_same : (old new : List (List ℕ)) (es : List Extent) → ((b : ℕ) → list_any (has_block b) es ≡ true → slice_index_or new b [] ≡ slice_index_or old b [])
    → map (λ b. slice_index_or new b []) (page_blocks es) ≡ map (λ b. slice_index_or old b []) (page_blocks es)
blocks_same old new [] each = refl
blocks_same old new (e ∷ es) each =
    let F : ℕ → List ℕ = λ b. slice_index_or old b [] in
    let G : ℕ → List ℕ = λ b. slice_index_or new b [] in
    let here : map G (range_with_len e.start e.pages) ≡ map F (range_with_len e.start e.pages) =
    range_same old new e.start e.pages (λ b low high. each b (ap (λ t. t || list_any (has_block b) es) (has_block-between b e low high))) in
    let rest : map G (page_blocks es) ≡ map F (page_blocks es) = blocks_same old new es (λ b h. each b (or_right (has_block b e) (list_any (has_block b) es) h)) in
    map-append G (range_with_len e.start e.pages) (page_blocks es)
    ∙ ap (λ (ps : List (List ℕ)). ps ++ map G (page_blocks es)) here
    ∙ ap (λ (ps : List (List ℕ)). map F (range_with_len e.start e.pages) ++ ps) rest
    ∙ sym (map-append F (range_with_len e.start e.pages) (page_blocks es))

-- pages that are written where no block of a file lies leave the file's bytes
pub stored_beside : (blocks : List (List ℕ)) (start : ℕ) (ps : List (List ℕ)) (info : FileInfo)
    → ((b : ℕ) → start ≤ b → b < start + length ps → list_any (has_block b) info.extents ≡ false)
    → stored_bytes (set_pages blocks start ps) info ≡ stored_bytes blocks info
stored_beside blocks start ps info free =
    ap (λ (qs : List (List ℕ)). take info.length (concat qs)) (blocks_same blocks (set_pages blocks start ps) info.extents (λ b has.
    set_pages-other blocks start ps b (outside b has (cases_lt b start) (cases_lt b (start + length ps)))))
  where
    outside : (b : ℕ) → list_any (has_block b) info.extents ≡ true → (b < start) ⊎ (start ≤ b) → (b < start + length ps) ⊎ (start + length ps ≤ b) → (b < start) ⊎ (start + length ps ≤ b)
    outside b has (inl less) high = inl less
    outside b has (inr low) (inr past) = inr past
    outside b has (inr low) (inl inside) = absurd (both_ways (list_any (has_block b) info.extents) (free b low inside) has)

-- the pages of bytes are written: the file of one extent from there on has the bytes
pub stored_written : (blocks : List (List ℕ)) (start pages : ℕ) (bytes name : List ℕ) (disk : ℕ) (writable : Bool) → pages_in (length bytes) ≤ pages → start + pages ≤ length blocks
    → stored_bytes (set_pages blocks start (filled_pages bytes))
    (record { name = name; disk = disk; extents = record { start = start; pages = pages } ∷ []; length = length bytes; writable = writable }) ≡ bytes
stored_written blocks start pages bytes name disk writable fits inside =
    let new = set_pages blocks start (filled_pages bytes) in
    ap (λ (bs : List ℕ). take (length bytes) (concat (map (λ b. slice_index_or new b []) bs))) (append-nil (range_with_len start pages))
    ∙ stored_filled new start pages bytes fits (λ i below. set_pages-at blocks start (filled_pages bytes) i (omega (arith, below, length-filled bytes))
    (omega (arith, fits, inside, length-filled bytes)))
