-- The blocks of extents, one for each page.
use Rattle.std.specs.Prelude.{ℕ, zero, suc, ◌≡◌, ◌<◌, ◌≤◌, ◌+◌, ◌||◌, ◌&&◌, Bool, true, nat_le, nat_lt, List, [], ◌∷◌, ◌++◌, length, Some, None}
use Rattle.std.specs.List.{list_any, range_with_len, last_or}
use Rattle.std.proofs.Common.{ap, ◌∙◌, sym, arith, refl, eqb, length-append, add-one}
use Rattle.std.proofs.lemmas.Bool.Decides.{nat_tests}
use Rattle.std.proofs.lemmas.Grind.{flat_map-append}
use Rattle.std.proofs.lemmas.List.{append-nil, append_assoc}
use Rattle.std.proofs.lemmas.List.FromFn.{length-range_with_len}
use Rattle.std.proofs.lemmas.List.Folds.{list_any-append}
use Rattle.vnode_files.specs.declared.extent.Extent.{Extent}
use Rattle.vnode_files.specs.Grow.{has_block, extent_end, page_count, with_longer_last}
use Rattle.vnode_files.specs.Vnode.{page_blocks}
use Rattle.vnode_files.proofs.ExtentLemmas.{page_count-cons}

pub range-more : (a n : ℕ) → range_with_len a (suc n) ≡ range_with_len a n ++ (a + n) ∷ []
range-more a zero = let e : a ≡ a + 0 = omega arith in ap (λ m. m ∷ []) e
range-more a (suc n) =
    let e : a + 1 + n ≡ a + suc n = omega arith in
    ap (λ (ms : List ℕ). a ∷ ms) (range-more (a + 1) n) ∙ ap (λ m. (a ∷ range_with_len (a + 1) n) ++ m ∷ []) e

pub length-page_blocks : (xs : List Extent) → length (page_blocks xs) ≡ page_count xs
length-page_blocks [] = refl
length-page_blocks (e ∷ es) =
    let more : length (page_blocks es) ≡ page_count es = length-page_blocks es in
    length-append (range_with_len e.start e.pages) (page_blocks es) ∙ omega (arith, length-range_with_len e.start e.pages, page_count-cons e es)

pub page_blocks-append : (xs ys : List Extent) → page_blocks (xs ++ ys) ≡ page_blocks xs ++ page_blocks ys
page_blocks-append xs ys = flat_map-append (λ (e : Extent). range_with_len e.start e.pages) xs ys

pub page_blocks-longer : (xs : List Extent) (e : Extent) → last_or None xs ≡ Some e → page_blocks (with_longer_last xs) ≡ page_blocks xs ++ extent_end e ∷ []
page_blocks-longer [] e is = cc
page_blocks-longer (x ∷ []) e is =
    let same : x ≡ e = cc in
    append-nil (range_with_len x.start (x.pages + 1)) ∙ ap (range_with_len x.start) (add-one x.pages) ∙ range-more x.start x.pages
    ∙ ap (λ (ms : List ℕ). ms ++ (x.start + x.pages) ∷ []) (sym (append-nil (range_with_len x.start x.pages)))
    ∙ ap (λ (y : Extent). page_blocks (x ∷ []) ++ extent_end y ∷ []) same
page_blocks-longer (x ∷ y ∷ xs) e is =
    ap (λ (ms : List ℕ). range_with_len x.start x.pages ++ ms) (page_blocks-longer (y ∷ xs) e is)
    ∙ sym (append_assoc (range_with_len x.start x.pages) (page_blocks (y ∷ xs)) (extent_end e ∷ []))

pub page_blocks-pushed : (xs : List Extent) (b : ℕ) → page_blocks (xs ++ record { start = b; pages = 1 } ∷ []) ≡ page_blocks xs ++ b ∷ []
page_blocks-pushed xs b = page_blocks-append xs (record { start = b; pages = 1 } ∷ [])

pub any-range : (b a n : ℕ) → list_any (eqb b) (range_with_len a n) ≡ (nat_le a b && nat_lt b (a + n))
any-range b a zero = grind (arith, nat_tests)
any-range b a (suc n) =
    let more : list_any (eqb b) (range_with_len (a + 1) n) ≡ (nat_le (a + 1) b && nat_lt b (a + 1 + n)) = any-range b (a + 1) n in
    ap (λ (t : Bool). eqb b a || t) more ∙ grind (arith, nat_tests)

-- a block is one of a page's exactly where an extent has it
pub any-page_blocks : (b : ℕ) (xs : List Extent) → list_any (eqb b) (page_blocks xs) ≡ list_any (has_block b) xs
any-page_blocks b [] = refl
any-page_blocks b (e ∷ es) =
    list_any-append (eqb b) (range_with_len e.start e.pages) (page_blocks es)
    ∙ ap (λ (t : Bool). t || list_any (eqb b) (page_blocks es)) (any-range b e.start e.pages)
    ∙ ap (λ (t : Bool). has_block b e || t) (any-page_blocks b es)

pub has_block-bounds : (b : ℕ) (e : Extent) → has_block b e ≡ true → (e.start ≤ b) × (b < extent_end e)
has_block-bounds b e is = (grind (arith, nat_tests, is), grind (arith, nat_tests, is))

pub has_block-between : (b : ℕ) (e : Extent) → e.start ≤ b → b < extent_end e → has_block b e ≡ true
has_block-between b e low high = grind (arith, nat_tests)
