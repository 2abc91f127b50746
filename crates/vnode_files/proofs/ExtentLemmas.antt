-- Extents that grow at their end: their pages and page ends.
use Rattle.std.specs.Prelude.{ℕ, zero, suc, ◌≡◌, ◌<◌, ◌≤◌, ◌+◌, List, [], ◌∷◌, ◌++◌, length, take, slice_index_or, slice_set, Some, None}
use Rattle.std.specs.List.{last_or}
use Rattle.std.proofs.lemmas.List.Sums.{sum_by-cons}
use Rattle.std.proofs.lemmas.List.{take_more}
use Rattle.std.proofs.Common.{zero-add, ap, ◌∙◌, arith, refl}
use Rattle.vnode_files.specs.declared.extent.Extent.{Extent}
use Rattle.vnode_files.specs.Grow.{with_longer_last, page_count}
use Rattle.vnode_files.specs.Room.{page_ends}

-- an extent, one block longer
abbrev pub longer : Extent → Extent
longer e = record e { pages = e.pages + 1 }

pub with_longer_last-set : (xs : List Extent) (k : ℕ) (d : Extent) → suc k ≡ length xs → slice_set xs k (longer (slice_index_or xs k d)) ≡ with_longer_last xs
with_longer_last-set [] k d h = absurd (omega arith)
with_longer_last-set (e ∷ []) zero d h = refl
with_longer_last-set (e ∷ []) (suc k) d h = absurd (omega arith)
with_longer_last-set (e ∷ f ∷ es) zero d h = absurd (omega arith)
with_longer_last-set (e ∷ f ∷ es) (suc k) d h = ap (λ (ys : List Extent). e ∷ ys) (with_longer_last-set (f ∷ es) k d (omega arith))

pub page_count-cons : (x : Extent) (xs : List Extent) → page_count (x ∷ xs) ≡ x.pages + page_count xs
page_count-cons x xs = sum_by-cons (λ (e : Extent). e.pages) x xs

pub page_count-longer : (xs : List Extent) → 0 < length xs → page_count (with_longer_last xs) ≡ page_count xs + 1
page_count-longer [] h = absurd (omega arith)
page_count-longer (e ∷ []) h = omega (arith, page_count-cons)
page_count-longer (e ∷ f ∷ es) h = let more = page_count-longer (f ∷ es) (omega arith) in omega (arith, page_count-cons e (f ∷ es), page_count-cons e (with_longer_last (f ∷ es)))

pub page_count-append : (xs ys : List Extent) → page_count (xs ++ ys) ≡ page_count xs + page_count ys
page_count-append [] ys = omega arith
page_count-append (x ∷ xs) ys = let more = page_count-append xs ys in omega (arith, page_count-cons x xs, page_count-cons x (xs ++ ys))

pub length-longer : (xs : List Extent) → length (with_longer_last xs) ≡ length xs
length-longer [] = refl
length-longer (e ∷ []) = refl
length-longer (e ∷ f ∷ es) = ap suc (length-longer (f ∷ es))

pub last-at : (xs : List Extent) (k : ℕ) (d : Extent) → suc k ≡ length xs → last_or None xs ≡ Some (slice_index_or xs k d)
last-at [] k d h = absurd (omega arith)
last-at (e ∷ []) zero d h = refl
last-at (e ∷ []) (suc k) d h = absurd (omega arith)
last-at (e ∷ f ∷ es) zero d h = absurd (omega arith)
last-at (e ∷ f ∷ es) (suc k) d h = last-at (f ∷ es) k d (omega arith)

pub length-page_ends : (b : ℕ) (xs : List Extent) → length (page_ends b xs) ≡ length xs
length-page_ends b [] = refl
length-page_ends b (e ∷ es) = ap suc (length-page_ends (b + e.pages) es)

pub page_ends-append : (b : ℕ) (xs ys : List Extent) → page_ends b (xs ++ ys) ≡ page_ends b xs ++ page_ends (b + page_count xs) ys
page_ends-append b [] ys = let e : b ≡ b + page_count [] = omega arith in ap (λ n. page_ends n ys) e
page_ends-append b (x ∷ xs) ys =
    let e : (b + x.pages) + page_count xs ≡ b + page_count (x ∷ xs) = omega (arith, page_count-cons x xs) in
    ap (λ (zs : List ℕ). (b + x.pages) ∷ zs) (page_ends-append (b + x.pages) xs ys ∙ ap (λ n. page_ends (b + x.pages) xs ++ page_ends n ys) e)

pub page_ends-longer : (b : ℕ) (xs : List Extent) (k : ℕ) → suc k ≡ length xs
    → slice_set (page_ends b xs) k (slice_index_or (page_ends b xs) k 0 + 1) ≡ page_ends b (with_longer_last xs)
page_ends-longer b [] k h = absurd (omega arith)
page_ends-longer b (e ∷ []) zero h = let same : b + e.pages + 1 ≡ b + (e.pages + 1) = omega arith in ap (λ n. n ∷ []) same
page_ends-longer b (e ∷ []) (suc k) h = absurd (omega arith)
page_ends-longer b (e ∷ f ∷ es) zero h = absurd (omega arith)
page_ends-longer b (e ∷ f ∷ es) (suc k) h = ap (λ (ys : List ℕ). (b + e.pages) ∷ ys) (page_ends-longer (b + e.pages) (f ∷ es) k (omega arith))

-- the last end is the number of pages
pub page_ends-last : (b : ℕ) (xs : List Extent) (k : ℕ) → suc k ≡ length xs → slice_index_or (page_ends b xs) k 0 ≡ b + page_count xs
page_ends-last b [] k h = absurd (omega arith)
page_ends-last b (e ∷ []) zero h = omega (arith, page_count-cons e [])
page_ends-last b (e ∷ []) (suc k) h = absurd (omega arith)
page_ends-last b (e ∷ f ∷ es) zero h = absurd (omega arith)
page_ends-last b (e ∷ f ∷ es) (suc k) h = let more : slice_index_or (page_ends (b + e.pages) (f ∷ es)) k 0 ≡ b + e.pages + page_count (f ∷ es) = page_ends-last
    (b + e.pages) (f ∷ es) k (omega arith) in
    let all : b + e.pages + page_count (f ∷ es) ≡ b + page_count (e ∷ f ∷ es) = omega (arith, page_count-cons e (f ∷ es)) in more ∙ all

-- the ends of extents that are cut back: the last is the number of their pages
pub page_ends-cut : (b : ℕ) (xs : List Extent) (k pages n : ℕ) (d : Extent) → suc k ≤ length xs → n ≡ b + page_count (slice_set (take (suc k) xs) k (record (slice_index_or xs k d) { pages = pages }))
    → slice_set (take (suc k) (page_ends b xs)) k n ≡ page_ends b (slice_set (take (suc k) xs) k (record (slice_index_or xs k d) { pages = pages }))
page_ends-cut b [] k pages n d h e = absurd (omega arith)
page_ends-cut b (x ∷ xs) zero pages n d h e = let same : n ≡ b + pages = e ∙ omega (arith, page_count-cons (record x { pages = pages }) []) in ap (λ m. m ∷ []) same
page_ends-cut b (x ∷ xs) (suc k) pages n d h e = ap (λ (ys : List ℕ). (b + x.pages) ∷ ys)
    (page_ends-cut (b + x.pages) xs k pages n d (omega arith) (e ∙ omega (arith, page_count-cons x (slice_set (take (suc k) xs) k (record (slice_index_or xs k d) { pages = pages })))))

-- one extent more
pub page_ends-more : (xs : List Extent) (i : ℕ) (d : Extent) → i < length xs
    → page_ends 0 (take (i + 1) xs) ≡ page_ends 0 (take i xs) ++ (page_count (take i xs) + (slice_index_or xs i d).pages) ∷ []
page_ends-more xs i d h =
    ap (λ (ys : List Extent). page_ends 0 ys) (take_more xs i d h) ∙ page_ends-append 0 (take i xs) (slice_index_or xs i d ∷ [])
    ∙ ap (λ n. page_ends 0 (take i xs) ++ (n + (slice_index_or xs i d).pages) ∷ []) (zero-add (page_count (take i xs)))
