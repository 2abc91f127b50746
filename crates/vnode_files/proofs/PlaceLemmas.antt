-- Where a page lies: its extent by the page ends, and its block.
use Rattle.std.specs.Prelude.{ℕ, zero, suc, ◌≡◌, ◌<◌, ◌≤◌, ◌+◌, ◌-◌, List, [], ◌∷◌, length, slice_index_or, nat_le, true, false}
use Rattle.std.specs.List.{range_with_len}
use Rattle.std.specs.List.Sorted.{IsPartitionPoint, IsNonDecreasingBy}
use Rattle.std.proofs.Common.{ap, ◌∙◌, sym, arith, subst, inl, inr, zero-add}
use Rattle.std.proofs.lemmas.Bool.{cases_lt, leb-true, leb-false}
use Rattle.std.proofs.lemmas.List.{get_or_append_left, get_or-append_right}
use Rattle.std.proofs.lemmas.List.FromFn.{length-range_with_len, get_or-range_with_len}
use Rattle.vnode_files.specs.declared.extent.Extent.{Extent}
use Rattle.vnode_files.specs.Grow.{page_count}
use Rattle.vnode_files.specs.Vnode.{page_blocks, block_at}
use Rattle.vnode_files.specs.Room.{page_ends}
use Rattle.vnode_files.proofs.ExtentLemmas.{length-page_ends, page_ends-last}

-- the page that stands at q, counted from the pages before, lies in the extent at place i
pub record IsPlaced (xs : List Extent) (before q page i : ℕ) (d : Extent) : Type 0 where
  pub pages : (slice_index_or xs i d).pages ≤ slice_index_or (page_ends before xs) i 0
  pub low : slice_index_or (page_ends before xs) i 0 - (slice_index_or xs i d).pages ≤ q
  pub high : q < slice_index_or (page_ends before xs) i 0
  pub block : block_at xs page ≡ (slice_index_or xs i d).start + (q - (slice_index_or (page_ends before xs) i 0 - (slice_index_or xs i d).pages))

pub placed : (xs : List Extent) (before q page i : ℕ) (d : Extent) → before + page ≡ q → i < length xs
    → ((k : ℕ) → k < i → slice_index_or (page_ends before xs) k 0 ≤ q) → q < slice_index_or (page_ends before xs) i 0 → IsPlaced xs before q page i d
placed [] before q page i d at h lower higher = absurd (omega arith)
placed (e ∷ es) before q page zero d at h lower higher =
    let within : page < e.pages = omega arith in
    let left : block_at (e ∷ es) page ≡ slice_index_or (range_with_len e.start e.pages) page 0 =
    get_or_append_left (range_with_len e.start e.pages) (page_blocks es) 0 page (subst (λ n. page < n) (sym (length-range_with_len e.start e.pages)) within) in
    let there : block_at (e ∷ es) page ≡ e.start + page = left ∙ get_or-range_with_len e.start e.pages page 0 within in
    let same : page ≡ q - (before + e.pages - e.pages) = omega arith in
    record {
      pages = omega arith;
      low = omega arith;
      high = higher;
      block = there ∙ ap (λ n. e.start + n) same;
    }
placed (e ∷ es) before q page (suc i) d at h lower higher =
    let first : before + e.pages ≤ q = lower 0 (omega arith) in
    let more = placed es (before + e.pages) q (page - e.pages) i d (omega arith) (omega arith) (λ k below. lower (suc k) (omega arith)) higher in
    let right : block_at (e ∷ es) page ≡ block_at es (page - e.pages) =
    get_or-append_right (range_with_len e.start e.pages) (page_blocks es) e.pages page 0 (length-range_with_len e.start e.pages) (omega arith) in
    record { pages = more.pages; low = more.low; high = more.high; block = right ∙ more.block }

-- the page ends don't fall
pub page_ends-above : (before : ℕ) (xs : List Extent) (k d : ℕ) → k < length (page_ends before xs) → before ≤ slice_index_or (page_ends before xs) k d
page_ends-above before [] k d h = absurd (omega arith)
page_ends-above before (e ∷ es) zero d h = omega arith
page_ends-above before (e ∷ es) (suc k) d h = let more = page_ends-above (before + e.pages) es k d (omega arith) in omega arith

pub page_ends-rise : (before : ℕ) (xs : List Extent) → IsNonDecreasingBy (λ n. n) (page_ends before xs)
page_ends-rise before [] i j d le h = absurd (omega arith)
page_ends-rise before (e ∷ es) zero zero d le h = omega arith
page_ends-rise before (e ∷ es) zero (suc j) d le h = page_ends-above (before + e.pages) es j d (omega arith)
page_ends-rise before (e ∷ es) (suc i) zero d le h = absurd (omega arith)
page_ends-rise before (e ∷ es) (suc i) (suc j) d le h = page_ends-rise (before + e.pages) es i j d (omega arith) (omega arith)

-- who has a page has an extent
pub some_extent : (xs : List Extent) (page : ℕ) → page < page_count xs → 0 < length xs
some_extent [] page h = absurd (omega arith)
some_extent (e ∷ es) page h = omega arith

-- the place that a search by the page ends finds
pub place-within : (xs : List Extent) (page i : ℕ) → page < page_count xs → i ≤ length (page_ends 0 xs)
    → IsPartitionPoint (λ y. nat_le y page ≡ true) (λ y. nat_le y page ≡ false) (page_ends 0 xs) i → i < length xs
place-within xs page i h bound point = elim (cases_lt i (length xs)) [
  | inl below ↦ below
  | inr above ↦
      let last : suc (length xs - 1) ≡ length xs = omega (arith, length-page_ends 0 xs, some_extent xs page h) in
      let end : slice_index_or (page_ends 0 xs) (length xs - 1) 0 ≡ 0 + page_count xs = page_ends-last 0 xs (length xs - 1) last in
      let low : slice_index_or (page_ends 0 xs) (length xs - 1) 0 ≤ page = leb-true (slice_index_or (page_ends 0 xs) (length xs - 1) 0) page (point.0 (length xs - 1) 0 (omega arith) (omega arith)) in
      absurd (omega arith)
]

pub placed_by_search : (xs : List Extent) (page i : ℕ) (d : Extent) → page < page_count xs → i ≤ length (page_ends 0 xs)
    → IsPartitionPoint (λ y. nat_le y page ≡ true) (λ y. nat_le y page ≡ false) (page_ends 0 xs) i → IsPlaced xs 0 page page i d
placed_by_search xs page i d h bound point =
    let within : i < length xs = place-within xs page i h bound point in
    placed xs 0 page page i d (zero-add page) within (λ k lower. leb-true (slice_index_or (page_ends 0 xs) k 0) page (point.0 k 0 (omega arith) lower))
    (leb-false (slice_index_or (page_ends 0 xs) i 0) page (point.1 i 0 (omega arith) (omega (arith, length-page_ends 0 xs))))
