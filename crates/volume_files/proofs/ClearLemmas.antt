-- Runs of free blocks, by the extents that are in the way.
use Rattle.std.specs.Prelude.{ℕ, zero, suc, ◌≡◌, ◌<◌, ◌≤◌, ◌+◌, ◌-◌, ◌||◌, not, nat_lt, Bool, true, false, List, [], ◌∷◌, Some}
use Rattle.std.specs.List.{list_any, range_with_len, find}
use Rattle.std.proofs.Common.{ap, ◌∙◌, refl, arith, inl, inr, cond}
use Rattle.std.proofs.lemmas.Bool.{both_ways, and_from, lt-ltb, or_cases, cases_Bool, cases_lt}
use Rattle.volume_format.specs.vnode_files.declared.extent.Extent.{Extent}
use Rattle.volume_format.specs.vnode_files.Grow.{has_block, is_free}
use Rattle.volume_format.specs.Place.{is_in_way}
use Rattle.volume_format.proofs.PlaceLemmas.{in_way-from, has-block-in_way as in_way-of}
use Rattle.volume_format.proofs.vnode_files.BlockLemmas.{has_block-between}
use Rattle.volume_files.specs.Opened.{is_free_run}
use Rattle.volume_files.proofs.LineLemmas.{run_from, run-free}

-- what passes a test also fails where the weaker test fails
none_weaker : {X : Type 0} (p q : X → Bool) (xs : List X) → ((x : X) → q x ≡ true → p x ≡ true) → list_any p xs ≡ false → list_any q xs ≡ false
none_weaker p q [] only none = refl
none_weaker {X} p q (x ∷ xs) only none =
    elim (cases_Bool (list_any q (x ∷ xs))) [
      | inr fails ↦ fails
      | inl passes ↦ elim (or_cases (q x) (list_any q xs) passes) [
        | inl here ↦ absurd (both_ways (p x || list_any p xs) none (ap (λ t. t || list_any p xs) (only x here)))
        | inr there ↦ absurd (both_ways (list_any q xs) (none_weaker p q xs only (rest_none (p x) (list_any p xs) none)) there)
      ]
    ]
  where
    rest_none : (a b : Bool) → (a || b) ≡ false → b ≡ false
    rest_none true b h = absurd (both_ways true h refl)
    rest_none false b h = h

-- blocks that lie on the disk and are in no extent's way are free
pub clear-run : (blocks : ℕ) (extents : List Extent) (pages start : ℕ) → start + pages ≤ blocks → list_any (is_in_way start (start + pages)) extents ≡ false
    → is_free_run blocks extents pages start ≡ true
clear-run blocks extents pages start fits none =
    run_from (is_free blocks extents) start pages (λ b low high.
    and_from (nat_lt b blocks) (not (list_any (has_block b) extents)) (lt-ltb b blocks (omega (arith, fits, high)))
    (ap not (none_weaker (is_in_way start (start + pages)) (has_block b) extents (λ e has. in_way-of start (start + pages) b low high e has) none)))

-- an extent in the way has one of the blocks
block-in_way : (start end : ℕ) (extents : List Extent) → list_any (is_in_way start end) extents ≡ true
    → (b : ℕ) × (start ≤ b) × (b < end) × (list_any (has_block b) extents ≡ true)
block-in_way start end [] some = absurd (both_ways false refl some)
block-in_way start end (e ∷ es) some = elim (or_cases (is_in_way start end e) (list_any (is_in_way start end) es) some) [
  | inl here ↦
      let w = in_way-from start end e here in
      elim (cases_lt start e.start) [
        | inl before ↦ (e.start, omega (arith, before), w.low, ap (λ t. t || list_any (has_block e.start) es) (has_block-between e.start e (omega arith) w.pages))
        | inr inside ↦ (start, omega arith, w.blocks, ap (λ t. t || list_any (has_block start) es) (has_block-between start e inside w.high))
      ]
  | inr there ↦
      let r = block-in_way start end es there in
      (r.0, r.1, r.2, or_second (has_block r.0 e) (list_any (has_block r.0) es) r.3)
]
  where
    or_second : (x y : Bool) → y ≡ true → (x || y) ≡ true
    or_second true y h = refl
    or_second false y h = h

pub blocked-run : (blocks : ℕ) (extents : List Extent) (pages start : ℕ) → list_any (is_in_way start (start + pages)) extents ≡ true
    → is_free_run blocks extents pages start ≡ false
blocked-run blocks extents pages start some = elim (cases_Bool (is_free_run blocks extents pages start)) [
  | inr fails ↦ fails
  | inl run ↦
      let r = block-in_way start (start + pages) extents some in
      absurd (both_ways (list_any (has_block r.0) extents) (run-free blocks extents pages start run r.0 r.1 r.2).1 r.3)
]

-- blocks past the disk aren't free
pub past-run : (blocks : ℕ) (extents : List Extent) (pages start : ℕ) → 1 ≤ pages → blocks < start + pages → is_free_run blocks extents pages start ≡ false
past-run blocks extents pages start some past = elim (cases_Bool (is_free_run blocks extents pages start)) [
  | inr fails ↦ fails
  | inl run ↦
      let last = (run-free blocks extents pages start run (start + pages - 1) (omega (arith, some)) (omega (arith, some))).0 in
      absurd (omega (arith, last, past, some))
]

-- the search goes on with the next block, or ends
pub find-step : (p : ℕ → Bool) (a n : ℕ) → 0 < n → p a ≡ false → find p (range_with_len a n) ≡ find p (range_with_len (a + 1) (n - 1))
find-step p a n some fails = after n some
  where
    after : (n : ℕ) → 0 < n → find p (range_with_len a n) ≡ find p (range_with_len (a + 1) (n - 1))
    after zero some = absurd (omega (arith, some))
    after (suc n) some =
        let one : n ≡ suc n - 1 = omega arith in
        ap (λ t. cond t (Some a) (find p (range_with_len (a + 1) n))) fails ∙ ap (λ k. find p (range_with_len (a + 1) k)) one

pub find-here : (p : ℕ → Bool) (a n : ℕ) → 0 < n → p a ≡ true → find p (range_with_len a n) ≡ Some a
find-here p a n some passes = after n some
  where
    after : (n : ℕ) → 0 < n → find p (range_with_len a n) ≡ Some a
    after zero some = absurd (omega (arith, some))
    after (suc n) some = ap (λ t. cond t (Some a) (find p (range_with_len (a + 1) n))) passes
