-- What is left of a space without a range, and what the parts have in the range, is all.
use Rattle.std.proofs.Common.{◌≡◌, ℕ, zero, suc, ◌+◌, ◌-◌, ◌<◌, ◌≤◌, Bool, true, false, cond, List, [], ◌∷◌, length, map, Option, Some, None, refl, sym, ap, ◌∙◌, inl, inr, arith}
use Rattle.std.specs.Prelude.{option_map, sum_by}
use Rattle.std.specs.Ordering.{nat_cmp}
use Rattle.std.specs.Cmp.{nat_cmp_total}
use Rattle.std.specs.FinMap as finite
use Rattle.std.proofs.lemmas.Bool.{cases_eq, cases_Bool}
use Rattle.std.proofs.lemmas.Bool.Decides.{nat_tests}
use Rattle.std.proofs.lemmas.List.Sums.{sum_by-cons}
use Rattle.seg_vn.specs.vm_types.declared.call.Kind.{Kind}
use Rattle.seg_vn.specs.vm_types.declared.call.Kind.TheVariants.{Shared, Private}
use Rattle.seg_vn.specs.addr_space.Space.{Part, IsInOrder, part}
use Rattle.seg_vn.specs.addr_space.Pages.{with_pages, pages_of_parts}
use Rattle.seg_vn.proofs.addr_space.PageLaws.{get-with_pages, get-pages_of_parts}
use Rattle.seg_vn.proofs.addr_space.PartLemmas.{has-past, none-below}
use Rattle.seg_vn.specs.flat_model.Flat.{Cell, Space, slots_for}
use Rattle.seg_vn.specs.flat_model.Space.{is_in_range, without_range}
use Rattle.seg_vn.specs.flat_model.Words.{Page}
use Rattle.seg_vn.proofs.flat_model.Ranges.{get-insert, get-retain_keys, in_range-low, in_range-high}
use Rattle.seg_vn.proofs.flat_model.Sums.{total, total-insert, total-without_range}
use Rattle.seg_vn.specs.vm_world.FlatMemory.{cell_of, map_with, space_with}
use Rattle.seg_vn.specs.vm_world.Segments.{Spot}
use Rattle.seg_vn.specs.vm_world.declared.segment.Segment.{Segment}
use Rattle.seg_vn.proofs.vm_world.Maps.{get-map_with}
use Rattle.seg_vn.proofs.vm_world.Reserves.{total-empty, total-map_with}
use Rattle.mmap_calls.specs.RangeCounts.{mapped_pages, pages_within, slots_of_range}

abbrev Kept : finite.FinMap nat_cmp Spot → ℕ → ℕ → finite.FinMap nat_cmp Spot
Kept m first n = finite.retain_keys m (is_in_range first n)

same-spots : {X : Type 0} (s t : finite.FinMap nat_cmp X) → ((q : ℕ) → finite.get s q ≡ finite.get t q) → s ≡ t
same-spots s t same = finite.same_map nat_cmp_total finite.nat_cmp-IsAntisymmetric s t same

-- a page more is kept where it lies in the range
kept-more : (m : finite.FinMap nat_cmp Spot) (first n k : ℕ) (x : Spot) → is_in_range first n k ≡ true → Kept (finite.insert m k x) first n ≡ finite.insert (Kept m first n) k x
kept-more m first n k x is = same-spots _ _ (λ q.
    get-retain_keys (finite.insert m k x) (is_in_range first n) q ∙ ap (λ (o : Option Spot). cond (is_in_range first n q) o None) (get-insert m k x q)
    ∙ elim (cases_eq q k) [
      | inl same ↦ grind (arith, nat_tests, get-insert (Kept m first n) k x q)
      | inr apart ↦ grind (arith, nat_tests, get-insert (Kept m first n) k x q, get-retain_keys m (is_in_range first n) q)
    ])

kept-same : (m : finite.FinMap nat_cmp Spot) (first n k : ℕ) (x : Spot) → is_in_range first n k ≡ false → Kept (finite.insert m k x) first n ≡ Kept m first n
kept-same m first n k x is = same-spots _ _ (λ q.
    grind (arith, nat_tests, get-retain_keys (finite.insert m k x) (is_in_range first n) q, get-insert m k x q, get-retain_keys m (is_in_range first n) q))

-- how many of a part's first so many pages lie in the range
within-none : (first end at : ℕ) (s : Segment) → pages_within first end (part at 0 s) ≡ 0
within-none first end at s = omega arith

within-more : (first n at k : ℕ) (s : Segment) → is_in_range first n (at + k) ≡ true → pages_within first (first + n) (part at (suc k) s) ≡ pages_within first (first + n) (part at k s) + 1
within-more first n at k s is = let low = in_range-low first n (at + k) is in let high = in_range-high first n (at + k) is in omega (arith, low, high)

within-same : (first n at k : ℕ) (s : Segment) → is_in_range first n (at + k) ≡ false → pages_within first (first + n) (part at (suc k) s) ≡ pages_within first (first + n) (part at k s)
within-same first n at k s is = grind (arith, nat_tests)

-- What a cell shares: so much, for so many pages of its segment.
pub record Shares (held : ℕ → ℕ → Option Page) (f : Cell → ℕ) (g : ℕ → Segment → ℕ) : Type 0 where
  pub none : (s : Segment) → g 0 s ≡ 0
  pub more : (n : ℕ) (s : Segment) (k : ℕ) → g (n + 1) s ≡ f (cell_of held (s, k)) + g n s

module _ (held : ℕ → ℕ → Option Page) (f : Cell → ℕ) (g : ℕ → Segment → ℕ) (shares : Shares held f g) (first n : ℕ) where
  abbrev spot_share : Spot → ℕ
  spot_share x = f (cell_of held x)

  -- of one part's pages
  part-kept : (m : finite.FinMap nat_cmp Spot) (p : Part Segment) (k : ℕ) → ((q : ℕ) → p.first ≤ q → q < p.first + k → finite.get m q ≡ None)
      → total spot_share (Kept (with_pages m p k) first n) ≡ g (pages_within first (first + n) (part p.first k p.piece)) p.piece + total spot_share (Kept m first n)
  part-kept m p zero free =
      let none = ap (λ (j : ℕ). g j p.piece) (within-none first (first + n) p.first p.piece) ∙ shares.none p.piece in
      omega (arith, none)
  part-kept m p (suc k) free =
      let before = with_pages m p k in
      let absent : finite.get before (p.first + k) ≡ None =
      get-with_pages m p k (p.first + k) ∙ ap (λ (b : Bool). cond b (Some (p.piece, p.first + k - p.first)) (finite.get m (p.first + k))) (has-past (part p.first k p.piece) (p.first + k) (omega arith)) ∙ free (p.first + k) (omega arith) (omega arith) in
      let rest = part-kept m p k (λ q low high. free q low (omega (arith, high))) in
      elim (cases_Bool (is_in_range first n (p.first + k))) [
        | inl is ↦
            let kept = ap (total spot_share) (kept-more before first n (p.first + k) (p.piece, k) is) in
            let none : finite.get (Kept before first n) (p.first + k) ≡ None = get-retain_keys before (is_in_range first n) (p.first + k) ∙ ap (λ (b : Bool). cond b (finite.get before (p.first + k)) None) is ∙ absent in
            let one = total-insert spot_share (Kept before first n) (p.first + k) (p.piece, k) none in
            let count = ap (λ (j : ℕ). g j p.piece) (within-more first n p.first k p.piece is) ∙ shares.more (pages_within first (first + n) (part p.first k p.piece)) p.piece k in
            omega (arith, kept, one, count, rest)
        | inr not_in ↦
            let kept = ap (total spot_share) (kept-same before first n (p.first + k) (p.piece, k) not_in) in
            let count = ap (λ (j : ℕ). g j p.piece) (within-same first n p.first k p.piece not_in) in
            omega (arith, kept, count, rest)
      ]

  -- and of all
  parts-kept : (low : ℕ) (ps : List (Part Segment)) → IsInOrder low ps → total spot_share (Kept (pages_of_parts ps) first n) ≡ sum_by (λ (p : Part Segment). g (pages_within first (first + n) p) p.piece) ps
  parts-kept low [] order =
      ap (total spot_share) (same-spots (Kept finite.empty first n) finite.empty (λ q.
      get-retain_keys {X = Spot} finite.empty (is_in_range first n) q ∙ ap (λ (o : Option Spot). cond (is_in_range first n q) o None) (finite.get-empty nat_cmp q) ∙ nothing (is_in_range first n q) ∙ sym (finite.get-empty nat_cmp q)))
      ∙ total-empty spot_share
    where
      nothing : (b : Bool) → cond {A = Option Spot} b None None ≡ None
      nothing true = refl
      nothing false = refl
  parts-kept low (p ∷ ps) order =
      let here = part-kept (pages_of_parts ps) p p.pages (λ q from below. get-pages_of_parts ps q ∙ ap (option_map (λ (r : Part Segment). (r.piece, q - r.first))) (none-below (p.first + p.pages) ps q order.1 below)) in
      let rest = parts-kept (p.first + p.pages) ps order.1 in
      let step = sum_by-cons (λ (p : Part Segment). g (pages_within first (first + n) p) p.piece) p ps in
      omega (arith, here, rest, step)

  cells-kept : (parts : List (Part Segment)) → finite.retain_keys (space_with held parts) (is_in_range first n) ≡ map_with (cell_of held) (Kept (pages_of_parts parts) first n)
  cells-kept parts = same-spots _ _ (λ q.
      grind (arith, get-retain_keys (space_with held parts) (is_in_range first n) q, get-map_with (cell_of held) (pages_of_parts parts) q, get-map_with (cell_of held) (Kept (pages_of_parts parts) first n) q, get-retain_keys (pages_of_parts parts) (is_in_range first n) q))

  pub left-total : (parts : List (Part Segment)) → IsInOrder 1 parts → total f (without_range (space_with held parts) first n) + sum_by (λ (p : Part Segment). g (pages_within first (first + n) p) p.piece) parts ≡ total f (space_with held parts)
  left-total parts order =
      let halves = total-without_range f (space_with held parts) first n in
      let kept = ap (total f) (cells-kept parts) ∙ total-map_with f (cell_of held) (Kept (pages_of_parts parts) first n) ∙ parts-kept 1 parts order in
      omega (arith, halves, kept)

-- pages, and private pages
one-each : (held : ℕ → ℕ → Option Page) → Shares held (λ _. 1) (λ n s. n)
one-each held = record { none = λ s. refl; more = λ n s k. omega arith }

abbrev private_of : ℕ → Segment → ℕ
private_of n s = elim s.kind as (λ _. ℕ) [ Private ↦ n | Shared ↦ 0 ]

private-each : (held : ℕ → ℕ → Option Page) → Shares held slots_for private_of
private-each held = record { none = λ s. none s.kind; more = λ n s k. more n s.kind }
  where
    none : (k : Kind) → (elim k as (λ _. ℕ) [ Private ↦ 0 | Shared ↦ 0 ]) ≡ 0
    none Private = refl
    none Shared = refl

    more : (n : ℕ) (k : Kind) → (elim k as (λ _. ℕ) [ Private ↦ n + 1 | Shared ↦ 0 ]) ≡ (elim k as (λ _. ℕ) [ Private ↦ 1 | Shared ↦ 0 ]) + (elim k as (λ _. ℕ) [ Private ↦ n | Shared ↦ 0 ])
    more n Private = omega arith
    more n Shared = refl

len-total : (s : Space) → finite.len s ≡ total (λ _. 1) s
len-total s = finite.len-entries s ∙ ones (finite.entries s)
  where
    ones : (es : List (ℕ × Cell)) → length es ≡ sum_by (λ (c : Cell). 1) (map (λ (e : ℕ × Cell). e.1) es)
    ones [] = refl
    ones (e ∷ es) = let more = ones es in let a = sum_by-cons (λ (c : Cell). 1) e.1 (map (λ (e : ℕ × Cell). e.1) es) in omega (arith, more, a)

-- WHAT IS LEFT of a space that parts make up, and what they have in the range, is all
module _ (held : ℕ → ℕ → Option Page) (parts : List (Part Segment)) (order : IsInOrder 1 parts) (first n : ℕ) where
  pub left-cells : finite.len (without_range (space_with held parts) first n) + mapped_pages parts first (first + n) ≡ finite.len (space_with held parts)
  left-cells =
      let all = left-total held (λ _. 1) (λ n s. n) (one-each held) first n parts order in
      let a = len-total (without_range (space_with held parts) first n) in
      let b = len-total (space_with held parts) in
      omega (arith, all, a, b)

  pub left-slots : total slots_for (without_range (space_with held parts) first n) + slots_of_range parts first (first + n) ≡ total slots_for (space_with held parts)
  left-slots = left-total held slots_for private_of (private-each held) first n parts order
