-- Counts of the extents that have a block, and the blocks of pages.
use Rattle.std.proofs.lemmas.Bool.{false_from_ne_true as absent}
use Rattle.std.specs.Prelude.{ℕ, zero, suc, ◌≡◌, ◌<◌, ◌≤◌, ◌+◌, ◌==◌, ◌||◌, ◌&&◌, Bool, true, false, nat_lt, nat_le, List, [], ◌∷◌, ◌++◌, length, count_by}
use Rattle.std.specs.Prelude.{sum_by, slice_index_or, filter, slice_set, remove, AllPairs}
use Rattle.std.specs.List.{list_any, range_with_len, flat_map}
use Rattle.std.proofs.Common.{ap, ◌∙◌, sym, arith, refl, cond, eqb}
use Rattle.std.proofs.lemmas.Bool.Decides.{nat_tests}
use Rattle.std.proofs.lemmas.List.Folds.{list_any_none}
use Rattle.std.proofs.lemmas.List.Sums.{sum_by-cons, sum_by-append, sum_by-set, sum_by-remove}
use Rattle.vnode_files.specs.declared.extent.Extent.{Extent}
use Rattle.vnode_files.specs.Grow.{has_block}
use Rattle.vnode_files.specs.Vnode.{VnodeSeen, page_blocks}
use Rattle.vnode_files.specs.Files.{extents_on}
use Rattle.vnode_files.specs.Layout.{NoneMeet}

pub count-cons : {X : Type 0} (p : X → Bool) (x : X) (xs : List X) → count_by p (x ∷ xs) ≡ cond (p x) 1 0 + count_by p xs
count-cons {X} p x xs = sum_by-cons (λ (y : X). cond (p y) 1 0) x xs

pub count-append : {X : Type 0} (p : X → Bool) (xs ys : List X) → count_by p (xs ++ ys) ≡ count_by p xs + count_by p ys
count-append {X} p xs ys = sum_by-append (λ (y : X). cond (p y) 1 0) xs ys

-- where none passes the count is 0
pub count-none : {X : Type 0} (p : X → Bool) (xs : List X) → list_any p xs ≡ false → count_by p xs ≡ 0
count-none p [] none = refl
count-none {X} p (x ∷ xs) none =
    let first : p x ≡ false = grind (arith, none) in
    let rest : list_any p xs ≡ false = grind (arith, none) in
    count-cons p x xs ∙ ap (λ (t : Bool). cond t 1 0 + count_by p xs) first ∙ omega (arith, count-none p xs rest)

count-first : {X : Type 0} (p : X → Bool) (x : X) (xs : List X) → p x ≡ true → count_by p (x ∷ xs) ≡ 1 + count_by p xs
count-first p x xs is = count-cons p x xs ∙ ap (λ (t : Bool). cond t 1 0 + count_by p xs) is

-- where one passes the count isn't 0
pub count-some : {X : Type 0} (p : X → Bool) (xs : List X) (i : ℕ) (d : X) → i < length xs → p (slice_index_or xs i d) ≡ true → 1 ≤ count_by p xs
count-some p [] i d h is = absurd (omega arith)
count-some p (x ∷ xs) zero d h is = let e : count_by p (x ∷ xs) ≡ 1 + count_by p xs = count-first p x xs is in omega arith
count-some p (x ∷ xs) (suc i) d h is = let more = count-some p xs i d (omega arith) is in omega (arith, count-cons p x xs)

-- extents of which no two have a block in common
pub none_meet-pairs : (xs : List Extent) → AllPairs (λ e f. (b : ℕ) → has_block b e ≡ true → has_block b f ≡ true → ⊥) xs → NoneMeet xs
none_meet-pairs [] apart b = omega arith
none_meet-pairs (e ∷ es) apart b =
    let rest = none_meet-pairs es (λ i j d low h. apart (suc i) (suc j) d (omega arith) (omega arith)) b in
    elim (has_block b e) as (λ t. has_block b e ≡ t → count_by (has_block b) (e ∷ es) ≤ 1) [
      | true ↦ λ is.
          let others : list_any (has_block b) es ≡ false =
          list_any_none (has_block b) es (λ i d h. absent (has_block b (slice_index_or es i d)) (λ has. apart 0 (suc i) d (omega arith) (omega arith) b is has)) in
          let none = count-none (has_block b) es others in
          let one = count-first (has_block b) e es is in
          omega arith
      | false ↦ λ is.
          let same : count_by (has_block b) (e ∷ es) ≡ 0 + count_by (has_block b) es = count-cons (has_block b) e es ∙ ap (λ (t : Bool). cond t 1 0 + count_by (has_block b) es) is in
          omega arith
    ] refl

-- what is counted once stands in one place
pub once : (b : ℕ) (xs : List ℕ) (i j d : ℕ) → count_by (eqb b) xs ≤ 1 → i < length xs → j < length xs → eqb b (slice_index_or xs i d) ≡ true → eqb b (slice_index_or xs j d) ≡ true → i ≡ j
once b [] i j d few h k is js = absurd (omega arith)
once b (x ∷ xs) zero zero d few h k is js = refl
once b (x ∷ xs) zero (suc j) d few h k is js =
    let one = count-first (eqb b) x xs is in
    let more = count-some (eqb b) xs j d (omega arith) js in
    absurd (omega arith)
once b (x ∷ xs) (suc i) zero d few h k is js =
    let one = count-first (eqb b) x xs js in
    let more = count-some (eqb b) xs i d (omega arith) is in
    absurd (omega arith)
once b (x ∷ xs) (suc i) (suc j) d few h k is js =
    ap suc (once b xs i j d (omega (arith, count-cons (eqb b) x xs)) (omega arith) (omega arith) is js)

pub count-range : (b a n : ℕ) → count_by (eqb b) (range_with_len a n) ≡ cond (nat_le a b && nat_lt b (a + n)) 1 0
count-range b a zero = ap (λ (t : Bool). cond t 1 0) (let no : false ≡ (nat_le a b && nat_lt b (a + 0)) = grind (arith, nat_tests) in no)
count-range b a (suc n) =
    let more : count_by (eqb b) (range_with_len (a + 1) n) ≡ cond (nat_le (a + 1) b && nat_lt b (a + 1 + n)) 1 0 = count-range b (a + 1) n in
    count-cons (eqb b) a (range_with_len (a + 1) n) ∙ ap (λ (k : ℕ). cond (eqb b a) 1 0 + k) more ∙ grind (arith, nat_tests)

-- a block is a page's as often as an extent has it
pub count-page_blocks : (b : ℕ) (xs : List Extent) → count_by (eqb b) (page_blocks xs) ≡ count_by (has_block b) xs
count-page_blocks b [] = refl
count-page_blocks b (e ∷ es) =
    let more = count-page_blocks b es in
    count-append (eqb b) (range_with_len e.start e.pages) (page_blocks es)
    ∙ ap (λ (k : ℕ). k + count_by (eqb b) (page_blocks es)) (count-range b e.start e.pages)
    ∙ ap (λ (k : ℕ). cond (has_block b e) 1 0 + k) more
    ∙ sym (count-cons (has_block b) e es)

-- what adds up over extents adds up over the files of a disk
abbrev pub part_of : (List Extent → ℕ) → ℕ → VnodeSeen → ℕ
part_of m disk v = cond (v.info.disk == disk) (m v.info.extents) 0

module _ (m : List Extent → ℕ) (none : m [] ≡ 0) (append : (xs ys : List Extent) → m (xs ++ ys) ≡ m xs + m ys) (disk : ℕ) where
  pub sum-extents_on : (xs : List VnodeSeen) → m (extents_on disk xs) ≡ sum_by (part_of m disk) xs
  sum-extents_on [] = none
  sum-extents_on (v ∷ vs) =
      let more = sum-extents_on vs in
      sym (sum_by-cons (part_of m disk) v vs
      ∙ elim (v.info.disk == disk) as (λ t. cond t (m v.info.extents) 0 + sum_by (part_of m disk) vs
      ≡ m (flat_map (λ (w : VnodeSeen). w.info.extents) (cond t (v ∷ filter (λ (w : VnodeSeen). w.info.disk == disk) vs) (filter (λ (w : VnodeSeen). w.info.disk == disk) vs)))) [
        | true ↦ omega (arith, append v.info.extents (extents_on disk vs))
        | false ↦ omega arith
      ])

  -- one file in the place of another, and none there
  module _ (xs : List VnodeSeen) (i : ℕ) (v d : VnodeSeen) (h : i < length xs) where
    pub sum-set : m (extents_on disk (slice_set xs i v)) + part_of m disk (slice_index_or xs i d) ≡ m (extents_on disk xs) + part_of m disk v
    sum-set =
        let now = sum-extents_on (slice_set xs i v) in
        let was = sum-extents_on xs in
        omega (arith, sum_by-set (part_of m disk) xs i v d h)

    pub sum-remove : m (extents_on disk (remove xs i)) + part_of m disk (slice_index_or xs i d) ≡ m (extents_on disk xs)
    sum-remove =
        let now = sum-extents_on (remove xs i) in
        let was = sum-extents_on xs in
        omega (arith, sum_by-remove (part_of m disk) xs i d h)
