-- The extents of the files of a disk, in parts.
use Rattle.std.specs.Prelude.{ℕ, suc, ◌≡◌, ◌<◌, ◌≤◌, ◌+◌, ◌-◌, ◌==◌, ◌||◌, ◌&&◌, not, Bool, true, false, nat_lt, List, [], ◌∷◌, ◌++◌, length, take, drop, slice_index_or, filter, remove, Some, None}
use Rattle.std.specs.List.{flat_map, list_any, range_with_len}
use Rattle.std.proofs.Common.{ap, ◌∙◌, sym, arith, refl, cond, length-append}
use Rattle.std.proofs.Math.Seq.{drop-cons}
use Rattle.std.proofs.lemmas.Grind.{flat_map-append}
use Rattle.std.proofs.lemmas.List.{take-append-drop, append-nil, take_more}
use Rattle.std.proofs.Math.Bool.{and-false}
use Rattle.std.proofs.lemmas.Bool.{lt-ltb, le-ltb}
use Rattle.std.proofs.lemmas.List.FromFn.{get_or-range_with_len, length-range_with_len}
use Rattle.std.proofs.lemmas.List.Elements.{filter-append}
use Rattle.std.proofs.lemmas.List.Folds.{list_any-append}
use Rattle.vnode_files.specs.declared.extent.Extent.{Extent}
use Rattle.vnode_files.specs.Grow.{has_block, is_free, least_free}
use Rattle.vnode_files.specs.Vnode.{VnodeSeen}
use Rattle.vnode_files.specs.Files.{extents_on}
use Rattle.vnode_files.proofs.FindLemmas.{find-agree, find-first, find-none}

pub split-at : {X : Type 0} (xs : List X) (i : ℕ) (d : X) → i < length xs → xs ≡ take i xs ++ slice_index_or xs i d ∷ drop (suc i) xs
split-at xs i d h = sym (take-append-drop i xs) ∙ ap (λ ys. take i xs ++ ys) (drop-cons xs i d h)

pub extents_on-append : (disk : ℕ) (xs ys : List VnodeSeen) → extents_on disk (xs ++ ys) ≡ extents_on disk xs ++ extents_on disk ys
extents_on-append disk xs ys =
    ap (flat_map (λ (v : VnodeSeen). v.info.extents)) (filter-append (λ (v : VnodeSeen). v.info.disk == disk) xs ys)
    ∙ flat_map-append (λ (v : VnodeSeen). v.info.extents) (filter (λ (v : VnodeSeen). v.info.disk == disk) xs) (filter (λ (v : VnodeSeen). v.info.disk == disk) ys)

-- the extents of one file: all, or none where it lies on another disk
pub extents_on-one : (disk : ℕ) (v : VnodeSeen) → (v.info.disk == disk) ≡ true → extents_on disk (v ∷ []) ≡ v.info.extents
extents_on-one disk v e =
    ap (λ (b : Bool). flat_map (λ (w : VnodeSeen). w.info.extents) (cond b (v ∷ []) [])) e ∙ append-nil v.info.extents

pub extents_on-other : (disk : ℕ) (v : VnodeSeen) → (v.info.disk == disk) ≡ false → extents_on disk (v ∷ []) ≡ []
extents_on-other disk v e = ap (λ (b : Bool). flat_map (λ (w : VnodeSeen). w.info.extents) (cond b (v ∷ []) [])) e

-- one file more
pub extents_on-more : (disk : ℕ) (xs : List VnodeSeen) (i : ℕ) (d : VnodeSeen) → i < length xs
    → extents_on disk (take (i + 1) xs) ≡ extents_on disk (take i xs) ++ extents_on disk (slice_index_or xs i d ∷ [])
extents_on-more disk xs i d h = ap (extents_on disk) (take_more xs i d h) ∙ extents_on-append disk (take i xs) (slice_index_or xs i d ∷ [])

-- all files: those before, one, and those after it
pub extents_on-parts : (disk : ℕ) (xs : List VnodeSeen) (i : ℕ) (d : VnodeSeen) → i < length xs
    → extents_on disk xs ≡ extents_on disk (take i xs) ++ (extents_on disk (slice_index_or xs i d ∷ []) ++ extents_on disk (drop (suc i) xs))
extents_on-parts disk xs i d h =
    ap (extents_on disk) (split-at xs i d h) ∙ extents_on-append disk (take i xs) (slice_index_or xs i d ∷ drop (suc i) xs)
    ∙ ap (λ (es : List Extent). extents_on disk (take i xs) ++ es) (extents_on-append disk (slice_index_or xs i d ∷ []) (drop (suc i) xs))

or-turn : (a b c : Bool) → (a || (b || c)) ≡ ((a || c) || b)
or-turn true b c = refl
or-turn false true true = refl
or-turn false true false = refl
or-turn false false c = elim c as (λ c. c ≡ (c || false)) [ true ↦ refl | false ↦ refl ]

module _ (disk : ℕ) (xs : List VnodeSeen) (i : ℕ) (d : VnodeSeen) (h : i < length xs) (on : ((slice_index_or xs i d).info.disk == disk) ≡ true) where
  parts : extents_on disk xs ≡ extents_on disk (take i xs) ++ ((slice_index_or xs i d).info.extents ++ extents_on disk (drop (suc i) xs))
  parts =
      extents_on-parts disk xs i d h
      ∙ ap (λ (es : List Extent). extents_on disk (take i xs) ++ (es ++ extents_on disk (drop (suc i) xs))) (extents_on-one disk (slice_index_or xs i d) on)

  -- the extents of a disk are those of the other files and of one
  pub any-others : (p : Extent → Bool) → list_any p (extents_on disk xs) ≡ list_any p (extents_on disk (remove xs i) ++ (slice_index_or xs i d).info.extents)
  any-others p =
      let before = extents_on disk (take i xs) in
      let own = (slice_index_or xs i d).info.extents in
      let after = extents_on disk (drop (suc i) xs) in
      ap (list_any p) parts ∙ list_any-append p before (own ++ after) ∙ ap (λ (b : Bool). list_any p before || b) (list_any-append p own after)
      ∙ or-turn (list_any p before) (list_any p own) (list_any p after)
      ∙ sym (ap (λ (b : Bool). b || list_any p own) (list_any-append p before after))
      ∙ sym (list_any-append p (before ++ after) own)
      ∙ sym (ap (λ (es : List Extent). list_any p (es ++ own)) (extents_on-append disk (take i xs) (drop (suc i) xs)))

  pub length-others : length (extents_on disk xs) ≡ length (extents_on disk (remove xs i)) + length (slice_index_or xs i d).info.extents
  length-others =
      let before = extents_on disk (take i xs) in
      let own = (slice_index_or xs i d).info.extents in
      let after = extents_on disk (drop (suc i) xs) in
      let all : length (extents_on disk xs) ≡ length (before ++ (own ++ after)) = ap length parts in
      let others : length (extents_on disk (remove xs i)) ≡ length (before ++ after) = ap length (extents_on-append disk (take i xs) (drop (suc i) xs)) in
      omega (arith, length-append before (own ++ after), length-append own after, length-append before after)

-- lists with the same blocks have the same free ones
pub is_free-same : (blocks : ℕ) (xs ys : List Extent) (b : ℕ) → list_any (has_block b) xs ≡ list_any (has_block b) ys → is_free blocks xs b ≡ is_free blocks ys b
is_free-same blocks xs ys b e = ap (λ (t : Bool). nat_lt b blocks && not t) e

pub least_free-same : (blocks : ℕ) (xs ys : List Extent) → ((b : ℕ) → list_any (has_block b) xs ≡ list_any (has_block b) ys) → least_free blocks xs ≡ least_free blocks ys
least_free-same blocks xs ys e = find-agree (is_free blocks xs) (is_free blocks ys) (λ b. is_free-same blocks xs ys b (e b)) (range_with_len 1 (blocks - 1))

-- the least free block, by what a search has passed
pub taken-not_free : (blocks : ℕ) (used : List Extent) (b : ℕ) → list_any (has_block b) used ≡ true → is_free blocks used b ≡ false
taken-not_free blocks used b taken = ap (λ (t : Bool). nat_lt b blocks && not t) taken ∙ and-false (nat_lt b blocks)

pub free-is : (blocks : ℕ) (used : List Extent) (b : ℕ) → b < blocks → list_any (has_block b) used ≡ false → is_free blocks used b ≡ true
free-is blocks used b low free = ap (λ (t : Bool). nat_lt b blocks && not t) free ∙ ap (λ (t : Bool). t && true) (lt-ltb b blocks low)

pub past-not_free : (blocks : ℕ) (used : List Extent) (b : ℕ) → blocks ≤ b → is_free blocks used b ≡ false
past-not_free blocks used b high = ap (λ (t : Bool). t && not (list_any (has_block b) used)) (le-ltb b blocks high)

pub least_free-is : (blocks : ℕ) (used : List Extent) (block : ℕ) → 1 ≤ block → block < blocks → ((b : ℕ) → 1 ≤ b → b < block → list_any (has_block b) used ≡ true)
    → list_any (has_block block) used ≡ false → least_free blocks used ≡ Some block
least_free-is blocks used block first low taken free =
    let range = range_with_len 1 (blocks - 1) in
    let at : (k : ℕ) → k < blocks - 1 → slice_index_or range k 0 ≡ 1 + k = λ k h. get_or-range_with_len 1 (blocks - 1) k 0 h in
    let here : slice_index_or range (block - 1) 0 ≡ block = at (block - 1) (omega arith) ∙ omega arith in
    find-first (is_free blocks used) range (block - 1) 0 (omega (arith, length-range_with_len 1 (blocks - 1)))
    (λ k h. ap (is_free blocks used) (at k (omega arith)) ∙ taken-not_free blocks used (1 + k) (taken (1 + k) (omega arith) (omega arith)))
    (ap (is_free blocks used) here ∙ free-is blocks used block low free)
    ∙ ap (λ (b : ℕ). Some b) here

pub least_free-none : (blocks : ℕ) (used : List Extent) (block : ℕ) → blocks ≤ block → ((b : ℕ) → 1 ≤ b → b < block → list_any (has_block b) used ≡ true)
    → least_free blocks used ≡ None
least_free-none blocks used block high taken =
    let range = range_with_len 1 (blocks - 1) in
    find-none (is_free blocks used) range 0 (λ k h.
    let low : k < blocks - 1 = omega (arith, length-range_with_len 1 (blocks - 1)) in
    ap (is_free blocks used) (get_or-range_with_len 1 (blocks - 1) k 0 low) ∙ taken-not_free blocks used (1 + k) (taken (1 + k) (omega arith) (omega arith)))
