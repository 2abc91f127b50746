-- What a search through extents finds, and what it says of the blocks.
use Rattle.vnode_files.proofs.BlockLemmas.{has_block-between as has-block}
use Rattle.vnode_files.proofs.FindLemmas.{find-passes, any-found}
use Rattle.std.proofs.Common.{ℕ, ◌≡◌, ◌<◌, ◌≤◌, ◌+◌, Bool, true, false, ◌&&◌, ◌||◌, cond, ltb, leb, List, [], ◌∷◌, Some, None, refl, ap, sym, ◌∙◌, arith, inl, inr}
use Rattle.std.specs.List.{find, list_any}
use Rattle.std.proofs.lemmas.Bool.{and_parts, and_from, ltb-true, lt-ltb, leb-true, le-leb, cases_lt, or_left, or_right, or_from, cases_Bool, both_ways}
use Rattle.vnode_files.specs.declared.extent.Extent.{Extent}
use Rattle.vnode_files.specs.Grow.{has_block, extent_end}
use Rattle.volume_format.specs.Table.{IsFreePlace}
use Rattle.volume_format.specs.Place.{is_in_way}

none-cons : {X : Type 0} (p q : X → Bool) (x : X) (xs : List X) → ((y : X) → q y ≡ true → p y ≡ true) → p x ≡ false → list_any q xs ≡ false → (q x || list_any q xs) ≡ false
none-cons p q x xs only fails rest = elim (cases_Bool (q x)) [
  | inl passes ↦ absurd (both_ways (p x) fails (only x passes))
  | inr fails-too ↦ or_from (q x) (list_any q xs) fails-too rest
]

-- Where none is found, nothing passes that passes only where the test does.
pub none-found : {X : Type 0} (p q : X → Bool) (xs : List X) → ((x : X) → q x ≡ true → p x ≡ true) → find p xs ≡ None → list_any q xs ≡ false
none-found p q [] only is = refl
none-found {X} p q (x ∷ xs) only is =
    elim (p x) as (λ b. p x ≡ b → cond b (Some x) (find p xs) ≡ None → (q x || list_any q xs) ≡ false) [
      | true ↦ λ t s. absurd cc
      | false ↦ λ t s. none-cons p q x xs only t (none-found p q xs only s)
    ] refl is

-- An extent that has one of the blocks from a place up to another.
pub record InWay (start end : ℕ) (e : Extent) : Type 0 where
  pub low : e.start < end
  pub high : start < extent_end e
  pub pages : e.start < extent_end e
  pub blocks : start < end

pub in_way-from : (start end : ℕ) (e : Extent) → is_in_way start end e ≡ true → InWay start end e
in_way-from start end e h =
    let a = and_parts (ltb e.start end && ltb start (extent_end e) && ltb e.start (extent_end e)) (ltb start end) h in
    let b = and_parts (ltb e.start end && ltb start (extent_end e)) (ltb e.start (extent_end e)) a.0 in
    let d = and_parts (ltb e.start end) (ltb start (extent_end e)) b.0 in
    record { low = ltb-true e.start end d.0; high = ltb-true start (extent_end e) d.1; pages = ltb-true e.start (extent_end e) b.1; blocks = ltb-true start end a.1 }

pub has-block-in_way : (start end b : ℕ) → start ≤ b → b < end → (e : Extent) → has_block b e ≡ true → is_in_way start end e ≡ true
has-block-in_way start end b low high e h =
    let parts = and_parts (leb e.start b) (ltb b (extent_end e)) h in
    let from = leb-true e.start b parts.0 in
    let below = ltb-true b (extent_end e) parts.1 in
    and_from (ltb e.start end && ltb start (extent_end e) && ltb e.start (extent_end e)) (ltb start end)
    (and_from (ltb e.start end && ltb start (extent_end e)) (ltb e.start (extent_end e))
    (and_from (ltb e.start end) (ltb start (extent_end e)) (lt-ltb e.start end (omega arith)) (lt-ltb start (extent_end e) (omega arith)))
    (lt-ltb e.start (extent_end e) (omega arith)))
    (lt-ltb start end (omega arith))

-- Where none is in the way, the blocks are free.
pub free-from : (extents : List Extent) (start end : ℕ) → find (is_in_way start end) extents ≡ None → (b : ℕ) → start ≤ b → b < end → list_any (has_block b) extents ≡ false
free-from extents start end is b low high = none-found (is_in_way start end) (has_block b) extents (has-block-in_way start end b low high) is

-- Where an extent is in the way of a place, no place up to its end is free.
taken-by : (extents : List Extent) (start end : ℕ) (e : Extent) → find (is_in_way start end) extents ≡ Some e → (b : ℕ) → e.start ≤ b → b < extent_end e → list_any (has_block b) extents ≡ true
taken-by extents start end e is b low high = any-found (is_in_way start end) (has_block b) extents e is (has-block b e low high)

pub no-place : (blocks : ℕ) (extents : List Extent) (pages start : ℕ) (e : Extent) → find (is_in_way start (start + pages)) extents ≡ Some e
    → (other : ℕ) → start ≤ other → other < extent_end e → IsFreePlace blocks extents pages other → ⊥
no-place blocks extents pages start e is other low high place =
    let way = in_way-from start (start + pages) e (find-passes (is_in_way start (start + pages)) extents e is) in
    elim (cases_lt other e.start) [
      | inl before ↦ both_ways (list_any (has_block e.start) extents) (place.free e.start (omega arith) (omega (arith, way.low)))
          (taken-by extents start (start + pages) e is e.start (omega arith) way.pages)
      | inr from ↦ both_ways (list_any (has_block other) extents) (place.free other (omega arith) (omega (arith, way.blocks))) (taken-by extents start (start + pages) e is other from high)
    ]
