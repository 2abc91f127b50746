-- One step of a growth: which block it takes, and that it is free.
use Rattle.std.specs.Prelude.{ℕ, ◌≡◌, ◌<◌, ◌+◌, ◌-◌, ◌||◌, ◌&&◌, not, Bool, true, false, nat_lt, List, [], ◌∷◌, ◌++◌, length, Option, Some, None, IsSomeAnd, option_map}
use Rattle.std.specs.Option.{option_map_or}
use Rattle.std.specs.List.{list_any, last_or, range_with_len}
use Rattle.std.proofs.Common.{ap, ◌∙◌, sym, arith, refl, cond, eqb}
use Rattle.std.proofs.lemmas.Bool.{ltb-true}
use Rattle.std.proofs.lemmas.Bool.Decides.{nat_tests}
use Rattle.std.proofs.lemmas.List.Folds.{list_any-append}
use Rattle.vnode_files.specs.declared.extent.Extent.{Extent}
use Rattle.vnode_files.specs.Grow.{has_block, is_free, extent_end, can_lengthen, with_longer_last, with_new_last, with_next_block, least_free}
use Rattle.vnode_files.specs.Vnode.{page_blocks}
use Rattle.vnode_files.proofs.FindLemmas.{find-passes}
use Rattle.vnode_files.proofs.BlockLemmas.{any-page_blocks}

-- a free block is below the disk's blocks, and no page of the file's lies there
pub record IsTakeable (blocks b : ℕ) (own : List Extent) : Type 0 where
  pub low : b < blocks
  pub none : list_any (eqb b) (page_blocks own) ≡ false

pub takeable : (blocks b : ℕ) (others own : List Extent) → is_free blocks (others ++ own) b ≡ true → IsTakeable blocks b own
takeable blocks b others own free =
    let parts : list_any (has_block b) (others ++ own) ≡ (list_any (has_block b) others || list_any (has_block b) own) = list_any-append (has_block b) others own in
    let tests : (nat_lt b blocks && not (list_any (has_block b) others || list_any (has_block b) own)) ≡ true =
    sym (ap (λ (t : Bool). nat_lt b blocks && not t) parts) ∙ free in
    record {
      low = grind (arith, nat_tests, tests);
      none = any-page_blocks b own ∙ grind (arith, nat_tests, tests);
    }

-- the block after the last extent, where it is free
abbrev pub end_if : ℕ → List Extent → List Extent → Option ℕ
end_if blocks others own = cond (can_lengthen blocks others own) (option_map extent_end (last_or None own)) None

pub record Lengthens (blocks : ℕ) (others own : List Extent) (b : ℕ) : Type 0 where
  pub can : can_lengthen blocks others own ≡ true
  pub last : IsSomeAnd (last_or None own) (λ e. extent_end e ≡ b)
  pub free : is_free blocks (others ++ own) b ≡ true

lengthens_at : (blocks : ℕ) (others own : List Extent) (b : ℕ) (o : Option Extent)
    → cond (option_map_or (λ last. is_free blocks (others ++ own) (extent_end last)) o false) (option_map extent_end o) None ≡ Some b
    → (option_map_or (λ last. is_free blocks (others ++ own) (extent_end last)) o false ≡ true) × IsSomeAnd o (λ e. extent_end e ≡ b) × (is_free blocks (others ++ own) b ≡ true)
lengthens_at blocks others own b None s = cc
lengthens_at blocks others own b (Some e) s =
    elim (is_free blocks (others ++ own) (extent_end e)) as (λ t. is_free blocks (others ++ own) (extent_end e) ≡ t → cond t (Some (extent_end e)) None ≡ Some b
    → (t ≡ true) × (extent_end e ≡ b) × (is_free blocks (others ++ own) b ≡ true)) [
      | true ↦ λ t r. let same : extent_end e ≡ b = cc in (refl, same, ap (is_free blocks (others ++ own)) (sym same) ∙ t)
      | false ↦ λ t r. cc
    ] refl s

pub lengthens : (blocks : ℕ) (others own : List Extent) (b : ℕ) → end_if blocks others own ≡ Some b → Lengthens blocks others own b
lengthens blocks others own b is =
    let at = lengthens_at blocks others own b (last_or None own) is in
    record { can = at.0; last = at.1; free = at.2 }

-- where that block isn't free, no extent is lengthened
pub no_end : (blocks : ℕ) (others own : List Extent) → end_if blocks others own ≡ None → can_lengthen blocks others own ≡ false
no_end blocks others own is =
    elim (last_or None own) as (λ o. cond (option_map_or (λ last. is_free blocks (others ++ own) (extent_end last)) o false) (option_map extent_end o) None ≡ None
    → option_map_or (λ last. is_free blocks (others ++ own) (extent_end last)) o false ≡ false) [
      | None ↦ λ s. refl
      | Some e ↦ λ s. elim (is_free blocks (others ++ own) (extent_end e)) as (λ t. cond t (Some (extent_end e)) None ≡ None → t ≡ false) [ true ↦ λ r. cc | false ↦ λ r. refl ] s
    ] is

-- the block at which a next extent begins
abbrev pub new_if : ℕ → List Extent → List Extent → Option ℕ
new_if blocks others own = cond (nat_lt (length others + length own) 252) (least_free blocks (others ++ own)) None

pub record Begins (blocks : ℕ) (others own : List Extent) (b : ℕ) : Type 0 where
  pub few : length others + length own < 252
  pub new : with_new_last blocks others own ≡ Some (own ++ record { start = b; pages = 1 } ∷ [])
  pub free : is_free blocks (others ++ own) b ≡ true

pub begins : (blocks : ℕ) (others own : List Extent) (b : ℕ) → new_if blocks others own ≡ Some b → Begins blocks others own b
begins blocks others own b is =
    elim (nat_lt (length others + length own) 252) as (λ t. nat_lt (length others + length own) 252 ≡ t → cond t (least_free blocks (others ++ own)) None ≡ Some b → Begins blocks others own b) [
      | true ↦ λ t s. record {
        few = ltb-true (length others + length own) 252 t;
        new = ap (λ (c : Bool). cond c (option_map (λ block. own ++ record { start = block; pages = 1 } ∷ []) (least_free blocks (others ++ own))) None) t
            ∙ ap (option_map (λ block. own ++ record { start = block; pages = 1 } ∷ [])) s;
        free = find-passes (is_free blocks (others ++ own)) (range_with_len 1 (blocks - 1)) b s;
      }
      | false ↦ λ t s. cc
    ] refl is

pub no_new : (blocks : ℕ) (others own : List Extent) → new_if blocks others own ≡ None → with_new_last blocks others own ≡ None
no_new blocks others own is =
    elim (nat_lt (length others + length own) 252) as (λ t. cond t (least_free blocks (others ++ own)) None ≡ None
    → cond t (option_map (λ block. own ++ record { start = block; pages = 1 } ∷ []) (least_free blocks (others ++ own))) None ≡ None) [
      | true ↦ λ s. ap (option_map (λ block. own ++ record { start = block; pages = 1 } ∷ [])) s
      | false ↦ λ s. refl
    ] is

-- the next extents, by what is found
pub next-longer : (blocks : ℕ) (others own : List Extent) → can_lengthen blocks others own ≡ true → with_next_block blocks others own ≡ Some (with_longer_last own)
next-longer blocks others own can = ap (λ (c : Bool). cond c (Some (with_longer_last own)) (with_new_last blocks others own)) can

pub next-new : (blocks : ℕ) (others own : List Extent) → can_lengthen blocks others own ≡ false → with_next_block blocks others own ≡ with_new_last blocks others own
next-new blocks others own can = ap (λ (c : Bool). cond c (Some (with_longer_last own)) (with_new_last blocks others own)) can
