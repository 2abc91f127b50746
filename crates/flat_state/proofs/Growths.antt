-- How the plain form finds the blocks by which a file grows.
use Rattle.std.proofs.Common.{◌≡◌, ℕ, zero, suc, ◌+◌, ◌-◌, ◌<◌, ◌≤◌, ◌++◌, ◌==◌, ◌&&◌, Bool, true, false, List, [], ◌∷◌, length, Option, Some, None, refl, sym, ◌∙◌, ap, cond, arith, take, drop}
use Rattle.std.specs.Prelude.{nat_lt, not, map, filter, slice_get, option_map, option_and_then}
use Rattle.std.specs.Option.{option_map_or}
use Rattle.std.specs.List.{flat_map, list_any}
use Rattle.std.proofs.Math.Bool.{and-false}
use Rattle.std.proofs.lemmas.List.{take_all, length-drop}
use Rattle.std.proofs.lemmas.Grind.{flat_map-append}
use Rattle.std.proofs.lemmas.List.Elements.{filter-append}
use Rattle.flat_model.specs.vnode_files.declared.extent.Extent.{Extent}
use Rattle.flat_model.specs.vnode_files.Grow.{has_block, is_free, least_free, can_lengthen, extent_end, with_longer_last, with_new_last, with_next_block, with_next_blocks}
use Rattle.flat_model.proofs.vnode_files.FindLemmas.{last-is}
use Rattle.flat_model.proofs.vnode_files.ListLemmas.{least_free-is}
use Rattle.flat_state.specs.declared.files.FileState.{FileState}
use Rattle.flat_model.specs.Flat.{File}
use Rattle.flat_state.specs.Cells.{flat_file}
use Rattle.flat_model.specs.Parts.{extents_beside}

-- the block after the last extent decides
pub can-last : (blocks : ℕ) (others own : List Extent) (e : Extent) → Some e ≡ slice_get own (length own - 1)
    → is_free blocks (others ++ own) (extent_end e) ≡ can_lengthen blocks others own
can-last blocks others own e is =
    ap (λ (o : Option Extent). option_map_or (λ last. is_free blocks (others ++ own) (extent_end last)) o false) (is ∙ last-is own)

pub free-none : (blocks : ℕ) (used : List Extent) (b : ℕ) → is_free blocks used b ≡ true → list_any (has_block b) used ≡ false
free-none blocks used b free =
    elim (list_any (has_block b) used) as (λ t. (nat_lt b blocks && not t) ≡ true → t ≡ false) [
      | true ↦ λ s. absurd (let z : false ≡ true = sym (and-false (nat_lt b blocks)) ∙ s in cc)
      | false ↦ λ s. refl
    ] free

-- the first free block that a search comes to is the least
pub least-found : (blocks : ℕ) (used : List Extent) (b : ℕ) → 1 ≤ b → b < blocks → ((k : ℕ) → 1 ≤ k → k < b → list_any (has_block k) used ≡ true)
    → is_free blocks used b ≡ true → Some b ≡ least_free blocks used
least-found blocks used b first low taken free = sym (least_free-is blocks used b first low taken (free-none blocks used b free))

-- the extents of the files before one and of those after it
in-append : (disk : ℕ) (xs ys : List File) → flat_map (λ (f : File). f.extents) (filter (λ (f : File). f.disk == disk) (xs ++ ys))
    ≡ flat_map (λ (f : File). f.extents) (filter (λ (f : File). f.disk == disk) xs) ++ flat_map (λ (f : File). f.extents) (filter (λ (f : File). f.disk == disk) ys)
in-append disk xs ys =
    ap (flat_map (λ (f : File). f.extents)) (filter-append (λ (f : File). f.disk == disk) xs ys)
    ∙ flat_map-append (λ (f : File). f.extents) (filter (λ (f : File). f.disk == disk) xs) (filter (λ (f : File). f.disk == disk) ys)

take_map : (xs : List FileState) (i : ℕ) → map flat_file (take i xs) ≡ take i (map flat_file xs)
take_map xs zero = refl
take_map [] (suc i) = refl
take_map (x ∷ xs) (suc i) = ap (λ (ys : List File). flat_file x ∷ ys) (take_map xs i)

drop_map : (xs : List FileState) (i : ℕ) → map flat_file (drop i xs) ≡ drop i (map flat_file xs)
drop_map xs zero = refl
drop_map [] (suc i) = refl
drop_map (x ∷ xs) (suc i) = drop_map xs i

pub beside-parts : (files ahead after : List FileState) (i disk : ℕ) (start before all : List Extent) → start ≡ [] → ahead ≡ take i files → after ≡ drop (suc i) files
    → before ≡ start ++ flat_map (λ (f : File). f.extents) (filter (λ (f : File). f.disk == disk) (map flat_file ahead))
    → all ≡ before ++ flat_map (λ (f : File). f.extents) (filter (λ (f : File). f.disk == disk) (map flat_file after))
    → all ≡ extents_beside (map flat_file files) i disk
beside-parts files ahead after i disk start before all none is too first second =
    let E : List File → List Extent = λ fs. flat_map (λ (f : File). f.extents) (filter (λ (f : File). f.disk == disk) fs) in
    let behind : E (map flat_file after) ≡ E (drop (suc i) (map flat_file files)) = ap (λ (fs : List FileState). E (map flat_file fs)) too ∙ ap E (drop_map files (suc i)) in
    let front : before ≡ E (take i (map flat_file files)) = first ∙ ap (λ (xs : List Extent). xs ++ E (map flat_file ahead)) none ∙ ap (λ (fs : List FileState). E (map flat_file fs)) is ∙ ap E (take_map files i) in
    second ∙ ap (λ (xs : List Extent). before ++ xs) behind ∙ ap (λ (xs : List Extent). xs ++ E (drop (suc i) (map flat_file files))) front
    ∙ sym (in-append disk (take i (map flat_file files)) (drop (suc i) (map flat_file files)))

-- all files after one
pub rest_of : (files : List FileState) (i : ℕ) → take (length files - (i + 1)) (drop (i + 1) files) ≡ drop (suc i) files
rest_of files i =
    let next : i + 1 ≡ suc i = omega arith in
    take_all (length files - (i + 1)) (drop (i + 1) files) (omega (arith, length-drop (i + 1) files)) ∙ ap (λ (k : ℕ). drop k files) next

pub more-new : (blocks : ℕ) (others own : List Extent) (b : ℕ) → can_lengthen blocks others own ≡ false → nat_lt (length others + length own) 252 ≡ true
    → least_free blocks (others ++ own) ≡ Some b → with_next_block blocks others own ≡ Some (own ++ record { start = b; pages = 1 } ∷ [])
more-new blocks others own b can few least =
    ap (λ (c : Bool). cond c (Some (with_longer_last own)) (with_new_last blocks others own)) can
    ∙ ap (λ (c : Bool). cond c (option_map (λ block. own ++ record { start = block; pages = 1 } ∷ []) (least_free blocks (others ++ own))) None) few
    ∙ ap (λ (o : Option ℕ). option_map (λ block. own ++ record { start = block; pages = 1 } ∷ []) o) least

pub more-full : (blocks : ℕ) (others own : List Extent) → can_lengthen blocks others own ≡ false → nat_lt (length others + length own) 252 ≡ false
    → with_next_block blocks others own ≡ None
more-full blocks others own can few =
    ap (λ (c : Bool). cond c (Some (with_longer_last own)) (with_new_last blocks others own)) can
    ∙ ap (λ (c : Bool). cond c (option_map (λ block. own ++ record { start = block; pages = 1 } ∷ []) (least_free blocks (others ++ own))) None) few

pub more-none : (blocks : ℕ) (others own : List Extent) → can_lengthen blocks others own ≡ false → nat_lt (length others + length own) 252 ≡ true
    → least_free blocks (others ++ own) ≡ None → with_next_block blocks others own ≡ None
more-none blocks others own can few least =
    ap (λ (c : Bool). cond c (Some (with_longer_last own)) (with_new_last blocks others own)) can
    ∙ ap (λ (c : Bool). cond c (option_map (λ block. own ++ record { start = block; pages = 1 } ∷ []) (least_free blocks (others ++ own))) None) few
    ∙ ap (λ (o : Option ℕ). option_map (λ block. own ++ record { start = block; pages = 1 } ∷ []) o) least

-- a growth goes on, or ends
pub goes-on : (blocks : ℕ) (others own : List Extent) (n m : ℕ) (next : List Extent) → n ≡ suc m → with_next_block blocks others own ≡ Some next
    → with_next_blocks blocks others n own ≡ with_next_blocks blocks others m next
goes-on blocks others own n m next is found =
    ap (λ (k : ℕ). with_next_blocks blocks others k own) is ∙ ap (option_and_then (with_next_blocks blocks others m)) found

pub ends-none : (blocks : ℕ) (others own : List Extent) (n m : ℕ) → n ≡ suc m → with_next_block blocks others own ≡ None
    → with_next_blocks blocks others n own ≡ None
ends-none blocks others own n m is none =
    ap (λ (k : ℕ). with_next_blocks blocks others k own) is ∙ ap (option_and_then (with_next_blocks blocks others m)) none
