-- A file has room for the blocks that it takes.
use Rattle.std.specs.Prelude.{ℕ, ◌≡◌, ◌<◌, ◌≤◌, ◌||◌, true, false, List, [], ◌∷◌, ◌++◌, length, drop, take, slice_index_or, slice_set, IsSome}
use Rattle.std.specs.List.{IsDistinct, list_any}
use Rattle.std.specs.Ordering.{nat_cmp}
use Rattle.std.specs.FinMap as finmap
use Rattle.std.proofs.Common.{ap, ◌∙◌, sym, arith, subst, inl, inr, eqb, length-append}
use Rattle.std.proofs.lemmas.Bool.{cases_lt, eqb-true}
use Rattle.std.proofs.lemmas.Cmp.{nat_eq_equiv}
use Rattle.std.proofs.lemmas.List.{drop-append-le, drop_all, length-drop, take-append-drop, get_or_append_left, length-set}
use Rattle.std.proofs.lemmas.List.Elements.{All-set}
use Rattle.std.proofs.lemmas.List.Folds.{list_any-append}
use Rattle.std.proofs.lemmas.Map.Keys.{IsDistinct-push, apart_from_distinct, IsDistinct-from_apart}
use Rattle.std.proofs.lemmas.Map.Steps.{length-le_from_distinct_below}
use Rattle.vnode_files.specs.Grow.{page_count}
use Rattle.vnode_files.specs.Vnode.{page_blocks}
use Rattle.vnode_files.specs.Files.{block_count}
use Rattle.vnode_files.specs.Room.{RoomyVnode, IsRoomy, IsSoundFiles, grown_blocks}
use Rattle.vnode_files.proofs.BlockLemmas.{length-page_blocks}

-- different blocks below a number
pub record AreBelow (xs : List ℕ) (blocks : ℕ) : Type 0 where
  pub distinct : IsDistinct eqb xs
  pub below : (b : ℕ) → list_any (eqb b) xs ≡ true → b < blocks

none_in_drop : (b n : ℕ) (xs : List ℕ) → list_any (eqb b) xs ≡ false → list_any (eqb b) (drop n xs) ≡ false
none_in_drop b n xs none =
    let both : (list_any (eqb b) (take n xs) || list_any (eqb b) (drop n xs)) ≡ false =
    sym (list_any-append (eqb b) (take n xs) (drop n xs)) ∙ ap (list_any (eqb b)) (take-append-drop n xs) ∙ none in
    grind (arith, both)

-- a block that is none of these comes behind them
AreBelow-push : (xs : List ℕ) (blocks b : ℕ) → AreBelow xs blocks → list_any (eqb b) xs ≡ false → b < blocks → AreBelow (xs ++ b ∷ []) blocks
AreBelow-push xs blocks b h none low = record {
  distinct = IsDistinct-push nat_eq_equiv xs b h.distinct none;
  below = λ q is.
      let either : (list_any (eqb q) xs || (eqb q b || false)) ≡ true = sym (list_any-append (eqb q) xs (b ∷ [])) ∙ is in
      grind (arith, either, h.below q, eqb-true q b);
}

-- the first of them
AreBelow-front : (xs ys : List ℕ) (blocks : ℕ) → AreBelow (xs ++ ys) blocks → AreBelow xs blocks
AreBelow-front xs ys blocks h = record {
  distinct = IsDistinct-from_apart eqb xs (λ i j d lower within.
      let whole : j < length (xs ++ ys) = omega (arith, length-append xs ys) in
      let first = get_or_append_left xs ys d i (omega arith) in
      let second = get_or_append_left xs ys d j within in
      let apart = apart_from_distinct eqb (xs ++ ys) i j d h.distinct lower whole in
      sym (ap (λ x. eqb x (slice_index_or xs j d)) first) ∙ sym (ap (λ y. eqb (slice_index_or (xs ++ ys) i d) y) second) ∙ apart);
  below = λ q is. h.below q (list_any-append (eqb q) xs ys ∙ ap (λ b. b || list_any (eqb q) ys) is);
}

pub AreBelow-none : (blocks : ℕ) → AreBelow [] blocks
unfolding IsDistinct
AreBelow-none blocks = record { distinct = tt; below = λ q is. cc }

-- what a file with room takes: there is room for it, and for all that may come
pub record HasTaken (blocks : ℕ) (v w : RoomyVnode) : Type 0 where
  pub room : page_count v.seen.info.extents < v.room
  pub roomy : IsRoomy blocks w

pub takes : (blocks b : ℕ) (v w : RoomyVnode) → IsRoomy blocks v → w.opened ≡ v.opened → w.room ≡ v.room
    → page_blocks w.seen.info.extents ≡ page_blocks v.seen.info.extents ++ b ∷ [] → list_any (eqb b) (page_blocks v.seen.info.extents) ≡ false → b < blocks → HasTaken blocks v w
takes blocks b v w h opened room more none low =
    let xs = page_blocks v.seen.info.extents in
    let count = length-page_blocks v.seen.info.extents in
    let grown : grown_blocks w ≡ drop v.opened (xs ++ b ∷ []) = ap (λ n. drop n (page_blocks w.seen.info.extents)) opened ∙ ap (drop v.opened) more in
    elim (cases_lt (length xs) v.opened) [
      | inl early ↦
          let nothing : grown_blocks w ≡ [] = grown ∙ drop_all v.opened (xs ++ b ∷ []) (omega (arith, length-append xs (b ∷ []))) in
          let below = subst (λ (ys : List ℕ). AreBelow ys blocks) (sym nothing) (AreBelow-none blocks) in
          record {
            room = omega (arith, h.room);
            roomy = record { distinct = below.distinct; below = below.below; room = omega (arith, h.room) };
          }
      | inr late ↦
          let old : AreBelow (drop v.opened xs) blocks = record { distinct = h.distinct; below = h.below } in
          let new : AreBelow (drop v.opened xs ++ b ∷ []) blocks = AreBelow-push (drop v.opened xs) blocks b old (none_in_drop b v.opened xs none) low in
          let few : length (drop v.opened xs ++ b ∷ []) ≤ blocks = length-le_from_distinct_below (drop v.opened xs ++ b ∷ []) blocks new.distinct new.below in
          let below = subst (λ (ys : List ℕ). AreBelow ys blocks) (sym (grown ∙ drop-append-le v.opened xs (b ∷ []) late)) new in
          record {
            room = omega (arith, h.room, length-append (drop v.opened xs) (b ∷ []), length-drop v.opened xs);
            roomy = record { distinct = below.distinct; below = below.below; room = omega (arith, h.room) };
          }
    ]

-- a file that is brought back has the room
pub IsRoomy-front : (blocks : ℕ) (v w : RoomyVnode) (added : List ℕ) → IsRoomy blocks v → w.opened ≡ v.opened → w.room ≡ v.room
    → page_blocks v.seen.info.extents ≡ page_blocks w.seen.info.extents ++ added → IsRoomy blocks w
IsRoomy-front blocks v w added h opened room more =
    let xs = page_blocks w.seen.info.extents in
    let grown : grown_blocks w ≡ drop v.opened xs = ap (λ n. drop n xs) opened in
    elim (cases_lt (length xs) v.opened) [
      | inl early ↦
          let below = subst (λ (ys : List ℕ). AreBelow ys blocks) (sym (grown ∙ drop_all v.opened xs (omega arith))) (AreBelow-none blocks) in
          record { distinct = below.distinct; below = below.below; room = omega (arith, h.room) }
      | inr late ↦
          let old : AreBelow (grown_blocks v) blocks = record { distinct = h.distinct; below = h.below } in
          let whole : AreBelow (drop v.opened xs ++ added) blocks =
          subst (λ (ys : List ℕ). AreBelow ys blocks) (ap (drop v.opened) more ∙ drop-append-le v.opened xs added late) old in
          let below = subst (λ (ys : List ℕ). AreBelow ys blocks) (sym grown) (AreBelow-front (drop v.opened xs) added blocks whole) in
          record { distinct = below.distinct; below = below.below; room = omega (arith, h.room) }
    ]

-- sound files stay so where a file changes in its place
pub IsSoundFiles-set : (disks : finmap.FinMap nat_cmp ℕ) (vnodes : List RoomyVnode) (i : ℕ) (v w : RoomyVnode) → IsSoundFiles disks vnodes → i < length vnodes
    → v ≡ slice_index_or vnodes i v → w.seen.info.disk ≡ v.seen.info.disk → IsRoomy (block_count disks w.seen.info.disk) w → IsSoundFiles disks (slice_set vnodes i w)
IsSoundFiles-set disks vnodes i v w h within is same roomy = record {
  few = omega (arith, h.few, length-set vnodes i w);
  set = All-set (λ (x : RoomyVnode). IsSome (finmap.get disks x.seen.info.disk)) vnodes i w
      (subst (λ n. IsSome (finmap.get disks n)) (sym same) (subst (λ (x : RoomyVnode). IsSome (finmap.get disks x.seen.info.disk)) (sym is) (h.set i v within))) h.set;
  roomy = All-set (λ (x : RoomyVnode). IsRoomy (block_count disks x.seen.info.disk) x) vnodes i w roomy h.roomy;
}
