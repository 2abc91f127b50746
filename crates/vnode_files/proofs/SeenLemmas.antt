-- The files as contracts see them, over the vnodes that are kept.
use Rattle.std.specs.Prelude.{ℕ, suc, ◌≡◌, ◌<◌, ◌≤◌, ◌+◌, Bool, true, false, List, [], ◌∷◌, ◌++◌, length, take, drop, slice_index_or, slice_set, map, Option, Some, None, is_some}
use Rattle.std.specs.List.{find}
use Rattle.std.specs.Option.{option_or}
use Rattle.std.proofs.Common.{ap, ◌∙◌, sym, arith, refl, length-append}
use Rattle.std.proofs.lemmas.List.{map-set, get_or-map, take-append-drop}
use Rattle.std.proofs.lemmas.List.Folds.{find-append}
use Rattle.vnode_files.specs.declared.extent.Extent.{Extent}
use Rattle.vnode_files.specs.Vnode.{VnodeSeen, no_vnode}
use Rattle.vnode_files.specs.Files.{extents_on}
use Rattle.vnode_files.specs.Room.{RoomyVnode}
use Rattle.vnode_files.proofs.ListLemmas.{extents_on-more, extents_on-parts, extents_on-append}

-- what contracts see of vnodes
abbrev pub seen_of : List RoomyVnode → List VnodeSeen
seen_of vnodes = map (λ (v : RoomyVnode). v.seen) vnodes

pub seen-at : (vnodes : List RoomyVnode) (i : ℕ) (x : RoomyVnode) (d : VnodeSeen) → i < length vnodes → x ≡ slice_index_or vnodes i x → slice_index_or (seen_of vnodes) i d ≡ x.seen
seen-at vnodes i x d h is = get_or-map (λ (v : RoomyVnode). v.seen) vnodes i x d h ∙ ap (λ (v : RoomyVnode). v.seen) (sym is)

-- a vnode that changes in its place
pub seen-set : (vnodes : List RoomyVnode) (i : ℕ) (x y : RoomyVnode) (f : VnodeSeen → VnodeSeen) → i < length vnodes → x ≡ slice_index_or vnodes i x → y.seen ≡ f x.seen
    → seen_of (slice_set vnodes i y) ≡ slice_set (seen_of vnodes) i (f (slice_index_or (seen_of vnodes) i no_vnode))
seen-set vnodes i x y f h is new =
    map-set (λ (v : RoomyVnode). v.seen) vnodes i y
    ∙ ap (slice_set (seen_of vnodes) i) (new ∙ ap f (sym (seen-at vnodes i x no_vnode h is)))

some-or : {X : Type 0} (o p : Option X) → is_some o ≡ true → option_or o p ≡ o
some-or None p is = cc
some-or (Some x) p is = refl

pub none-from : {X : Type 0} (o : Option X) → is_some o ≡ false → o ≡ None
none-from None is = refl
none-from (Some x) is = cc

-- no file up to this one has a block
pub find_more : (p : Extent → Bool) (disk : ℕ) (xs : List VnodeSeen) (i : ℕ) (d : VnodeSeen) → i < length xs
    → find p (extents_on disk (take i xs)) ≡ None → find p (extents_on disk (slice_index_or xs i d ∷ [])) ≡ None → find p (extents_on disk (take (i + 1) xs)) ≡ None
find_more p disk xs i d h before here =
    ap (find p) (extents_on-more disk xs i d h) ∙ find-append p (extents_on disk (take i xs)) (extents_on disk (slice_index_or xs i d ∷ []))
    ∙ ap (λ (o : Option Extent). option_or o (find p (extents_on disk (slice_index_or xs i d ∷ [])))) before ∙ here

-- the first file that has the block
pub find_here : (p : Extent → Bool) (disk : ℕ) (xs : List VnodeSeen) (i : ℕ) (d : VnodeSeen) → i < length xs
    → find p (extents_on disk (take i xs)) ≡ None → is_some (find p (extents_on disk (slice_index_or xs i d ∷ []))) ≡ true
    → find p (extents_on disk xs) ≡ find p (extents_on disk (slice_index_or xs i d ∷ []))
find_here p disk xs i d h before here =
    let one = extents_on disk (slice_index_or xs i d ∷ []) in
    let after = extents_on disk (drop (suc i) xs) in
    ap (find p) (extents_on-parts disk xs i d h) ∙ find-append p (extents_on disk (take i xs)) (one ++ after)
    ∙ ap (λ (o : Option Extent). option_or o (find p (one ++ after))) before ∙ find-append p one after ∙ some-or (find p one) (find p after) here

-- the extents of the first files are among all
pub length-extents-take : (disk : ℕ) (xs : List VnodeSeen) (n : ℕ) → length (extents_on disk (take n xs)) ≤ length (extents_on disk xs)
length-extents-take disk xs n =
    let all : length (extents_on disk xs) ≡ length (extents_on disk (take n xs) ++ extents_on disk (drop n xs)) =
    ap (λ (ys : List VnodeSeen). length (extents_on disk ys)) (sym (take-append-drop n xs)) ∙ ap length (extents_on-append disk (take n xs) (drop n xs)) in
    omega (arith, length-append (extents_on disk (take n xs)) (extents_on disk (drop n xs)))
