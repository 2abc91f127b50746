-- The files as a whole: what a look-up finds, and that they stay sound.
use Rattle.std.specs.Prelude.{ℕ, ◌≡◌, ◌≢◌, ◌<◌, ◌≤◌, ◌+◌, ◌==◌, Bool, true, false, nat_le, nat_lt, List, [], ◌∷◌, ◌++◌, length, drop, slice_index_or, slice_set}
use Rattle.std.specs.Prelude.{remove, Option, Some, None, All, IsSome, IsSomeAnd, option_map, unwrap_or}
use Rattle.std.specs.Option.{option_map_or}
use Rattle.std.specs.List.{last_or, list_any}
use Rattle.std.specs.Ordering.{nat_cmp, eq_by_cmp}
use Rattle.std.specs.FinMap as finmap
use Rattle.std.proofs.Common.{ap, ◌∙◌, sym, arith, refl, cond, subst, inl, inr, length-append}
use Rattle.std.proofs.lemmas.Bool.{cases_lt, eq-eqb}
use Rattle.std.proofs.lemmas.Bool.Decides.{nat_tests}
use Rattle.std.proofs.lemmas.Cmp.{nat_cmp_total}
use Rattle.std.proofs.lemmas.List.{drop_more, drop_all, length-map, get_or-map}
use Rattle.std.proofs.lemmas.List.Elements.{All-push}
use Rattle.vnode_files.specs.declared.extent.Extent.{Extent}
use Rattle.vnode_files.specs.Grow.{extent_end, page_count, is_free, with_longer_last, least_free, has_block}
use Rattle.vnode_files.specs.Vnode.{VnodeSeen, no_vnode, with_extents, page_blocks}
use Rattle.vnode_files.specs.Files.{FilesSeen, vnode_at, with_growth, block_count, extents_on, NoneBefore}
use Rattle.vnode_files.specs.Room.{RoomyVnode, IsRoomy, IsSoundFiles, grown_blocks}
use Rattle.vnode_files.specs.Step.{own_extents, other_extents, its_blocks, end_block, new_block, next_extents}
use Rattle.vnode_files.proofs.BlockLemmas.{length-page_blocks, page_blocks-longer, page_blocks-pushed}
use Rattle.vnode_files.proofs.ListLemmas.{any-others, length-others, is_free-same, least_free-same}
use Rattle.vnode_files.proofs.RoomLemmas.{takes, IsSoundFiles-set, AreBelow-none, AreBelow}
use Rattle.vnode_files.proofs.SeenLemmas.{seen_of, seen-at, seen-set}
use Rattle.vnode_files.proofs.StepLemmas.{IsTakeable, takeable, lengthens, begins, no_end, no_new, next-longer, next-new}

-- keys of the disks
pub key-same : (a b : ℕ) → a ≡ b → eq_by_cmp nat_cmp b a ≡ true
key-same a b e = grind (arith, nat_tests)

pub key-other : (a b : ℕ) → (a ≡ b → ⊥) → eq_by_cmp nat_cmp b a ≡ false
key-other a b e = grind (arith, nat_tests)

-- a look-up that passes a disk with another number, and one that has come to it
pub find-passed : (disk : ℕ) (es : List (ℕ × ℕ)) (i : ℕ) → i < length es → ((slice_index_or es i (0, 0)).0 ≡ disk → ⊥)
    → finmap.find nat_cmp disk (drop (i + 1) es) ≡ finmap.find nat_cmp disk (drop i es)
find-passed disk es i h other =
    sym (ap (finmap.find nat_cmp disk) (drop_more es i (0, 0) h)
    ∙ ap (λ (b : Bool). cond b (Some (slice_index_or es i (0, 0)).1) (finmap.find nat_cmp disk (drop (i + 1) es))) (key-other (slice_index_or es i (0, 0)).0 disk other))

pub find-come : (disk : ℕ) (es : List (ℕ × ℕ)) (i : ℕ) → i < length es → (slice_index_or es i (0, 0)).0 ≡ disk → finmap.find nat_cmp disk (drop i es) ≡ Some (slice_index_or es i (0, 0)).1
find-come disk es i h same =
    ap (finmap.find nat_cmp disk) (drop_more es i (0, 0) h)
    ∙ ap (λ (b : Bool). cond b (Some (slice_index_or es i (0, 0)).1) (finmap.find nat_cmp disk (drop (i + 1) es))) (key-same (slice_index_or es i (0, 0)).0 disk same)

-- a disk more, on which no file lies
pub IsSoundFiles-disk : (disks : finmap.FinMap nat_cmp ℕ) (vnodes : List RoomyVnode) (disk blocks : ℕ) → IsSoundFiles disks vnodes → All (λ (v : VnodeSeen). v.info.disk ≢ disk) (seen_of vnodes)
    → IsSoundFiles (finmap.insert disks disk blocks) vnodes
IsSoundFiles-disk disks vnodes disk blocks h none =
    let keeps : (i : ℕ) (d : RoomyVnode) → i < length vnodes
    → finmap.get disks (slice_index_or vnodes i d).seen.info.disk ≡ finmap.get (finmap.insert disks disk blocks) (slice_index_or vnodes i d).seen.info.disk =
    λ i d within.
    let number = (slice_index_or vnodes i d).seen.info.disk in
    let seen : slice_index_or (seen_of vnodes) i d.seen ≡ (slice_index_or vnodes i d).seen = get_or-map (λ (v : RoomyVnode). v.seen) vnodes i d d.seen within in
    let other : number ≡ disk → ⊥ =
    subst (λ (v : VnodeSeen). v.info.disk ≡ disk → ⊥) seen (none i d.seen (omega (arith, length-map vnodes (λ (v : RoomyVnode). v.seen)))) in
    sym (finmap.get-insert nat_cmp_total disks disk blocks number
    ∙ ap (λ (b : Bool). cond b (Some blocks) (finmap.get disks number)) (key-other disk number (λ e. other (sym e)))) in
    record {
      few = h.few;
      set = λ i d within. subst (λ (o : Option ℕ). IsSome o) (keeps i d within) (h.set i d within);
      roomy = λ i d within. subst (λ (o : Option ℕ). IsRoomy (unwrap_or o 0) (slice_index_or vnodes i d)) (keeps i d within) (h.roomy i d within);
    }

-- a file more, as it begins
pub IsSoundFiles-add : (disks : finmap.FinMap nat_cmp ℕ) (vnodes : List RoomyVnode) (v : RoomyVnode) (blocks : ℕ) → IsSoundFiles disks vnodes → length vnodes < 64
    → finmap.get disks v.seen.info.disk ≡ Some blocks → v.opened ≡ page_count v.seen.info.extents → v.opened + blocks ≤ v.room → IsSoundFiles disks (vnodes ++ v ∷ [])
IsSoundFiles-add disks vnodes v blocks h few is opened room =
    let nothing : grown_blocks v ≡ [] = drop_all v.opened (page_blocks v.seen.info.extents) (omega (arith, length-page_blocks v.seen.info.extents)) in
    let below = subst (λ (ys : List ℕ). AreBelow ys blocks) (sym nothing) (AreBelow-none blocks) in
    let roomy : IsRoomy blocks v = record { distinct = below.distinct; below = below.below; room = room } in
    record {
      few = omega (arith, length-append vnodes (v ∷ []));
      set = All-push (λ (w : RoomyVnode). IsSome (finmap.get disks w.seen.info.disk)) vnodes v h.set (subst (λ (o : Option ℕ). IsSome o) (sym is) refl);
      roomy = All-push (λ (w : RoomyVnode). IsRoomy (block_count disks w.seen.info.disk) w) vnodes v h.roomy (subst (λ (o : Option ℕ). IsRoomy (unwrap_or o 0) v) (sym is) roomy);
    }

-- one file more without the name
pub NoneBefore-next : (files : List VnodeSeen) (name : List ℕ) (end : ℕ) → NoneBefore files name end → ((slice_index_or files end no_vnode).info.name ≡ name → ⊥) → NoneBefore files name (end + 1)
NoneBefore-next files name end before here k h = elim (cases_lt k end) [
  | inl lower ↦ before k lower
  | inr above ↦ λ same. let e : k ≡ end = omega (arith, h, above) in here (subst (λ (n : ℕ). (slice_index_or files n no_vnode).info.name ≡ name) e same)
]

-- a file's disk, by what was read of it
module _ (s : FilesSeen) (file disk blocks : ℕ) (h : file < length s.files) (on : disk ≡ (vnode_at s file).info.disk) (count : blocks ≡ its_blocks s file) where
  here : ((vnode_at s file).info.disk == disk) ≡ true
  here = eq-eqb (vnode_at s file).info.disk disk (sym on)

  -- the blocks of the disk that some file has, by those of the others and its own
  same-blocks : (b : ℕ) → list_any (has_block b) (extents_on disk s.files) ≡ list_any (has_block b) (other_extents s file ++ own_extents s file)
  same-blocks b =
      any-others disk s.files file no_vnode h here (has_block b)
      ∙ ap (λ (n : ℕ). list_any (has_block b) (extents_on n (remove s.files file) ++ own_extents s file)) on

  count-extents : length (extents_on disk s.files) ≡ length (other_extents s file) + length (own_extents s file)
  count-extents =
      length-others disk s.files file no_vnode h here
      ∙ ap (λ (n : ℕ). length (extents_on n (remove s.files file)) + length (own_extents s file)) on

  pub end_block-none : last_or None (own_extents s file) ≡ None → end_block s file ≡ None
  end_block-none none =
      ap (λ (o : Option Extent). cond (option_map_or (λ last. is_free (its_blocks s file) (other_extents s file ++ own_extents s file) (extent_end last)) o false) (option_map extent_end o) None) none

  pub end_block-some : (e : Extent) (r : Option ℕ) → last_or None (own_extents s file) ≡ Some e
      → r ≡ cond (is_free blocks (extents_on disk s.files) (extent_end e)) (Some (extent_end e)) None → r ≡ end_block s file
  end_block-some e r last is =
      let free : is_free blocks (extents_on disk s.files) (extent_end e) ≡ is_free (its_blocks s file) (other_extents s file ++ own_extents s file) (extent_end e) =
      is_free-same blocks (extents_on disk s.files) (other_extents s file ++ own_extents s file) (extent_end e) (same-blocks (extent_end e))
      ∙ ap (λ (n : ℕ). is_free n (other_extents s file ++ own_extents s file) (extent_end e)) count in
      is ∙ ap (λ (b : Bool). cond b (Some (extent_end e)) None) free
      ∙ sym (ap (λ (o : Option Extent). cond (option_map_or
      (λ last. is_free (its_blocks s file) (other_extents s file ++ own_extents s file) (extent_end last)) o false) (option_map extent_end o) None) last)

  pub new_block-full : (full : Bool) → full ≡ nat_le 252 (length (extents_on disk s.files)) → full ≡ true → new_block s file ≡ None
  new_block-full full is true_ =
      let many : nat_lt (length (other_extents s file) + length (own_extents s file)) 252 ≡ false =
      ap (λ (n : ℕ). nat_lt n 252) (sym count-extents) ∙ grind (arith, nat_tests, is, true_) in
      ap (λ (b : Bool). cond b (least_free (its_blocks s file) (other_extents s file ++ own_extents s file)) None) many

  pub new_block-least : (full : Bool) (r : Option ℕ) → full ≡ nat_le 252 (length (extents_on disk s.files)) → full ≡ false
      → r ≡ least_free blocks (extents_on disk s.files) → r ≡ new_block s file
  new_block-least full r is false_ least =
      let few : nat_lt (length (other_extents s file) + length (own_extents s file)) 252 ≡ true =
      ap (λ (n : ℕ). nat_lt n 252) (sym count-extents) ∙ grind (arith, nat_tests, is, false_) in
      least ∙ least_free-same blocks (extents_on disk s.files) (other_extents s file ++ own_extents s file) same-blocks
      ∙ ap (λ (n : ℕ). least_free n (other_extents s file ++ own_extents s file)) count
      ∙ sym (ap (λ (b : Bool). cond b (least_free (its_blocks s file) (other_extents s file ++ own_extents s file)) None) few)

longer-blocks : (xs : List Extent) (b : ℕ) → IsSomeAnd (last_or None xs) (λ e. extent_end e ≡ b) → page_blocks (with_longer_last xs) ≡ page_blocks xs ++ b ∷ []
longer-blocks xs b is =
    elim (last_or None xs) as (λ o. last_or None xs ≡ o → IsSomeAnd o (λ e. extent_end e ≡ b) → page_blocks (with_longer_last xs) ≡ page_blocks xs ++ b ∷ []) [
      | None ↦ λ e h. absurd h
      | Some last ↦ λ e h. page_blocks-longer xs last e ∙ ap (λ (n : ℕ). page_blocks xs ++ n ∷ []) h
    ] refl is

-- a file takes a block: there is room, and the files stay sound
pub record Taking (disks : finmap.FinMap nat_cmp ℕ) (vnodes : List RoomyVnode) (file : ℕ) (x y : RoomyVnode) (next : Option (List Extent)) : Type 0 where
  pub room : page_count x.seen.info.extents < x.room
  pub sound : IsSoundFiles disks (slice_set vnodes file y)
  pub new : (let s : FilesSeen = record { disks = disks; files = seen_of (slice_set vnodes file y) } in s) ≡ with_growth (record { disks = disks; files = seen_of vnodes }) file next

abbrev pub files_of : finmap.FinMap nat_cmp ℕ → List RoomyVnode → FilesSeen
files_of disks vnodes = record { disks = disks; files = seen_of vnodes }

module _ (disks : finmap.FinMap nat_cmp ℕ) (vnodes : List RoomyVnode) (file : ℕ) (x : RoomyVnode)
    (h : IsSoundFiles disks vnodes) (within : file < length vnodes) (is : x ≡ slice_index_or vnodes file x) where
  found : vnode_at (files_of disks vnodes) file ≡ x.seen
  found = seen-at vnodes file x no_vnode within is

  taking : (b : ℕ) (extents : List Extent) (next : Option (List Extent)) → IsTakeable (its_blocks (files_of disks vnodes) file) b (own_extents (files_of disks vnodes) file)
      → page_blocks extents ≡ page_blocks x.seen.info.extents ++ b ∷ [] → next ≡ Some extents → Taking disks vnodes file x (record x { seen = with_extents x.seen extents }) next
  taking b extents next free more some =
      let y : RoomyVnode = record x { seen = with_extents x.seen extents } in
      let mine : IsTakeable (block_count disks x.seen.info.disk) b x.seen.info.extents =
      subst (λ (v : VnodeSeen). IsTakeable (block_count disks v.info.disk) b v.info.extents) found free in
      let roomy : IsRoomy (block_count disks x.seen.info.disk) x = subst (λ (v : RoomyVnode). IsRoomy (block_count disks v.seen.info.disk) v) (sym is) (h.roomy file x within) in
      let taken = takes (block_count disks x.seen.info.disk) b x y roomy refl refl more mine.none mine.low in
      record {
        room = taken.room;
        sound = IsSoundFiles-set disks vnodes file x y h within is refl taken.roomy;
        new = ap (λ (fs : List VnodeSeen). let s : FilesSeen = record { disks = disks; files = fs } in s)
            (seen-set vnodes file x y (λ v. with_extents v extents) within is refl)
            ∙ sym (ap (with_growth (files_of disks vnodes) file) some);
      }

  pub last-found : (b : ℕ) → end_block (files_of disks vnodes) file ≡ Some b → IsSomeAnd (last_or None x.seen.info.extents) (λ e. extent_end e ≡ b)
  last-found b end =
      let l = lengthens (its_blocks (files_of disks vnodes) file) (other_extents (files_of disks vnodes) file) (own_extents (files_of disks vnodes) file) b end in
      subst (λ (v : VnodeSeen). IsSomeAnd (last_or None v.info.extents) (λ e. extent_end e ≡ b)) found l.last

  pub taking-end : (b : ℕ) → end_block (files_of disks vnodes) file ≡ Some b
      → Taking disks vnodes file x (record x { seen = with_extents x.seen (with_longer_last x.seen.info.extents) }) (next_extents (files_of disks vnodes) file)
  taking-end b end =
      let s = files_of disks vnodes in
      let l = lengthens (its_blocks s file) (other_extents s file) (own_extents s file) b end in
      let next : next_extents s file ≡ Some (with_longer_last x.seen.info.extents) =
      next-longer (its_blocks s file) (other_extents s file) (own_extents s file) l.can ∙ ap (λ (v : VnodeSeen). Some (with_longer_last v.info.extents)) found in
      taking b (with_longer_last x.seen.info.extents) (next_extents s file) (takeable (its_blocks s file) b (other_extents s file) (own_extents s file) l.free)
      (longer-blocks x.seen.info.extents b (last-found b end)) next

  pub taking-new : (b : ℕ) → end_block (files_of disks vnodes) file ≡ None → new_block (files_of disks vnodes) file ≡ Some b
      → Taking disks vnodes file x (record x { seen = with_extents x.seen (x.seen.info.extents ++ record { start = b; pages = 1 } ∷ []) }) (next_extents (files_of disks vnodes) file)
  taking-new b none new =
      let s = files_of disks vnodes in
      let l = begins (its_blocks s file) (other_extents s file) (own_extents s file) b new in
      let next : next_extents s file ≡ Some (x.seen.info.extents ++ record { start = b; pages = 1 } ∷ []) =
      next-new (its_blocks s file) (other_extents s file) (own_extents s file) (no_end (its_blocks s file) (other_extents s file) (own_extents s file) none) ∙ l.new
      ∙ ap (λ (v : VnodeSeen). Some (v.info.extents ++ record { start = b; pages = 1 } ∷ [])) found in
      taking b (x.seen.info.extents ++ record { start = b; pages = 1 } ∷ []) (next_extents s file) (takeable (its_blocks s file) b (other_extents s file) (own_extents s file) l.free)
      (page_blocks-pushed x.seen.info.extents b) next

  pub few-found : (b : ℕ) → new_block (files_of disks vnodes) file ≡ Some b → length x.seen.info.extents < 252
  few-found b new =
      let s = files_of disks vnodes in
      let l = begins (its_blocks s file) (other_extents s file) (own_extents s file) b new in
      subst (λ (v : VnodeSeen). length v.info.extents < 252) found (omega (arith, l.few))

-- where there is neither block there are no next extents
pub next-none : (s : FilesSeen) (file : ℕ) → end_block s file ≡ None → new_block s file ≡ None → next_extents s file ≡ None
next-none s file end new =
    next-new (its_blocks s file) (other_extents s file) (own_extents s file) (no_end (its_blocks s file) (other_extents s file) (own_extents s file) end)
    ∙ no_new (its_blocks s file) (other_extents s file) (own_extents s file) new
