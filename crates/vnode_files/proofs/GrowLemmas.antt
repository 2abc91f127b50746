-- A growth under way: some blocks are taken, and it can still be undone.
use Rattle.std.specs.Prelude.{ℕ, zero, suc, ◌≡◌, ◌<◌, ◌≤◌, ◌+◌, ◌-◌, Bool, true, false, nat_lt, List, [], ◌∷◌, ◌++◌, length, take, drop, replicate, remove}
use Rattle.std.specs.Prelude.{slice_index_or, slice_set, Option, Some, None, is_some, option_map, option_and_then}
use Rattle.std.specs.Option.{option_map_or}
use Rattle.std.specs.List.{last_or}
use Rattle.std.proofs.Common.{ap, ◌∙◌, sym, arith, refl, subst, cond, length-append, inl, inr}
use Rattle.std.proofs.lemmas.Bool.{cases_lt}
use Rattle.std.proofs.Math.Seq.{take-length}
use Rattle.std.proofs.lemmas.List.{append-nil, append_assoc, length-set, set-get_or, set-set, get_or-set_same, take-set, drop-set-lt, take-append-le, replicate-append-replicate}
use Rattle.vnode_files.specs.declared.extent.Extent.{Extent}
use Rattle.vnode_files.specs.declared.vnode.Savepoint.{Savepoint}
use Rattle.vnode_files.specs.Grow.{page_count, with_longer_last, with_new_last, with_next_block, with_next_blocks, can_lengthen, is_free, extent_end, least_free}
use Rattle.vnode_files.specs.Vnode.{VnodeSeen, IsSoundVnode, page_blocks, with_extents, no_vnode}
use Rattle.vnode_files.specs.Files.{FilesSeen, vnode_at, with_vnode, with_growth, growth_of, extents_on, block_count}
use Rattle.vnode_files.specs.Room.{savepoint_of, cut_vnode, cut_extents}
use Rattle.vnode_files.specs.Step.{own_extents, other_extents, its_blocks, next_extents}
use Rattle.vnode_files.proofs.SeenLemmas.{none-from}
use Rattle.vnode_files.proofs.ExtentLemmas.{length-longer, last-at}
use Rattle.vnode_files.proofs.BlockLemmas.{length-page_blocks, page_blocks-longer, page_blocks-pushed}

-- what the extents with one more block are to those before
pub record IsNext (own next : List Extent) : Type 0 where
  pub block : (b : ℕ) × (page_blocks next ≡ page_blocks own ++ b ∷ [])
  pub longer : length own ≤ length next
  pub cut : (count last : ℕ) → count ≤ length own → cut_extents next count last ≡ cut_extents own count last

cut-longer_at : (xs : List Extent) (k last : ℕ) (d : Extent) → k < length xs
    → slice_set (take (suc k) (with_longer_last xs)) k (record (slice_index_or (with_longer_last xs) k d) { pages = last }) ≡ slice_set (take (suc k) xs) k
    (record (slice_index_or xs k d) { pages = last })
cut-longer_at [] k last d h = absurd (omega arith)
cut-longer_at (e ∷ []) zero last d h = refl
cut-longer_at (e ∷ []) (suc k) last d h = absurd (omega arith)
cut-longer_at (e ∷ f ∷ es) zero last d h = refl
cut-longer_at (e ∷ f ∷ es) (suc k) last d h = ap (λ (ys : List Extent). e ∷ ys) (cut-longer_at (f ∷ es) k last d (omega arith))

cut-append_at : (xs ys : List Extent) (k last : ℕ) (d : Extent) → k < length xs
    → slice_set (take (suc k) (xs ++ ys)) k (record (slice_index_or (xs ++ ys) k d) { pages = last }) ≡ slice_set (take (suc k) xs) k (record (slice_index_or xs k d) { pages = last })
cut-append_at [] ys k last d h = absurd (omega arith)
cut-append_at (e ∷ es) ys zero last d h = refl
cut-append_at (e ∷ es) ys (suc k) last d h = ap (λ (zs : List Extent). e ∷ zs) (cut-append_at es ys k last d (omega arith))

cut_by : (xs ys : List Extent) → ((k last : ℕ) → k < length xs
    → slice_set (take (suc k) ys) k (record (slice_index_or ys k (record { start = 0; pages = 0 })) { pages = last }) ≡ slice_set (take (suc k) xs) k
    (record (slice_index_or xs k (record { start = 0; pages = 0 })) { pages = last }))
    → (count last : ℕ) → count ≤ length xs → cut_extents ys count last ≡ cut_extents xs count last
cut_by xs ys at zero last h = refl
cut_by xs ys at (suc k) last h =
    let same : k ≡ suc k - 1 = omega arith in
    let P : ℕ → Type 0 = λ j. slice_set (take (suc k) ys) j (record (slice_index_or ys j (record { start = 0; pages = 0 })) { pages = last }) ≡ slice_set
    (take (suc k) xs) j (record (slice_index_or xs j (record { start = 0; pages = 0 })) { pages = last }) in
    subst P same (at k last (omega arith))

next-longer_is : (own : List Extent) (e : Extent) → last_or None own ≡ Some e → IsNext own (with_longer_last own)
next-longer_is own e last = record {
  block = (extent_end e, page_blocks-longer own e last);
  longer = omega (arith, length-longer own);
  cut = cut_by own (with_longer_last own) (λ k l h. cut-longer_at own k l (record { start = 0; pages = 0 }) h);
}

next-pushed_is : (own : List Extent) (b : ℕ) → IsNext own (own ++ record { start = b; pages = 1 } ∷ [])
next-pushed_is own b = record {
  block = (b, page_blocks-pushed own b);
  longer = omega (arith, length-append own (record { start = b; pages = 1 } ∷ []));
  cut = cut_by own (own ++ record { start = b; pages = 1 } ∷ []) (λ k l h. cut-append_at own (record { start = b; pages = 1 } ∷ []) k l (record { start = 0; pages = 0 }) h);
}

next-new_is : (own : List Extent) (o : Option ℕ) (next : List Extent) → option_map (λ block. own ++ record { start = block; pages = 1 } ∷ []) o ≡ Some next → IsNext own next
next-new_is own None next is = cc
next-new_is own (Some b) next is = let same : own ++ record { start = b; pages = 1 } ∷ [] ≡ next = cc in subst (IsNext own) same (next-pushed_is own b)

lengthened_is : (blocks : ℕ) (others own : List Extent) (o : Option Extent) → last_or None own ≡ o
    → option_map_or (λ last. is_free blocks (others ++ own) (extent_end last)) o false ≡ true → IsNext own (with_longer_last own)
lengthened_is blocks others own None e can = cc
lengthened_is blocks others own (Some e) last can = next-longer_is own e last

new_is : (blocks : ℕ) (others own next : List Extent) → with_new_last blocks others own ≡ Some next → IsNext own next
new_is blocks others own next is =
    elim (nat_lt (length others + length own) 252) as (λ c. cond c
    (option_map (λ block. own ++ record { start = block; pages = 1 } ∷ []) (least_free blocks (others ++ own))) None ≡ Some next → IsNext own next) [
      | true ↦ λ s. next-new_is own (least_free blocks (others ++ own)) next s
      | false ↦ λ s. cc
    ] is

-- the extents with one more block are the old ones, and one block behind theirs
pub next_is : (blocks : ℕ) (others own next : List Extent) → with_next_block blocks others own ≡ Some next → IsNext own next
next_is blocks others own next is =
    elim (can_lengthen blocks others own) as (λ c. can_lengthen blocks others own ≡ c → cond c (Some (with_longer_last own)) (with_new_last blocks others own) ≡ Some next → IsNext own next) [
      | true ↦ λ can s. let same : with_longer_last own ≡ next = cc in subst (IsNext own) same (lengthened_is blocks others own (last_or None own) refl can)
      | false ↦ λ can s. new_is blocks others own next s
    ] refl is

-- a file that has grown is as one that grew at once
pub with_extents-again : (v : VnodeSeen) (own next : List Extent) → page_count v.info.extents ≤ page_count own → page_count own ≤ page_count next
    → with_extents (with_extents v own) next ≡ with_extents v next
with_extents-again v own next h more =
    let a = page_count own - page_count v.info.extents in
    let b = page_count next - page_count own in
    let all : a + b ≡ page_count next - page_count v.info.extents = omega arith in
    ap (λ (blanks : List Bool). let w : VnodeSeen = record { info = record v.info { extents = next }; blanks = blanks } in w)
    (append_assoc v.blanks (replicate a true) (replicate b true) ∙ ap (λ (bs : List Bool). v.blanks ++ bs) (replicate-append-replicate a b true ∙ ap (λ n. replicate n true) all))

pub with_extents-same : (v : VnodeSeen) → with_extents v v.info.extents ≡ v
with_extents-same v =
    let none : page_count v.info.extents - page_count v.info.extents ≡ 0 = omega arith in
    ap (λ n. let w : VnodeSeen = record { info = v.info; blanks = v.blanks ++ replicate n true } in w) none
    ∙ ap (λ (bs : List Bool). let w : VnodeSeen = record { info = v.info; blanks = bs } in w) (append-nil v.blanks)

-- the files, where one has grown to these extents
abbrev pub state : FilesSeen → ℕ → List Extent → FilesSeen
state old file own = with_vnode old file (with_extents (vnode_at old file) own)

-- the extents to which a file has grown on its way to so many pages: the others follow from them, and they can be cut back to where it stood before
pub record GrowsTo (old : FilesSeen) (file pages : ℕ) (before : Savepoint) (own : List Extent) : Type 0 where
  pub sound : IsSoundVnode (vnode_at old file)
  pub stood : before ≡ savepoint_of (vnode_at old file)
  pub rest : with_next_blocks (its_blocks old file) (other_extents old file) (pages - page_count own) own ≡ growth_of old file pages
  pub cut : cut_extents own before.extents before.last ≡ own_extents old file
  pub within : before.extents ≤ length own
  pub first : (added : List ℕ) × (page_blocks own ≡ page_blocks (own_extents old file) ++ added)

abbrev pub IsGrowing : FilesSeen → FilesSeen → ℕ → ℕ → Savepoint → Type 0
IsGrowing old new file pages before = (own : List Extent) × (new ≡ state old file own) × GrowsTo old file pages before own

module _ (old : FilesSeen) (file : ℕ) (h : file < length old.files) where
  pub vnode-state : (own : List Extent) → vnode_at (state old file own) file ≡ with_extents (vnode_at old file) own
  vnode-state own = get_or-set_same old.files file (with_extents (vnode_at old file) own) no_vnode h

  remove-state : (own : List Extent) → remove (state old file own).files file ≡ remove old.files file
  remove-state own =
      let w = with_extents (vnode_at old file) own in
      ap (λ (vs : List VnodeSeen). vs ++ drop (suc file) (slice_set old.files file w)) (take-set old.files file w)
      ∙ ap (λ (vs : List VnodeSeen). take file old.files ++ vs) (drop-set-lt (suc file) old.files file w (omega arith))

  pub next-state : (own : List Extent) → next_extents (state old file own) file ≡ with_next_block (its_blocks old file) (other_extents old file) own
  next-state own =
      ap (λ (v : VnodeSeen). with_next_block (block_count old.disks v.info.disk) (extents_on v.info.disk (remove (state old file own).files file)) v.info.extents) (vnode-state own)
      ∙ ap (λ (vs : List VnodeSeen). with_next_block (its_blocks old file) (extents_on (vnode_at old file).info.disk vs) own) (remove-state own)

  pub state-again : (own next : List Extent) → page_count (own_extents old file) ≤ page_count own → page_count own ≤ page_count next
      → with_vnode (state old file own) file (with_extents (vnode_at (state old file own) file) next) ≡ state old file next
  state-again own next more most =
      let v = vnode_at old file in
      ap (λ (w : VnodeSeen). with_vnode (state old file own) file (with_extents w next)) (vnode-state own)
      ∙ ap (λ (w : VnodeSeen). with_vnode (state old file own) file w) (with_extents-again v own next more most)
      ∙ ap (λ (vs : List VnodeSeen). let s : FilesSeen = record { disks = old.disks; files = vs } in s) (set-set old.files file (with_extents v own) (with_extents v next))

  pub state-back : (own : List Extent) → with_vnode (state old file own) file (vnode_at old file) ≡ old
  state-back own =
      ap (λ (vs : List VnodeSeen). let s : FilesSeen = record { disks = old.disks; files = vs } in s)
      (set-set old.files file (with_extents (vnode_at old file) own) (vnode_at old file) ∙ set-get_or old.files file no_vnode)

  pub state-same : state old file (own_extents old file) ≡ old
  state-same =
      ap (λ (v : VnodeSeen). with_vnode old file v) (with_extents-same (vnode_at old file))
      ∙ ap (λ (vs : List VnodeSeen). let s : FilesSeen = record { disks = old.disks; files = vs } in s) (set-get_or old.files file no_vnode)

-- a longest cut is none
whole_cut : (xs : List Extent) → cut_extents xs (length xs) (option_map_or (λ (e : Extent). e.pages) (last_or None xs) 0) ≡ xs
whole_cut [] = refl
whole_cut (e ∷ es) =
    let d : Extent = record { start = 0; pages = 0 } in
    let k : ℕ = length (e ∷ es) - 1 in
    let at : suc k ≡ length (e ∷ es) = omega arith in
    let last : option_map_or (λ (f : Extent). f.pages) (last_or None (e ∷ es)) 0 ≡ (slice_index_or (e ∷ es) k d).pages =
    ap (λ (o : Option Extent). option_map_or (λ (f : Extent). f.pages) o 0) (last-at (e ∷ es) k d at) in
    ap (λ (n : ℕ). cut_extents (e ∷ es) (length (e ∷ es)) n) last
    ∙ ap (λ (ys : List Extent). slice_set ys k (slice_index_or (e ∷ es) k d)) (take-length (e ∷ es))
    ∙ set-get_or (e ∷ es) k d

pub grows-first : (old : FilesSeen) (file pages : ℕ) → IsSoundVnode (vnode_at old file) → GrowsTo old file pages (savepoint_of (vnode_at old file)) (own_extents old file)
grows-first old file pages sound = record {
  sound = sound;
  stood = refl;
  rest = refl;
  cut = whole_cut (own_extents old file);
  within = omega arith;
  first = ([], sym (append-nil (page_blocks (own_extents old file))));
}

pub grows-count : (old : FilesSeen) (file pages : ℕ) (before : Savepoint) (own : List Extent) → GrowsTo old file pages before own → page_count (own_extents old file) ≤ page_count own
grows-count old file pages before own g =
    let all : length (page_blocks own) ≡ length (page_blocks (own_extents old file) ++ g.first.0) = ap length g.first.1 in
    omega (arith, length-page_blocks own, length-page_blocks (own_extents old file), length-append (page_blocks (own_extents old file)) g.first.0)

pub next-count : (own next : List Extent) → IsNext own next → page_count next ≡ page_count own + 1
next-count own next h =
    let all : length (page_blocks next) ≡ length (page_blocks own ++ h.block.0 ∷ []) = ap length h.block.1 in
    omega (arith, length-page_blocks own, length-page_blocks next, length-append (page_blocks own) (h.block.0 ∷ []))

pub grows-next : (old : FilesSeen) (file pages : ℕ) (before : Savepoint) (own next : List Extent) → GrowsTo old file pages before own → page_count own < pages
    → with_next_block (its_blocks old file) (other_extents old file) own ≡ Some next → GrowsTo old file pages before next
grows-next old file pages before own next g more is =
    let h = next_is (its_blocks old file) (other_extents old file) own next is in
    let count : page_count next ≡ page_count own + 1 = next-count own next h in
    let left : pages - page_count own ≡ suc (pages - page_count next) = omega arith in
    let blocks = its_blocks old file in
    let others = other_extents old file in
    record {
      sound = g.sound;
      stood = g.stood;
      rest = sym (ap (λ (n : ℕ). with_next_blocks blocks others n own) left ∙ ap (option_and_then (with_next_blocks blocks others (pages - page_count next))) is) ∙ g.rest;
      cut = h.cut before.extents before.last g.within ∙ g.cut;
      within = omega (arith, g.within, h.longer);
      first = (g.first.0 ++ h.block.0 ∷ [], h.block.1 ∙ ap (λ (bs : List ℕ). bs ++ h.block.0 ∷ []) g.first.1 ∙ append_assoc (page_blocks (own_extents old file)) g.first.0 (h.block.0 ∷ []));
    }

-- the pages are there: this is the growth
pub grows-last : (old : FilesSeen) (file pages : ℕ) (before : Savepoint) (own : List Extent) → GrowsTo old file pages before own → pages ≤ page_count own → growth_of old file pages ≡ Some own
grows-last old file pages before own g h =
    let none : pages - page_count own ≡ 0 = omega arith in
    sym g.rest ∙ ap (λ (n : ℕ). with_next_blocks (its_blocks old file) (other_extents old file) n own) none

-- there is no next block: there is no growth
pub grows-none : (old : FilesSeen) (file pages : ℕ) (before : Savepoint) (own : List Extent) → GrowsTo old file pages before own → page_count own < pages
    → with_next_block (its_blocks old file) (other_extents old file) own ≡ None → growth_of old file pages ≡ None
grows-none old file pages before own g more is =
    let left : pages - page_count own ≡ suc (pages - page_count own - 1) = omega arith in
    sym g.rest ∙ ap (λ (n : ℕ). with_next_blocks (its_blocks old file) (other_extents old file) n own) left
    ∙ ap (option_and_then (with_next_blocks (its_blocks old file) (other_extents old file) (pages - page_count own - 1))) is

-- the file is brought back to where it stood
pub grows-back : (old : FilesSeen) (file pages : ℕ) (before : Savepoint) (own : List Extent) → GrowsTo old file pages before own
    → cut_vnode (with_extents (vnode_at old file) own) before ≡ vnode_at old file
grows-back old file pages before own g =
    let v = vnode_at old file in
    let pages_ : before.pages ≡ length v.blanks = ap (λ (s : Savepoint). s.pages) g.stood ∙ sym g.sound.bits in
    let more = replicate (page_count own - page_count v.info.extents) true in
    let blanks : take before.pages (v.blanks ++ more) ≡ v.blanks =
    ap (λ n. take n (v.blanks ++ more)) pages_ ∙ take-append-le (length v.blanks) v.blanks more (omega arith) ∙ take-length v.blanks in
    ap (λ (es : List Extent). let w : VnodeSeen = record { info = record v.info { extents = es }; blanks = take before.pages (v.blanks ++ more) } in w) g.cut
    ∙ ap (λ (bs : List Bool). let w : VnodeSeen = record { info = v.info; blanks = bs } in w) blanks

pub some_of : {X : Type 0} (o : Option X) → is_some o ≡ true → (x : X) × (o ≡ Some x)
some_of None is = cc
some_of (Some x) is = (x, refl)

pub growing-first : (old : FilesSeen) (file pages : ℕ) (before : Savepoint) → file < length old.files → IsSoundVnode (vnode_at old file)
    → before ≡ savepoint_of (vnode_at old file) → IsGrowing old old file pages before
growing-first old file pages before h sound stood =
    (own_extents old file, sym (state-same old file h), subst (λ (b : Savepoint). GrowsTo old file pages b (own_extents old file)) (sym stood) (grows-first old file pages sound))

-- what a step of the loop does
pub record Steps (old mid new : FilesSeen) (file pages : ℕ) (before : Savepoint) : Type 0 where
  pub growing : IsGrowing old new file pages before
  pub count : page_count (own_extents new file) ≡ page_count (own_extents mid file) + 1

own-state : (old mid : FilesSeen) (file : ℕ) (own : List Extent) → file < length old.files → mid ≡ state old file own → own_extents mid file ≡ own
own-state old mid file own h is = ap (λ (s : FilesSeen). own_extents s file) is ∙ ap (λ (v : VnodeSeen). v.info.extents) (vnode-state old file h own)

pub growing-next : (old mid new : FilesSeen) (file pages : ℕ) (before : Savepoint) → file < length old.files → IsGrowing old mid file pages before → page_count (own_extents mid file) < pages
    → is_some (next_extents mid file) ≡ true → new ≡ with_growth mid file (next_extents mid file) → Steps old mid new file pages before
growing-next old mid new file pages before h g more some is =
    let own = g.0 in
    let found = some_of (next_extents mid file) some in
    let next = found.0 in
    let same : own_extents mid file ≡ own = own-state old mid file own h g.1 in
    let step : with_next_block (its_blocks old file) (other_extents old file) own ≡ Some next =
    sym (next-state old file h own) ∙ ap (λ (s : FilesSeen). next_extents s file) (sym g.1) ∙ found.1 in
    let few : page_count own < pages = subst (λ (es : List Extent). page_count es < pages) same more in
    let count : page_count next ≡ page_count own + 1 = next-count own next (next_is (its_blocks old file) (other_extents old file) own next step) in
    let here : new ≡ state old file next =
    is ∙ ap (with_growth mid file) found.1 ∙ ap (λ (s : FilesSeen). with_vnode s file (with_extents (vnode_at s file) next)) g.1
    ∙ state-again old file h own next (grows-count old file pages before own g.2) (omega arith) in
    record {
      growing = (next, here, grows-next old file pages before own next g.2 few step);
      count = ap page_count (own-state old new file next h here) ∙ count ∙ ap (λ (es : List Extent). page_count es + 1) (sym same);
    }

pub growing-none : (old mid : FilesSeen) (file pages : ℕ) (before : Savepoint) → file < length old.files → IsGrowing old mid file pages before → page_count (own_extents mid file) < pages
    → is_some (next_extents mid file) ≡ false → growth_of old file pages ≡ None
growing-none old mid file pages before h g more none =
    let own = g.0 in
    let same : own_extents mid file ≡ own = own-state old mid file own h g.1 in
    grows-none old file pages before own g.2 (subst (λ (es : List Extent). page_count es < pages) same more)
    (sym (next-state old file h own) ∙ ap (λ (s : FilesSeen). next_extents s file) (sym g.1) ∙ none-from (next_extents mid file) none)

-- what brings the file back
pub record CanGoBack (old mid : FilesSeen) (file : ℕ) (before : Savepoint) : Type 0 where
  pub extents : before.extents ≤ length (own_extents mid file)
  pub pages : before.pages ≡ page_count (cut_vnode (vnode_at mid file) before).info.extents
  pub sound : IsSoundVnode (cut_vnode (vnode_at mid file) before)
  pub cut : cut_vnode (vnode_at mid file) before ≡ vnode_at old file
  pub back : with_vnode mid file (vnode_at old file) ≡ old
  pub first : (added : List ℕ) × (page_blocks (own_extents mid file) ≡ page_blocks (own_extents old file) ++ added)

pub growing-back : (old mid : FilesSeen) (file pages : ℕ) (before : Savepoint) → file < length old.files → IsGrowing old mid file pages before → CanGoBack old mid file before
growing-back old mid file pages before h g =
    let own = g.0 in
    let there : vnode_at mid file ≡ with_extents (vnode_at old file) own = ap (λ (s : FilesSeen). vnode_at s file) g.1 ∙ vnode-state old file h own in
    let cut : cut_vnode (vnode_at mid file) before ≡ vnode_at old file = ap (λ (v : VnodeSeen). cut_vnode v before) there ∙ grows-back old file pages before own g.2 in
    record {
      extents = subst (λ (v : VnodeSeen). before.extents ≤ length v.info.extents) (sym there) g.2.within;
      pages = ap (λ (s : Savepoint). s.pages) g.2.stood ∙ ap (λ (v : VnodeSeen). page_count v.info.extents) (sym cut);
      sound = subst IsSoundVnode (sym cut) g.2.sound;
      cut = cut;
      back = ap (λ (s : FilesSeen). with_vnode s file (vnode_at old file)) g.1 ∙ state-back old file h own;
      first = (g.2.first.0, ap (λ (v : VnodeSeen). page_blocks v.info.extents) there ∙ g.2.first.1);
    }

pub growing-there : (old mid : FilesSeen) (file pages : ℕ) (before : Savepoint) → file < length old.files → IsGrowing old mid file pages before → file < length mid.files
growing-there old mid file pages before h g =
    subst (λ (s : FilesSeen). file < length s.files) (sym g.1) (omega (arith, length-set old.files file (with_extents (vnode_at old file) g.0)))

-- the growth that has come to its end
pub growing-some : (old mid : FilesSeen) (file pages : ℕ) (before : Savepoint) → file < length old.files → IsGrowing old mid file pages before → pages ≤ page_count (own_extents mid file)
    → (own : List Extent) × (growth_of old file pages ≡ Some own) × (mid ≡ with_growth old file (Some own))
growing-some old mid file pages before h g enough =
    let own = g.0 in
    let same : own_extents mid file ≡ own = own-state old mid file own h g.1 in
    (own, grows-last old file pages before own g.2 (subst (λ (es : List Extent). pages ≤ page_count es) same enough), g.1)

-- THE WHOLE GROWTH, from where the file stood: it can be brought back.
grows-there : (old : FilesSeen) (file pages : ℕ) (before : Savepoint) (own next : List Extent) → GrowsTo old file pages before own → pages ≤ page_count own → growth_of old file pages ≡ Some next → GrowsTo old file pages before next
grows-there old file pages before own next g there is =
    let same : own ≡ next = let z : Some own ≡ Some next = sym (grows-last old file pages before own g there) ∙ is in cc in
    subst (GrowsTo old file pages before) same g

grows-all : (old : FilesSeen) (file pages : ℕ) (before : Savepoint) (more : ℕ) (own next : List Extent) → GrowsTo old file pages before own → pages - page_count own ≤ more
    → growth_of old file pages ≡ Some next → GrowsTo old file pages before next
grows-all old file pages before zero own next g few is = grows-there old file pages before own next g (omega (arith, few)) is
grows-all old file pages before (suc more) own next g few is = elim (cases_lt (page_count own) pages) [
  | inr there ↦ grows-there old file pages before own next g there is
  | inl under ↦
      elim (with_next_block (its_blocks old file) (other_extents old file) own) as (λ o. with_next_block (its_blocks old file) (other_extents old file) own ≡ o → GrowsTo old file pages before next) [
        | None ↦ λ none. absurd (let z : None ≡ Some next = sym (grows-none old file pages before own g under none) ∙ is in cc)
        | Some n ↦ λ one.
            let count = next-count own n (next_is (its_blocks old file) (other_extents old file) own n one) in
            grows-all old file pages before more n next (grows-next old file pages before own n g under one) (omega (arith, few, count, under)) is
      ] refl
]

pub growing-all : (old : FilesSeen) (file pages : ℕ) (before : Savepoint) → file < length old.files → IsSoundVnode (vnode_at old file) → before ≡ savepoint_of (vnode_at old file)
    → IsGrowing old (with_growth old file (growth_of old file pages)) file pages before
growing-all old file pages before h sound stood =
    let first = growing-first old file pages before h sound stood in
    elim (growth_of old file pages) as (λ o. growth_of old file pages ≡ o → IsGrowing old (with_growth old file o) file pages before) [
      | None ↦ λ none. first
      | Some next ↦ λ some. (next, refl, grows-all old file pages before (pages - page_count first.0) first.0 next first.2 (omega arith) some)
    ] refl
