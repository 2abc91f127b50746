-- What a growth takes: free blocks that differ; and what that keeps apart.
use Rattle.std.specs.Prelude.{ℕ, zero, suc, ◌≡◌, ◌≢◌, ◌<◌, ◌≤◌, ◌+◌, ◌-◌, ◌||◌, ◌&&◌, not, Bool, true, false, nat_lt, List, [], ◌∷◌, ◌++◌, length, map}
use Rattle.std.specs.Prelude.{count_by, slice_index_or, Option, Some, None, All, option_map, option_and_then}
use Rattle.std.specs.Option.{option_map_or}
use Rattle.std.specs.List.{find, list_any, last_or, range_with_len}
use Rattle.std.proofs.Common.{ap, ◌∙◌, sym, arith, refl, cond, subst, eqb, length-append}
use Rattle.std.proofs.lemmas.Bool.{eq-eqb}
use Rattle.std.proofs.lemmas.Bool.Decides.{nat_tests}
use Rattle.std.proofs.lemmas.List.{append-nil, append_assoc, map-append, get_or_append_left}
use Rattle.std.proofs.lemmas.List.Elements.{All-cons, All-head, All-tail, All-push, All-weaker}
use Rattle.std.proofs.lemmas.List.Folds.{list_any-append}
use Rattle.std.proofs.lemmas.List.Kept.{AllPairs-cons}
use Rattle.vnode_files.specs.declared.extent.Extent.{Extent}
use Rattle.vnode_files.specs.Grow.{has_block, is_free, extent_end, page_count, can_lengthen, least_free, with_longer_last, with_new_last, with_next_block, with_next_blocks, growth}
use Rattle.vnode_files.specs.Vnode.{page_blocks, block_at}
use Rattle.vnode_files.specs.Layout.{NoneMeet, HaveGaps, LieOnDisk, GrowthGives}
use Rattle.vnode_files.proofs.FindLemmas.{find-passes}
use Rattle.vnode_files.proofs.ExtentLemmas.{length-longer}
use Rattle.vnode_files.proofs.BlockLemmas.{any-page_blocks, length-page_blocks, page_blocks-longer, page_blocks-pushed}
use Rattle.vnode_files.proofs.LayoutLemmas.{count-cons, count-append, count-none, count-page_blocks}

-- one block more
record AddsOne (blocks : ℕ) (others own next : List Extent) : Type 0 where
  pub block : ℕ
  pub places : page_blocks next ≡ page_blocks own ++ block ∷ []
  pub free : is_free blocks (others ++ own) block ≡ true
  pub new_starts : List ℕ
  pub starts : map (λ (e : Extent). e.start) next ≡ map (λ (e : Extent). e.start) own ++ new_starts
  pub on_disk : LieOnDisk blocks own → LieOnDisk blocks next
  pub few : length others + length own ≤ 252 → length others + length next ≤ 252

free-low : (blocks : ℕ) (used : List Extent) (b : ℕ) → is_free blocks used b ≡ true → b < blocks
free-low blocks used b free = grind (arith, nat_tests, free)

-- the last extent, one block longer
map_start-longer : (own : List Extent) → map (λ (e : Extent). e.start) (with_longer_last own) ≡ map (λ (e : Extent). e.start) own
map_start-longer [] = refl
map_start-longer (e ∷ []) = refl
map_start-longer (e ∷ f ∷ es) = ap (λ (ns : List ℕ). e.start ∷ ns) (map_start-longer (f ∷ es))

All-longer : (P : Extent → Type 0) (own : List Extent) (e : Extent) → last_or None own ≡ Some e → P (record e { pages = e.pages + 1 }) → All P own → All P (with_longer_last own)
All-longer P [] e last here all = all
All-longer P (x ∷ []) e last here all =
    let same : e ≡ x = cc in
    All-cons P (record x { pages = x.pages + 1 }) [] (subst (λ (y : Extent). P (record y { pages = y.pages + 1 })) same here) (All-tail P x [] all)
All-longer P (x ∷ y ∷ es) e last here all =
    All-cons P x (with_longer_last (y ∷ es)) (All-head P x (y ∷ es) all) (All-longer P (y ∷ es) e last here (All-tail P x (y ∷ es) all))

All-last : (P : Extent → Type 0) (own : List Extent) (e : Extent) → last_or None own ≡ Some e → All P own → P e
All-last P [] e last all = cc
All-last P (x ∷ []) e last all = let same : x ≡ e = cc in subst P same (All-head P x [] all)
All-last P (x ∷ y ∷ es) e last all = All-last P (y ∷ es) e last (All-tail P x (y ∷ es) all)

gaps-longer : (own : List Extent) → HaveGaps own → HaveGaps (with_longer_last own)
gaps-longer [] h = h
gaps-longer (e ∷ []) h = h
gaps-longer (e ∷ f ∷ []) h = h
gaps-longer (e ∷ f ∷ g ∷ es) h = (h.0, gaps-longer (f ∷ g ∷ es) h.1)

longer_lies : (blocks : ℕ) (own : List Extent) (e : Extent) → last_or None own ≡ Some e → extent_end e < blocks → LieOnDisk blocks own → LieOnDisk blocks (with_longer_last own)
longer_lies blocks own e last low h = record {
  some = All-longer (λ x. 1 ≤ x.pages) own e last (omega arith) h.some;
  within = All-longer (λ x. (1 ≤ x.start) × (extent_end x ≤ blocks)) own e last
      (let was = All-last (λ x. (1 ≤ x.start) × (extent_end x ≤ blocks)) own e last h.within in (was.0, omega arith)) h.within;
  gaps = gaps-longer own h.gaps;
}

longer_adds : (blocks : ℕ) (others own : List Extent) (o : Option Extent) → last_or None own ≡ o
    → option_map_or (λ last. is_free blocks (others ++ own) (extent_end last)) o false ≡ true → AddsOne blocks others own (with_longer_last own)
longer_adds blocks others own None e can = cc
longer_adds blocks others own (Some e) last can = record {
  block = extent_end e;
  places = page_blocks-longer own e last;
  free = can;
  new_starts = [];
  starts = map_start-longer own ∙ sym (append-nil (map (λ (x : Extent). x.start) own));
  on_disk = longer_lies blocks own e last (free-low blocks (others ++ own) (extent_end e) can);
  few = λ h. omega (arith, length-longer own);
}

-- a new last extent
gaps-pushed : (own : List Extent) (b : ℕ) → ((e : Extent) → last_or None own ≡ Some e → extent_end e ≢ b) → HaveGaps own → HaveGaps (own ++ record { start = b; pages = 1 } ∷ [])
gaps-pushed [] b other h = h
gaps-pushed (e ∷ []) b other h = (other e refl, h)
gaps-pushed (e ∷ f ∷ es) b other h = (h.0, gaps-pushed (f ∷ es) b other h.1)

pushed_lies : (blocks : ℕ) (own : List Extent) (b : ℕ) → 1 ≤ b → b < blocks → ((e : Extent) → last_or None own ≡ Some e → extent_end e ≢ b)
    → LieOnDisk blocks own → LieOnDisk blocks (own ++ record { start = b; pages = 1 } ∷ [])
pushed_lies blocks own b first low other h = record {
  some = All-push (λ x. 1 ≤ x.pages) own (record { start = b; pages = 1 }) h.some (omega arith);
  within = All-push (λ x. (1 ≤ x.start) × (extent_end x ≤ blocks)) own (record { start = b; pages = 1 }) h.within (first, omega arith);
  gaps = gaps-pushed own b other h.gaps;
}

-- the least free block isn't block 0
range-from : (p : ℕ → Bool) (a n : ℕ) (b : ℕ) → find p (range_with_len a n) ≡ Some b → a ≤ b
range-from p a zero b found = cc
range-from p a (suc n) b found =
    elim (p a) as (λ t. cond t (Some a) (find p (range_with_len (a + 1) n)) ≡ Some b → a ≤ b) [
      | true ↦ λ s. let same : a ≡ b = cc in omega arith
      | false ↦ λ s. let more = range-from p (a + 1) n b s in omega arith
    ] found

-- the block after the last extent isn't free, so it isn't the one that is taken
not_after : (blocks : ℕ) (others own : List Extent) (b : ℕ) → can_lengthen blocks others own ≡ false → is_free blocks (others ++ own) b ≡ true → (e : Extent)
    → last_or None own ≡ Some e → extent_end e ≢ b
not_after blocks others own b cannot free e last same =
    let bad : is_free blocks (others ++ own) (extent_end e) ≡ false =
    sym (ap (λ (o : Option Extent). option_map_or (λ x. is_free blocks (others ++ own) (extent_end x)) o false) last) ∙ cannot in
    let good : is_free blocks (others ++ own) (extent_end e) ≡ true = ap (λ (n : ℕ). is_free blocks (others ++ own) n) same ∙ free in
    let no : true ≡ false = sym good ∙ bad in
    cc

pushed_adds : (blocks : ℕ) (others own next : List Extent) (o : Option ℕ) → can_lengthen blocks others own ≡ false → length others + length own < 252 → least_free blocks (others ++ own) ≡ o
    → option_map (λ block. own ++ record { start = block; pages = 1 } ∷ []) o ≡ Some next → AddsOne blocks others own next
pushed_adds blocks others own next None cannot few found is = cc
pushed_adds blocks others own next (Some b) cannot few found is =
    let same : own ++ record { start = b; pages = 1 } ∷ [] ≡ next = cc in
    let free : is_free blocks (others ++ own) b ≡ true = find-passes (is_free blocks (others ++ own)) (range_with_len 1 (blocks - 1)) b found in
    let first : 1 ≤ b = range-from (is_free blocks (others ++ own)) 1 (blocks - 1) b found in
    subst (AddsOne blocks others own) same (record {
      block = b;
      places = page_blocks-pushed own b;
      free = free;
      new_starts = b ∷ [];
      starts = map-append (λ (x : Extent). x.start) own (record { start = b; pages = 1 } ∷ []);
      on_disk = pushed_lies blocks own b first (free-low blocks (others ++ own) b free) (not_after blocks others own b cannot free);
      few = λ h. omega (arith, length-append own (record { start = b; pages = 1 } ∷ []));
    })

next_adds : (blocks : ℕ) (others own next : List Extent) → with_next_block blocks others own ≡ Some next → AddsOne blocks others own next
next_adds blocks others own next is =
    elim (can_lengthen blocks others own) as (λ c. can_lengthen blocks others own ≡ c → cond c (Some (with_longer_last own))
    (with_new_last blocks others own) ≡ Some next → AddsOne blocks others own next) [
      | true ↦ λ can s. let same : with_longer_last own ≡ next = cc in subst (AddsOne blocks others own) same (longer_adds blocks others own (last_or None own) refl can)
      | false ↦ λ can s. elim (nat_lt (length others + length own) 252) as
          (λ c. nat_lt (length others + length own) 252 ≡ c → cond c
          (option_map (λ block. own ++ record { start = block; pages = 1 } ∷ []) (least_free blocks (others ++ own))) None ≡ Some next → AddsOne blocks others own next) [
            | true ↦ λ few t. pushed_adds blocks others own next (least_free blocks (others ++ own)) can (grind (arith, nat_tests, few)) refl t
            | false ↦ λ few t. cc
          ] refl s
    ] refl is

-- what one block more adds to the blocks of the extents
any-more : (blocks : ℕ) (others own mid : List Extent) (one : AddsOne blocks others own mid) (c : ℕ)
    → list_any (has_block c) (others ++ mid) ≡ (list_any (has_block c) (others ++ own) || eqb c one.block)
any-more blocks others own mid one c =
    let inside : list_any (has_block c) mid ≡ (list_any (has_block c) own || (eqb c one.block || false)) =
    sym (any-page_blocks c mid) ∙ ap (list_any (eqb c)) one.places ∙ list_any-append (eqb c) (page_blocks own) (one.block ∷ [])
    ∙ ap (λ (t : Bool). t || (eqb c one.block || false)) (any-page_blocks c own) in
    list_any-append (has_block c) others mid ∙ ap (λ (t : Bool). list_any (has_block c) others || t) inside ∙ grind (arith, list_any-append (has_block c) others own)

count-more : (blocks : ℕ) (others own mid : List Extent) (one : AddsOne blocks others own mid) (c : ℕ)
    → count_by (has_block c) (others ++ mid) ≡ count_by (has_block c) (others ++ own) + cond (eqb c one.block) 1 0
count-more blocks others own mid one c =
    let inside : count_by (has_block c) mid ≡ count_by (has_block c) own + count_by (eqb c) (one.block ∷ []) =
    sym (count-page_blocks c mid) ∙ ap (count_by (eqb c)) one.places ∙ count-append (eqb c) (page_blocks own) (one.block ∷ [])
    ∙ ap (λ (n : ℕ). n + count_by (eqb c) (one.block ∷ [])) (count-page_blocks c own) in
    omega (arith, count-append (has_block c) others mid, count-append (has_block c) others own, count-cons (eqb c) one.block [])

-- a free block is in no extent
free-none : (blocks : ℕ) (used : List Extent) (b : ℕ) → is_free blocks used b ≡ true → count_by (has_block b) used ≡ 0
free-none blocks used b free = count-none (has_block b) used (grind (arith, nat_tests, free))

none_meet-more : (blocks : ℕ) (others own mid : List Extent) → AddsOne blocks others own mid → NoneMeet (others ++ own) → NoneMeet (others ++ mid)
none_meet-more blocks others own mid one h c =
    elim (eqb c one.block) as (λ t. eqb c one.block ≡ t → count_by (has_block c) (others ++ mid) ≤ 1) [
      | true ↦ λ is.
          let same : c ≡ one.block = grind (arith, nat_tests, is) in
          let none : count_by (has_block c) (others ++ own) ≡ 0 = ap (λ (n : ℕ). count_by (has_block n) (others ++ own)) same ∙ free-none blocks (others ++ own) one.block one.free in
          let now : count_by (has_block c) (others ++ mid) ≡ count_by (has_block c) (others ++ own) + 1 =
          count-more blocks others own mid one c ∙ ap (λ (t : Bool). count_by (has_block c) (others ++ own) + cond t 1 0) is in
          omega arith
      | false ↦ λ is.
          let now : count_by (has_block c) (others ++ mid) ≡ count_by (has_block c) (others ++ own) + 0 =
          count-more blocks others own mid one c ∙ ap (λ (t : Bool). count_by (has_block c) (others ++ own) + cond t 1 0) is in
          let few : count_by (has_block c) (others ++ own) ≤ 1 = h c in
          omega arith
    ] refl

-- what is free beside one block more was free, and is another block
record WasFree (blocks : ℕ) (used : List Extent) (b c : ℕ) : Type 0 where
  pub free : is_free blocks used c ≡ true
  pub other : b ≢ c

was_free : (blocks : ℕ) (others own mid : List Extent) (one : AddsOne blocks others own mid) (c : ℕ) → is_free blocks (others ++ mid) c ≡ true → WasFree blocks (others ++ own) one.block c
was_free blocks others own mid one c free =
    let now : (nat_lt c blocks && not (list_any (has_block c) (others ++ own) || eqb c one.block)) ≡ true =
    sym (ap (λ (t : Bool). nat_lt c blocks && not t) (any-more blocks others own mid one c)) ∙ free in
    record {
      free = grind (arith, now);
      other = λ same. let equal : eqb c one.block ≡ true = eq-eqb c one.block (sym same) in grind (arith, now, equal);
    }

-- what stands behind the blocks of pages changes none of them
kept : (own next : List Extent) (added : List ℕ) → page_blocks next ≡ page_blocks own ++ added → (page : ℕ) → page < page_count own → block_at next page ≡ block_at own page
kept own next added is page h =
    ap (λ (bs : List ℕ). slice_index_or bs page 0) is ∙ get_or_append_left (page_blocks own) added 0 page (omega (arith, length-page_blocks own))

-- blocks one after another
gives : (blocks : ℕ) (others : List Extent) (k pages : ℕ) (own next : List Extent) → k ≡ pages - page_count own
    → with_next_blocks blocks others k own ≡ Some next → GrowthGives blocks others own pages next
gives blocks others zero pages own next many is =
    let same : own ≡ next = cc in
    subst (GrowthGives blocks others own pages) same (record {
      takes = record {
        added = [];
        places = sym (append-nil (page_blocks own));
        kept = λ page h. refl;
        free = λ i d h. absurd (omega arith);
        differ = λ i j d low h. absurd (omega arith);
        new_starts = [];
        starts = sym (append-nil (map (λ (e : Extent). e.start) own));
      };
      count = omega arith;
      on_disk = λ h. h;
      none_meet = λ h. h;
      few = λ h. h;
    })
gives blocks others (suc k) pages own next many is =
    elim (with_next_block blocks others own) as (λ o. with_next_block blocks others own ≡ o → option_and_then (with_next_blocks blocks others k) o ≡ Some next
    → GrowthGives blocks others own pages next) [
      | None ↦ λ at rest. cc
      | Some mid ↦ λ at rest.
          let one = next_adds blocks others own mid at in
          let all : length (page_blocks mid) ≡ length (page_blocks own ++ one.block ∷ []) = ap length one.places in
          let longer : page_count mid ≡ page_count own + 1 = omega (arith, length-page_blocks own, length-page_blocks mid, length-append (page_blocks own) (one.block ∷ [])) in
          let more = gives blocks others k pages mid next (omega arith) rest in
          let was : All (λ c. WasFree blocks (others ++ own) one.block c) more.takes.added =
          All-weaker (λ c. is_free blocks (others ++ mid) c ≡ true) (λ c. WasFree blocks (others ++ own) one.block c)
          (λ c h. was_free blocks others own mid one c h) more.takes.added more.takes.free in
          let places : page_blocks next ≡ page_blocks own ++ (one.block ∷ more.takes.added) =
          more.takes.places ∙ ap (λ (bs : List ℕ). bs ++ more.takes.added) one.places ∙ append_assoc (page_blocks own) (one.block ∷ []) more.takes.added in
          let starts_of : List Extent → List ℕ = λ (es : List Extent). map (λ (e : Extent). e.start) es in
          record {
            takes = record {
              added = one.block ∷ more.takes.added;
              places = places;
              kept = kept own next (one.block ∷ more.takes.added) places;
              free = All-cons (λ c. is_free blocks (others ++ own) c ≡ true) one.block more.takes.added one.free (λ i d h. (was i d h).free);
              differ = AllPairs-cons (λ b c. b ≢ c) one.block more.takes.added (λ i d h. (was i d h).other) more.takes.differ;
              new_starts = one.new_starts ++ more.takes.new_starts;
              starts = more.takes.starts ∙ ap (λ (ns : List ℕ). ns ++ more.takes.new_starts) one.starts ∙ append_assoc (starts_of own) one.new_starts more.takes.new_starts;
            };
            count = omega (arith, more.count);
            on_disk = λ h. more.on_disk (one.on_disk h);
            none_meet = λ h. more.none_meet (none_meet-more blocks others own mid one h);
            few = λ h. more.few (one.few h);
          }
    ] refl is

-- what a growth gives and keeps
pub growth_law : (blocks : ℕ) (others own : List Extent) (pages : ℕ) (next : List Extent) → growth blocks others own pages ≡ Some next → GrowthGives blocks others own pages next
growth_law blocks others own pages next is = gives blocks others (pages - page_count own) pages own next refl is
