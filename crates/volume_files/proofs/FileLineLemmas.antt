-- What a file line gives, by the tests that the code makes.
use Rattle.vm_report.proofs.vm_script.Places.{some_none as none-or-some}
use Rattle.std.specs.Prelude.{ℕ, zero, suc, ◌≡◌, ◌<◌, ◌≤◌, ◌+◌, ◌-◌, ◌==◌, nat_lt, Bool, true, false, List, [], ◌∷◌, ◌++◌, length, map, filter, drop, count_by}
use Rattle.std.specs.Prelude.{Option, Some, None, is_some, IsSome, unwrap_or, Result, Ok, Err, slice_index_or, if◌then◌else◌}
use Rattle.std.specs.List.{list_any, range_with_len, find, flat_map}
use Rattle.std.specs.Str.{bytes_eq}
use Rattle.std.specs.FinMap as finite
use Rattle.std.proofs.Common.{ap, ◌∙◌, sym, subst, refl, arith, inl, inr, cond}
use Rattle.std.proofs.lemmas.Bool.{le-leb, lt-leb, ltb-true, false_from_ne_true, cases_Bool}
use Rattle.std.proofs.lemmas.Slice.Eq.{bytes_eq-Decides}
use Rattle.std.proofs.lemmas.List.{length-map, get_or-map, map_push, drop_more}
use Rattle.std.proofs.lemmas.List.Elements.{All-from_get_or, All-cons, All-nil}
use Rattle.std.proofs.lemmas.List.Folds.{list_any_at, list_any_none}
use Rattle.volume_format.specs.vnode_files.declared.extent.Extent.{Extent}
use Rattle.volume_format.specs.vnode_files.declared.vnode.FileInfo.{FileInfo}
use Rattle.volume_format.specs.vnode_files.Files.{FilesSeen, IsNumberOf, block_count, extents_on}
use Rattle.volume_format.specs.vnode_files.Grow.{has_block, extent_end}
use Rattle.volume_format.specs.vnode_files.Layout.{HasPlaceBeside, NoFilesMeet, NoneMeet, LieOnDisk}
use Rattle.volume_format.specs.vnode_files.Vnode.{VnodeSeen, fresh_vnode, no_vnode}
use Rattle.volume_format.proofs.vnode_files.LayoutLemmas.{count-append, count-none, count-cons}
use Rattle.volume_format.proofs.vnode_files.BlockLemmas.{has_block-bounds}
use Rattle.vm_report.specs.vm_script.declared.plan.SetupAct.TheVariants as given
use Rattle.vm_report.specs.vm_script.declared.plan.SetupLine.{SetupLine}
use Rattle.volume_files.specs.declared.stops.Refusal.{Refusal}
use Rattle.volume_files.specs.declared.stops.Refusal.TheVariants as refusal
use Rattle.volume_files.specs.Opened.{OpenedFile, infos_of, names_of, new_file, extents_of_disk, is_free_run, place_for, with_placed, with_line_file, with_line_files}
use Rattle.volume_files.specs.Placing.{HasOpened, Gave, names_made}
use Rattle.volume_files.proofs.LineLemmas.{place-run, run-free}

-- the test of two lists of bytes
pub bytes-differ : (xs ys : List ℕ) → (xs ≡ ys → ⊥) → bytes_eq xs ys ≡ false
bytes-differ xs ys differ = false_from_ne_true (bytes_eq xs ys) (λ t. differ ((bytes_eq-Decides xs ys).0 t))

pub bytes-same : (xs ys : List ℕ) → xs ≡ ys → bytes_eq xs ys ≡ true
bytes-same xs ys same = (bytes_eq-Decides xs ys).1 same

pub bytes-true : (xs ys : List ℕ) → bytes_eq xs ys ≡ true → xs ≡ ys
bytes-true xs ys is = (bytes_eq-Decides xs ys).0 is

-- the names and the number of files, and their extents on a disk
pub names-made : (files : List OpenedFile) → map (λ (v : VnodeSeen). v.info.name) (map fresh_vnode (infos_of files)) ≡ names_of files
names-made [] = refl
names-made (f ∷ files) = λ i. f.info.name ∷ names-made files i

pub length-made : (made : FilesSeen) (files : List OpenedFile) → HasOpened made files → length made.files ≡ length files
length-made made files is = ap length is ∙ length-map (infos_of files) fresh_vnode ∙ length-map files (λ (f : OpenedFile). f.info)

pub extents-made : (d : ℕ) (infos : List FileInfo) → extents_on d (map fresh_vnode infos) ≡ extents_of_disk d infos
extents-made d [] = refl
extents-made d (i ∷ infos) =
    elim (i.disk == d) as (λ (t : Bool). flat_map (λ (v : VnodeSeen). v.info.extents)
    (cond t (fresh_vnode i ∷ filter (λ (v : VnodeSeen). v.info.disk == d) (map fresh_vnode infos)) (filter (λ (v : VnodeSeen). v.info.disk == d) (map fresh_vnode infos)))
    ≡ flat_map (λ (j : FileInfo). j.extents) (cond t (i ∷ filter (λ (j : FileInfo). j.disk == d) infos) (filter (λ (j : FileInfo). j.disk == d) infos))) [
      | true ↦ ap (λ (es : List Extent). i.extents ++ es) (extents-made d infos)
      | false ↦ extents-made d infos
    ]

module _ (sizes : ℕ → ℕ) (made : FilesSeen) (before : List OpenedFile) (is : HasOpened made before) (name : List ℕ) (writable : Bool) (disk pages : ℕ) (bytes : List ℕ) where
  names-are : map (λ (v : VnodeSeen). v.info.name) made.files ≡ names_of before
  names-are = ap (map (λ (v : VnodeSeen). v.info.name)) is ∙ names-made before

  -- there are 64 files already
  pub line-many : 64 ≤ length made.files → with_line_file sizes before (given.File name writable disk pages bytes) ≡ Err (refusal.Rule 10)
  line-many many =
      ap (λ (t : Bool). if t then Err (refusal.Rule 10) else if list_any (bytes_eq name) (names_of before) then Err (refusal.Rule 11) else with_placed before
      (new_file name writable disk pages bytes) (place_for (sizes disk) (extents_of_disk disk (infos_of before)) pages))
      (le-leb 64 (length before) (omega (arith, many, length-made made before is)))

  few-test : length made.files < 64 → with_line_file sizes before (given.File name writable disk pages bytes)
      ≡ (if list_any (bytes_eq name) (names_of before) then Err (refusal.Rule 11) else with_placed before (new_file name writable disk pages bytes)
      (place_for (sizes disk) (extents_of_disk disk (infos_of before)) pages))
  few-test few =
      ap (λ (t : Bool). if t then Err (refusal.Rule 10) else if list_any (bytes_eq name) (names_of before) then Err (refusal.Rule 11) else with_placed before
      (new_file name writable disk pages bytes) (place_for (sizes disk) (extents_of_disk disk (infos_of before)) pages))
      (lt-leb 64 (length before) (omega (arith, few, length-made made before is)))

  name-test : (r : Option ℕ) → IsNumberOf made.files name r → list_any (bytes_eq name) (names_of before) ≡ is_some r
  name-test None none =
      ap (list_any (bytes_eq name)) (sym names-are)
      ∙ list_any_none (bytes_eq name) (map (λ (v : VnodeSeen). v.info.name) made.files)
      (All-from_get_or (λ (x : List ℕ). bytes_eq name x ≡ false) (map (λ (v : VnodeSeen). v.info.name) made.files) [] (λ i below.
      let inside : i < length made.files = omega (arith, below, length-map made.files (λ (v : VnodeSeen). v.info.name)) in
      ap (bytes_eq name) (get_or-map (λ (v : VnodeSeen). v.info.name) made.files i no_vnode [] inside)
      ∙ bytes-differ name (slice_index_or made.files i no_vnode).info.name (λ e. none i inside (sym e))))
  name-test (Some number) found =
      ap (list_any (bytes_eq name)) (sym names-are)
      ∙ list_any_at (bytes_eq name) (map (λ (v : VnodeSeen). v.info.name) made.files) number [] (omega (arith, found.0, length-map made.files (λ (v : VnodeSeen). v.info.name)))
      (ap (bytes_eq name) (get_or-map (λ (v : VnodeSeen). v.info.name) made.files number no_vnode [] found.0)
      ∙ bytes-same name (slice_index_or made.files number no_vnode).info.name (sym found.1))

  -- a file has the name
  pub line-old : (r : Option ℕ) → length made.files < 64 → IsNumberOf made.files name r → is_some r ≡ true
      → with_line_file sizes before (given.File name writable disk pages bytes) ≡ Err (refusal.Rule 11)
  line-old r few number some =
      few-test few ∙ ap (λ (t : Bool). if t then Err (refusal.Rule 11) else with_placed before (new_file name writable disk pages bytes)
      (place_for (sizes disk) (extents_of_disk disk (infos_of before)) pages)) (name-test r number ∙ some)

  -- the name is new: there is a place, or none
  pub line-new : (r : Option ℕ) (used : List Extent) (blocks : ℕ) (place : Option ℕ) → length made.files < 64 → IsNumberOf made.files name r → is_some r ≡ false
      → used ≡ extents_on disk made.files → blocks ≡ sizes disk → place ≡ place_for blocks used pages
      → with_line_file sizes before (given.File name writable disk pages bytes) ≡ with_placed before (new_file name writable disk pages bytes) place
  line-new r used blocks place few number none uses size found =
      few-test few ∙ ap (λ (t : Bool). if t then Err (refusal.Rule 11) else with_placed before (new_file name writable disk pages bytes)
      (place_for (sizes disk) (extents_of_disk disk (infos_of before)) pages)) (name-test r number ∙ none)
      ∙ ap (with_placed before (new_file name writable disk pages bytes))
      (ap (λ n. place_for n (extents_of_disk disk (infos_of before)) pages) (sym size)
      ∙ ap (λ (es : List Extent). place_for blocks es pages) (sym (uses ∙ ap (extents_on disk) is ∙ extents-made disk (infos_of before))) ∙ sym found)

-- a search from a block on finds none before it
find-from : (p : ℕ → Bool) (a n b : ℕ) → find p (range_with_len a n) ≡ Some b → a ≤ b
find-from p a zero b is = absurd (none-or-some b is)
find-from p a (suc n) b is =
    elim (p a) as (λ (t : Bool). cond t (Some a) (find p (range_with_len (a + 1) n)) ≡ Some b → a ≤ b) [
      | true ↦ λ here. let same : a ≡ b = cc in omega (arith, same)
      | false ↦ λ there. omega (arith, find-from p (a + 1) n b there)
    ] is

-- a place that was found lies on the disk past block 0, and there is room for one extent more
pub record FoundPlace (blocks : ℕ) (used : List Extent) (pages start : ℕ) : Type 0 where
  pub first : 1 ≤ start
  pub within : start + pages ≤ blocks
  pub few : length used < 252

pub place-found : (blocks : ℕ) (used : List Extent) (pages start : ℕ) → 1 ≤ pages → place_for blocks used pages ≡ Some start → FoundPlace blocks used pages start
place-found blocks used pages start some is = record {
  first = first_is;
  within = let last = (run-free blocks used pages start (place-run blocks used pages start is) (start + pages - 1) (omega (arith, some)) (omega (arith, some))).0 in omega (arith, last, some);
  few = few_is;
}
  where
    first_is : 1 ≤ start
    first_is =
        elim (nat_lt (length used) 252) as (λ (t : Bool). (if t then find (is_free_run blocks used pages) (range_with_len 1 (blocks - 1)) else None) ≡ Some start → 1 ≤ start) [
          | true ↦ λ found. find-from (is_free_run blocks used pages) 1 (blocks - 1) start found
          | false ↦ λ none. absurd (none-or-some start none)
        ] is

    few_is : length used < 252
    few_is =
        elim (nat_lt (length used) 252) as (λ (t : Bool). nat_lt (length used) 252 ≡ t
        → (if t then find (is_free_run blocks used pages) (range_with_len 1 (blocks - 1)) else None) ≡ Some start → length used < 252) [
          | true ↦ λ less found. ltb-true (length used) 252 less
          | false ↦ λ less none. absurd (none-or-some start none)
        ] refl is

some_of_count : (o : Option ℕ) → 0 < unwrap_or o 0 → is_some o ≡ true
some_of_count None some = absurd (omega (arith, some))
some_of_count (Some n) some = refl

-- the disk of a place that was found was set
pub place-set : (made : FilesSeen) (disk blocks start pages : ℕ) → blocks ≡ block_count made.disks disk → 1 ≤ pages → start + pages ≤ blocks → IsSome (finite.get made.disks disk)
place-set made disk blocks start pages is some within = some_of_count (finite.get made.disks disk) (omega (arith, is, some, within))

-- no block is in two extents with one more, whose blocks are in none of the others
meet-once : (blocks : ℕ) (used : List Extent) (pages start : ℕ) → NoneMeet used → is_free_run blocks used pages start ≡ true → NoneMeet (used ++ record { start = start; pages = pages } ∷ [])
meet-once blocks used pages start meet run b =
    let e : Extent = record { start = start; pages = pages } in
    let p : Extent → Bool = has_block b in
    let both : count_by p (used ++ e ∷ []) ≡ count_by p used + count_by p (e ∷ []) = count-append p used (e ∷ []) in
    let one : count_by p (e ∷ []) ≡ cond (p e) 1 0 + 0 = count-cons p e [] in
    elim (cases_Bool (has_block b e)) [
      | inl in_it ↦
          let here = has_block-bounds b e in_it in
          let none : count_by p used ≡ 0 = count-none p used (run-free blocks used pages start run b here.0 here.1).1 in
          let own : count_by p (e ∷ []) ≡ 1 + 0 = one ∙ ap (λ t. cond t 1 0 + 0) in_it in
          omega (arith, both, none, own)
      | inr out_of ↦
          let own : count_by p (e ∷ []) ≡ 0 + 0 = one ∙ ap (λ t. cond t 1 0 + 0) out_of in
          let few : count_by p used ≤ 1 = meet b in
          omega (arith, both, few, own)
    ]

-- a file of one extent, from a place that was found
pub beside-found : (made : FilesSeen) (info : FileInfo) (blocks pages start : ℕ) → info.extents ≡ record { start = start; pages = pages } ∷ [] → NoFilesMeet made → 1 ≤ pages
    → blocks ≡ block_count made.disks info.disk → place_for blocks (extents_on info.disk made.files) pages ≡ Some start → HasPlaceBeside made info
beside-found made info blocks pages start own meet some is found =
    let e : Extent = record { start = start; pages = pages } in
    let used = extents_on info.disk made.files in
    let n = block_count made.disks info.disk in
    let f = place-found blocks used pages start some found in
    record {
      on_disk = subst (λ (es : List Extent). LieOnDisk n es) (sym own) (record {
        some = All-cons (λ (x : Extent). 1 ≤ x.pages) e [] some (All-nil (λ (x : Extent). 1 ≤ x.pages));
        within = All-cons (λ (x : Extent). (1 ≤ x.start) × (extent_end x ≤ n)) e [] (f.first, omega (arith, f.within, is)) (All-nil (λ (x : Extent). (1 ≤ x.start) × (extent_end x ≤ n)));
        gaps = tt;
      });
      none_meet = subst (λ (es : List Extent). NoneMeet (used ++ es)) (sym own) (meet-once blocks used pages start (meet info.disk) (place-run blocks used pages start found));
      few = let one : length info.extents ≡ 1 = ap length own in omega (arith, one, f.few);
    }

-- one file more behind files
pub opened-push : (old new : FilesSeen) (before : List OpenedFile) (f : OpenedFile) → HasOpened old before → new.files ≡ old.files ++ fresh_vnode f.info ∷ [] → HasOpened new (before ++ f ∷ [])
opened-push old new before f is grew =
    grew ∙ ap (λ (vs : List VnodeSeen). vs ++ fresh_vnode f.info ∷ []) is ∙ sym (map_push fresh_vnode (infos_of before) f.info)
    ∙ ap (map fresh_vnode) (sym (map_push (λ (g : OpenedFile). g.info) before f))

-- the files of one line more
pub gave-step : (sizes : ℕ → ℕ) (new : FilesSeen) (now : List OpenedFile) (setup : List SetupLine) (i : ℕ) (l : SetupLine) (all : Result (List OpenedFile) Refusal)
    → i < length setup → l ≡ slice_index_or setup i l → Gave new (with_line_file sizes now l.act) → all ≡ with_line_files sizes (Ok now) (drop i setup)
    → (next : List OpenedFile) × HasOpened new next × (all ≡ with_line_files sizes (Ok next) (drop (i + 1) setup))
gave-step sizes new now setup i l all below is gave so_far =
    let rest = drop (i + 1) setup in
    let step : all ≡ with_line_files sizes (with_line_file sizes now l.act) rest =
    so_far ∙ ap (λ (ls : List SetupLine). with_line_files sizes (Ok now) ls) (drop_more setup i l below ∙ ap (λ (x : SetupLine). x ∷ rest) (sym is)) in
    elim (with_line_file sizes now l.act) as (λ (r : Result (List OpenedFile) Refusal). Gave new r → all ≡ with_line_files sizes r rest
    → (next : List OpenedFile) × HasOpened new next × (all ≡ with_line_files sizes (Ok next) rest)) [
      | Ok files ↦ λ has same. (files, has, same)
      | Err e ↦ λ has same. absurd has
    ] gave step

pub names-opened : (made : FilesSeen) (files : List OpenedFile) → HasOpened made files → names_made made ≡ names_of files
names-opened made files is = ap (map (λ (v : VnodeSeen). v.info.name)) is ∙ names-made files
