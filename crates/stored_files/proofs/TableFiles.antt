-- A disk's table as its files are added.
use Rattle.vm_report.proofs.vnode_files.BlockLemmas.{has_block-between as has_from}
use Rattle.std.proofs.Common.{◌≡◌, ◌≢◌, ℕ, zero, suc, ◌+◌, ◌^◌, ◌<◌, ◌≤◌, Bool, true, false, cond, ltb, leb, List, [], ◌∷◌, ◌++◌, length, map, take, refl, sym, ap, ◌∙◌, subst, arith, inl, inr, get_or}
use Rattle.std.specs.Prelude.{All, Option, Some, unwrap_or, filter, fold, count_by, sum_by, ◌==◌, ◌-◌, ◌&&◌, ◌||◌}
use Rattle.std.specs.FinMap as finite
use Rattle.std.specs.List.{insert, prefix_len, list_any}
use Rattle.std.proofs.lemmas.Bool.{cases_lt, cases_order, and_parts, and_from, false_from_ne_true, lt-ltb, le-leb, ltb-true, eq-eqb, ne_eqb, eqb-true}
use Rattle.std.proofs.lemmas.List.{take_all, take_more, get_or-take, get_or-map, length-take, length-map, length-append, map-append, append-nil}
use Rattle.std.proofs.lemmas.List.Concat.{length-flat_map}
use Rattle.std.proofs.lemmas.List.Edits.{length-insert, get_or-insert_below, get_or-insert_at, get_or-insert_above}
use Rattle.std.proofs.lemmas.List.Elements.{filter-append}
use Rattle.std.proofs.lemmas.List.Sums.{sum_by-cons, sum_by-insert, sum_by_more_le, prefix_len-le-length, fold-append}
use Rattle.volume_format.specs.vnode_files.declared.extent.Extent.{Extent}
use Rattle.volume_format.specs.vnode_files.declared.vnode.FileInfo.{FileInfo}
use Rattle.volume_format.specs.vnode_files.Grow.{extent_end, has_block}
use Rattle.volume_format.specs.vnode_files.Vnode.{VnodeSeen, no_vnode}
use Rattle.volume_format.specs.vnode_files.Files.{FilesSeen, block_count, extents_on}
use Rattle.volume_format.specs.vnode_files.Layout.{HaveGaps}
use Rattle.volume_format.proofs.vnode_files.LayoutLemmas.{count-cons, count-append, count-some, sum-extents_on, part_of}
use Rattle.volume_format.specs.Table.{TableSeen, AreFree, empty_table, all_extents, entry_at, no_entry, front_block, with_table_entry}
use Rattle.volume_format.specs.Rules.{do_meet}
use Rattle.volume_format.specs.Volume.{extent_at, IsVolumeFile, IsVolumeName, IsVolumeTable, AreDisjointExtents, IsNewName}
use Rattle.stored_files.specs.Closed.{table_entries, table_of_disk}
use Rattle.stored_files.specs.Closed.{info_on}
use Rattle.stored_files.specs.Written.{infos_made}
use Rattle.stored_files.specs.Showing.{shown_info}
use Rattle.stored_files.specs.DiskTables.{MakeTables, TableSoFar, IsAddableTo}

-- sums over a table's files
fold_sum : (f : FileInfo → ℕ) (acc zs : List FileInfo) → sum_by f (fold with_table_entry acc zs) ≡ sum_by f acc + sum_by f zs
fold_sum f acc [] = omega arith
fold_sum f acc (z ∷ zs) =
    let n = prefix_len (λ (x : FileInfo). ltb (front_block x.extents) (front_block z.extents)) acc in
    fold_sum f (with_table_entry acc z) zs ∙ omega (arith, sum_by-insert f acc n z, sum_by-cons f z zs)

on_0 : (m : List Extent → ℕ) (ys : List FileInfo) → sum_by (λ (e : FileInfo). m e.extents) (map (info_on 0) ys) ≡ sum_by (λ (e : FileInfo). m e.extents) ys
on_0 m [] = refl
on_0 m (y ∷ ys) =
    let f : FileInfo → ℕ = λ (e : FileInfo). m e.extents in
    sum_by-cons f (info_on 0 y) (map (info_on 0) ys) ∙ ap (λ n. m y.extents + n) (on_0 m ys) ∙ sym (sum_by-cons f y ys)

filter_sum : (f : FileInfo → ℕ) (p : FileInfo → Bool) (ys : List FileInfo) → sum_by f (filter p ys) ≡ sum_by (λ y. cond (p y) (f y) 0) ys
filter_sum f p [] = refl
filter_sum f p (y ∷ ys) =
    let more = filter_sum f p ys in
    sym (sum_by-cons (λ z. cond (p z) (f z) 0) y ys
    ∙ elim (p y) as (λ t. cond t (f y) 0 + sum_by (λ z. cond (p z) (f z) 0) ys ≡ sum_by f (cond t (y ∷ filter p ys) (filter p ys))) [
      | true ↦ omega (arith, more, sum_by-cons f y (filter p ys))
      | false ↦ omega (arith, more)
    ])

abbrev its_part : (List Extent → ℕ) → ℕ → FileInfo → ℕ
its_part m disk i = cond (i.disk == disk) (m i.extents) 0

table_sum : (m : List Extent → ℕ) (disk : ℕ) (xs : List FileInfo) → sum_by (λ (e : FileInfo). m e.extents) (table_entries disk xs) ≡ sum_by (its_part m disk) xs
table_sum m disk xs =
    let f : FileInfo → ℕ = λ (e : FileInfo). m e.extents in
    let p : FileInfo → Bool = λ (i : FileInfo). i.disk == disk in
    let zs = map (info_on 0) (filter p xs) in
    let none : sum_by f [] ≡ 0 = refl in
    let whole : sum_by f (table_entries disk xs) ≡ sum_by f zs = omega (arith, fold_sum f [] zs, none) in
    whole ∙ on_0 m (filter p xs) ∙ filter_sum f p xs

infos_sum : (g : FileInfo → ℕ) (vs : List VnodeSeen) → sum_by g (map (λ (v : VnodeSeen). v.info) vs) ≡ sum_by (λ (v : VnodeSeen). g v.info) vs
infos_sum g [] = refl
infos_sum g (v ∷ vs) = sum_by-cons g v.info (map (λ (w : VnodeSeen). w.info) vs) ∙ ap (λ n. g v.info + n) (infos_sum g vs) ∙ sym (sum_by-cons (λ (w : VnodeSeen). g w.info) v vs)

count_flat : (b : ℕ) (es : List FileInfo) → count_by (has_block b) (all_extents es) ≡ sum_by (λ (e : FileInfo). count_by (has_block b) e.extents) es
count_flat b [] = refl
count_flat b (e ∷ es) =
    let f : FileInfo → ℕ = λ (x : FileInfo). count_by (has_block b) x.extents in
    count-append (has_block b) e.extents (all_extents es) ∙ ap (λ n. count_by (has_block b) e.extents + n) (count_flat b es) ∙ sym (sum_by-cons f e es)

fold_length : (acc zs : List FileInfo) → length (fold with_table_entry acc zs) ≡ length acc + length zs
fold_length acc [] = omega arith
fold_length acc (z ∷ zs) =
    let n = prefix_len (λ (x : FileInfo). ltb (front_block x.extents) (front_block z.extents)) acc in
    fold_length (with_table_entry acc z) zs
    ∙ omega (arith, length-insert acc n z (prefix_len-le-length (λ (x : FileInfo). ltb (front_block x.extents) (front_block z.extents)) acc))

filter_length : (p : FileInfo → Bool) (xs : List FileInfo) → length (filter p xs) ≤ length xs
filter_length p [] = omega arith
filter_length p (x ∷ xs) =
    let more = filter_length p xs in
    elim (p x) as (λ t. length (cond t (x ∷ filter p xs) (filter p xs)) ≤ suc (length xs)) [ true ↦ omega (arith, more) | false ↦ omega (arith, more) ]

-- names that are new
put_new : (name : List ℕ) (es : List FileInfo) (n : ℕ) (z : FileInfo) → n ≤ length es → IsNewName name es → z.name ≢ name → IsNewName name (insert es n z)
put_new name es n z within news own i there is =
    let size = length-insert es n z within in
    elim (cases_order i n) [
      | inl at ↦ own (ap (λ (e : FileInfo). e.name) (sym (ap (entry_at (insert es n z)) at ∙ get_or-insert_at es n z no_entry within)) ∙ is)
      | inr other ↦ elim other [
        | inl below ↦ news i (omega (arith, below, within)) (ap (λ (e : FileInfo). e.name) (sym (get_or-insert_below es n z no_entry i below within)) ∙ is)
        | inr above ↦
            let back : i - 1 + 1 ≡ i = omega (arith, above) in
            let same = ap (entry_at (insert es n z)) (sym back) ∙ get_or-insert_above es n z no_entry (i - 1) (omega (arith, above)) within in
            news (i - 1) (omega (arith, there, size, above)) (ap (λ (e : FileInfo). e.name) (sym same) ∙ is)
      ]
    ]

fold_new : (name : List ℕ) (acc zs : List FileInfo) → IsNewName name acc → IsNewName name zs → IsNewName name (fold with_table_entry acc zs)
fold_new name acc [] old new = old
fold_new name acc (z ∷ zs) old new =
    let n = prefix_len (λ (x : FileInfo). ltb (front_block x.extents) (front_block z.extents)) acc in
    fold_new name (with_table_entry acc z) zs
    (put_new name acc n z (prefix_len-le-length (λ (x : FileInfo). ltb (front_block x.extents) (front_block z.extents)) acc) old (new 0 (omega arith)))
    (λ i there. new (suc i) (omega (arith, there)))

cons_new : (name : List ℕ) (z : FileInfo) (zs : List FileInfo) → z.name ≢ name → IsNewName name zs → IsNewName name (z ∷ zs)
cons_new name z zs own rest zero there = own
cons_new name z zs own rest (suc i) there = rest i (omega (arith, there))

filter_new : (disk : ℕ) (name : List ℕ) (xs : List FileInfo) → ((k : ℕ) → k < length xs → (entry_at xs k).disk ≡ disk → (entry_at xs k).name ≢ name)
    → IsNewName name (map (info_on 0) (filter (λ (i : FileInfo). i.disk == disk) xs))
filter_new disk name [] other = λ i there. absurd (omega (arith, there))
filter_new disk name (x ∷ xs) other =
    let more = filter_new disk name xs (λ k low. other (suc k) (omega (arith, low))) in
    let ys = filter (λ (i : FileInfo). i.disk == disk) xs in
    elim (x.disk == disk) as (λ t. x.disk == disk ≡ t → IsNewName name (map (info_on 0) (cond t (x ∷ ys) ys))) [
      | true ↦ λ is. cons_new name (info_on 0 x) (map (info_on 0) ys) (other 0 (omega arith) (eqb-true x.disk disk is)) more
      | false ↦ λ is. more
    ] refl

-- one that passes is counted
any_counts : (p : Extent → Bool) (xs : List Extent) → list_any p xs ≡ true → 1 ≤ count_by p xs
any_counts p [] is = cc
any_counts p (x ∷ xs) is =
    elim (p x) as (λ t. p x ≡ t → 1 ≤ count_by p (x ∷ xs)) [
      | true ↦ λ first. let here : ◌≡◌ {A = ℕ} (cond (p x) 1 0) 1 = ap (λ (t : Bool). cond t 1 0) first in omega (arith, count-cons p x xs, here)
      | false ↦ λ first. let more = any_counts p xs (sym (ap (λ (t : Bool). t || list_any p xs) first) ∙ is) in omega (arith, count-cons p x xs, more)
    ] refl

-- extents of which no block lies in two
count_two : (p : Extent → Bool) (xs : List Extent) (i j : ℕ) (d : Extent) → i < j → j < length xs → p (get_or xs i d) ≡ true → p (get_or xs j d) ≡ true → 2 ≤ count_by p xs
count_two p [] i j d less there first second = absurd (omega (arith, there))
count_two p (x ∷ xs) i zero d less there first second = absurd (omega (arith, less))
count_two p (x ∷ xs) zero (suc j) d less there first second =
    let more = count-some p xs j d (omega (arith, there)) second in
    let here : ◌≡◌ {A = ℕ} (cond (p x) 1 0) 1 = ap (λ (t : Bool). cond t 1 0) first in
    omega (arith, count-cons p x xs, more, here)
count_two p (x ∷ xs) (suc i) (suc j) d less there first second = omega (arith, count-cons p x xs, count_two p xs i j d (omega (arith, less)) (omega (arith, there)) first second)

abbrev no_extent : Extent
no_extent = record { start = 0; pages = 0 }

disjoint : (xs : List Extent) → All (λ e. 1 ≤ e.pages) xs → ((b : ℕ) → count_by (has_block b) xs ≤ 1) → AreDisjointExtents xs
disjoint xs some few j k less there =
    let e = extent_at xs k in
    let f = extent_at xs j in
    let one : 1 ≤ e.pages = some k no_extent (omega (arith, less, there)) in
    let two : 1 ≤ f.pages = some j no_extent there in
    false_from_ne_true (do_meet e f) (λ meet.
    let parts = and_parts (ltb e.start (extent_end f)) (ltb f.start (extent_end e)) meet in
    let low : e.start < extent_end f = ltb-true e.start (extent_end f) parts.0 in
    let high : f.start < extent_end e = ltb-true f.start (extent_end e) parts.1 in
    elim (cases_lt e.start f.start) [
      | inl before ↦
          let both = count_two (has_block f.start) xs k j no_extent less there (has_from f.start e (omega (arith, before)) high) (has_from f.start f (omega arith) (omega (arith, two))) in
          omega (arith, both, few f.start)
      | inr from ↦
          let both = count_two (has_block e.start) xs k j no_extent less there (has_from e.start e (omega arith) (omega (arith, one))) (has_from e.start f from low) in
          omega (arith, both, few e.start)
    ])

parted : (xs : List Extent) → HaveGaps xs → (j : ℕ) → j + 1 < length xs → extent_end (extent_at xs j) ≢ (extent_at xs (j + 1)).start
parted [] gaps j there is = absurd (omega (arith, there))
parted (e ∷ []) gaps j there is = absurd (omega (arith, there))
parted (e ∷ f ∷ es) gaps zero there is = let one : 0 + 1 ≡ 1 = omega arith in gaps.0 (is ∙ ap (λ i. (extent_at (e ∷ f ∷ es) i).start) one)
parted (e ∷ f ∷ es) gaps (suc j) there is =
    let next : suc j + 1 ≡ suc (j + 1) = omega arith in
    parted (f ∷ es) gaps.1 j (omega (arith, there)) (is ∙ ap (λ i. (extent_at (e ∷ f ∷ es) i).start) next)

module _ (files : FilesSeen) (disk file : ℕ) (t : TableSeen) (make : MakeTables files) (there : file < length files.files) (so : TableSoFar files disk file t)
    (on : (shown_info files file).disk ≡ disk) where
  low : file < length (infos_made files)
  low = omega (arith, there, length-map files.files (λ (v : VnodeSeen). v.info))

  here : get_or (infos_made files) file no_entry ≡ shown_info files file
  here = get_or-map (λ (v : VnodeSeen). v.info) files.files file no_vnode no_entry there

  -- what adds up over the extents of the files of a disk
  within : (m : List Extent → ℕ) → m [] ≡ 0 → ((xs ys : List Extent) → m (xs ++ ys) ≡ m xs + m ys)
      → sum_by (λ (e : FileInfo). m e.extents) t.entries + m (shown_info files file).extents ≤ m (extents_on disk files.files)
  within m none append =
      let infos = infos_made files in
      let g = its_part m disk in
      let own : g (get_or infos file no_entry) ≡ m (shown_info files file).extents = ap g here
      ∙ ap (λ (b : Bool). cond b (m (shown_info files file).extents) 0) (eq-eqb (shown_info files file).disk disk on) in
      let so_far : sum_by (λ (e : FileInfo). m e.extents) t.entries ≡ sum_by g (take file infos) = ap (sum_by (λ (e : FileInfo). m e.extents)) so.entries ∙ table_sum m disk (take file infos) in
      let all : sum_by g infos ≡ sum_by (part_of m disk) files.files = infos_sum g files.files in
      omega (arith, own, so_far, all, sum_by_more_le g infos file no_entry low, sum-extents_on m none append disk files.files)

  counted : (b : ℕ) → count_by (has_block b) (all_extents t.entries) + count_by (has_block b) (shown_info files file).extents ≤ 1
  counted b = omega (arith, count_flat b t.entries, within (count_by (has_block b)) refl (count-append (has_block b)), make.lie.apart disk b)

  free : AreFree (shown_info files file).extents (all_extents t.entries)
  free b has =
      let mine = any_counts (has_block b) (shown_info files file).extents has in
      false_from_ne_true (list_any (has_block b) (all_extents t.entries)) (λ taken. omega (arith, mine, any_counts (has_block b) (all_extents t.entries) taken, counted b))

  few_files : length t.entries < 64
  few_files =
      let infos = infos_made files in
      let p : FileInfo → Bool = λ (i : FileInfo). i.disk == disk in
      let zs = map (info_on 0) (filter p (take file infos)) in
      omega (arith, ap length so.entries, fold_length [] zs, length-map (filter p (take file infos)) (info_on 0), filter_length p (take file infos), length-take file infos, there, make.lie.few_files)

  few_extents : length (all_extents t.entries) + length (shown_info files file).extents ≤ 252
  few_extents = omega (arith, length-flat_map (λ (e : FileInfo). e.extents) t.entries, within length refl length-append, make.lie.few disk)

  new_name : IsNewName (shown_info files file).name t.entries
  new_name =
      let infos = infos_made files in
      let xs = take file infos in
      let size = length-take file infos in
      let other : (k : ℕ) → k < length xs → (entry_at xs k).disk ≡ disk → (entry_at xs k).name ≢ (shown_info files file).name = λ k below at is.
      let lower : k < file = omega (arith, below, size) in
      let same = get_or-take file infos k no_entry lower in
      make.names.differ file k lower low
      (ap (λ (e : FileInfo). e.disk) (sym same) ∙ at ∙ sym on ∙ ap (λ (e : FileInfo). e.disk) (sym here))
      (ap (λ (e : FileInfo). e.name) (sym same) ∙ is ∙ ap (λ (e : FileInfo). e.name) (sym here)) in
      subst (IsNewName (shown_info files file).name) (sym so.entries)
      (fold_new (shown_info files file).name [] (map (info_on 0) (filter (λ (i : FileInfo). i.disk == disk) xs)) (λ i none. absurd (omega (arith, none)))
      (filter_new disk (shown_info files file).name xs other))

  file_of_volume : (shown_info files file).length < 2 ^ 32 → IsVolumeFile t.blocks (info_on 0 (shown_info files file))
  file_of_volume number =
      let info = shown_info files file in
      let lies = make.lie.on_disks file no_vnode there in
      let count : block_count files.disks info.disk ≡ t.blocks = ap (λ (o : Option ℕ). unwrap_or o 0) (ap (finite.get files.disks) on ∙ so.number) in
      record {
        name = subst (λ (e : FileInfo). IsVolumeName e.name) here (make.names.names file low);
        disk = refl;
        some = omega (arith, make.extents file low, ap (λ (e : FileInfo). length e.extents) here);
        places = λ j below.
            let e = extent_at info.extents j in
            let some : 1 ≤ e.pages = lies.some j no_extent below in
            let on_disk : (1 ≤ e.start) × (extent_end e ≤ block_count files.disks info.disk) = lies.within j no_extent below in
            and_from (ltb 0 e.start && ltb 0 e.pages) (leb (extent_end e) t.blocks)
            (and_from (ltb 0 e.start) (ltb 0 e.pages) (lt-ltb 0 e.start (omega (arith, on_disk.0))) (lt-ltb 0 e.pages (omega (arith, some))))
            (le-leb (extent_end e) t.blocks (omega (arith, on_disk.1, count)));
        parted = parted info.extents lies.gaps;
        within = (make.lie.sound file no_vnode there).within;
        number = number;
      }

  own_apart : AreDisjointExtents (shown_info files file).extents
  own_apart = disjoint (shown_info files file).extents (make.lie.on_disks file no_vnode there).some (λ b. omega (arith, counted b))

  pub addable : (shown_info files file).length < 2 ^ 32 → IsAddableTo t (info_on 0 (shown_info files file))
  addable number = record { free = free; files = few_files; extents = few_extents; file = file_of_volume number; name = new_name; apart = own_apart }

  -- a file more that lies there
  pub entries_more : with_table_entry t.entries (info_on 0 (shown_info files file)) ≡ table_entries disk (take (file + 1) (infos_made files))
  entries_more =
      let infos = infos_made files in
      let info = shown_info files file in
      let p : FileInfo → Bool = λ (i : FileInfo). i.disk == disk in
      let xs = take file infos in
      let one : filter p (info ∷ []) ≡ info ∷ [] = ap (λ (b : Bool). cond b (info ∷ []) []) (eq-eqb info.disk disk on) in
      let more : filter p (take (file + 1) infos) ≡ filter p xs ++ info ∷ [] =
      ap (filter p) (take_more infos file no_entry low ∙ ap (λ (e : FileInfo). xs ++ e ∷ []) here) ∙ filter-append p xs (info ∷ []) ∙ ap (λ (es : List FileInfo). filter p xs ++ es) one in
      ap (λ (es : List FileInfo). with_table_entry es (info_on 0 info)) so.entries
      ∙ sym (ap (λ (es : List FileInfo). fold with_table_entry [] (map (info_on 0) es)) more
      ∙ ap (fold with_table_entry []) (map-append (info_on 0) (filter p xs) (info ∷ []))
      ∙ fold-append with_table_entry [] (map (info_on 0) (filter p xs)) (info_on 0 info ∷ []))

-- a file that lies elsewhere
pub entries_other : (files : FilesSeen) (disk file : ℕ) → file < length files.files → (shown_info files file).disk ≢ disk
    → table_entries disk (take (file + 1) (infos_made files)) ≡ table_entries disk (take file (infos_made files))
entries_other files disk file there off =
    let infos = infos_made files in
    let info = shown_info files file in
    let p : FileInfo → Bool = λ (i : FileInfo). i.disk == disk in
    let xs = take file infos in
    let here : get_or infos file no_entry ≡ info = get_or-map (λ (v : VnodeSeen). v.info) files.files file no_vnode no_entry there in
    let low : file < length infos = omega (arith, there, length-map files.files (λ (v : VnodeSeen). v.info)) in
    let none : filter p (info ∷ []) ≡ [] = ap (λ (b : Bool). cond b (info ∷ []) []) (ne_eqb info.disk disk off) in
    let same : filter p (take (file + 1) infos) ≡ filter p xs =
    ap (filter p) (take_more infos file no_entry low ∙ ap (λ (e : FileInfo). xs ++ e ∷ []) here) ∙ filter-append p xs (info ∷ [])
    ∙ ap (λ (es : List FileInfo). filter p xs ++ es) none ∙ append-nil (filter p xs) in
    ap (λ (es : List FileInfo). fold with_table_entry [] (map (info_on 0) es)) same

-- no file yet
pub table_begin : (files : FilesSeen) (disk blocks : ℕ) (t : TableSeen) → finite.get files.disks disk ≡ Some blocks → t ≡ empty_table blocks → IsVolumeTable t → TableSoFar files disk 0 t
table_begin files disk blocks t number is volume = record {
  number = number ∙ ap (λ n. Some n) (sym (ap (λ (x : TableSeen). x.blocks) is));
  entries = ap (λ (x : TableSeen). x.entries) is;
  volume = volume;
}

pub table_more : (files : FilesSeen) (disk file : ℕ) (t next : TableSeen) → MakeTables files → file < length files.files → TableSoFar files disk file t → (shown_info files file).disk ≡ disk
    → next ≡ record t { entries = with_table_entry t.entries (info_on 0 (shown_info files file)) } → IsVolumeTable next → TableSoFar files disk (file + 1) next
table_more files disk file t next make there so on is volume = record {
  number = so.number ∙ ap (λ n. Some n) (sym (ap (λ (x : TableSeen). x.blocks) is));
  entries = ap (λ (x : TableSeen). x.entries) is ∙ entries_more files disk file t make there so on;
  volume = volume;
}

pub table_skip : (files : FilesSeen) (disk file : ℕ) (t : TableSeen) → file < length files.files → TableSoFar files disk file t
    → (shown_info files file).disk ≢ disk → TableSoFar files disk (file + 1) t
table_skip files disk file t there so off = record { number = so.number; entries = so.entries ∙ sym (entries_other files disk file there off); volume = so.volume }

pub table_done : (files : FilesSeen) (disk blocks file : ℕ) (t : TableSeen) → TableSoFar files disk file t → finite.get files.disks disk ≡ Some blocks
    → length files.files ≤ file → t ≡ table_of_disk disk blocks (infos_made files)
table_done files disk blocks file t so number past =
    let size : t.blocks ≡ blocks = (let both : Some t.blocks ≡ Some blocks = sym so.number ∙ number in cc) in
    let all : t.entries ≡ table_entries disk (infos_made files) =
    so.entries ∙ ap (table_entries disk) (take_all file (infos_made files) (omega (arith, past, length-map files.files (λ (v : VnodeSeen). v.info)))) in
    λ i. record { blocks = size i; entries = all i }
