-- What holds of the files that tables give.
use Rattle.std.specs.Prelude.{ℕ, zero, suc, ◌≡◌, ◌≢◌, ◌<◌, ◌≤◌, ◌+◌, ◌*◌, ◌==◌, ◌&&◌, nat_lt, nat_le, Bool, true, List, [], ◌∷◌, ◌++◌, length, map, filter, slice_index_or, All}
use Rattle.std.specs.List.{AllByRecursion, flat_map}
use Rattle.std.proofs.Common.{ap, ◌∙◌, sym, subst, refl, arith, inl, inr, length-append, cond}
use Rattle.std.proofs.lemmas.Bool.{cases_eq, eq-eqb, ne_eqb, both_ways, and_parts, and_from, lt-ltb, ltb-true, leb-true}
use Rattle.std.proofs.lemmas.Grind.{flat_map-append}
use Rattle.std.proofs.lemmas.List.{append-nil, get_or_default}
use Rattle.std.proofs.lemmas.List.Elements.{filter-append, All-from_get_or, recursion_from_All, All-from_recursion}
use Rattle.std.proofs.lemmas.List.Sums.{sum_by-cons}
use Rattle.volume_format.specs.vnode_files.declared.extent.Extent.{Extent}
use Rattle.volume_format.specs.vnode_files.declared.vnode.FileInfo.{FileInfo}
use Rattle.volume_format.specs.vnode_files.Grow.{has_block, extent_end, page_count}
use Rattle.volume_format.specs.vnode_files.Layout.{NoneMeet, HaveGaps, LieOnDisk}
use Rattle.volume_format.proofs.vnode_files.BlockLemmas.{has_block-bounds}
use Rattle.volume_format.proofs.vnode_files.LayoutLemmas.{none_meet-pairs}
use Rattle.volume_format.specs.Rules.{do_meet, is_on_disk}
use Rattle.volume_format.specs.Table.{TableSeen, all_extents, entry_at, no_entry}
use Rattle.volume_format.specs.Volume.{IsVolumeTable, IsVolumeFile, extent_at}
use Rattle.stored_files.specs.Closed.{info_at}
use Rattle.volume_files.specs.Opened.{extents_of_disk, mounted_infos}
use Rattle.stored_files.specs.Closed.{info_on}
use Rattle.volume_files.specs.Placing.{Distinct, IsAddable}

-- Of each table's files, on its disk.
abbrev pub EachTable : (FileInfo → Type 0) → List ℕ → List TableSeen → Type 0
EachTable P [] ts = Unit {0}
EachTable P (n ∷ ns) [] = Unit {0}
EachTable P (n ∷ ns) (t ∷ ts) = AllByRecursion (λ e. P (info_on n e)) t.entries × EachTable P ns ts

pub all_append : {X : Type 0} (P : X → Type 0) (xs ys : List X) → AllByRecursion P xs → AllByRecursion P ys → AllByRecursion P (xs ++ ys)
all_append P [] ys p q = q
all_append P (x ∷ xs) ys p q = (p.0, all_append P xs ys p.1 q)

pub all_mapped : {X Y : Type 0} (P : Y → Type 0) (f : X → Y) (xs : List X) → AllByRecursion (λ x. P (f x)) xs → AllByRecursion P (map f xs)
all_mapped P f [] p = tt
all_mapped P f (x ∷ xs) p = (p.0, all_mapped P f xs p.1)

pub all_at : {X : Type 0} (P : X → Type 0) (xs : List X) (d : X) → ((i : ℕ) → i < length xs → P (slice_index_or xs i d)) → AllByRecursion P xs
all_at P [] d h = tt
all_at P (x ∷ xs) d h = (h 0 (omega arith), all_at P xs d (λ i below. h (suc i) (omega (arith, below))))

pub all_of : {X : Type 0} (P : X → Type 0) (xs : List X) → ((x : X) → P x) → AllByRecursion P xs
all_of P [] h = tt
all_of P (x ∷ xs) h = (h x, all_of P xs h)

pub all_then : {X : Type 0} (P Q : X → Type 0) (xs : List X) → ((x : X) → P x → Q x) → AllByRecursion P xs → AllByRecursion Q xs
all_then P Q [] h p = tt
all_then P Q (x ∷ xs) h p = (h x p.0, all_then P Q xs h p.1)

pub mounted-each : (P : FileInfo → Type 0) (ns : List ℕ) (ts : List TableSeen) → EachTable P ns ts → AllByRecursion P (mounted_infos ns ts)
mounted-each P [] ts each = tt
mounted-each P (n ∷ ns) [] each = tt
mounted-each P (n ∷ ns) (t ∷ ts) each = all_append P (map (info_on n) t.entries) (mounted_infos ns ts) (all_mapped P (info_on n) t.entries each.0) (mounted-each P ns ts each.1)

-- the extents of a disk
ext-append : (d : ℕ) (xs ys : List FileInfo) → extents_of_disk d (xs ++ ys) ≡ extents_of_disk d xs ++ extents_of_disk d ys
ext-append d xs ys =
    ap (flat_map (λ (i : FileInfo). i.extents)) (filter-append (λ (i : FileInfo). i.disk == d) xs ys)
    ∙ flat_map-append (λ (i : FileInfo). i.extents) (filter (λ (i : FileInfo). i.disk == d) xs) (filter (λ (i : FileInfo). i.disk == d) ys)

ext-own : (n d : ℕ) (es : List FileInfo) → n ≡ d → extents_of_disk d (map (info_on n) es) ≡ all_extents es
ext-own n d [] is = refl
ext-own n d (e ∷ es) is =
    let rest = filter (λ (i : FileInfo). i.disk == d) (map (info_on n) es) in
    ap (λ (t : Bool). flat_map (λ (i : FileInfo). i.extents) (cond t (info_on n e ∷ rest) rest)) (eq-eqb n d is)
    ∙ ap (λ (xs : List Extent). e.extents ++ xs) (ext-own n d es is)

ext-other : (n d : ℕ) (es : List FileInfo) → (n ≡ d → ⊥) → extents_of_disk d (map (info_on n) es) ≡ []
ext-other n d [] ne = refl
ext-other n d (e ∷ es) ne =
    let rest = filter (λ (i : FileInfo). i.disk == d) (map (info_on n) es) in
    ap (λ (t : Bool). flat_map (λ (i : FileInfo). i.extents) (cond t (info_on n e ∷ rest) rest)) (ne_eqb n d ne) ∙ ext-other n d es ne

ext-none : (d : ℕ) (ns : List ℕ) (ts : List TableSeen) → AllByRecursion (λ m. d ≢ m) ns → extents_of_disk d (mounted_infos ns ts) ≡ []
ext-none d [] ts other = refl
ext-none d (n ∷ ns) [] other = refl
ext-none d (n ∷ ns) (t ∷ ts) other =
    ext-append d (map (info_on n) t.entries) (mounted_infos ns ts)
    ∙ ap (λ (xs : List Extent). xs ++ extents_of_disk d (mounted_infos ns ts)) (ext-other n d t.entries (λ e. other.0 (sym e)))
    ∙ ext-none d ns ts other.1

-- what holds of no extents and of each table's holds of those of each disk
pub mounted-extents : (P : List Extent → Type 0) (d : ℕ) (ns : List ℕ) (ts : List TableSeen) → P [] → Distinct ns → AllByRecursion (λ t. P (all_extents t.entries)) ts
    → P (extents_of_disk d (mounted_infos ns ts))
mounted-extents P d [] ts none distinct each = none
mounted-extents P d (n ∷ ns) [] none distinct each = none
mounted-extents P d (n ∷ ns) (t ∷ ts) none distinct each =
    let more = extents_of_disk d (mounted_infos ns ts) in
    let split = ext-append d (map (info_on n) t.entries) (mounted_infos ns ts) in
    elim (cases_eq n d) [
      | inl e ↦
          let others : AllByRecursion (λ m. d ≢ m) ns = subst (λ k. AllByRecursion (λ m. k ≢ m) ns) e distinct.0 in
          subst P (sym (split ∙ ap (λ (xs : List Extent). xs ++ more) (ext-own n d t.entries e)
          ∙ ap (λ (xs : List Extent). all_extents t.entries ++ xs) (ext-none d ns ts others) ∙ append-nil (all_extents t.entries))) each.0
      | inr ne ↦
          subst P (sym (split ∙ ap (λ (xs : List Extent). xs ++ more) (ext-other n d t.entries ne))) (mounted-extents P d ns ts none distinct.1 each.1)
    ]

-- the extents of a volume's table don't meet
pub table-apart : (t : TableSeen) → IsVolumeTable t → NoneMeet (all_extents t.entries)
table-apart t v = none_meet-pairs (all_extents t.entries) (λ i j d less below b in_one in_other.
    let xs = all_extents t.entries in
    let none : Extent = record { start = 0; pages = 0 } in
    let first = has_block-bounds b (extent_at xs i) (ap (has_block b) (get_or_default xs i none d (omega (arith, less, below))) ∙ in_one) in
    let second = has_block-bounds b (extent_at xs j) (ap (has_block b) (get_or_default xs j none d below) ∙ in_other) in
    let meet = and_from (nat_lt (extent_at xs i).start (extent_end (extent_at xs j))) (nat_lt (extent_at xs j).start (extent_end (extent_at xs i)))
    (lt-ltb (extent_at xs i).start (extent_end (extent_at xs j)) (omega (arith, first.0, second.1)))
    (lt-ltb (extent_at xs j).start (extent_end (extent_at xs i)) (omega (arith, second.0, first.1))) in
    both_ways (do_meet (extent_at xs i) (extent_at xs j)) (v.apart j i less below) meet)

pub tables-apart : (ts : List TableSeen) → AllByRecursion IsVolumeTable ts → AllByRecursion (λ t. NoneMeet (all_extents t.entries)) ts
tables-apart ts v = all_then IsVolumeTable (λ t. NoneMeet (all_extents t.entries)) ts table-apart v

pub tables-few : (ts : List TableSeen) → AllByRecursion IsVolumeTable ts → AllByRecursion (λ t. length (all_extents t.entries) ≤ 252) ts
tables-few ts v = all_then IsVolumeTable (λ t. length (all_extents t.entries) ≤ 252) ts (λ t is. is.room.extents) v

-- a file of a volume lies on its disk
gaps_from : (es : List Extent) → ((j k : ℕ) → k ≡ suc j → k < length es → extent_end (extent_at es j) ≢ (extent_at es k).start) → HaveGaps es
gaps_from [] h = tt
gaps_from (e ∷ []) h = tt
gaps_from (e ∷ f ∷ es) h = (h 0 1 refl (omega arith), gaps_from (f ∷ es) (λ j k is below. h (suc j) (suc k) (ap suc is) (omega (arith, below))))

-- what a test of an extent says
on_disk : (blocks : ℕ) (e : Extent) → is_on_disk blocks e ≡ true → (1 ≤ e.pages) × (1 ≤ e.start) × (extent_end e ≤ blocks)
on_disk blocks e is =
    let a = and_parts (nat_lt 0 e.start && nat_lt 0 e.pages) (nat_le (extent_end e) blocks) is in
    let b = and_parts (nat_lt 0 e.start) (nat_lt 0 e.pages) a.0 in
    (ltb-true 0 e.pages b.1, ltb-true 0 e.start b.0, leb-true (extent_end e) blocks a.1)

pub file-lies : (blocks : ℕ) (e : FileInfo) → IsVolumeFile blocks e → LieOnDisk blocks e.extents
file-lies blocks e v =
    let none : Extent = record { start = 0; pages = 0 } in
    record {
      some = All-from_get_or (λ (x : Extent). 1 ≤ x.pages) e.extents none (λ i below. (on_disk blocks (extent_at e.extents i) (v.places i below)).0);
      within = All-from_get_or (λ (x : Extent). (1 ≤ x.start) × (extent_end x ≤ blocks)) e.extents none (λ i below. let o = on_disk blocks (extent_at e.extents i) (v.places i below) in (o.1, o.2));
      gaps = gaps_from e.extents (λ j k is below same.
          let next : k ≡ j + 1 = omega (arith, is) in
          v.parted j (omega (arith, is, below)) (same ∙ ap (λ n. (extent_at e.extents n).start) next));
    }

-- the names of a disk's files differ
abbrev pub Differ : List FileInfo → Type 0
Differ [] = Unit {0}
Differ (i ∷ infos) = AllByRecursion (λ j. i.disk ≡ j.disk → i.name ≢ j.name) infos × Differ infos

pub differ-append : (xs ys : List FileInfo) → Differ xs → Differ ys → AllByRecursion (λ i. AllByRecursion (λ j. i.disk ≡ j.disk → i.name ≢ j.name) ys) xs → Differ (xs ++ ys)
differ-append [] ys p q cross = q
differ-append (x ∷ xs) ys p q cross = (all_append (λ j. x.disk ≡ j.disk → x.name ≢ j.name) xs ys p.0 cross.0, differ-append xs ys p.1 q cross.1)

differ-one : (n : ℕ) (es : List FileInfo) → ((i k : ℕ) → k < i → i < length es → (entry_at es k).name ≢ (entry_at es i).name) → Differ (map (info_on n) es)
differ-one n [] h = tt
differ-one n (e ∷ es) h = (
  all_mapped (λ j. n ≡ j.disk → e.name ≢ j.name) (info_on n) es (all_at (λ x. n ≡ n → e.name ≢ x.name) es no_entry (λ i below same. h (suc i) 0 (omega arith) (omega (arith, below)))),
  differ-one n es (λ i k less below. h (suc i) (suc k) (omega (arith, less)) (omega (arith, below))),
)

other_disks : (n : ℕ) (ns : List ℕ) (ts : List TableSeen) → AllByRecursion (λ m. n ≢ m) ns → AllByRecursion (λ (j : FileInfo). n ≢ j.disk) (mounted_infos ns ts)
other_disks n [] ts other = tt
other_disks n (m ∷ ns) [] other = tt
other_disks n (m ∷ ns) (t ∷ ts) other =
    all_append (λ (j : FileInfo). n ≢ j.disk) (map (info_on m) t.entries) (mounted_infos ns ts)
    (all_mapped (λ (j : FileInfo). n ≢ j.disk) (info_on m) t.entries (all_of (λ (e : FileInfo). n ≢ m) t.entries (λ e. other.0)))
    (other_disks n ns ts other.1)

pub mounted-differ : (ns : List ℕ) (ts : List TableSeen) → Distinct ns → AllByRecursion IsVolumeTable ts → Differ (mounted_infos ns ts)
mounted-differ [] ts distinct v = tt
mounted-differ (n ∷ ns) [] distinct v = tt
mounted-differ (n ∷ ns) (t ∷ ts) distinct v =
    let more = mounted_infos ns ts in
    let cross : (e : FileInfo) → AllByRecursion (λ (j : FileInfo). n ≡ j.disk → e.name ≢ j.name) more =
    λ e. all_then (λ (j : FileInfo). n ≢ j.disk) (λ (j : FileInfo). n ≡ j.disk → e.name ≢ j.name) more (λ j ne same. absurd (ne same)) (other_disks n ns ts distinct.0) in
    differ-append (map (info_on n) t.entries) more (differ-one n t.entries v.0.names) (mounted-differ ns ts distinct.1 v.1)
    (all_mapped (λ (i : FileInfo). AllByRecursion (λ (j : FileInfo). i.disk ≡ j.disk → i.name ≢ j.name) more) (info_on n) t.entries
    (all_of (λ (e : FileInfo). AllByRecursion (λ (j : FileInfo). n ≡ j.disk → e.name ≢ j.name) more) t.entries cross))

-- the same at two places
pub differ-at : (infos : List FileInfo) (i k : ℕ) → Differ infos → k < i → i < length infos → (info_at infos k).disk ≡ (info_at infos i).disk → (info_at infos k).name ≢ (info_at infos i).name
differ-at [] i k d less below same = absurd (omega (arith, below))
differ-at (x ∷ xs) zero k d less below same = absurd (omega (arith, less))
differ-at (x ∷ xs) (suc i) zero d less below same = at_place xs i d.0 (omega (arith, below)) same
  where
    at_place : (ys : List FileInfo) (i : ℕ) → AllByRecursion (λ j. x.disk ≡ j.disk → x.name ≢ j.name) ys → i < length ys → x.disk ≡ (info_at ys i).disk → x.name ≢ (info_at ys i).name
    at_place [] i all below same = absurd (omega (arith, below))
    at_place (y ∷ ys) zero all below same = all.0 same
    at_place (y ∷ ys) (suc i) all below same = at_place ys i all.1 (omega (arith, below)) same
differ-at (x ∷ xs) (suc i) (suc k) d less below same = differ-at xs i k d.1 (omega (arith, less)) (omega (arith, below)) same

-- a table's files may be added
count-pages : (es : List Extent) → AllByRecursion (λ (x : Extent). x.pages ≤ 16384) es → page_count es ≤ length es * 16384
count-pages [] all = omega arith
count-pages (e ∷ es) all = omega (arith, sum_by-cons (λ (x : Extent). x.pages) e es, all.0, count-pages es all.1)

each-few : (n : ℕ) (es : List FileInfo) → length (all_extents es) ≤ n → AllByRecursion (λ (e : FileInfo). length e.extents ≤ n) es
each-few n [] few = tt
each-few n (e ∷ es) few =
    let both : length (all_extents (e ∷ es)) ≡ length e.extents + length (all_extents es) = length-append e.extents (all_extents es) in
    (omega (arith, few, both), each-few n es (omega (arith, few, both)))

file-addable : (blocks : ℕ) (e : FileInfo) → blocks ≤ 16384 → IsVolumeFile blocks e → length e.extents ≤ 252 → IsAddable e
file-addable blocks e small v few =
    let lies = file-lies blocks e v in
    let ends : All (λ (x : Extent). x.pages ≤ 16384) e.extents = λ k d h. let w = (lies.within k d h).1 in omega (arith, w, small) in
    let pages = count-pages e.extents (recursion_from_All (λ (x : Extent). x.pages ≤ 16384) e.extents ends) in
    record {
      blocks = λ k d h. let w = (lies.within k d h).1 in omega (arith, w, small);
      pages = omega (arith, pages, few);
      within = v.within;
    }

pub table-addable : (t : TableSeen) → IsVolumeTable t → t.blocks ≤ 16384 → All IsAddable t.entries
table-addable t v small =
    All-from_recursion IsAddable t.entries (all_both (IsVolumeFile t.blocks) (λ (e : FileInfo). length e.extents ≤ 252) IsAddable t.entries (λ e is few. file-addable t.blocks e small is few)
    (all_at (IsVolumeFile t.blocks) t.entries no_entry v.files) (each-few 252 t.entries v.room.extents))
  where
    all_both : {X : Type 0} (P Q R : X → Type 0) (xs : List X) → ((x : X) → P x → Q x → R x) → AllByRecursion P xs → AllByRecursion Q xs → AllByRecursion R xs
    all_both P Q R [] step p q = tt
    all_both P Q R (x ∷ xs) step p q = (step x p.0 q.0, all_both P Q R xs step p.1 q.1)
