-- The files of tables, added one by one.
use Rattle.std.specs.Prelude.{ℕ, zero, suc, Bool, true, false, Option, is_some, ◌≡◌, ◌<◌, ◌≤◌, ◌+◌, List, [], ◌∷◌, ◌++◌, length, map, take, drop, slice_index_or, IsSome, Some}
use Rattle.std.specs.Ordering.{nat_cmp, eq_by_cmp}
use Rattle.std.specs.Cmp.{nat_cmp_total, unsigned_tied}
use Rattle.std.proofs.lemmas.Bool.{eq-eqb}
use Rattle.block_device.specs.DiskSeen.{DiskSeen}
use Rattle.block_device.specs.declared.numbered.NumberedDisk.{NumberedDisk}
use Rattle.std.specs.FinMap as finite
use Rattle.std.proofs.Common.{ap, ◌∙◌, sym, subst, refl, arith, length-append, cond}
use Rattle.std.proofs.lemmas.List.{append_assoc, append-nil, map-append, length-map, drop_more, drop_all, take_more, map_push, get_or-map}
use Rattle.volume_format.specs.vnode_files.Files.{FilesSeen, with_next_file}
use Rattle.volume_format.specs.vnode_files.Vnode.{VnodeSeen, fresh_vnode}
use Rattle.volume_format.specs.vnode_files.declared.vnode.FileInfo.{FileInfo}
use Rattle.volume_format.specs.Table.{TableSeen, empty_table}
use Rattle.volume_files.specs.declared.table_files.PlaceStop.{PlaceStop}
use Rattle.volume_files.specs.declared.table_files.PlaceStop.TheVariants as stop
use Rattle.volume_files.specs.Opened.{mounted_infos}
use Rattle.stored_files.specs.Closed.{info_on}
use Rattle.volume_files.specs.Placing.{with_infos, IsTooMany, table_at, attached_numbers, sizes_by_number, AreSet}

files_with : FilesSeen → List VnodeSeen → FilesSeen
files_with s vs = record s { files = vs }

-- no file more
pub with_no_infos : (s : FilesSeen) → s ≡ with_infos s []
with_no_infos s = λ i. record { disks = s.disks; files = sym (append-nil s.files) i }

-- files, and then others
pub with_infos-more : (s : FilesSeen) (xs ys : List FileInfo) → with_infos (with_infos s xs) ys ≡ with_infos s (xs ++ ys)
with_infos-more s xs ys =
    let same : (s.files ++ map fresh_vnode xs) ++ map fresh_vnode ys ≡ s.files ++ map fresh_vnode (xs ++ ys) =
    append_assoc s.files (map fresh_vnode xs) (map fresh_vnode ys) ∙ ap (λ (vs : List VnodeSeen). s.files ++ vs) (sym (map-append fresh_vnode xs ys)) in
    λ i. record { disks = s.disks; files = same i }

-- one file more of a table
pub with_infos-next : (s t new : FilesSeen) (n : ℕ) (entries : List FileInfo) (i : ℕ) (e info d : FileInfo) → i < length entries
    → t ≡ with_infos s (map (info_on n) (take i entries)) → e ≡ slice_index_or entries i d → info ≡ info_on n e → new ≡ with_next_file t (fresh_vnode info)
    → new ≡ with_infos s (map (info_on n) (take (i + 1) entries))
with_infos-next s t new n entries i e info d below is at made next =
    let one : with_next_file t (fresh_vnode info) ≡ with_infos (with_infos s (map (info_on n) (take i entries))) (info_on n (slice_index_or entries i d) ∷ []) =
    ap (λ (u : FilesSeen). with_next_file u (fresh_vnode info)) is
    ∙ ap (λ (x : FileInfo). with_next_file (with_infos s (map (info_on n) (take i entries))) (fresh_vnode x)) (made ∙ ap (info_on n) at) in
    next ∙ one ∙ with_infos-more s (map (info_on n) (take i entries)) (info_on n (slice_index_or entries i d) ∷ [])
    ∙ ap (λ (xs : List FileInfo). with_infos s xs) (sym (map_push (info_on n) (take i entries) (slice_index_or entries i d)) ∙ ap (map (info_on n)) (sym (take_more entries i d below)))

pub length-with_infos : (s t : FilesSeen) (xs : List FileInfo) → t ≡ with_infos s xs → length t.files ≡ length s.files + length xs
length-with_infos s t xs is =
    let count : length t.files ≡ length (s.files ++ map fresh_vnode xs) = ap (λ (u : FilesSeen). length u.files) is in
    omega (arith, length-append s.files (map fresh_vnode xs), length-map xs fresh_vnode)

-- too many of some are too many of more
pub too_many_of_more : (m n : ℕ) (e : PlaceStop) → m ≤ n → IsTooMany m e → IsTooMany n e
too_many_of_more m n stop.Memory less h = tt
too_many_of_more m n (stop.Rule r) less h = (h.0, omega (arith, less, h.1))
too_many_of_more m n (stop.Fault f) less h = h

-- the table of one disk, and those of the disks behind it
pub mounted-step : (ns : List ℕ) (ts : List TableSeen) (i : ℕ) → i < length ns → i < length ts
    → mounted_infos (drop i ns) (drop i ts) ≡ map (info_on (slice_index_or ns i 0)) (table_at ts i).entries ++ mounted_infos (drop (i + 1) ns) (drop (i + 1) ts)
mounted-step ns ts i below inside =
    ap (λ (xs : List ℕ). mounted_infos xs (drop i ts)) (drop_more ns i 0 below)
    ∙ ap (λ (us : List TableSeen). mounted_infos (slice_index_or ns i 0 ∷ drop (i + 1) ns) us) (drop_more ts i (empty_table 0) inside)

-- a table more was added
pub mounted-more : (s t u : FilesSeen) (ns : List ℕ) (ts : List TableSeen) (i : ℕ) → i < length ns → i < length ts
    → with_infos t (mounted_infos (drop i ns) (drop i ts)) ≡ with_infos s (mounted_infos ns ts)
    → u ≡ with_infos t (map (info_on (slice_index_or ns i 0)) (table_at ts i).entries)
    → with_infos u (mounted_infos (drop (i + 1) ns) (drop (i + 1) ts)) ≡ with_infos s (mounted_infos ns ts)
mounted-more s t u ns ts i below inside rest added =
    ap (λ (x : FilesSeen). with_infos x (mounted_infos (drop (i + 1) ns) (drop (i + 1) ts))) added
    ∙ with_infos-more t (map (info_on (slice_index_or ns i 0)) (table_at ts i).entries) (mounted_infos (drop (i + 1) ns) (drop (i + 1) ts))
    ∙ ap (λ (xs : List FileInfo). with_infos t xs) (sym (mounted-step ns ts i below inside)) ∙ rest

-- the files of this table are too many with those before it, so all are
pub mounted-many : (s t : FilesSeen) (ns : List ℕ) (ts : List TableSeen) (i : ℕ) (e : PlaceStop) → i < length ns → i < length ts
    → with_infos t (mounted_infos (drop i ns) (drop i ts)) ≡ with_infos s (mounted_infos ns ts)
    → IsTooMany (length t.files + length (table_at ts i).entries) e → IsTooMany (length s.files + length (mounted_infos ns ts)) e
mounted-many s t ns ts i e below inside rest many =
    let own = (table_at ts i).entries in
    let more = mounted_infos (drop (i + 1) ns) (drop (i + 1) ts) in
    let a : length (with_infos t (mounted_infos (drop i ns) (drop i ts))).files ≡ length t.files + length
    (mounted_infos (drop i ns) (drop i ts)) = length-with_infos t _ (mounted_infos (drop i ns) (drop i ts)) refl in
    let b : length (with_infos s (mounted_infos ns ts)).files ≡ length s.files + length (mounted_infos ns ts) = length-with_infos s _ (mounted_infos ns ts) refl in
    let same : length (with_infos t (mounted_infos (drop i ns) (drop i ts))).files ≡ length (with_infos s (mounted_infos ns ts)).files = ap (λ (x : FilesSeen). length x.files) rest in
    let split : length (mounted_infos (drop i ns) (drop i ts)) ≡ length (map (info_on (slice_index_or ns i 0)) own ++ more) = ap length (mounted-step ns ts i below inside) in
    too_many_of_more (length t.files + length own) (length s.files + length (mounted_infos ns ts)) e
    (omega (arith, a, b, same, split, length-append (map (info_on (slice_index_or ns i 0)) own) more, length-map own (info_on (slice_index_or ns i 0)))) many

-- all tables were added
pub mounted-all : (s t : FilesSeen) (ns : List ℕ) (ts : List TableSeen) (i : ℕ) → length ns ≤ i
    → with_infos t (mounted_infos (drop i ns) (drop i ts)) ≡ with_infos s (mounted_infos ns ts) → t ≡ with_infos s (mounted_infos ns ts)
mounted-all s t ns ts i past rest =
    with_no_infos t ∙ ap (λ (xs : List ℕ). with_infos t (mounted_infos xs (drop i ts))) (sym (drop_all i ns past)) ∙ rest

-- the number of a disk, among the numbers
pub number-at : {D : Type 0} (ds : List (NumberedDisk D)) (i : ℕ) (x : NumberedDisk D) → i < length ds → x ≡ slice_index_or ds i x → slice_index_or (attached_numbers ds) i 0 ≡ x.number
number-at ds i x below is = get_or-map (λ d. d.number) ds i x 0 below ∙ ap (λ d. d.number) (sym is)

some_cond : {X : Type 0} (b : Bool) (v : X) (o : Option X) → IsSome o → IsSome (cond b (Some v) o)
some_cond true v o some = refl
some_cond false v o some = some

-- the disks of these numbers are set
pub set-all : {D : Type 0} (seen : D → DiskSeen) (ds : List (NumberedDisk D)) → AreSet (finite.from_entries (sizes_by_number seen ds)) (attached_numbers ds)
set-all seen [] i below = absurd (omega (arith, below))
set-all seen (d ∷ ds) zero below =
    let size = (seen d.disk).size in
    let rest = finite.from_entries (sizes_by_number seen ds) in
    ap is_some (finite.get-insert nat_cmp_total rest d.number size d.number ∙ ap (λ b. cond b (Some size) (finite.get rest d.number)) (unsigned_tied d.number d.number ∙ eq-eqb d.number d.number refl))
set-all seen (d ∷ ds) (suc i) below =
    let size = (seen d.disk).size in
    let rest = finite.from_entries (sizes_by_number seen ds) in
    let n = slice_index_or (attached_numbers ds) i 0 in
    subst (λ (o : Option ℕ). IsSome o) (sym (finite.get-insert nat_cmp_total rest d.number size n))
    (some_cond (eq_by_cmp nat_cmp n d.number) size (finite.get rest n) (set-all seen ds i (omega (arith, below))))
