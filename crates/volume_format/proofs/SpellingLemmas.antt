-- A block of version 2 in which every rule holds is the spelling of the table that its fields say.
use Rattle.std.proofs.Common.{ℕ, zero, suc, ◌≡◌, ◌≢◌, ◌<◌, ◌≤◌, ◌+◌, ◌-◌, ◌*◌, true, ◌&&◌, not, eqb, ltb, leb, List, [], ◌∷◌, ◌++◌, None, length}
use Rattle.std.proofs.Common.{take, drop, map, get_or, replicate, refl, ap, sym, subst, ◌∙◌, inl, inr, arith, length-drop}
use Rattle.std.specs.Prelude.{◌==◌, if◌then◌else◌, slice_range, codes}
use Rattle.std.specs.List.{flat_map, list_all, range_with_len, prefix_len}
use Rattle.std.specs.Int.{w32, from_be_bytes}
use Rattle.std.proofs.lemmas.Bool.{and_parts, cases_lt, ne_eqb, leb-true, cond-false}
use Rattle.std.proofs.lemmas.Nat.{be_bytes_4}
use Rattle.std.proofs.lemmas.List.{get_or-take, get_or-drop, get_or_past, length-take, append-nil, take_all, take-append-drop, map-append}
use Rattle.std.proofs.lemmas.List.Folds.{length-prefix_len, flat_map-map}
use Rattle.std.proofs.lemmas.List.FromFn.{length-map-range_with_len, take-map-range_with_len, get_or-map-range_with_len}
use Rattle.std.proofs.lemmas.List.Concat.{flat_map-append}
use Rattle.std.proofs.lemmas.Slice.Eq.{IsBytesEq, compares_Decides}
use Rattle.vnode_files.specs.declared.extent.Extent.{Extent}
use Rattle.vnode_files.specs.declared.vnode.FileInfo.{FileInfo}
use Rattle.volume_format.specs.Table.{all_extents, entry_at, no_entry}
use Rattle.volume_format.specs.Layout.{number_at, are_same, are_zeros, version, file_count, name_field, text_before_zero, name_of_file}
use Rattle.volume_format.specs.Layout.{length_of_file, mode_of_file, extent_count, table_extent, own_extent, first_extent, extents_number}
use Rattle.volume_format.specs.Layout.{extents_of_file, file_in, table_in}
use Rattle.volume_format.specs.Rules.{first_failed, is_table_name_byte, is_name_field, name_tests, extents_before, tests}
use Rattle.volume_format.specs.Writing.{padded_field, number_bytes, extent_bytes, file_entry_bytes, entry_bytes, entries_bytes, extents_bytes, extents_up_to, header_bytes, encoding}
use Rattle.volume_format.proofs.RangeLemmas.{range-more, range-join}
use Rattle.volume_format.proofs.TestLemmas.{passed-two}
use Rattle.volume_format.proofs.PassedLemmas.{Header, Files2, tests-passed, extents_before-more, length-all_extents, lengths-2}
use Rattle.volume_format.proofs.SliceLemmas.{slice-join, length-slice, zeros-are, flat-slices}

-- A block of bytes.
pub record IsBlock (block : List ℕ) : Type 0 where
  pub whole : length block ≡ 4096
  pub bytes : (i : ℕ) → get_or block i 0 < 256

pub bytes-slice : (block : List ℕ) → ((i : ℕ) → get_or block i 0 < 256) → (at end i : ℕ) → get_or (slice_range block at end) i 0 < 256
bytes-slice block bytes at end i = elim (cases_lt i (end - at)) [
  | inl low ↦ subst (λ (b : ℕ). b < 256) (sym (get_or-take (end - at) (drop at block) i 0 low ∙ get_or-drop at block i 0)) (bytes (at + i))
  | inr high ↦ subst (λ (b : ℕ). b < 256) (sym (get_or_past (slice_range block at end) i 0 (omega (arith, length-take (end - at) (drop at block))))) (omega arith)
]

-- The bytes of a number are where it was read.
pub number-spelled : (block : List ℕ) → IsBlock block → (at : ℕ) → at + 4 ≤ 4096 → number_bytes (number_at block at) ≡ slice_range block at (at + 4)
unfolding number_bytes number_at
number-spelled block h at within =
    be_bytes_4 (slice_range block at (at + 4)) (from_be_bytes w32 (slice_range block at (at + 4)))
    (length-slice block at (at + 4) (omega arith) (omega (arith, h.whole)) ∙ omega arith) (bytes-slice block h.bytes at (at + 4)) refl

-- Two lists of bytes that are the same.
pub are_same-is : IsBytesEq are_same
unfolding are_same
are_same-is = record { empty = refl; shorter = λ y ys. refl; longer = λ x xs. refl; heads = λ x y xs ys. refl }

pub same-bytes : (xs ys : List ℕ) → are_same xs ys ≡ true → xs ≡ ys
same-bytes xs ys h = (compares_Decides are_same are_same-is xs ys).0 h

-- A field that is a name is the name with zeros behind it.
pub name-spelled : (field : List ℕ) → length field ≡ 16 → is_name_field field ≡ true → padded_field 16 (text_before_zero field) ≡ field
name-spelled field size h =
    let name = text_before_zero field in
    let count = prefix_len (λ b. not (eqb b 0)) field in
    let long : length name ≡ count = length-prefix_len (λ b. not (eqb b 0)) field in
    let outer = and_parts (ltb 0 (length name) && list_all is_table_name_byte name && are_zeros (drop (length name) field)) (not (are_same name (codes "zero"))) h in
    let inner = and_parts (ltb 0 (length name) && list_all is_table_name_byte name) (are_zeros (drop (length name) field)) outer.0 in
    let zeros : drop (length name) field ≡ replicate (16 - length name) 0 = zeros-are (drop (length name) field) inner.1
    ∙ ap (λ (n : ℕ). replicate n 0) (length-drop (length name) field ∙ ap (λ (n : ℕ). n - length name) size) in
    ap (λ (xs : List ℕ). name ++ xs) (sym zeros)
    ∙ ap (λ (n : ℕ). take count field ++ drop n field) long
    ∙ take-append-drop count field

-- Parts one behind the other.
parts-joined : (xs : List ℕ) (at mid end : ℕ) (a b : List ℕ) → at ≤ mid → mid ≤ end → a ≡ slice_range xs at mid → b ≡ slice_range xs mid end → a ++ b ≡ slice_range xs at end
parts-joined xs at mid end a b one two ea eb =
    ap (λ (ys : List ℕ). ys ++ b) ea ∙ ap (λ (ys : List ℕ). slice_range xs at mid ++ ys) eb ∙ slice-join xs at mid end one two

five-parts : (xs : List ℕ) (at : ℕ) (a b d e f : List ℕ)
    → a ≡ slice_range xs at (at + 16) → b ≡ slice_range xs (at + 16) (at + 16 + 4) → d ≡ slice_range xs (at + 20) (at + 20 + 4)
    → e ≡ slice_range xs (at + 24) (at + 24 + 4) → f ≡ slice_range xs (at + 28) (at + 28 + 4)
    → a ++ b ++ d ++ e ++ f ≡ slice_range xs at (at + 32)
five-parts xs at a b d e f ea eb ed ee ef =
    let two : a ++ b ≡ slice_range xs at (at + 20) = parts-joined xs at (at + 16) (at + 20) a b (omega arith) (omega arith) ea (eb ∙ ap (slice_range xs (at + 16)) (omega arith)) in
    let three : a ++ b ++ d ≡ slice_range xs at (at + 24) = parts-joined xs at (at + 20) (at + 24) (a ++ b) d (omega arith) (omega arith) two (ed ∙ ap (slice_range xs (at + 20)) (omega arith)) in
    let four : a ++ b ++ d ++ e
    ≡ slice_range xs at (at + 28) = parts-joined xs at (at + 24) (at + 28) (a ++ b ++ d) e (omega arith) (omega arith) three
    (ee ∙ ap (slice_range xs (at + 24)) (omega arith)) in
    parts-joined xs at (at + 28) (at + 32) (a ++ b ++ d ++ e) f (omega arith) (omega arith) four (ef ∙ ap (slice_range xs (at + 28)) (omega arith))

-- The bytes of a file's entry are where it was read.
mode-spelled : (mode : ℕ) → mode ≤ 1 → (if mode == 1 then 1 else 0) ≡ mode
mode-spelled zero h = refl
mode-spelled (suc zero) h = refl
mode-spelled (suc (suc n)) h = absurd (omega arith)

pub length-extents_of_file : (block : List ℕ) (i : ℕ) → version block ≢ 1 → length (extents_of_file block i) ≡ extents_number block i
length-extents_of_file block i ne =
    ap length (cond-false (version block == 1) (own_extent block i ∷ []) (map (table_extent block) (range_with_len (first_extent block i) (extents_number block i))) (ne_eqb (version block) 1 ne))
    ∙ length-map-range_with_len (table_extent block) (first_extent block i) (extents_number block i)

pub entry-spelled : (block : List ℕ) → IsBlock block → (i : ℕ) → i < 64 → version block ≢ 1 → first_failed (name_tests block i) ≡ None
    → file_entry_bytes (file_in block i) (first_extent block i) ≡ slice_range block (32 + 32 * i) (32 + 32 * i + 32)
unfolding file_entry_bytes
entry-spelled block h i there ne named =
    let at = 32 + 32 * i in
    let tests = passed-two 6 7 (is_name_field (name_field block i)) (leb (mode_of_file block i) 1) named in
    let name : padded_field 16 (name_of_file block i) ≡ slice_range block at (at + 16) =
    name-spelled (name_field block i) (length-slice block at (at + 16) (omega arith) (omega (arith, h.whole)) ∙ omega arith) tests.0 in
    let size : number_bytes (length_of_file block i) ≡ slice_range block (at + 16) (at + 16 + 4) = number-spelled block h (at + 16) (omega arith) in
    let first : number_bytes (first_extent block i) ≡ slice_range block (at + 20) (at + 20 + 4) = number-spelled block h (at + 20) (omega arith) in
    let count : number_bytes (length (extents_of_file block i))
    ≡ slice_range block (at + 24) (at + 24 + 4) = ap number_bytes (length-extents_of_file block i ne)
    ∙ number-spelled block h (at + 24) (omega arith) in
    let mode : number_bytes (if mode_of_file block i == 1 then 1 else 0) ≡ slice_range block (at + 28) (at + 28 + 4) =
    ap number_bytes (mode-spelled (mode_of_file block i) (leb-true (mode_of_file block i) 1 tests.1)) ∙ number-spelled block h (at + 28) (omega arith) in
    five-parts block at (padded_field 16 (name_of_file block i)) (number_bytes (length_of_file block i))
    (number_bytes (first_extent block i)) (number_bytes (length (extents_of_file block i)))
    (number_bytes (if mode_of_file block i == 1 then 1 else 0)) name size first count mode

-- The extents of the files, each of which has the next ones of the table, are those of the table.
pub extents-joined : (block : List ℕ) (n : ℕ) → version block ≢ 1 → ((k : ℕ) → k < n → first_extent block k ≡ extents_before block k)
    → all_extents (map (file_in block) (range_with_len 0 n)) ≡ map (table_extent block) (range_with_len 0 (extents_before block n))
extents-joined block zero ne next = refl
extents-joined block (suc n) ne next =
    let te = table_extent block in
    let before = extents_before block n in
    let number = extents_number block n in
    let front : all_extents (map (file_in block) (range_with_len 0 n)) ≡ map te (range_with_len 0 before) = extents-joined block n ne (λ k below. next k (omega arith)) in
    let step : suc n ≡ n + 1 = omega arith in
    let more : range_with_len 0 (suc n) ≡ range_with_len 0 n ++ n ∷ [] = ap (range_with_len 0) step ∙ range-more 0 n n (omega arith) in
    let own : extents_of_file block n ≡ map te (range_with_len before number) =
    cond-false (version block == 1) (own_extent block n ∷ []) (map te (range_with_len (first_extent block n) number)) (ne_eqb (version block) 1 ne)
    ∙ ap (λ (k : ℕ). map te (range_with_len k number)) (next n (omega arith)) in
    let start : 0 + before ≡ before = omega arith in
    let count : before + number ≡ extents_before block (suc n) = sym (extents_before-more block n) ∙ ap (extents_before block) (sym step) in
    ap (λ (r : List ℕ). all_extents (map (file_in block) r)) more
    ∙ ap all_extents (map-append (file_in block) (range_with_len 0 n) (n ∷ []))
    ∙ flat_map-append (λ (f : FileInfo). f.extents) (map (file_in block) (range_with_len 0 n)) (file_in block n ∷ [])
    ∙ ap (λ (es : List Extent). all_extents (map (file_in block) (range_with_len 0 n)) ++ es) (append-nil (extents_of_file block n))
    ∙ ap (λ (es : List Extent). es ++ extents_of_file block n) front
    ∙ ap (λ (es : List Extent). map te (range_with_len 0 before) ++ es) own
    ∙ sym (map-append te (range_with_len 0 before) (range_with_len before number))
    ∙ ap (map te) (ap (λ (k : ℕ). range_with_len 0 before ++ range_with_len k number) (sym start) ∙ range-join 0 before number)
    ∙ ap (λ (n : ℕ). map te (range_with_len 0 n)) count

-- Bytes with zeros behind them, where zeros stand there.
filled-spelled : (xs : List ℕ) (at mid end size : ℕ) (bytes : List ℕ) → at ≤ mid → mid ≤ end → end ≤ length xs → size ≡ end - at
    → bytes ≡ slice_range xs at mid → are_zeros (slice_range xs mid end) ≡ true → padded_field size bytes ≡ slice_range xs at end
filled-spelled xs at mid end size bytes one two within e spelled zeros =
    let long : length bytes ≡ mid - at = ap length spelled ∙ length-slice xs at mid one (omega arith) in
    let rest : replicate (size - length bytes) 0 ≡ slice_range xs mid end =
    ap (λ (n : ℕ). replicate n 0) (omega (arith, length-slice xs mid end two within)) ∙ sym (zeros-are (slice_range xs mid end) zeros) in
    parts-joined xs at mid end bytes (replicate (size - length bytes) 0) one two spelled rest

-- A block of version 2 whose rules hold, and the files that it says.
record Second (block : List ℕ) (size : ℕ) : Type 0 where
  bytes : IsBlock block
  ne : version block ≢ 1
  two : version block ≡ 2
  header : Header block size
  files : Files2 block size

entries_of : List ℕ → List FileInfo
entries_of block = map (file_in block) (range_with_len 0 (file_count block))

length-entries : (block : List ℕ) → length (entries_of block) ≡ file_count block
unfolding entries_of
length-entries block = length-map-range_with_len (file_in block) 0 (file_count block)

extents-of-entries : (block : List ℕ) (size : ℕ) → Second block size → all_extents (entries_of block) ≡ map (table_extent block) (range_with_len 0 (extent_count block))
unfolding entries_of
extents-of-entries block size s =
    extents-joined block (file_count block) s.ne (λ k below. (s.files.each k below).next.next)
    ∙ ap (λ (n : ℕ). map (table_extent block) (range_with_len 0 n)) s.files.all

length-extents : (block : List ℕ) (size : ℕ) → Second block size → length (all_extents (entries_of block)) ≡ extent_count block
length-extents block size s = ap length (extents-of-entries block size s) ∙ length-map-range_with_len (table_extent block) 0 (extent_count block)

-- Each entry, and all of them with the zeros behind them.
entry-at-spelled : (block : List ℕ) (size : ℕ) → Second block size → (i : ℕ) → i < file_count block
    → entry_bytes (entries_of block) i ≡ slice_range block (32 + 32 * i) (32 + 32 * i + 32)
unfolding entries_of
entry-at-spelled block size s i there =
    let entries = map (file_in block) (range_with_len 0 (file_count block)) in
    let e = s.files.each i there in
    let one : entry_at entries i ≡ file_in block i = get_or-map-range_with_len (file_in block) 0 (file_count block) i i no_entry there (omega arith) in
    let front : take i entries ≡ map (file_in block) (range_with_len 0 i) = take-map-range_with_len (file_in block) 0 (file_count block) i (omega arith) in
    let first : extents_up_to entries i ≡ first_extent block i =
    ap (λ (es : List FileInfo). length (all_extents es)) front ∙ length-all_extents block i ∙ lengths-2 block i s.ne ∙ sym e.next.next in
    ap (λ (f : FileInfo). file_entry_bytes f (extents_up_to entries i)) one
    ∙ ap (file_entry_bytes (file_in block i)) first
    ∙ entry-spelled block s.bytes i (omega (arith, s.header.count)) s.ne e.name

entries-spelled : (block : List ℕ) (size : ℕ) → Second block size → padded_field 2048 (entries_bytes (entries_of block)) ≡ slice_range block 32 2080
entries-spelled block size s =
    let n = file_count block in
    let parts : entries_bytes (entries_of block) ≡ slice_range block 32 (32 + 32 * n) =
    ap (λ (k : ℕ). flat_map (entry_bytes (entries_of block)) (range_with_len 0 k)) (length-entries block)
    ∙ flat-slices block (entry_bytes (entries_of block)) 32 32 n (entry-at-spelled block size s) in
    filled-spelled block 32 (32 + 32 * n) 2080 2048 (entries_bytes (entries_of block)) (omega arith) (omega (arith, s.header.count)) (omega (arith, s.bytes.whole)) refl parts s.files.no_entry

add-four : (n : ℕ) → n + 4 + 4 ≡ n + 8
add-four n = omega arith

-- Each extent, and all of them with the zeros behind them.
extent-spelled : (block : List ℕ) → IsBlock block → (j : ℕ) → j < 252 → extent_bytes (table_extent block j) ≡ slice_range block (2080 + 8 * j) (2080 + 8 * j + 8)
unfolding extent_bytes
extent-spelled block h j there =
    let at = 2080 + 8 * j in
    let pages : number_bytes (number_at block (at + 4)) ≡ slice_range block (at + 4) (at + 8) = number-spelled block h (at + 4) (omega arith) ∙ ap (slice_range block (at + 4)) (add-four at) in
    parts-joined block at (at + 4) (at + 8) (number_bytes (number_at block at)) (number_bytes (number_at block (at + 4))) (omega arith) (omega arith) (number-spelled block h at (omega arith)) pages

extents-spelled : (block : List ℕ) (size : ℕ) → Second block size → padded_field 2016 (extents_bytes (entries_of block)) ≡ slice_range block 2080 4096
extents-spelled block size s =
    let m = extent_count block in
    let parts : extents_bytes (entries_of block) ≡ slice_range block 2080 (2080 + 8 * m) =
    ap (flat_map extent_bytes) (extents-of-entries block size s)
    ∙ flat_map-map extent_bytes (table_extent block) (range_with_len 0 m)
    ∙ flat-slices block (λ j. extent_bytes (table_extent block j)) 2080 8 m (λ j there. extent-spelled block s.bytes j (omega (arith, s.files.few))) in
    filled-spelled block 2080 (2080 + 8 * m) 4096 2016 (extents_bytes (entries_of block)) (omega arith) (omega (arith, s.files.few)) (omega (arith, s.bytes.whole)) refl parts s.files.no_extent

-- The header.
header-spelled : (block : List ℕ) (size : ℕ) → Second block size → header_bytes (table_in block size) ≡ slice_range block 0 32
unfolding header_bytes entries_of
header-spelled block size s =
    let magic : codes "SUNVMVOL" ≡ slice_range block 0 8 = sym (same-bytes (slice_range block 0 8) (codes "SUNVMVOL") s.header.magic) in
    let second : number_bytes 2 ≡ slice_range block 8 12 = ap number_bytes (sym s.two) ∙ number-spelled block s.bytes 8 (omega (arith)) in
    let blocks : number_bytes size ≡ slice_range block 12 16 = ap number_bytes (sym s.header.blocks) ∙ number-spelled block s.bytes 12 (omega arith) in
    let files : number_bytes (length (entries_of block)) ≡ slice_range block 16 20 = ap number_bytes (length-entries block) ∙ number-spelled block s.bytes 16 (omega arith) in
    let extents : number_bytes (length (all_extents (entries_of block))) ≡ slice_range block 20 24 = ap number_bytes (length-extents block size s) ∙ number-spelled block s.bytes 20 (omega arith) in
    let zeros : replicate 8 0
    ≡ slice_range block 24 32 = sym
    (zeros-are (slice_range block 24 32) s.files.zeros
    ∙ ap (λ (n : ℕ). replicate n 0) (length-slice block 24 32 (omega arith) (omega (arith, s.bytes.whole))))
    in
    let p2 = parts-joined block 0 8 12 (codes "SUNVMVOL") (number_bytes 2) (omega arith) (omega arith) magic second in
    let p3 = parts-joined block 0 12 16 (codes "SUNVMVOL" ++ number_bytes 2) (number_bytes size) (omega arith) (omega arith) p2 blocks in
    let p4 = parts-joined block 0 16 20 (codes "SUNVMVOL" ++ number_bytes 2 ++ number_bytes size) (number_bytes (length (entries_of block))) (omega arith) (omega arith) p3 files in
    let p5 = parts-joined block 0 20 24
    (codes "SUNVMVOL" ++ number_bytes 2 ++ number_bytes size ++ number_bytes (length (entries_of block)))
    (number_bytes (length (all_extents (entries_of block)))) (omega arith) (omega arith) p4 extents in
    parts-joined block 0 24 32
    (codes "SUNVMVOL" ++ number_bytes 2 ++ number_bytes size ++ number_bytes (length (entries_of block))
    ++ number_bytes (length (all_extents (entries_of block))))
    (replicate 8 0) (omega arith) (omega arith) p5 zeros

-- The whole block.
pub block-spelled : (block : List ℕ) (blocks : ℕ) → IsBlock block → version block ≡ 2 → first_failed (tests block blocks) ≡ None → encoding (table_in block blocks) ≡ block
unfolding encoding entries_of
block-spelled block blocks h two passed =
    let p = tests-passed block blocks passed in
    let ne : version block ≢ 1 = λ e. absurd (omega (arith, e, two)) in
    let s : Second block blocks = record { bytes = h; ne = ne; two = two; header = p.header; files = p.second ne } in
    let lower : padded_field 2048 (entries_bytes (entries_of block)) ++ padded_field 2016 (extents_bytes (entries_of block)) ≡ slice_range block 32 4096 =
    parts-joined block 32 2080 4096 (padded_field 2048 (entries_bytes (entries_of block)))
    (padded_field 2016 (extents_bytes (entries_of block))) (omega arith) (omega arith) (entries-spelled block blocks s)
    (extents-spelled block blocks s) in
    parts-joined block 0 32 4096 (header_bytes (table_in block blocks))
    (padded_field 2048 (entries_bytes (entries_of block)) ++ padded_field 2016 (extents_bytes (entries_of block))) (omega arith)
    (omega arith) (header-spelled block blocks s) lower
    ∙ take_all 4096 block (omega (arith, h.whole))
