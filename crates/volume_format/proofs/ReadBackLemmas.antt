-- A block with the fields of a volume's table keeps every rule, and says that table.
use Rattle.std.proofs.Common.{ℕ, zero, suc, ◌≡◌, ◌≢◌, ◌<◌, ◌≤◌, ◌+◌, ◌-◌, ◌*◌, Bool, true, false, ◌&&◌, ◌||◌, not, eqb, ltb, leb, List, [], ◌∷◌, ◌++◌}
use Rattle.std.proofs.Common.{None, Ok, length, take, drop, map, get_or, replicate, refl, ap, sym, subst, ◌∙◌, arith, length-append}
use Rattle.std.specs.Prelude.{◌==◌, if◌then◌else◌, slice_range, codes}
use Rattle.std.specs.List.{flat_map, list_all, list_any, range_with_len, prefix_len}
use Rattle.std.proofs.lemmas.Bool.{and_parts, and_from, or_left, or_right, not_from_false, false_from_ne_true, lt-ltb, le-leb, eq-eqb, ne_eqb, cond-false}
use Rattle.std.proofs.lemmas.List.{take_all, drop_at, take_at, ext_get_or, get_or_append_left, get_or-append_right, get_or-replicate, length-replicate}
use Rattle.std.proofs.lemmas.List.Sums.{prefix_len_is}
use Rattle.std.proofs.lemmas.List.Concat.{get_or-flat_map}
use Rattle.std.proofs.lemmas.List.FromFn.{fill_by_all, length-map-range_with_len, get_or-map-range_with_len}
use Rattle.std.proofs.lemmas.Slice.Eq.{compares_Decides}
use Rattle.vnode_files.specs.declared.extent.Extent.{Extent}
use Rattle.vnode_files.specs.declared.vnode.FileInfo.{FileInfo}
use Rattle.vnode_files.specs.Grow.{extent_end, page_count}
use Rattle.volume_format.specs.Table.{TableSeen, all_extents, entry_at, no_entry, front_block}
use Rattle.volume_format.specs.Layout.{number_at, are_same, are_zeros, has_magic, version, file_count, entry_start, extent_start, name_field}
use Rattle.volume_format.specs.Layout.{text_before_zero, name_of_file, length_of_file, mode_of_file, extent_count, table_extent, own_extent}
use Rattle.volume_format.specs.Layout.{first_extent, extents_number, extents_of_file, file_in, table_in}
use Rattle.volume_format.specs.Rules.{test, first_failed, is_table_name_byte, is_name_field, is_on_disk, do_meet, header_tests, header_tests_1}
use Rattle.volume_format.specs.Rules.{header_tests_2, name_tests, extents_before, extents_test, extent_tests, order_test_2, new_name_test}
use Rattle.volume_format.specs.Rules.{last_tests_2, entry_tests_2, end_tests_2, file_tests_1, file_tests_2, tests, reading}
use Rattle.volume_format.specs.Writing.{padded_field, entries_bytes, extents_bytes, extents_up_to, encoding}
use Rattle.volume_format.specs.Volume.{extent_at, IsVolumeName, IsVolumeTable}
use Rattle.volume_format.proofs.TestLemmas.{passes-test, passes-append, passes-each}
use Rattle.volume_format.proofs.PassedLemmas.{extents_before-more}
use Rattle.volume_format.proofs.TableLemmas.{extents-more}
use Rattle.volume_format.proofs.SliceLemmas.{zeros-of}
use Rattle.volume_format.proofs.SpellingLemmas.{are_same-is, same-bytes}
use Rattle.volume_format.proofs.EncodedLemmas.{sizes, Fields, fields, up-to-within, length-encoding}
use Rattle.volume_format.proofs.ReadingLemmas.{reading-told, zeros-version}

-- None of a row of numbers passes.
any-none : (p : ℕ → Bool) (a n : ℕ) → ((k : ℕ) → a ≤ k → k < a + n → p k ≡ false) → list_any p (range_with_len a n) ≡ false
any-none p a zero each = refl
any-none p a (suc n) each =
    ap (λ (b : Bool). b || list_any p (range_with_len (a + 1) n)) (each a (omega arith) (omega arith))
    ∙ any-none p (a + 1) n (λ k low high. each k (omega arith) (omega arith))

other-bytes : (xs ys : List ℕ) → xs ≢ ys → are_same xs ys ≡ false
other-bytes xs ys ne = false_from_ne_true (are_same xs ys) (λ same. ne (same-bytes xs ys same))

-- A name with zeros behind it.
each-passes : (p : ℕ → Bool) (xs : List ℕ) → list_all p xs ≡ true → (k : ℕ) → k < length xs → p (get_or xs k 0) ≡ true
each-passes p [] h k there = absurd (omega arith)
each-passes p (x ∷ xs) h zero there = (and_parts (p x) (list_all p xs) h).0
each-passes p (x ∷ xs) h (suc k) there = each-passes p xs (and_parts (p x) (list_all p xs) h).1 k (omega arith)

not-zero : (b : ℕ) → is_table_name_byte b ≡ true → not (eqb b 0) ≡ true
unfolding is_table_name_byte
not-zero zero h = absurd cc
not-zero (suc b) h = not_from_false (eqb (suc b) 0) (ne_eqb (suc b) 0 (λ e. omega (arith, e)))

pub name-read : (name : List ℕ) → IsVolumeName name → text_before_zero (padded_field 16 name) ≡ name
name-read name h =
    let p = λ (b : ℕ). not (eqb b 0) in
    let zeros : List ℕ = replicate (16 - length name) 0 in
    let size = length-append name zeros in
    let many : length zeros ≡ 16 - length name = length-replicate {A = ℕ} (16 - length name) 0 in
    let count : prefix_len (λ b. not (eqb b 0)) (name ++ zeros) ≡ length name =
    prefix_len_is (λ b. not (eqb b 0)) (name ++ zeros) (length name) 0 (omega (arith, size))
    (λ k there. ap (λ b. not (eqb b 0)) (get_or_append_left name zeros 0 k there) ∙ not-zero (get_or name k 0) (each-passes is_table_name_byte name h.bytes k there))
    (λ more. ap (λ b. not (eqb b 0))
    (get_or-append_right name zeros (length name) (length name) 0 refl (omega arith)
    ∙ get_or-replicate (16 - length name) (length name - length name) 0 0 (omega (arith, size, many))))
    in
    ap (λ n. take n (name ++ zeros)) count ∙ take_at name zeros (length name) refl

pub name-field : (name : List ℕ) → IsVolumeName name → is_name_field (padded_field 16 name) ≡ true
name-field name h =
    let zeros : List ℕ = replicate (16 - length name) 0 in
    let read = name-read name h in
    let behind : are_zeros (drop (length name) (name ++ zeros)) ≡ true = ap are_zeros (drop_at name zeros (length name) refl) ∙ zeros-of (16 - length name) in
    ap (λ (n : List ℕ). ltb 0 (length n) && list_all is_table_name_byte n && are_zeros (drop (length n) (name ++ zeros)) && not (are_same n (codes "zero"))) read
    ∙ and_from (ltb 0 (length name) && list_all is_table_name_byte name && are_zeros (drop (length name) (name ++ zeros))) (not (are_same name (codes "zero")))
    (and_from (ltb 0 (length name) && list_all is_table_name_byte name) (are_zeros (drop (length name) (name ++ zeros)))
    (and_from (ltb 0 (length name)) (list_all is_table_name_byte name) (lt-ltb 0 (length name) (omega (arith, h.some))) h.bytes) behind)
    (not_from_false (are_same name (codes "zero")) (other-bytes name (codes "zero") h.other))

-- A table of a volume, and a block with its fields.
record Spelled (t : TableSeen) (block : List ℕ) : Type 0 where
  table : IsVolumeTable t
  fields : Fields t block

ne-one : (t : TableSeen) (block : List ℕ) → Spelled t block → version block ≢ 1
ne-one t block s e = omega (arith, e, s.fields.two)

-- The files before one have as many extents as the fields say.
before-is : (t : TableSeen) (block : List ℕ) → Spelled t block → (i : ℕ) → i ≤ length t.entries → extents_before block i ≡ extents_up_to t.entries i
before-is t block s zero within = refl
before-is t block s (suc i) within =
    let step : suc i ≡ i + 1 = omega arith in
    let front : extents_before block i ≡ extents_up_to t.entries i = before-is t block s i (omega arith) in
    let own : extents_number block i ≡ length (entry_at t.entries i).extents = s.fields.count i (omega arith) in
    let more : extents_up_to t.entries (i + 1) ≡ extents_up_to t.entries i + length (entry_at t.entries i).extents =
    ap length (extents-more t.entries i (omega arith)) ∙ length-append (all_extents (take i t.entries)) (entry_at t.entries i).extents in
    ap (extents_before block) step
    ∙ extents_before-more block i
    ∙ omega (arith, front, own, more)
    ∙ ap (extents_up_to t.entries) (sym step)

-- The extents of a file, one by one and all of them.
own-extent : (t : TableSeen) (block : List ℕ) → Spelled t block → (i k : ℕ) → i < length t.entries → k < length (entry_at t.entries i).extents
    → table_extent block (first_extent block i + k) ≡ extent_at (entry_at t.entries i).extents k
own-extent t block s i k there within =
    let none : Extent = record { start = 0; pages = 0 } in
    let room = up-to-within t.entries i there in
    ap (λ (n : ℕ). table_extent block (n + k)) (s.fields.first i there)
    ∙ s.fields.extent (extents_up_to t.entries i + k) (omega arith)
    ∙ get_or-flat_map (λ (f : FileInfo). f.extents) t.entries i k no_entry none there within

own-extents : (t : TableSeen) (block : List ℕ) → Spelled t block → (i : ℕ) → i < length t.entries → extents_of_file block i ≡ (entry_at t.entries i).extents
own-extents t block s i there =
    let none : Extent = record { start = 0; pages = 0 } in
    let own = (entry_at t.entries i).extents in
    let te = table_extent block in
    let first = first_extent block i in
    let number = extents_number block i in
    let size : length (map te (range_with_len first number)) ≡ length own = length-map-range_with_len te first number ∙ s.fields.count i there in
    cond-false (version block == 1) (own_extent block i ∷ []) (map te (range_with_len first number)) (ne_eqb (version block) 1 (ne-one t block s))
    ∙ ext_get_or none (map te (range_with_len first number)) own size
    (λ k within. get_or-map-range_with_len te first number k (first + k) none (omega (arith, length-map-range_with_len te first number)) refl
    ∙ own-extent t block s i k there (omega arith))

name-is : (t : TableSeen) (block : List ℕ) → Spelled t block → (i : ℕ) → i < length t.entries → name_of_file block i ≡ (entry_at t.entries i).name
name-is t block s i there = ap text_before_zero (s.fields.name i there) ∙ name-read (entry_at t.entries i).name (s.table.files i there).name

-- The tests of an entry: its name and mode.
mode-low : (b : Bool) → (if b then 1 else 0) ≤ 1
mode-low true = omega arith
mode-low false = omega arith

names-hold : (t : TableSeen) (block : List ℕ) → Spelled t block → (i : ℕ) → i < length t.entries → first_failed (name_tests block i) ≡ None
names-hold t block s i there =
    let named : is_name_field (name_field block i) ≡ true = ap is_name_field (s.fields.name i there) ∙ name-field (entry_at t.entries i).name (s.table.files i there).name in
    let low = mode-low (entry_at t.entries i).writable in
    let mode : leb (mode_of_file block i) 1 ≡ true = le-leb (mode_of_file block i) 1 (omega (arith, low, s.fields.mode i there)) in
    passes-test 6 (is_name_field (name_field block i)) (test 7 (leb (mode_of_file block i) 1) ∷ []) named (passes-test 7 (leb (mode_of_file block i) 1) [] mode refl)

-- Its place among the extents.
next-holds : (t : TableSeen) (block : List ℕ) → Spelled t block → (i : ℕ) → i < length t.entries → (extents_test block i).holds ≡ true
next-holds t block s i there =
    let first = first_extent block i in
    let number = extents_number block i in
    let next : first ≡ extents_before block i = s.fields.first i there ∙ sym (before-is t block s i (omega arith)) in
    let some : 0 < number = omega (arith, s.fields.count i there, (s.table.files i there).some) in
    let within : first + number ≤ extent_count block = omega (arith, s.fields.first i there, s.fields.count i there, s.fields.extents, up-to-within t.entries i there) in
    and_from (eqb first (extents_before block i) && ltb 0 number) (leb (first + number) (extent_count block))
    (and_from (eqb first (extents_before block i)) (ltb 0 number) (eq-eqb first (extents_before block i) next) (lt-ltb 0 number some))
    (le-leb (first + number) (extent_count block) within)

-- Each of its extents.
parted-from : (t : TableSeen) (block : List ℕ) → Spelled t block → (i k : ℕ) → i < length t.entries → k < length (entry_at t.entries i).extents
    → ((first_extent block i + k == first_extent block i) || not (extent_end (table_extent block (first_extent block i + k - 1)) == (table_extent block (first_extent block i + k)).start)) ≡ true
parted-from t block s i zero there within =
    let first = first_extent block i in
    or_left (first + 0 == first) (not (extent_end (table_extent block (first + 0 - 1)) == (table_extent block (first + 0)).start)) (eq-eqb (first + 0) first (omega arith))
parted-from t block s i (suc k) there within =
    let first = first_extent block i in
    let own = (entry_at t.entries i).extents in
    let back : first + suc k - 1 ≡ first + k = omega arith in
    let step : suc k ≡ k + 1 = omega arith in
    let before : extent_end (table_extent block (first + suc k - 1))
    ≡ extent_end (extent_at own k) = ap (λ (n : ℕ). extent_end (table_extent block n)) back
    ∙ ap extent_end (own-extent t block s i k there (omega arith)) in
    let here : (table_extent block (first + suc k)).start ≡ (extent_at own (k + 1)).start = ap (λ (e : Extent). e.start) (own-extent t block s i (suc k) there within ∙ ap (extent_at own) step) in
    or_right (first + suc k == first) (not (extent_end (table_extent block (first + suc k - 1)) == (table_extent block (first + suc k)).start))
    (not_from_false (extent_end (table_extent block (first + suc k - 1)) == (table_extent block (first + suc k)).start)
    (ne_eqb (extent_end (table_extent block (first + suc k - 1))) (table_extent block (first + suc k)).start
    (λ e. (s.table.files i there).parted k (omega arith) (sym before ∙ e ∙ here))))

extent-holds : (t : TableSeen) (block : List ℕ) → Spelled t block → (i k : ℕ) → i < length t.entries → k < length (entry_at t.entries i).extents
    → first_failed (extent_tests block t.blocks i (first_extent block i + k)) ≡ None
extent-holds t block s i k there within =
    let j = first_extent block i + k in
    let room = up-to-within t.entries i there in
    let inside : j < length (all_extents t.entries) = omega (arith, s.fields.first i there) in
    let place : is_on_disk t.blocks (table_extent block j) ≡ true = ap (is_on_disk t.blocks) (own-extent t block s i k there within) ∙ (s.table.files i there).places k within in
    let apart : list_any (λ n. do_meet (table_extent block n) (table_extent block j)) (range_with_len 0 j) ≡ false =
    any-none (λ n. do_meet (table_extent block n) (table_extent block j)) 0 j (λ n low high.
    ap (λ (e : Extent). do_meet e (table_extent block j)) (s.fields.extent n (omega arith))
    ∙ ap (do_meet (extent_at (all_extents t.entries) n)) (s.fields.extent j inside)
    ∙ s.table.apart j n (omega arith) inside) in
    let parted = parted-from t block s i k there within in
    let meets = list_any (λ n. do_meet (table_extent block n) (table_extent block j)) (range_with_len 0 j) in
    let stands = (j == first_extent block i) || not (extent_end (table_extent block (j - 1)) == (table_extent block j).start) in
    passes-test 16 (is_on_disk t.blocks (table_extent block j)) (test 17 (not meets) ∷ test 18 stands ∷ []) place
    (passes-test 17 (not meets) (test 18 stands ∷ []) (not_from_false meets apart)
    (passes-test 18 stands [] parted refl))

-- Its length, its order and its name.
pub front-is : (extents : List Extent) → 1 ≤ length extents → front_block extents ≡ (extent_at extents 0).start
front-is [] some = absurd (omega arith)
front-is (e ∷ es) some = refl

first-start : (t : TableSeen) (block : List ℕ) → Spelled t block → (i : ℕ) → i < length t.entries → (table_extent block (first_extent block i)).start ≡ front_block (entry_at t.entries i).extents
first-start t block s i there =
    let some = (s.table.files i there).some in
    let same : first_extent block i ≡ first_extent block i + 0 = omega arith in
    ap (λ (n : ℕ). (table_extent block n).start) same
    ∙ ap (λ (e : Extent). e.start) (own-extent t block s i 0 there (omega arith))
    ∙ sym (front-is (entry_at t.entries i).extents some)

order-holds : (t : TableSeen) (block : List ℕ) → Spelled t block → (i : ℕ) → i < length t.entries → (order_test_2 block i).holds ≡ true
order-holds t block s zero there = refl
order-holds t block s (suc i) there =
    let before = (table_extent block (first_extent block (suc i - 1))).start in
    let here = (table_extent block (first_extent block (suc i))).start in
    let back : suc i - 1 ≡ i = omega arith in
    let step : i + 1 ≡ suc i = omega arith in
    let one : before ≡ front_block (entry_at t.entries i).extents = ap (λ (n : ℕ). (table_extent block (first_extent block n)).start) back ∙ first-start t block s i (omega arith) in
    let two : here ≡ front_block (entry_at t.entries (suc i)).extents = first-start t block s (suc i) there in
    let least : front_block (entry_at t.entries i).extents < front_block (entry_at t.entries (suc i)).extents =
    subst (λ (n : ℕ). front_block (entry_at t.entries i).extents < front_block (entry_at t.entries n).extents) step (s.table.order i (omega arith)) in
    or_right (suc i == 0) (ltb before here) (lt-ltb before here (omega (arith, one, two, least)))

last-holds : (t : TableSeen) (block : List ℕ) → Spelled t block → (i : ℕ) → i < length t.entries → first_failed (last_tests_2 block i) ≡ None
last-holds t block s i there =
    let e = entry_at t.entries i in
    let pages : page_count (extents_of_file block i) ≡ page_count e.extents = ap page_count (own-extents t block s i there) in
    let fits : leb (length_of_file block i) (page_count (extents_of_file block i) * 4096) ≡ true =
    le-leb (length_of_file block i) (page_count (extents_of_file block i) * 4096) (omega (arith, s.fields.size i there, pages, (s.table.files i there).within)) in
    let same = λ (k : ℕ). are_same (name_of_file block k) (name_of_file block i) in
    let others : list_any (λ k. are_same (name_of_file block k) (name_of_file block i)) (range_with_len 0 i) ≡ false =
    any-none (λ k. are_same (name_of_file block k) (name_of_file block i)) 0 i (λ k low high.
    other-bytes (name_of_file block k) (name_of_file block i) (λ is.
    s.table.names i k (omega arith) there (sym (name-is t block s k (omega arith)) ∙ is ∙ name-is t block s i there))) in
    let taken = list_any (λ k. are_same (name_of_file block k) (name_of_file block i)) (range_with_len 0 i) in
    passes-test 9 (leb (length_of_file block i) (page_count (extents_of_file block i) * 4096)) (order_test_2 block i ∷ new_name_test block i ∷ []) fits
    (passes-test 10 (order_test_2 block i).holds (new_name_test block i ∷ []) (order-holds t block s i there)
    (passes-test 11 (not taken) [] (not_from_false taken others) refl))

entry-holds : (t : TableSeen) (block : List ℕ) → Spelled t block → (i : ℕ) → i < length t.entries → first_failed (entry_tests_2 block t.blocks i) ≡ None
unfolding entry_tests_2
entry-holds t block s i there =
    let first = first_extent block i in
    let number = extents_number block i in
    let extents = flat_map (extent_tests block t.blocks i) (range_with_len first number) in
    let each : first_failed extents ≡ None = passes-each (extent_tests block t.blocks i) first number (λ j low high.
    let from : first + (j - first) ≡ j = omega arith in
    subst (λ (n : ℕ). first_failed (extent_tests block t.blocks i n) ≡ None) from (extent-holds t block s i (j - first) there (omega (arith, s.fields.count i there)))) in
    passes-append (name_tests block i) (extents_test block i ∷ (extents ++ last_tests_2 block i)) (names-hold t block s i there)
    (passes-test 15 (extents_test block i).holds (extents ++ last_tests_2 block i) (next-holds t block s i there)
    (passes-append extents (last_tests_2 block i) each (last-holds t block s i there)))

-- The header, and what follows the entries.
are-zeros : (bytes : List ℕ) (n : ℕ) → bytes ≡ replicate n 0 → are_zeros bytes ≡ true
are-zeros bytes n e = ap are_zeros e ∙ zeros-of n

header-holds : (t : TableSeen) (block : List ℕ) → Spelled t block → first_failed (header_tests block t.blocks) ≡ None
header-holds t block s =
    let f = s.fields in
    let magic : has_magic block ≡ true = (compares_Decides are_same are_same-is (slice_range block 0 8) (codes "SUNVMVOL")).1 f.magic in
    let known = (version block == 1) || (version block == 2) in
    let second : known ≡ true = or_right (version block == 1) (version block == 2) (eq-eqb (version block) 2 f.two) in
    passes-test 1 (has_magic block) (test 2 known ∷ test 3 (number_at block 12 == t.blocks) ∷ test 4 (leb (file_count block) 64) ∷ []) magic
    (passes-test 2 known (test 3 (number_at block 12 == t.blocks) ∷ test 4 (leb (file_count block) 64) ∷ []) second
    (passes-test 3 (number_at block 12 == t.blocks) (test 4 (leb (file_count block) 64) ∷ []) (eq-eqb (number_at block 12) t.blocks f.blocks)
    (passes-test 4 (leb (file_count block) 64) [] (le-leb (file_count block) 64 (omega (arith, f.files, s.table.room.files))) refl)))

end-holds : (t : TableSeen) (block : List ℕ) → Spelled t block → (m n : ℕ)
    → slice_range block (entry_start (length t.entries)) 2080 ≡ replicate m 0 → slice_range block (extent_start (length (all_extents t.entries))) 4096 ≡ replicate n 0
    → first_failed (end_tests_2 block) ≡ None
end-holds t block s m n entries extents =
    let f = s.fields in
    let whole = ap (λ (es : List FileInfo). length (all_extents es)) (take_all (length t.entries) t.entries (omega arith)) in
    let all : extents_before block (file_count block) ≡ extent_count block =
    ap (extents_before block) f.files ∙ before-is t block s (length t.entries) (omega arith) ∙ whole ∙ sym f.extents in
    let no_entry : are_zeros (slice_range block (entry_start (file_count block)) 2080) ≡ true =
    are-zeros (slice_range block (entry_start (file_count block)) 2080) m (ap (λ (k : ℕ). slice_range block (entry_start k) 2080) f.files ∙ entries) in
    let no_extent : are_zeros (slice_range block (extent_start (extent_count block)) 4096) ≡ true =
    are-zeros (slice_range block (extent_start (extent_count block)) 4096) n (ap (λ (k : ℕ). slice_range block (extent_start k) 4096) f.extents ∙ extents) in
    let ends = are_zeros (slice_range block (entry_start (file_count block)) 2080) && are_zeros (slice_range block (extent_start (extent_count block)) 4096) in
    passes-test 19 (extents_before block (file_count block) == extent_count block) (test 12 ends ∷ []) (eq-eqb (extents_before block (file_count block)) (extent_count block) all)
    (passes-test 12 ends []
    (and_from (are_zeros (slice_range block (entry_start (file_count block)) 2080))
    (are_zeros (slice_range block (extent_start (extent_count block)) 4096)) no_entry no_extent)
    refl)

-- Every rule.
tests-hold : (t : TableSeen) (block : List ℕ) (m n : ℕ) → Spelled t block
    → slice_range block (entry_start (length t.entries)) 2080 ≡ replicate m 0 → slice_range block (extent_start (length (all_extents t.entries))) 4096 ≡ replicate n 0
    → first_failed (tests block t.blocks) ≡ None
unfolding tests file_tests_2
tests-hold t block m n s entries extents =
    let f = s.fields in
    let files_1 = header_tests_1 block ++ file_tests_1 block t.blocks in
    let files_2 = header_tests_2 block ++ file_tests_2 block t.blocks in
    let zeros = are_zeros (slice_range block 24 32) in
    let few : leb (extent_count block) 252 ≡ true = le-leb (extent_count block) 252 (omega (arith, f.extents, s.table.room.extents)) in
    let header : first_failed (header_tests_2 block) ≡ None =
    passes-test 14 (leb (extent_count block) 252) (test 5 zeros ∷ []) few (passes-test 5 zeros [] (are-zeros (slice_range block 24 32) 8 f.zeros) refl) in
    let each : first_failed (flat_map (entry_tests_2 block t.blocks) (range_with_len 0 (file_count block))) ≡ None =
    passes-each (entry_tests_2 block t.blocks) 0 (file_count block) (λ i low high. entry-holds t block s i (omega (arith, f.files))) in
    let second : first_failed (header_tests_2 block ++ file_tests_2 block t.blocks) ≡ None =
    passes-append (header_tests_2 block) (file_tests_2 block t.blocks) header
    (passes-append (flat_map (entry_tests_2 block t.blocks) (range_with_len 0 (file_count block))) (end_tests_2 block) each (end-holds t block s m n entries extents)) in
    passes-append (header_tests block t.blocks) (if version block == 1 then files_1 else files_2) (header-holds t block s)
    (ap first_failed (cond-false (version block == 1) files_1 files_2 (ne_eqb (version block) 1 (ne-one t block s))) ∙ second)

-- The table of the fields.
mode-read : (b : Bool) → ((if b then 1 else 0) == 1) ≡ b
mode-read true = refl
mode-read false = refl

file-is : (t : TableSeen) (block : List ℕ) → Spelled t block → (i : ℕ) → i < length t.entries → file_in block i ≡ entry_at t.entries i
file-is t block s i there =
    let e = entry_at t.entries i in
    let name : name_of_file block i ≡ e.name = name-is t block s i there in
    let disk : 0 ≡ e.disk = sym (s.table.files i there).disk in
    let extents : extents_of_file block i ≡ e.extents = own-extents t block s i there in
    let size : length_of_file block i ≡ e.length = s.fields.size i there in
    let mode : (mode_of_file block i == 1) ≡ e.writable = ap (λ (n : ℕ). n == 1) (s.fields.mode i there) ∙ mode-read e.writable in
    λ p. record { name = name p; disk = disk p; extents = extents p; length = size p; writable = mode p }

table-is : (t : TableSeen) (block : List ℕ) → Spelled t block → table_in block t.blocks ≡ t
table-is t block s =
    let files : map (file_in block) (range_with_len 0 (file_count block)) ≡ t.entries =
    ap (λ (n : ℕ). map (file_in block) (range_with_len 0 n)) s.fields.files
    ∙ sym (fill_by_all (file_in block) t.entries (length t.entries) no_entry refl (λ i there. sym (file-is t block s i there))) in
    ap (λ (es : List FileInfo). record { blocks = t.blocks; entries = es }) files

-- The spelling of a volume's table is read as this table.
pub read-back : (t : TableSeen) → IsVolumeTable t → reading (encoding t) t.blocks ≡ Ok t
read-back t h =
    let block = encoding t in
    let f = fields t h in
    let s : Spelled t (encoding t) = record { table = h; fields = f } in
    let some : are_zeros block ≡ false = false_from_ne_true (are_zeros block) (λ zeros. omega (arith, f.two, zeros-version block (length-encoding t (sizes t h)) zeros)) in
    reading-told block t.blocks None some (tests-hold t block (2048 - length (entries_bytes t.entries)) (2016 - length (extents_bytes t.entries)) s f.no_entry f.no_extent)
    ∙ ap (λ (v : TableSeen). Ok v) (table-is t block s)
