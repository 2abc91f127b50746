-- What a block says, in which every rule holds, is the table of a volume.
use Rattle.std.proofs.Common.{ℕ, zero, suc, ◌≡◌, ◌≢◌, ◌<◌, ◌≤◌, ◌+◌, ◌-◌, ◌*◌, ◌^◌, Bool, true, false, ◌&&◌, ◌||◌, not, eqb, ltb, leb, List, [], ◌∷◌}
use Rattle.std.proofs.Common.{◌++◌, None, length, drop, map, refl, ap, sym, subst, ◌∙◌, inl, inr, arith}
use Rattle.std.specs.Prelude.{◌==◌, if◌then◌else◌, codes}
use Rattle.std.specs.List.{flat_map, list_all, list_any, range_with_len}
use Rattle.std.proofs.lemmas.Bool.{cases_eq, cases_lt, and_parts, and_right, or_parts, or_cases, not-true, leb-true, ltb-true, le-ltb, eqb-false}
use Rattle.std.proofs.lemmas.Bool.{eqb-true, eq-eqb, ne_eqb, cond-true, cond-false, both_ways}
use Rattle.std.proofs.lemmas.List.Sums.{prefix_len-le-length}
use Rattle.std.proofs.lemmas.List.Folds.{length-prefix_len, flat_map-map}
use Rattle.std.proofs.lemmas.List.Concat.{flat_map_single}
use Rattle.std.proofs.lemmas.List.FromFn.{length-map-range_with_len, get_or-map-range_with_len}
use Rattle.std.proofs.lemmas.Slice.Eq.{compares_Decides}
use Rattle.vnode_files.specs.declared.extent.Extent.{Extent}
use Rattle.vnode_files.specs.declared.vnode.FileInfo.{FileInfo}
use Rattle.vnode_files.specs.Grow.{extent_end, page_count}
use Rattle.volume_format.specs.Table.{empty_table, all_extents, no_entry, front_block}
use Rattle.volume_format.specs.Layout.{number_at, are_same, are_zeros, version, file_count, name_field, text_before_zero, name_of_file}
use Rattle.volume_format.specs.Layout.{length_of_file, extent_count, table_extent, own_extent, first_extent, extents_number, extents_of_file, file_in}
use Rattle.volume_format.specs.Layout.{table_in}
use Rattle.volume_format.specs.Rules.{first_failed, is_table_name_byte, is_name_field, is_on_disk, do_meet, name_tests, extents_before, extent_tests}
use Rattle.volume_format.specs.Rules.{extent_tests_1, length_test, order_test_1, order_test_2, new_name_test, last_tests_1, entry_tests_1, tests}
use Rattle.volume_format.specs.Volume.{extent_at, IsVolumeName, IsVolumeFile, IsVolumeTable}
use Rattle.volume_format.proofs.TestLemmas.{passed-test, passed-three, passed-append, passed-each}
use Rattle.volume_format.proofs.PassedLemmas.{Files1, Files2, Passed, tests-passed, passed-room, entry-named, extents_before-more}
use Rattle.volume_format.proofs.SliceLemmas.{length-slice}
use Rattle.volume_format.proofs.SpellingLemmas.{IsBlock, bytes-slice, are_same-is, extents-joined, length-extents_of_file as count-2}
use Rattle.volume_format.proofs.EncodedLemmas.{on_disk-from}

number-fits : (block : List ℕ) → IsBlock block → (at : ℕ) → number_at block at < 2 ^ 32
unfolding number_at
number-fits block h at =
    omega (arith, bytes-slice block h.bytes at (at + 4) 0, bytes-slice block h.bytes at (at + 4) 1, bytes-slice block h.bytes at (at + 4) 2, bytes-slice block h.bytes at (at + 4) 3)

any-each : (p : ℕ → Bool) (a n k : ℕ) → list_any p (range_with_len a n) ≡ false → a ≤ k → k < a + n → p k ≡ false
any-each p a zero k h low high = absurd (omega arith)
any-each p a (suc n) k h low high =
    let parts = or_parts (p a) (list_any p (range_with_len (a + 1) n)) h in
    elim (cases_eq a k) [
      | inl e ↦ ap p (sym e) ∙ parts.0
      | inr ne ↦ any-each p (a + 1) n k parts.1 (omega arith) (omega arith)
    ]

differ : (xs ys : List ℕ) → are_same xs ys ≡ false → xs ≢ ys
differ xs ys h e = both_ways (are_same xs ys) h ((compares_Decides are_same are_same-is xs ys).1 e)

-- The name in a field that is a name.
name-from : (field : List ℕ) → length field ≡ 16 → is_name_field field ≡ true → IsVolumeName (text_before_zero field)
name-from field size h =
    let name = text_before_zero field in
    let p = λ (b : ℕ). not (eqb b 0) in
    let outer = and_parts (ltb 0 (length name) && list_all is_table_name_byte name && are_zeros (drop (length name) field)) (not (are_same name (codes "zero"))) h in
    let middle = and_parts (ltb 0 (length name) && list_all is_table_name_byte name) (are_zeros (drop (length name) field)) outer.0 in
    let inner = and_parts (ltb 0 (length name)) (list_all is_table_name_byte name) middle.0 in
    record {
      some = ltb-true 0 (length name) inner.0;
      short = omega (arith, length-prefix_len (λ b. not (eqb b 0)) field, prefix_len-le-length (λ b. not (eqb b 0)) field, size);
      bytes = inner.1;
      other = differ name (codes "zero") (not-true (are_same name (codes "zero")) outer.1);
    }

-- What holds of each file in either version.
record Facts (block : List ℕ) (i : ℕ) : Type 0 where
  name : IsVolumeName (name_of_file block i)
  within : length_of_file block i ≤ page_count (extents_of_file block i) * 4096
  other : (k : ℕ) → k < i → name_of_file block k ≢ name_of_file block i

facts : (block : List ℕ) → IsBlock block → (i : ℕ) → i < 64 → first_failed (name_tests block i) ≡ None
    → (length_test block i).holds ≡ true → (new_name_test block i).holds ≡ true → Facts block i
facts block h i there named nine eleven =
    let taken = list_any (λ k. are_same (name_of_file block k) (name_of_file block i)) (range_with_len 0 i) in
    record {
      name = name-from (name_field block i) (length-slice block (32 + 32 * i) (32 + 32 * i + 16) (omega arith) (omega (arith, h.whole)) ∙ omega arith) (entry-named block i named);
      within = leb-true (length_of_file block i) (page_count (extents_of_file block i) * 4096) nine;
      other = λ k below. differ (name_of_file block k) (name_of_file block i)
          (any-each (λ k. are_same (name_of_file block k) (name_of_file block i)) 0 i k (not-true taken eleven) (omega arith) (omega arith));
    }

-- What both versions owe: each file's facts and its extents, the order, and that no two extents meet.
record Owed (block : List ℕ) (blocks : ℕ) : Type 0 where
  facts : (i : ℕ) → i < file_count block → Facts block i
  some : (i : ℕ) → i < file_count block → 1 ≤ length (extents_of_file block i)
  places : (i j : ℕ) → i < file_count block → j < length (extents_of_file block i) → is_on_disk blocks (extent_at (extents_of_file block i) j) ≡ true
  parted : (i j : ℕ) → i < file_count block → j + 1 < length (extents_of_file block i)
      → extent_end (extent_at (extents_of_file block i) j) ≢ (extent_at (extents_of_file block i) (j + 1)).start
  order : (i : ℕ) → i + 1 < file_count block → front_block (extents_of_file block i) < front_block (extents_of_file block (i + 1))
  apart : (j k : ℕ) → k < j → j < length (all_extents (table_in block blocks).entries)
      → do_meet (extent_at (all_extents (table_in block blocks).entries) k) (extent_at (all_extents (table_in block blocks).entries) j) ≡ false

owed-volume : (block : List ℕ) (blocks : ℕ) → IsBlock block → Passed block blocks → blocks < 2 ^ 32 → Owed block blocks → IsVolumeTable (table_in block blocks)
owed-volume block blocks h p fits o =
    let n = file_count block in
    let entries = map (file_in block) (range_with_len 0 n) in
    let count : length entries ≡ n = length-map-range_with_len (file_in block) 0 n in
    let at = λ (i : ℕ) (there : i < file_count block). sym (get_or-map-range_with_len (file_in block) 0 (file_count block) i i no_entry there (omega arith)) in
    record {
      number = fits;
      room = passed-room block blocks p;
      files = λ i there.
          let low : i < file_count block = omega (arith, count) in
          let f = o.facts i low in
          subst (IsVolumeFile blocks) (at i low) (record {
            name = f.name;
            disk = refl;
            some = o.some i low;
            places = λ j within. o.places i j low within;
            parted = λ j within. o.parted i j low within;
            within = f.within;
            number = number-fits block h (32 + 32 * i + 16);
          });
      names = λ i k below there e.
          let low : i < file_count block = omega (arith, count) in
          let lower : k < file_count block = omega (arith, count) in
          (o.facts i low).other k below (ap (λ (f : FileInfo). f.name) (at k lower) ∙ e ∙ sym (ap (λ (f : FileInfo). f.name) (at i low)));
      order = λ i there.
          let low : i < file_count block = omega (arith, count) in
          let next : i + 1 < file_count block = omega (arith, count) in
          let one = ap (λ (f : FileInfo). front_block f.extents) (at i low) in
          let two = ap (λ (f : FileInfo). front_block f.extents) (at (i + 1) next) in
          omega (arith, one, two, o.order i next);
      apart = o.apart;
    }

-- Version 2: the tests of an extent of the table.
record Extent2 (block : List ℕ) (blocks i j : ℕ) : Type 0 where
  place : is_on_disk blocks (table_extent block j) ≡ true
  apart : (k : ℕ) → k < j → do_meet (table_extent block k) (table_extent block j) ≡ false
  parted : j ≢ first_extent block i → extent_end (table_extent block (j - 1)) ≢ (table_extent block j).start

extent_2-from : (block : List ℕ) (blocks i j : ℕ) → first_failed (extent_tests block blocks i j) ≡ None → Extent2 block blocks i j
extent_2-from block blocks i j h =
    let meets = list_any (λ k. do_meet (table_extent block k) (table_extent block j)) (range_with_len 0 j) in
    let ends = extent_end (table_extent block (j - 1)) == (table_extent block j).start in
    let t = passed-three 16 17 18 (is_on_disk blocks (table_extent block j)) (not meets) ((j == first_extent block i) || not ends) h in
    record {
      place = t.0;
      apart = λ k below. any-each (λ k. do_meet (table_extent block k) (table_extent block j)) 0 j k (not-true meets t.1) (omega arith) (omega arith);
      parted = λ ne. eqb-false (extent_end (table_extent block (j - 1))) (table_extent block j).start (elim (or_cases (j == first_extent block i) (not ends) t.2) [
        | inl e ↦ absurd (ne (eqb-true j (first_extent block i) e))
        | inr apart ↦ not-true ends apart
      ]);
    }

extent-of-file : (block : List ℕ) (blocks i k : ℕ) → Files2 block blocks → i < file_count block → k < extents_number block i → Extent2 block blocks i (first_extent block i + k)
extent-of-file block blocks i k s there within =
    extent_2-from block blocks i (first_extent block i + k)
    (passed-each (extent_tests block blocks i) (first_extent block i) (extents_number block i) (first_extent block i + k) (s.each i there).extents (omega arith) (omega arith))

-- Each extent of the table is one of a file.
extent-of-table : (block : List ℕ) (blocks n : ℕ) → Files2 block blocks → n ≤ file_count block → (j : ℕ) → j < extents_before block n
    → (k : ℕ) → k < j → do_meet (table_extent block k) (table_extent block j) ≡ false
extent-of-table block blocks zero s within j there k below = absurd (omega arith)
extent-of-table block blocks (suc n) s within j there k below =
    let step : suc n ≡ n + 1 = omega arith in
    let more : extents_before block (suc n) ≡ extents_before block n + extents_number block n = ap (extents_before block) step ∙ extents_before-more block n in
    let next = (s.each n (omega arith)).next in
    elim (cases_lt j (extents_before block n)) [
      | inl low ↦ extent-of-table block blocks n s (omega arith) j low k below
      | inr high ↦
          let at : first_extent block n + (j - first_extent block n) ≡ j = omega (arith, next.next) in
          let e = extent-of-file block blocks n (j - first_extent block n) s (omega arith) (omega (arith, next.next, more)) in
          subst (λ (m : ℕ). do_meet (table_extent block k) (table_extent block m) ≡ false) at (e.apart k (omega (arith, at)))
    ]

extents-2 : (block : List ℕ) (i : ℕ) → version block ≢ 1 → extents_of_file block i ≡ map (table_extent block) (range_with_len (first_extent block i) (extents_number block i))
extents-2 block i ne =
    cond-false (version block == 1) (own_extent block i ∷ []) (map (table_extent block) (range_with_len (first_extent block i) (extents_number block i))) (ne_eqb (version block) 1 ne)

extent-2 : (block : List ℕ) (i j : ℕ) → version block ≢ 1 → j < extents_number block i → extent_at (extents_of_file block i) j ≡ table_extent block (first_extent block i + j)
extent-2 block i j ne within =
    ap (λ (es : List Extent). extent_at es j) (extents-2 block i ne)
    ∙ get_or-map-range_with_len (table_extent block) (first_extent block i) (extents_number block i) j (first_extent block i + j) (record { start = 0; pages = 0 }) within refl

front-2 : (block : List ℕ) (i : ℕ) → version block ≢ 1 → 0 < extents_number block i → front_block (extents_of_file block i) ≡ (table_extent block (first_extent block i)).start
front-2 block i ne some =
    let one : extents_number block i ≡ suc (extents_number block i - 1) = omega arith in
    ap front_block (extents-2 block i ne)
    ∙ ap (λ (n : ℕ). front_block (map (table_extent block) (range_with_len (first_extent block i) n))) one

last-2 : (block : List ℕ) (blocks i : ℕ) → Files2 block blocks → i < file_count block
    → ((length_test block i).holds ≡ true) × ((order_test_2 block i).holds ≡ true) × ((new_name_test block i).holds ≡ true)
last-2 block blocks i s there = passed-three 9 10 11 (length_test block i).holds (order_test_2 block i).holds (new_name_test block i).holds (s.each i there).last

all-2 : (block : List ℕ) (blocks : ℕ) → version block ≢ 1 → Files2 block blocks → all_extents (table_in block blocks).entries ≡ map (table_extent block) (range_with_len 0 (extent_count block))
all-2 block blocks ne s =
    extents-joined block (file_count block) ne (λ k below. (s.each k below).next.next)
    ∙ ap (λ (n : ℕ). map (table_extent block) (range_with_len 0 n)) s.all

owed-2 : (block : List ℕ) (blocks : ℕ) → IsBlock block → file_count block ≤ 64 → version block ≢ 1 → Files2 block blocks → Owed block blocks
owed-2 block blocks h few ne s =
    let te = table_extent block in
    let none : Extent = record { start = 0; pages = 0 } in
    let all = all-2 block blocks ne s in
    let count : length (all_extents (table_in block blocks).entries) ≡ extent_count block = ap length all ∙ length-map-range_with_len te 0 (extent_count block) in
    let at = λ (j : ℕ) (there : j < extent_count block).
    ap (λ (es : List Extent). extent_at es j) all ∙ get_or-map-range_with_len te 0 (extent_count block) j j none there (omega arith) in
    record {
      facts = λ i there. let last = last-2 block blocks i s there in facts block h i (omega arith) (s.each i there).name last.0 last.2;
      some = λ i there. omega (arith, count-2 block i ne, (s.each i there).next.some);
      places = λ i j there within.
          let low : j < extents_number block i = omega (arith, count-2 block i ne) in
          ap (is_on_disk blocks) (extent-2 block i j ne low) ∙ (extent-of-file block blocks i j s there low).place;
      parted = λ i j there within e.
          let next : j + 1 < extents_number block i = omega (arith, count-2 block i ne) in
          let low : j < extents_number block i = omega arith in
          let back : first_extent block i + (j + 1) - 1 ≡ first_extent block i + j = omega arith in
          let one = ap extent_end (extent-2 block i j ne low) in
          let two = ap (λ (x : Extent). x.start) (extent-2 block i (j + 1) ne next) in
          (extent-of-file block blocks i (j + 1) s there next).parted (λ same. omega (arith, same)) (ap (λ (n : ℕ). extent_end (te n)) back ∙ sym one ∙ e ∙ two);
      order = λ i there.
          let low : i < file_count block = omega arith in
          let back : i + 1 - 1 ≡ i = omega arith in
          let last = last-2 block blocks (i + 1) s there in
          let one = front-2 block i ne (s.each i low).next.some in
          let two = front-2 block (i + 1) ne (s.each (i + 1) there).next.some in
          let before = (te (first_extent block (i + 1 - 1))).start in
          let here = (te (first_extent block (i + 1))).start in
          let least : before < here = elim (or_cases (i + 1 == 0) (ltb before here) last.1) [
            | inl e ↦ absurd (omega (arith, eqb-true (i + 1) 0 e))
            | inr l ↦ ltb-true before here l
          ] in
          let same : before ≡ (te (first_extent block i)).start = ap (λ (n : ℕ). (te (first_extent block n)).start) back in
          omega (arith, one, two, least, same);
      apart = λ j k below there.
          let low : j < extent_count block = omega (arith, count) in
          let lower : k < extent_count block = omega arith in
          ap (λ (e : Extent). do_meet e (extent_at (all_extents (table_in block blocks).entries) j)) (at k lower)
          ∙ ap (do_meet (te k)) (at j low)
          ∙ extent-of-table block blocks (file_count block) s (omega arith) j (omega (arith, s.all)) k below;
    }

-- Version 1: the tests of an entry.
record Entry1 (block : List ℕ) (blocks i : ℕ) : Type 0 where
  name : first_failed (name_tests block i) ≡ None
  place : is_on_disk blocks (own_extent block i) ≡ true
  within : (length_test block i).holds ≡ true
  order : (order_test_1 block i).holds ≡ true
  other : (new_name_test block i).holds ≡ true

entry_1-passed : (block : List ℕ) (blocks i : ℕ) → first_failed (entry_tests_1 block blocks i) ≡ None → Entry1 block blocks i
unfolding entry_tests_1
entry_1-passed block blocks i h =
    let whole = passed-append (name_tests block i) (extent_tests_1 block blocks i ++ last_tests_1 block i) h in
    let rest = passed-append (extent_tests_1 block blocks i) (last_tests_1 block i) whole.1 in
    let last = passed-three 9 10 11 (length_test block i).holds (order_test_1 block i).holds (new_name_test block i).holds rest.1 in
    record { name = whole.0; place = (passed-test 8 (is_on_disk blocks (own_extent block i)) [] rest.0).0; within = last.0; order = last.1; other = last.2 }

extents-1 : (block : List ℕ) (i : ℕ) → version block ≡ 1 → extents_of_file block i ≡ own_extent block i ∷ []
extents-1 block i e =
    cond-true (version block == 1) (own_extent block i ∷ []) (map (table_extent block) (range_with_len (first_extent block i) (extents_number block i))) (eq-eqb (version block) 1 e)

count-1 : (block : List ℕ) (i : ℕ) → version block ≡ 1 → length (extents_of_file block i) ≡ 1
count-1 block i e = ap length (extents-1 block i e)

-- The extents of version 1 stand in order, one behind the other.
behind-1 : (block : List ℕ) (blocks i : ℕ) → i + 1 < file_count block → Files1 block blocks → extent_end (own_extent block i) ≤ (own_extent block (i + 1)).start
behind-1 block blocks i there s =
    let e = entry_1-passed block blocks (i + 1) (s.each (i + 1) there) in
    let back : i + 1 - 1 ≡ i = omega arith in
    let before = extent_end (own_extent block (i + 1 - 1)) in
    let here = (own_extent block (i + 1)).start in
    let least : before ≤ here = elim (or_cases (i + 1 == 0) (leb before here) e.order) [
      | inl z ↦ absurd (omega (arith, eqb-true (i + 1) 0 z))
      | inr l ↦ leb-true before here l
    ] in
    let same : before ≡ extent_end (own_extent block i) = ap (λ (n : ℕ). extent_end (own_extent block n)) back in
    omega (arith, least, same)

sorted-1 : (block : List ℕ) (blocks k more : ℕ) → k + 1 + more < file_count block → Files1 block blocks → extent_end (own_extent block k) ≤ (own_extent block (k + 1 + more)).start
sorted-1 block blocks k zero there s =
    let same : k + 1 ≡ k + 1 + 0 = omega arith in
    subst (λ (n : ℕ). extent_end (own_extent block k) ≤ (own_extent block n).start) same (behind-1 block blocks k (omega arith) s)
sorted-1 block blocks k (suc more) there s =
    let before = sorted-1 block blocks k more (omega arith) s in
    let next = behind-1 block blocks (k + 1 + more) (omega arith) s in
    let same : k + 1 + more + 1 ≡ k + 1 + suc more = omega arith in
    subst (λ (n : ℕ). extent_end (own_extent block k) ≤ (own_extent block n).start) same (omega (arith, before, next))

all-1 : (block : List ℕ) (blocks : ℕ) → version block ≡ 1 → all_extents (table_in block blocks).entries ≡ map (own_extent block) (range_with_len 0 (file_count block))
all-1 block blocks e =
    flat_map-map (λ (f : FileInfo). f.extents) (file_in block) (range_with_len 0 (file_count block))
    ∙ ap
    (λ (b : Bool). flat_map
    (λ i. if b then own_extent block i ∷ [] else map (table_extent block)
    (range_with_len (first_extent block i) (extents_number block i)))
    (range_with_len 0 (file_count block)))
    (eq-eqb (version block) 1 e)
    ∙ flat_map_single (own_extent block) (range_with_len 0 (file_count block))

owed-1 : (block : List ℕ) (blocks : ℕ) → IsBlock block → file_count block ≤ 64 → version block ≡ 1 → Files1 block blocks → Owed block blocks
owed-1 block blocks h few one s =
    let none : Extent = record { start = 0; pages = 0 } in
    let n = file_count block in
    let entry = λ (i : ℕ) (there : i < file_count block). entry_1-passed block blocks i (s.each i there) in
    let all = all-1 block blocks one in
    let count : length (all_extents (table_in block blocks).entries) ≡ n = ap length all ∙ length-map-range_with_len (own_extent block) 0 n in
    let at = λ (j : ℕ) (there : j < file_count block).
    ap (λ (es : List Extent). extent_at es j) all ∙ get_or-map-range_with_len (own_extent block) 0 (file_count block) j j none there (omega arith) in
    record {
      facts = λ i there. let e = entry i there in facts block h i (omega arith) e.name e.within e.other;
      some = λ i there. omega (arith, count-1 block i one);
      places = λ i j there within.
          let first : j ≡ 0 = omega (arith, count-1 block i one) in
          ap (λ (es : List Extent). is_on_disk blocks (extent_at es j)) (extents-1 block i one)
          ∙ ap (λ (k : ℕ). is_on_disk blocks (extent_at (own_extent block i ∷ []) k)) first
          ∙ (entry i there).place;
      parted = λ i j there within. absurd (omega (arith, count-1 block i one));
      order = λ i there.
          let low : i < file_count block = omega arith in
          let d = on_disk-from blocks (own_extent block i) (entry i low).place in
          let a = ap front_block (extents-1 block i one) in
          let b = ap front_block (extents-1 block (i + 1) one) in
          omega (arith, a, b, d.pages, behind-1 block blocks i there s);
      apart = λ j k below there.
          let low : j < file_count block = omega (arith, count) in
          let lower : k < file_count block = omega arith in
          let place : k + 1 + (j - (k + 1)) ≡ j = omega arith in
          let behind : extent_end (own_extent block k) ≤ (own_extent block j).start =
          subst (λ (m : ℕ). extent_end (own_extent block k) ≤ (own_extent block m).start) place (sorted-1 block blocks k (j - (k + 1)) (omega arith) s) in
          ap (λ (e : Extent). do_meet e (extent_at (all_extents (table_in block blocks).entries) j)) (at k lower)
          ∙ ap (do_meet (own_extent block k)) (at j low)
          ∙ and_right (ltb (own_extent block k).start (extent_end (own_extent block j))) (ltb (own_extent block j).start (extent_end (own_extent block k)))
          (le-ltb (own_extent block j).start (extent_end (own_extent block k)) behind);
    }

-- Either version.
pub volume-from : (block : List ℕ) (blocks : ℕ) → IsBlock block → blocks < 2 ^ 32 → first_failed (tests block blocks) ≡ None → IsVolumeTable (table_in block blocks)
volume-from block blocks h fits passed =
    let p = tests-passed block blocks passed in
    owed-volume block blocks h p fits (elim (cases_eq (version block) 1) [
      | inl one ↦ owed-1 block blocks h p.header.count one (p.first one)
      | inr ne ↦ owed-2 block blocks h p.header.count ne (p.second ne)
    ])

-- A table without files.
pub volume-empty : (blocks : ℕ) → blocks < 2 ^ 32 → IsVolumeTable (empty_table blocks)
volume-empty blocks fits = record {
  number = fits;
  room = record { files = omega arith; extents = omega arith };
  files = λ i there. absurd (omega arith);
  names = λ i k below there. absurd (omega arith);
  order = λ i there. absurd (omega arith);
  apart = λ j k below there. absurd (omega arith);
}
