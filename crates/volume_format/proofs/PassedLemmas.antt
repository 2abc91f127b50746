-- What the tests say of a block in which none fails.
use Rattle.std.proofs.Common.{ℕ, ◌≡◌, ◌≢◌, ◌<◌, ◌≤◌, ◌+◌, Bool, true, ◌&&◌, ◌||◌, eqb, ltb, leb, List, [], ◌∷◌, ◌++◌, None, ap, sym, ◌∙◌, arith, length, map, inl, inr}
use Rattle.std.specs.Prelude.{◌==◌, if◌then◌else◌, slice_range}
use Rattle.std.specs.List.{flat_map, range_with_len, sum_by}
use Rattle.std.proofs.lemmas.Bool.{and_parts, ltb-true, leb-true, eqb-true, eq-eqb, ne_eqb, cond-true, cond-false, cases_eq}
use Rattle.std.proofs.lemmas.List.Sums.{sum_by_push}
use Rattle.std.proofs.lemmas.List.Folds.{flat_map-map}
use Rattle.std.proofs.lemmas.List.Concat.{length-flat_map, flat_map_single}
use Rattle.std.proofs.lemmas.List.FromFn.{length-map-range_with_len}
use Rattle.vnode_files.specs.declared.vnode.FileInfo.{FileInfo}
use Rattle.volume_format.specs.Table.{HasRoom, all_extents}
use Rattle.volume_format.specs.Layout.{number_at, are_zeros, has_magic, version, file_count, entry_start, extent_start, name_field, mode_of_file}
use Rattle.volume_format.specs.Layout.{table_extent, own_extent, extents_of_file, first_extent, extents_number, extent_count, file_in}
use Rattle.volume_format.specs.Rules.{test, first_failed, is_name_field, header_tests, header_tests_1, header_tests_2, name_tests, extents_before}
use Rattle.volume_format.specs.Rules.{extents_test, extent_tests, extent_tests_1, last_tests_1, last_tests_2, entry_tests_1, entry_tests_2}
use Rattle.volume_format.specs.Rules.{end_tests_1, end_tests_2, file_tests_1, file_tests_2, tests}
use Rattle.volume_format.proofs.RangeLemmas.{range-more}
use Rattle.volume_format.proofs.TestLemmas.{passed-test, passed-two, passed-three, passed-append, passed-each}

-- The files up to one have its extents besides.
pub extents_before-more : (block : List ℕ) (i : ℕ) → extents_before block (i + 1) ≡ extents_before block i + extents_number block i
extents_before-more block i =
    ap (sum_by (extents_number block)) (range-more 0 i i (omega arith)) ∙ sum_by_push (extents_number block) (range_with_len 0 i) i

-- The extents of a file are the next of the table.
pub record NextExtents (block : List ℕ) (i : ℕ) : Type 0 where
  pub next : first_extent block i ≡ extents_before block i
  pub some : 0 < extents_number block i
  pub within : first_extent block i + extents_number block i ≤ extent_count block

next_extents-from : (block : List ℕ) (i : ℕ) → (extents_test block i).holds ≡ true → NextExtents block i
next_extents-from block i h =
    let parts = and_parts (eqb (first_extent block i) (extents_before block i) && ltb 0 (extents_number block i)) (leb (first_extent block i + extents_number block i) (extent_count block)) h in
    let front = and_parts (eqb (first_extent block i) (extents_before block i)) (ltb 0 (extents_number block i)) parts.0 in
    record {
      next = eqb-true (first_extent block i) (extents_before block i) front.0;
      some = ltb-true 0 (extents_number block i) front.1;
      within = leb-true (first_extent block i + extents_number block i) (extent_count block) parts.1;
    }

-- The tests of an entry of version 2 hold.
pub record Entry2 (block : List ℕ) (blocks i : ℕ) : Type 0 where
  pub name : first_failed (name_tests block i) ≡ None
  pub next : NextExtents block i
  pub extents : first_failed (flat_map (extent_tests block blocks i) (range_with_len (first_extent block i) (extents_number block i))) ≡ None
  pub last : first_failed (last_tests_2 block i) ≡ None

pub entry_2-passed : (block : List ℕ) (blocks i : ℕ) → first_failed (entry_tests_2 block blocks i) ≡ None → Entry2 block blocks i
unfolding entry_tests_2
entry_2-passed block blocks i h =
    let extents = flat_map (extent_tests block blocks i) (range_with_len (first_extent block i) (extents_number block i)) in
    let whole = passed-append (name_tests block i) (extents_test block i ∷ (extents ++ last_tests_2 block i)) h in
    let next = passed-test 15 (extents_test block i).holds (extents ++ last_tests_2 block i) whole.1 in
    let rest = passed-append extents (last_tests_2 block i) next.1 in
    record { name = whole.0; next = next_extents-from block i next.0; extents = rest.0; last = rest.1 }

-- The tests of the header that both versions have hold.
pub record Header (block : List ℕ) (size : ℕ) : Type 0 where
  pub magic : has_magic block ≡ true
  pub either : (version block == 1) || (version block == 2) ≡ true
  pub blocks : number_at block 12 ≡ size
  pub count : file_count block ≤ 64

pub header-passed : (block : List ℕ) (blocks : ℕ) → first_failed (header_tests block blocks) ≡ None → Header block blocks
header-passed block blocks h =
    let known = (version block == 1) || (version block == 2) in
    let t = passed-test 1 (has_magic block) (test 2 known ∷ test 3 (number_at block 12 == blocks) ∷ test 4 (leb (file_count block) 64) ∷ []) h in
    let r = passed-three 2 3 4 known (number_at block 12 == blocks) (leb (file_count block) 64) t.1 in
    record { magic = t.0; either = r.0; blocks = eqb-true (number_at block 12) blocks r.1; count = leb-true (file_count block) 64 r.2 }

-- The tests of a block of version 1 hold, and those of a block of version 2.
pub record Files1 (block : List ℕ) (blocks : ℕ) : Type 0 where
  pub each : (i : ℕ) → i < file_count block → first_failed (entry_tests_1 block blocks i) ≡ None

pub files_1-passed : (block : List ℕ) (blocks : ℕ) → first_failed (header_tests_1 block ++ file_tests_1 block blocks) ≡ None → Files1 block blocks
unfolding file_tests_1
files_1-passed block blocks h =
    let parts = passed-append (header_tests_1 block) (file_tests_1 block blocks) h in
    let entries = passed-append (flat_map (entry_tests_1 block blocks) (range_with_len 0 (file_count block))) (end_tests_1 block) parts.1 in
    record { each = λ i there. passed-each (entry_tests_1 block blocks) 0 (file_count block) i entries.0 (omega arith) (omega arith) }

pub record Files2 (block : List ℕ) (blocks : ℕ) : Type 0 where
  pub few : extent_count block ≤ 252
  pub zeros : are_zeros (slice_range block 24 32) ≡ true
  pub each : (i : ℕ) → i < file_count block → Entry2 block blocks i
  pub all : extents_before block (file_count block) ≡ extent_count block
  pub no_entry : are_zeros (slice_range block (entry_start (file_count block)) 2080) ≡ true
  pub no_extent : are_zeros (slice_range block (extent_start (extent_count block)) 4096) ≡ true

pub files_2-passed : (block : List ℕ) (blocks : ℕ) → first_failed (header_tests_2 block ++ file_tests_2 block blocks) ≡ None → Files2 block blocks
unfolding file_tests_2
files_2-passed block blocks h =
    let parts = passed-append (header_tests_2 block) (file_tests_2 block blocks) h in
    let head = passed-two 14 5 (leb (extent_count block) 252) (are_zeros (slice_range block 24 32)) parts.0 in
    let entries = passed-append (flat_map (entry_tests_2 block blocks) (range_with_len 0 (file_count block))) (end_tests_2 block) parts.1 in
    let no_entry = are_zeros (slice_range block (entry_start (file_count block)) 2080) in
    let no_extent = are_zeros (slice_range block (extent_start (extent_count block)) 4096) in
    let rest = passed-two 19 12 (extents_before block (file_count block) == extent_count block) (no_entry && no_extent) entries.1 in
    let ends = and_parts no_entry no_extent rest.1 in
    record {
      few = leb-true (extent_count block) 252 head.0;
      zeros = head.1;
      each = λ i there. entry_2-passed block blocks i (passed-each (entry_tests_2 block blocks) 0 (file_count block) i entries.0 (omega arith) (omega arith));
      all = eqb-true (extents_before block (file_count block)) (extent_count block) rest.0;
      no_entry = ends.0;
      no_extent = ends.1;
    }

-- All tests of a block hold.
pub record Passed (block : List ℕ) (blocks : ℕ) : Type 0 where
  pub header : Header block blocks
  pub first : version block ≡ 1 → Files1 block blocks
  pub second : version block ≢ 1 → Files2 block blocks

pub tests-passed : (block : List ℕ) (blocks : ℕ) → first_failed (tests block blocks) ≡ None → Passed block blocks
unfolding tests
tests-passed block blocks h =
    let files_1 = header_tests_1 block ++ file_tests_1 block blocks in
    let files_2 = header_tests_2 block ++ file_tests_2 block blocks in
    let parts = passed-append (header_tests block blocks) (if version block == 1 then files_1 else files_2) h in
    record {
      header = header-passed block blocks parts.0;
      first = λ e. files_1-passed block blocks (ap first_failed (sym (cond-true (version block == 1) files_1 files_2 (eq-eqb (version block) 1 e))) ∙ parts.1);
      second = λ ne. files_2-passed block blocks (ap first_failed (sym (cond-false (version block == 1) files_1 files_2 (ne_eqb (version block) 1 ne))) ∙ parts.1);
    }

-- An entry of either version has a name, and its extents lie in the table.
pub entry-named : (block : List ℕ) (i : ℕ) → first_failed (name_tests block i) ≡ None → is_name_field (name_field block i) ≡ true
entry-named block i h = (passed-two 6 7 (is_name_field (name_field block i)) (leb (mode_of_file block i) 1) h).0

pub entry_1-named : (block : List ℕ) (blocks i : ℕ) → first_failed (entry_tests_1 block blocks i) ≡ None → first_failed (name_tests block i) ≡ None
unfolding entry_tests_1
entry_1-named block blocks i h = (passed-append (name_tests block i) (extent_tests_1 block blocks i ++ last_tests_1 block i) h).0

pub passed-named : (block : List ℕ) (blocks i : ℕ) → Passed block blocks → i < file_count block → is_name_field (name_field block i) ≡ true
passed-named block blocks i h there = elim (cases_eq (version block) 1) [
  | inl e ↦ entry-named block i (entry_1-named block blocks i ((h.first e).each i there))
  | inr ne ↦ entry-named block i ((h.second ne).each i there).name
]

-- How many extents the files of a block have in all.
pub length-all_extents : (block : List ℕ) (n : ℕ) → length (all_extents (map (file_in block) (range_with_len 0 n))) ≡ sum_by (λ k. length (extents_of_file block k)) (range_with_len 0 n)
length-all_extents block n =
    ap length (flat_map-map (λ (e : FileInfo). e.extents) (file_in block) (range_with_len 0 n))
    ∙ length-flat_map (extents_of_file block) (range_with_len 0 n)

lengths-1 : (block : List ℕ) (n : ℕ) → version block ≡ 1 → sum_by (λ k. length (extents_of_file block k)) (range_with_len 0 n) ≡ n
lengths-1 block n e =
    ap
    (λ (b : Bool). sum_by
    (λ k. length
    (if b then own_extent block k ∷ [] else map (table_extent block) (range_with_len (first_extent block k) (extents_number block k))))
    (range_with_len 0 n))
    (eq-eqb (version block) 1 e)
    ∙ sym (length-flat_map (λ (k : ℕ). k ∷ []) (range_with_len 0 n))
    ∙ ap length (flat_map_single (λ (k : ℕ). k) (range_with_len 0 n))
    ∙ length-map-range_with_len (λ (k : ℕ). k) 0 n

pub lengths-2 : (block : List ℕ) (n : ℕ) → version block ≢ 1 → sum_by (λ k. length (extents_of_file block k)) (range_with_len 0 n) ≡ extents_before block n
lengths-2 block n ne =
    ap
    (λ (b : Bool). sum_by
    (λ k. length
    (if b then own_extent block k ∷ [] else map (table_extent block) (range_with_len (first_extent block k) (extents_number block k))))
    (range_with_len 0 n))
    (ne_eqb (version block) 1 ne)
    ∙ simp length-map-range_with_len

pub passed-room : (block : List ℕ) (blocks : ℕ) → Passed block blocks → HasRoom (map (file_in block) (range_with_len 0 (file_count block)))
passed-room block blocks h =
    let files = length-map-range_with_len (file_in block) 0 (file_count block) in
    let extents = length-all_extents block (file_count block) in
    record {
      files = omega (arith, files, h.header.count);
      extents = elim (cases_eq (version block) 1) [
        | inl e ↦ omega (arith, extents, lengths-1 block (file_count block) e, h.header.count)
        | inr ne ↦ omega (arith, extents, lengths-2 block (file_count block) ne, (h.second ne).all, (h.second ne).few)
      ];
    }
