-- The rules of block 0, in the order in which they are tested. Public clauses cite this.
use Rattle.std.specs.Prelude.{ℕ, ◌==◌, ◌+◌, ◌-◌, ◌*◌, ◌&&◌, ◌||◌, not, Bool, nat_lt, nat_le, List, [], ◌∷◌, ◌++◌, length, drop, slice_range, Option}
use Rattle.std.specs.Prelude.{Some, None, Result, Ok, Err, if◌then◌else◌, codes, sum_by}
use Rattle.std.specs.List.{flat_map, list_all, list_any, range_with_len}
use Rattle.vnode_files.specs.declared.extent.Extent.{Extent}
use Rattle.vnode_files.specs.Grow.{extent_end, page_count}
use Rattle.volume_format.specs.declared.rules.BadVolume.{BadVolume}
use Rattle.volume_format.specs.Table.{TableSeen, empty_table}
use Rattle.volume_format.specs.Layout.{are_same, are_zeros, number_at, has_magic, version, file_count, entry_start, name_field, text_before_zero}
use Rattle.volume_format.specs.Layout.{name_of_file, length_of_file, mode_of_file, extent_count, extent_start, table_extent, first_extent}
use Rattle.volume_format.specs.Layout.{extents_number, own_extent, extents_of_file, table_in}

-- A test of a block: the rule that it tests, and whether the rule holds.
pub record Test : Type 0 where
  pub rule : ℕ
  pub holds : Bool

-- The test of a rule that holds or doesn't.
abbrev pub test : ℕ → Bool → Test
test rule holds = record { rule = rule; holds = holds }

-- The first rule that fails, if one fails.
abbrev pub first_failed : List Test → Option ℕ
first_failed [] = None
first_failed (t ∷ ts) = if t.holds then first_failed ts else Some t.rule

-- The bytes that names consist of: small letters, digits, '_', '.' and '-'.
unfoldable pub is_table_name_byte : ℕ → Bool
is_table_name_byte b = (nat_le 97 b && nat_le b 122) || (nat_le 48 b && nat_le b 57) || (b == 95) || (b == 46) || (b == 45)

-- A field of 16 bytes is a name with zeros behind it, and the name isn't "zero".
abbrev pub is_name_field : List ℕ → Bool
is_name_field field =
    nat_lt 0 (length (text_before_zero field)) && list_all is_table_name_byte (text_before_zero field) && are_zeros (drop (length (text_before_zero field)) field)
    && not (are_same (text_before_zero field) (codes "zero"))

-- Two extents have a block in common.
abbrev pub do_meet : Extent → Extent → Bool
do_meet e f = nat_lt e.start (extent_end f) && nat_lt f.start (extent_end e)

-- An extent has a block, and its blocks lie on a disk of so many blocks, past block 0.
abbrev pub is_on_disk : ℕ → Extent → Bool
is_on_disk blocks e = nat_lt 0 e.start && nat_lt 0 e.pages && nat_le (extent_end e) blocks

-- The tests of the header in each version: magic, version, number of blocks and number of files.
abbrev pub header_tests : List ℕ → ℕ → List Test
header_tests block blocks =
    test 1 (has_magic block)
    ∷ test 2 ((version block == 1) || (version block == 2))
    ∷ test 3 (number_at block 12 == blocks)
    ∷ test 4 (nat_le (file_count block) 64)
    ∷ []

-- The tests of version 2's header: number of extents, and zeros behind it.
abbrev pub header_tests_2 : List ℕ → List Test
header_tests_2 block =
    test 14 (nat_le (extent_count block) 252)
    ∷ test 5 (are_zeros (slice_range block 24 32))
    ∷ []

-- The tests of entry i's name and mode, in each version.
abbrev pub name_tests : List ℕ → ℕ → List Test
name_tests block i =
    test 6 (is_name_field (name_field block i))
    ∷ test 7 (nat_le (mode_of_file block i) 1)
    ∷ []

-- The test that the length of file i fits its extents.
abbrev pub length_test : List ℕ → ℕ → Test
length_test block i = test 9 (nat_le (length_of_file block i) (page_count (extents_of_file block i) * 4096))

-- The test that the name of file i differs from those of the files before it.
abbrev pub new_name_test : List ℕ → ℕ → Test
new_name_test block i =
    test 11 (not (list_any (λ k. are_same (name_of_file block k) (name_of_file block i)) (range_with_len 0 i)))

-- The test of version 1's header: zeros behind the number of files.
abbrev pub header_tests_1 : List ℕ → List Test
header_tests_1 block = test 5 (are_zeros (slice_range block 20 32)) ∷ []

-- The test of version 1 that file i's one extent lies on a disk of so many blocks.
abbrev pub extent_tests_1 : List ℕ → ℕ → ℕ → List Test
extent_tests_1 block blocks i =
    test 8 (is_on_disk blocks (own_extent block i))
    ∷ []

-- The test of version 1 that file i begins where the file before it ends, or later.
abbrev pub order_test_1 : List ℕ → ℕ → Test
order_test_1 block i = test 10 ((i == 0) || nat_le (extent_end (own_extent block (i - 1))) (own_extent block i).start)

-- The tests of version 1 that end those of entry i: length, order and new name.
abbrev pub last_tests_1 : List ℕ → ℕ → List Test
last_tests_1 block i = length_test block i ∷ order_test_1 block i ∷ new_name_test block i ∷ []

-- The tests of entry i in version 1: name and mode, extent, then the last ones.
unfoldable pub entry_tests_1 : List ℕ → ℕ → ℕ → List Test
entry_tests_1 block blocks i =
    name_tests block i ++ (extent_tests_1 block blocks i ++ last_tests_1 block i)

-- The test of version 1 that zeros follow the last entry, up to the end of the block.
abbrev pub end_tests_1 : List ℕ → List Test
end_tests_1 block = test 12 (are_zeros (slice_range block (entry_start (file_count block)) 4096)) ∷ []

-- How many extents the files before file i have, in version 2.
abbrev pub extents_before : List ℕ → ℕ → ℕ
extents_before block i = sum_by (extents_number block) (range_with_len 0 i)

-- The test of version 2 that file i has extents in the table, right behind those of the files
-- before it.
abbrev pub extents_test : List ℕ → ℕ → Test
extents_test block i =
    test 15 ((first_extent block i == extents_before block i) && nat_lt 0 (extents_number block i)
    && nat_le (first_extent block i + extents_number block i) (extent_count block))

-- The tests of version 2 of extent j, one of file i's: on the disk, apart from those before it, and
-- not continuing the one before.
abbrev pub extent_tests : List ℕ → ℕ → ℕ → ℕ → List Test
extent_tests block blocks i j =
    test 16 (is_on_disk blocks (table_extent block j))
    ∷ test 17 (not (list_any (λ k. do_meet (table_extent block k) (table_extent block j)) (range_with_len 0 j)))
    ∷ test 18 ((j == first_extent block i) || not (extent_end (table_extent block (j - 1)) == (table_extent block j).start))
    ∷ []

-- The test of version 2 that file i's first block lies past that of the file before it.
abbrev pub order_test_2 : List ℕ → ℕ → Test
order_test_2 block i =
    test 10 ((i == 0) || nat_lt (table_extent block (first_extent block (i - 1))).start (table_extent block (first_extent block i)).start)

-- The tests of version 2 that end those of entry i: length, order and new name.
abbrev pub last_tests_2 : List ℕ → ℕ → List Test
last_tests_2 block i = length_test block i ∷ order_test_2 block i ∷ new_name_test block i ∷ []

-- The tests of entry i in version 2: name and mode, its extents, each of them, then the last ones.
unfoldable pub entry_tests_2 : List ℕ → ℕ → ℕ → List Test
entry_tests_2 block blocks i =
    name_tests block i
    ++ (extents_test block i
    ∷ (flat_map (extent_tests block blocks i) (range_with_len (first_extent block i) (extents_number block i)) ++ last_tests_2 block i))

-- The tests of version 2 behind the entries: no extent is left over, and zeros fill the room of
-- entries and of extents.
abbrev pub end_tests_2 : List ℕ → List Test
end_tests_2 block =
    test 19 (extents_before block (file_count block) == extent_count block)
    ∷ test 12 (are_zeros (slice_range block (entry_start (file_count block)) 2080) && are_zeros (slice_range block (extent_start (extent_count block)) 4096))
    ∷ []

-- The tests of version 1 behind the header: each entry in turn, then what follows them.
unfoldable pub file_tests_1 : List ℕ → ℕ → List Test
file_tests_1 block blocks = flat_map (entry_tests_1 block blocks) (range_with_len 0 (file_count block)) ++ end_tests_1 block

-- The tests of version 2 behind the header: each entry in turn, then what follows them.
unfoldable pub file_tests_2 : List ℕ → ℕ → List Test
file_tests_2 block blocks = flat_map (entry_tests_2 block blocks) (range_with_len 0 (file_count block)) ++ end_tests_2 block

-- All tests of a block for a disk of so many blocks, in their order: header, entries, then what
-- follows them.
unfoldable pub tests : List ℕ → ℕ → List Test
tests block blocks =
    header_tests block blocks
    ++ (if version block == 1
    then header_tests_1 block ++ file_tests_1 block blocks
    else header_tests_2 block ++ file_tests_2 block blocks)

-- The table of a block's fields if no rule fails, otherwise the rule that fails first.
abbrev pub table_or_rule : List ℕ → ℕ → Option ℕ → Result TableSeen BadVolume
table_or_rule block blocks None = Ok (table_in block blocks)
table_or_rule block blocks (Some rule) = Err (record { rule = rule })

-- What a block says: the empty table if all its bytes are zeros, otherwise its table, or the first
-- rule that fails.
unfoldable pub reading : List ℕ → ℕ → Result TableSeen BadVolume
reading block blocks =
    if are_zeros block then Ok (empty_table blocks) else table_or_rule block blocks (first_failed (tests block blocks))
