-- How a file grows from the free blocks of its disk, said of plain lists of extents. Public clauses cite this.
use Rattle.std.specs.Prelude.{ℕ, zero, suc, ◌+◌, ◌-◌, Bool, false, ◌&&◌, not, nat_le, nat_lt, List, [], ◌∷◌, ◌++◌, length, sum_by, Option, Some, None, option_map, option_and_then, if◌then◌else◌}
use Rattle.std.specs.Option.{option_map_or}
use Rattle.std.specs.List.{find, list_any, range_with_len, last_or}
use Rattle.vnode_files.specs.declared.extent.Extent.{Extent}
use Rattle.vnode_files.specs.declared.extent.TheConstants.{MOST_EXTENTS}

-- The block after an extent.
abbrev pub extent_end : Extent → ℕ
extent_end e = e.start + e.pages

-- Whether a block lies in an extent.
abbrev pub has_block : ℕ → Extent → Bool
has_block block e = nat_le e.start block && nat_lt block (extent_end e)

-- Whether a block of a disk is free: below the disk's blocks, and in no extent.
abbrev pub is_free : ℕ → List Extent → ℕ → Bool
is_free blocks extents block = nat_lt block blocks && not (list_any (has_block block) extents)

-- The least free block of a disk from block 1 on.
abbrev pub least_free : ℕ → List Extent → Option ℕ
least_free blocks extents = find (is_free blocks extents) (range_with_len 1 (blocks - 1))

-- How many pages extents keep: one for each of their blocks.
abbrev pub page_count : List Extent → ℕ
page_count extents = sum_by (λ e. e.pages) extents

-- Extents, the last of them one block longer.
abbrev pub with_longer_last : List Extent → List Extent
with_longer_last [] = []
with_longer_last (e ∷ []) = record e { pages = e.pages + 1 } ∷ []
with_longer_last (e ∷ f ∷ es) = e ∷ with_longer_last (f ∷ es)

-- Whether the block after a file's last extent is free, where others are the extents of the other files of its disk.
abbrev pub can_lengthen : ℕ → List Extent → List Extent → Bool
can_lengthen blocks others own =
    option_map_or (λ last. is_free blocks (others ++ own) (extent_end last)) (last_or None own) false

-- A file's extents with one more block, a new last extent: the least free block, where the disk's files may have one more extent.
abbrev pub with_new_last : ℕ → List Extent → List Extent → Option (List Extent)
with_new_last blocks others own =
    if nat_lt (length others + length own) MOST_EXTENTS
    then option_map (λ block. own ++ record { start = block; pages = 1 } ∷ []) (least_free blocks (others ++ own))
    else None

-- A file's extents with one more block: that after its last extent where it is free, else a new last extent.
abbrev pub with_next_block : ℕ → List Extent → List Extent → Option (List Extent)
with_next_block blocks others own =
    if can_lengthen blocks others own then Some (with_longer_last own) else with_new_last blocks others own

-- A file's extents with so many more blocks, one after another; none where there is no block for one of them.
abbrev pub with_next_blocks : ℕ → List Extent → ℕ → List Extent → Option (List Extent)
with_next_blocks blocks others zero own = Some own
with_next_blocks blocks others (suc more) own =
    option_and_then (with_next_blocks blocks others more) (with_next_block blocks others own)

-- The extents of a file that is to keep so many pages, on a disk of so many blocks, where others are the extents of the other files of that disk:
-- as long as the file keeps fewer pages, one block is added; none where there is no such block.
abbrev pub growth : ℕ → List Extent → List Extent → ℕ → Option (List Extent)
growth blocks others own pages = with_next_blocks blocks others (pages - page_count own) own
