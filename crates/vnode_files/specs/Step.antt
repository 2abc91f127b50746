-- One step of a growth, as the files make it. Inside: no public clause cites this.
use Rattle.std.specs.Prelude.{ℕ, ◌+◌, nat_lt, List, ◌++◌, length, Option, None, remove, option_map, if◌then◌else◌}
use Rattle.std.specs.List.{last_or}
use Rattle.vnode_files.specs.declared.extent.Extent.{Extent}
use Rattle.vnode_files.specs.declared.extent.TheConstants.{MOST_EXTENTS}
use Rattle.vnode_files.specs.Grow.{extent_end, can_lengthen, least_free, with_next_block}
use Rattle.vnode_files.specs.Files.{FilesSeen, vnode_at, block_count, extents_on}

-- The extents of a file.
abbrev pub own_extents : FilesSeen → ℕ → List Extent
own_extents s file = (vnode_at s file).info.extents

-- The extents of the other files of a file's disk.
abbrev pub other_extents : FilesSeen → ℕ → List Extent
other_extents s file = extents_on (vnode_at s file).info.disk (remove s.files file)

-- The blocks of a file's disk.
abbrev pub its_blocks : FilesSeen → ℕ → ℕ
its_blocks s file = block_count s.disks (vnode_at s file).info.disk

-- The block after a file's last extent, where it is free.
abbrev pub end_block : FilesSeen → ℕ → Option ℕ
end_block s file =
    if can_lengthen (its_blocks s file) (other_extents s file) (own_extents s file)
    then option_map extent_end (last_or None (own_extents s file))
    else None

-- The block at which a file's next extent begins, where there may be one more.
abbrev pub new_block : FilesSeen → ℕ → Option ℕ
new_block s file =
    if nat_lt (length (other_extents s file) + length (own_extents s file)) MOST_EXTENTS
    then least_free (its_blocks s file) (other_extents s file ++ own_extents s file)
    else None

-- A file's extents with one more block.
abbrev pub next_extents : FilesSeen → ℕ → Option (List Extent)
next_extents s file = with_next_block (its_blocks s file) (other_extents s file) (own_extents s file)
