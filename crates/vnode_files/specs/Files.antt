-- The files by number and the sizes of their disks, and how a file grows among them. Public clauses cite this.
use Rattle.std.specs.Prelude.{ℕ, ◌≡◌, ◌≢◌, ◌<◌, ◌==◌, List, ◌∷◌, ◌++◌, [], length, Option, Some, None, unwrap_or, slice_index_or, slice_set, filter, remove}
use Rattle.std.specs.List.{flat_map}
use Rattle.std.specs.Ordering.{nat_cmp}
use Rattle.std.specs.FinMap as map
use Rattle.vnode_files.specs.declared.extent.Extent.{Extent}
use Rattle.vnode_files.specs.Grow.{growth}
use Rattle.vnode_files.specs.Vnode.{VnodeSeen, no_vnode, with_extents}

-- The files by number, and the blocks of each disk that was set.
pub record FilesSeen : Type 0 where
  pub disks : map.FinMap nat_cmp ℕ
  pub files : List VnodeSeen

-- Files as they begin: no disk was set, and there is no file.
abbrev pub no_files : FilesSeen
no_files = record { disks = map.empty; files = [] }

-- The file of a number.
abbrev pub vnode_at : FilesSeen → ℕ → VnodeSeen
vnode_at s file = slice_index_or s.files file no_vnode

-- The files with another one in the place of a file.
abbrev pub with_vnode : FilesSeen → ℕ → VnodeSeen → FilesSeen
with_vnode s file v = record s { files = slice_set s.files file v }

-- The files with one more.
abbrev pub with_next_file : FilesSeen → VnodeSeen → FilesSeen
with_next_file s v = record s { files = s.files ++ v ∷ [] }

-- The files where a disk was set to so many blocks.
abbrev pub with_disk : FilesSeen → ℕ → ℕ → FilesSeen
with_disk s disk blocks = record s { disks = map.insert s.disks disk blocks }

-- How many blocks a disk has; none where it wasn't set.
abbrev pub block_count : map.FinMap nat_cmp ℕ → ℕ → ℕ
block_count disks disk = unwrap_or (map.get disks disk) 0

-- The extents of those of the files that lie on a disk.
abbrev pub extents_on : ℕ → List VnodeSeen → List Extent
extents_on disk files = flat_map (λ v. v.info.extents) (filter (λ v. v.info.disk == disk) files)

-- The extents of a file that is to keep so many pages; none where its disk has no block for one of them.
abbrev pub growth_of : FilesSeen → ℕ → ℕ → Option (List Extent)
growth_of s file pages =
    let info = (vnode_at s file).info in
    growth (block_count s.disks info.disk) (extents_on info.disk (remove s.files file)) info.extents pages

-- The files once a file grew onto these extents; as they were where there are none.
abbrev pub with_growth : FilesSeen → ℕ → Option (List Extent) → FilesSeen
with_growth s file None = s
with_growth s file (Some extents) = with_vnode s file (with_extents (vnode_at s file) extents)

-- No file before this number has the name.
abbrev pub NoneBefore : List VnodeSeen → List ℕ → ℕ → Type 0
NoneBefore files name end = (k : ℕ) → k < end → (slice_index_or files k no_vnode).info.name ≢ name

-- The least number of a file that has the name, or none where no file has it.
abbrev pub IsNumberOf : List VnodeSeen → List ℕ → Option ℕ → Type 0
IsNumberOf files name None = NoneBefore files name (length files)
IsNumberOf files name (Some number) =
    (number < length files) × ((slice_index_or files number no_vnode).info.name ≡ name) × NoneBefore files name number
