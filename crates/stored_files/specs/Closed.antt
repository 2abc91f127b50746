-- The files as a run closes them: their records, the bytes that the disks have of them, and the tables. Public clauses cite this.
use Rattle.std.specs.Prelude.{ℕ, Bool, ◌≡◌, ◌<◌, ◌==◌, List, [], ◌∷◌, length, map, filter, fold, take, Ok, IfSome, Some, slice_get, slice_index_or, false}
use Rattle.std.specs.List.{concat}
use Rattle.block_device.specs.DiskSeen.{DiskSeen}
use Rattle.vm_report.specs.flat_model.Flat.{File}
use Rattle.vm_report.specs.flat_model.Parts.{file_bytes}
use Rattle.volume_format.specs.vnode_files.declared.vnode.FileInfo.{FileInfo}
use Rattle.volume_format.specs.vnode_files.Vnode.{page_blocks}
use Rattle.volume_format.specs.Table.{TableSeen, with_table_entry, no_entry}
use Rattle.volume_format.specs.Rules.{reading}
use Rattle.volume_format.specs.Writing.{encoding}

-- The bytes that a disk of these blocks has of a file: those of its pages' blocks, up to its length.
abbrev pub stored_bytes : List (List ℕ) → FileInfo → List ℕ
stored_bytes blocks info = take info.length (concat (map (λ block. slice_index_or blocks block []) (page_blocks info.extents)))

-- A file of a table, on the disk of a number.
abbrev pub info_on : ℕ → FileInfo → FileInfo
info_on disk info = record info { disk = disk }

-- The record of a file that has this name, as flat memory has the file.
abbrev pub info_in_flat : List ℕ → File → FileInfo
info_in_flat name file = record { name = name; disk = file.disk; extents = file.extents; length = file.len; writable = file.writable }

-- The records of files with these names in turn, as flat memory has them.
abbrev pub infos_in_flat : List (List ℕ) → List File → List FileInfo
infos_in_flat [] files = []
infos_in_flat (name ∷ names) [] = []
infos_in_flat (name ∷ names) (file ∷ files) = info_in_flat name file ∷ infos_in_flat names files

-- What no call changes of a file's record: its name, its disk and its mode.
abbrev pub mode_in : FileInfo → List ℕ × ℕ × Bool
mode_in info = (info.name, info.disk, info.writable)

-- What no call changes of each file's record: its name, its disk and its mode.
abbrev pub modes_in : List FileInfo → List (List ℕ × ℕ × Bool)
modes_in infos = map mode_in infos

-- The files of a disk, as its table has them: in the order of their first blocks.
abbrev pub table_entries : ℕ → List FileInfo → List FileInfo
table_entries disk infos = fold with_table_entry [] (map (info_on 0) (filter (λ i. i.disk == disk) infos))

-- The table of a disk with so many blocks: those of the files that lie on it.
abbrev pub table_of_disk : ℕ → ℕ → List FileInfo → TableSeen
table_of_disk disk blocks infos = record { blocks = blocks; entries = table_entries disk infos }

-- Block 0 of a disk says the table of its files, and is that table's one spelling.
pub record SaysTable (disk size : ℕ) (infos : List FileInfo) (block : List ℕ) : Type 0 where
  pub spelling : block ≡ encoding (table_of_disk disk size infos)
  pub says : reading block size ≡ Ok (table_of_disk disk size infos)

-- A disk, where it tells, has the bytes of a file that lies there.
abbrev pub StoresFile : ℕ × DiskSeen → FileInfo → List ℕ → Type 0
StoresFile disk info bytes = info.disk ≡ disk.0 → IfSome disk.1.content (λ blocks. stored_bytes blocks info ≡ bytes)

-- The record of file k, or one without a name if there are fewer files.
abbrev pub info_at : List FileInfo → ℕ → FileInfo
info_at infos k = slice_index_or infos k no_entry

-- The disks have the bytes of all files.
abbrev pub StoreFiles : List (ℕ × DiskSeen) → List FileInfo → (ℕ → List ℕ) → Type 0
StoreFiles disks infos bytes =
    (i k : ℕ) (disk : ℕ × DiskSeen) → slice_get disks i ≡ Some disk → k < length infos → StoresFile disk (info_at infos k) (bytes k)

-- A disk, where it tells, says the table of its files in block 0.
abbrev pub SaysItsTable : List FileInfo → ℕ × DiskSeen → Type 0
SaysItsTable infos disk = IfSome disk.1.content (λ blocks. SaysTable disk.0 disk.1.size infos (slice_index_or blocks 0 []))

-- Each disk that tells says the table of its files in block 0.
abbrev pub SayTables : List (ℕ × DiskSeen) → List FileInfo → Type 0
SayTables disks infos = (i : ℕ) (disk : ℕ × DiskSeen) → slice_get disks i ≡ Some disk → SaysItsTable infos disk

-- The bytes of a file of flat memory by its number.
abbrev pub flat_bytes : List File → ℕ → List ℕ
flat_bytes files k = file_bytes (slice_index_or files k (record { len = 0; disk = 0; extents = []; writable = false; pages = [] }))
