-- How files lie on their disks, and what a growth gives and keeps of it. Public clauses cite this.
use Rattle.std.specs.Prelude.{ℕ, ◌≡◌, ◌≢◌, ◌<◌, ◌≤◌, ◌+◌, ◌-◌, true, List, [], ◌∷◌, ◌++◌, length, map, replicate, count_by, Some, All, AllPairs}
use Rattle.vnode_files.specs.declared.extent.Extent.{Extent}
use Rattle.vnode_files.specs.declared.extent.TheConstants.{MOST_EXTENTS}
use Rattle.vnode_files.specs.declared.vnode.FileInfo.{FileInfo}
use Rattle.vnode_files.specs.Grow.{has_block, is_free, extent_end, page_count, growth}
use Rattle.vnode_files.specs.Vnode.{page_blocks, block_at}
use Rattle.vnode_files.specs.Files.{FilesSeen, vnode_at, block_count, extents_on}

-- No two of the extents meet: each block lies in at most one of them.
abbrev pub NoneMeet : List Extent → Type 0
NoneMeet extents = (b : ℕ) → count_by (has_block b) extents ≤ 1

-- No extent begins where the one before it ends.
abbrev pub HaveGaps : List Extent → Type 0
HaveGaps [] = Unit {0}
HaveGaps (e ∷ []) = Unit {0}
HaveGaps (e ∷ f ∷ es) = (extent_end e ≢ f.start) × HaveGaps (f ∷ es)

-- The extents of a file on a disk of so many blocks: each has a block, lies past block 0, and ends on the disk; and none begins where the one before
-- it ends.
pub record LieOnDisk (blocks : ℕ) (extents : List Extent) : Type 0 where
  pub some : All (λ e. 1 ≤ e.pages) extents
  pub within : All (λ e. (1 ≤ e.start) × (extent_end e ≤ blocks)) extents
  pub gaps : HaveGaps extents

-- Each file lies on its disk.
abbrev pub LieOnDisks : FilesSeen → Type 0
LieOnDisks s = All (λ v. LieOnDisk (block_count s.disks v.info.disk) v.info.extents) s.files

-- On each disk no two extents meet.
abbrev pub NoFilesMeet : FilesSeen → Type 0
NoFilesMeet s = (disk : ℕ) → NoneMeet (extents_on disk s.files)

-- On each disk there are at most as many extents as its table has room for.
abbrev pub HaveFewExtents : FilesSeen → Type 0
HaveFewExtents s = (disk : ℕ) → length (extents_on disk s.files) ≤ MOST_EXTENTS

-- What holds of how files lie on their disks holds of them afterwards.
pub record KeepsLayout (old new : FilesSeen) : Type 0 where
  pub on_disks : LieOnDisks old → LieOnDisks new
  pub none_meet : NoFilesMeet old → NoFilesMeet new
  pub few : HaveFewExtents old → HaveFewExtents new

-- A file that is to be added has a place beside the files of its disk.
pub record HasPlaceBeside (s : FilesSeen) (info : FileInfo) : Type 0 where
  pub on_disk : LieOnDisk (block_count s.disks info.disk) info.extents
  pub none_meet : NoneMeet (extents_on info.disk s.files ++ info.extents)
  pub few : length (extents_on info.disk s.files) + length info.extents ≤ MOST_EXTENTS

-- How many pages a file keeps.
abbrev pub pages_kept : FilesSeen → ℕ → ℕ
pages_kept s file = page_count (vnode_at s file).info.extents

-- The number of the disk on which a file lies.
abbrev pub disk_of_file : FilesSeen → ℕ → ℕ
disk_of_file s file = (vnode_at s file).info.disk

-- The block of a page of a file on the file's disk.
abbrev pub block_of_page : FilesSeen → ℕ → ℕ → ℕ
block_of_page s file page = block_at (vnode_at s file).info.extents page

-- No block of a disk is that of two pages.
abbrev pub HaveOwnBlocks : FilesSeen → Type 0
HaveOwnBlocks s =
    (f g i j : ℕ) → f < length s.files → g < length s.files → disk_of_file s f ≡ disk_of_file s g
    → i < pages_kept s f → j < pages_kept s g
    → block_of_page s f i ≡ block_of_page s g j → (f ≡ g) × (i ≡ j)

-- The block of each page is one of its disk, past block 0.
abbrev pub HaveBlocksOnDisk : FilesSeen → Type 0
HaveBlocksOnDisk s =
    (f i : ℕ) → f < length s.files → i < pages_kept s f
    → (1 ≤ block_of_page s f i) × (block_of_page s f i < block_count s.disks (disk_of_file s f))

-- A file keeps no more pages than its disk has blocks.
abbrev pub HaveFewPages : FilesSeen → Type 0
HaveFewPages s = (f : ℕ) → f < length s.files → pages_kept s f ≤ block_count s.disks (disk_of_file s f)

-- What the way in which files lie says of their pages.
pub record FileLayoutLaw : Type 0 where
  pub own : (s : FilesSeen) → NoFilesMeet s → HaveOwnBlocks s
  pub on_disks : (s : FilesSeen) → LieOnDisks s → HaveBlocksOnDisk s
  pub pages : (s : FilesSeen) → NoFilesMeet s → LieOnDisks s → HaveFewPages s

-- A file's extents have come to keep more pages: the old pages keep their blocks, the blocks of the new ones were free and differ, and extents begin
-- where they began.
pub record TakesBlocks (blocks : ℕ) (used own next : List Extent) : Type 0 where
  pub added : List ℕ
  pub places : page_blocks next ≡ page_blocks own ++ added
  pub kept : (page : ℕ) → page < page_count own → block_at next page ≡ block_at own page
  pub free : All (λ b. is_free blocks used b ≡ true) added
  pub differ : AllPairs (λ b c. b ≢ c) added
  pub new_starts : List ℕ
  pub starts : map (λ e. e.start) next ≡ map (λ e. e.start) own ++ new_starts

-- What a growth to so many pages gives, and what it keeps.
pub record GrowthGives (blocks : ℕ) (others own : List Extent) (pages : ℕ) (next : List Extent) : Type 0 where
  pub takes : TakesBlocks blocks (others ++ own) own next
  pub count : page_count next ≡ page_count own + (pages - page_count own)
  pub on_disk : LieOnDisk blocks own → LieOnDisk blocks next
  pub none_meet : NoneMeet (others ++ own) → NoneMeet (others ++ next)
  pub few : length others + length own ≤ MOST_EXTENTS → length others + length next ≤ MOST_EXTENTS

-- The law of growth: the extents that a growth answers are as GrowthGives says.
abbrev pub GrowthLaw : Type 0
GrowthLaw =
    (blocks : ℕ) (others own : List Extent) (pages : ℕ) (next : List Extent)
    → growth blocks others own pages ≡ Some next → GrowthGives blocks others own pages next

-- A file has come to keep so many pages, if it didn't keep more before: its new pages are blank, and lie in blocks of its disk that were free.
pub record GrowsFile (old new : FilesSeen) (file pages : ℕ) : Type 0 where
  pub takes : TakesBlocks (block_count old.disks (disk_of_file old file)) (extents_on (disk_of_file old file) old.files)
      (vnode_at old file).info.extents (vnode_at new file).info.extents
  pub count : pages_kept new file ≡ pages_kept old file + (pages - pages_kept old file)
  pub blanks : (vnode_at new file).blanks ≡ (vnode_at old file).blanks ++ replicate (pages - pages_kept old file) true
