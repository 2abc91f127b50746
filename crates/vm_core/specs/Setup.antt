-- What a state may be started with, and what it has then. Public clauses cite this.
use Rattle.std.specs.Prelude.{◌≡◌, ◌<◌, ◌≤◌, ◌+◌, ◌^◌, ◌/◌, ℕ, List, Option, Some, MatchOption, IsSome, length, option_map, is_some, if◌then◌else◌, slice_get, All}
use Rattle.std.specs.FinMap as finite
use Rattle.fault_entry.specs.block_device.DiskSeen.{DiskSeen}
use Rattle.fault_entry.specs.flat_model.Counted.{top_count}
use Rattle.fault_entry.specs.page_clock.Clock.{fresh_clock}
use Rattle.fault_entry.specs.page_store.Bays.{numbers_of, pairs_seen}
use Rattle.fault_entry.specs.page_store.New.{AreHome}
use Rattle.fault_entry.specs.vnode_files.Files.{FilesSeen, vnode_at}
use Rattle.fault_entry.specs.vnode_files.Layout.{LieOnDisks, NoFilesMeet, HaveFewExtents}
use Rattle.fault_entry.specs.vm_world.Marks.{AreOpeningMarks}
use Rattle.fault_entry.specs.vm_world.State.{KernelState}
use Rattle.vm_core.specs.declared.setup.Setup.{Setup}

-- How many disks there are, the swap disk among them.
abbrev pub disk_total : {X Y : Type 0} → List X → Option Y → ℕ
disk_total disks swap = length disks + (if is_some swap then 1 else 0)

-- A disk of the list has this number and so many blocks.
pub record ListsDisk (disks : List (ℕ × DiskSeen)) (number blocks : ℕ) : Type 0 where
  pub place : ℕ
  pub disk : DiskSeen
  pub there : slice_get disks place ≡ Some (number, disk)
  pub size : disk.size ≡ blocks

-- The disks that were set are these, each with its blocks, fewer than 2^20; each file's disk is one of them; and the files lie on them, past block 0, where
-- no two meet, with an extent each at least, and at most as many on each disk as its table has room for.
pub record FilesOnDisks (files : FilesSeen) (disks : List (ℕ × DiskSeen)) : Type 0 where
  pub set : (file : ℕ) → file < length files.files → IsSome (finite.get files.disks (vnode_at files file).info.disk)
  pub there : (number blocks : ℕ) → finite.get files.disks number ≡ Some blocks → ListsDisk disks number blocks
  pub all : (place number : ℕ) (disk : DiskSeen) → slice_get disks place ≡ Some (number, disk) → IsSome (finite.get files.disks number)
  pub small : (number blocks : ℕ) → finite.get files.disks number ≡ Some blocks → blocks < 2 ^ 20
  pub lie : LieOnDisks files
  pub apart : NoFilesMeet files
  pub few : HaveFewExtents files
  pub some : (file : ℕ) → file < length files.files → 1 ≤ length (vnode_at files file).info.extents

-- There is a swap disk exactly where there are slots, and it has a block for each.
abbrev pub SwapServes : ℕ → Option DiskSeen → Type 0
SwapServes slots swap = MatchOption swap (slots ≡ 0) (λ disk. (0 < slots) × (slots ≤ disk.size))

-- The state has what the setup names: frames, with the hands of the clock half of them apart, translations, slots, disks, files, seats, and of each process
-- its parent and its entries; and the blocks of the files' disks are marked as at the opening.
pub record IsMadeOf {D : Type 0} (seen : D → DiskSeen) (s : KernelState) (setup : Setup D) : Type 0 where
  pub frames : length s.memory.world.store.frames ≡ setup.frames
  pub clock : s.memory.world.store.clock ≡ fresh_clock setup.frames (setup.frames / 2)
  pub translations : length s.memory.world.hat.places ≡ setup.translations
  pub slots : length s.memory.world.anon.counts ≡ setup.slots
  pub disks : AreHome s.memory.world.store.bays (pairs_seen seen setup.disks.items) (option_map seen setup.swap)
  pub order : s.memory.world.store.order ≡ numbers_of setup.disks.items
  pub files : s.memory.world.files ≡ setup.files
  pub parents : s.parents ≡ setup.parents.items
  pub entries : s.entries ≡ setup.entries.items
  pub seats : length s.syncs ≡ setup.seats
  pub marks : AreOpeningMarks setup.files setup.seats s.marks

-- The counts of faults of these disks aren't past the end of counts.
abbrev pub HaveCounted : List (ℕ × DiskSeen) → Type 0
HaveCounted disks = All (λ (d : ℕ × DiskSeen). d.1.faults ≤ top_count) disks
