-- Where the disks are. Public clauses cite this.
use Rattle.std.specs.Prelude.{◌≡◌, ℕ, ◌<◌, List, [], ◌∷◌, Option, Some, None, slice_index_or, slice_index, slice_set, length, map}
use Rattle.block_device.specs.DiskSeen.{DiskSeen, one_disk}
use Rattle.page_store.specs.declared.bays.Bay.{Bay}
use Rattle.page_store.specs.declared.bays.Bay.TheVariants.{Missing, Home, Out}

-- where a disk is: there is none, it is at home, or it is out with a seat
pub data BaySeen : Type 0 where
  missing : BaySeen
  home : DiskSeen → BaySeen
  out : ℕ → BaySeen

-- where the disk of a number is
abbrev pub bay_at : List BaySeen → ℕ → BaySeen
bay_at bays number = slice_index_or bays number missing

-- no seat has the disk
abbrev pub IsStill : BaySeen → Type 0
IsStill missing = Unit {0}
IsStill (home disk) = Unit {0}
IsStill (out seat) = ⊥

-- what is seen of a bay
abbrev pub bay_seen : {D : Type 0} → (D → DiskSeen) → Bay D → BaySeen
bay_seen seen Missing = missing
bay_seen seen (Home disk) = home (seen disk)
bay_seen seen (Out seat) = out seat

-- a told block; nothing where the disk does not tell
abbrev pub block_of : Option (List (List ℕ)) → ℕ → List ℕ
block_of None block = []
block_of (Some blocks) block = slice_index_or blocks block []

-- numbers of disks, below 8, none twice
pub record AreNumbers (numbers : List ℕ) : Type 0 where
  pub below : (i : ℕ) → i < length numbers → slice_index numbers i < 8
  pub apart : (i j : ℕ) → i < length numbers → j < length numbers → slice_index numbers i ≡ slice_index numbers j → i ≡ j

-- the numbers of disks
abbrev pub numbers_of : {D : Type 0} → List (ℕ × D) → List ℕ
numbers_of disks = map (λ disk. disk.0) disks

-- what is seen of numbered disks
abbrev pub pairs_seen : {D : Type 0} → (D → DiskSeen) → List (ℕ × D) → List (ℕ × DiskSeen)
pairs_seen seen disks = map (λ disk. (disk.0, seen disk.1)) disks

-- a disk that is not there
abbrev pub no_disk : DiskSeen
no_disk = record { content = None; size = 0; kind = one_disk; faults = 0; calls = 0 }

-- the disk that is home in a bay
abbrev pub disk_in : BaySeen → DiskSeen
disk_in missing = no_disk
disk_in (home disk) = disk
disk_in (out seat) = no_disk

-- the disks of these numbers, as they are in their bays
abbrev pub disks_in : List BaySeen → List ℕ → List (ℕ × DiskSeen)
disks_in bays numbers = map (λ number. (number, disk_in (bay_at bays number))) numbers

-- the bays once numbered disks were put there, the last one first
abbrev pub bays_with : List (ℕ × DiskSeen) → List BaySeen → List BaySeen
bays_with [] bays = bays
bays_with (disk ∷ more) bays = slice_set (bays_with more bays) disk.0 (home disk.1)

-- how many faults a disk that is home has counted
abbrev pub home_faults : BaySeen → Option ℕ
home_faults missing = None
home_faults (home disk) = Some disk.faults
home_faults (out seat) = None

-- a bay with or without a disk
abbrev pub bay_of : Option DiskSeen → BaySeen
bay_of None = missing
bay_of (Some disk) = home disk
