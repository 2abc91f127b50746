-- What a caller knows of disks while it makes whole transfers. Inside: no public clause cites this.
use Rattle.std.specs.Prelude.{◌≡◌, ◌≢◌, ℕ, ◌<◌, List}
use Rattle.block_device.specs.DiskSeen.{DiskSeen}
use Rattle.page_store.specs.Bays.{BaySeen, missing, home, out, bay_at}

-- a disk is there, and where it is home it has this block
pub record HasDisk (bay : BaySeen) (block : ℕ) : Type 0 where
  pub there : bay ≢ missing
  pub within : (d : DiskSeen) → bay ≡ home d → block < d.size

-- every disk that was there is there, with its blocks, and none is out that was not
pub record StayThere (old new : List BaySeen) : Type 0 where
  pub there : (number block : ℕ) → HasDisk (bay_at old number) block → HasDisk (bay_at new number) block
  pub away : (number seat : ℕ) → bay_at new number ≡ out seat → bay_at old number ≡ out seat

-- disks 0 and 1 are there, with at least four blocks each, and no disk is out
pub record AreReady (bays : List BaySeen) : Type 0 where
  pub there : (number block : ℕ) → number < 2 → block < 4 → HasDisk (bay_at bays number) block
  pub still : (number seat : ℕ) → bay_at bays number ≡ out seat → ⊥
