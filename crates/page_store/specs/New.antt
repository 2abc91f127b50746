-- A new store. Public clauses cite this.
use Rattle.std.specs.Prelude.{◌≡◌, ◌≢◌, ℕ, ◌<◌, ◌/◌, List, [], Option, Some, None, length, replicate, slice_index, slice_index_or}
use Rattle.std.specs.List.{range_with_len}
use Rattle.block_device.specs.DiskSeen.{DiskSeen}
use Rattle.core_arena.specs.Bytes.{zeros}
use Rattle.page_clock.specs.Clock.{fresh_clock}
use Rattle.page_lock.specs.Rows.{clear_row}
use Rattle.page_store.specs.Bays.{BaySeen, missing, home, bay_at, bay_of, numbers_of}
use Rattle.page_store.specs.Seen.{StoreSeen}

-- Each of these disks is home under its number, the swap disk, if there is one, under 8, and no other number has a disk.
pub record AreHome (bays : List BaySeen) (disks : List (ℕ × DiskSeen)) (swap_disk : Option DiskSeen) : Type 0 where
  pub each : (i : ℕ) (d : ℕ × DiskSeen) → i < length disks → bay_at bays (slice_index_or disks i d).0 ≡ home (slice_index_or disks i d).1
  pub swap : bay_at bays 8 ≡ bay_of swap_disk
  pub others : (k : ℕ) → k ≢ 8 → ((i : ℕ) → i < length disks → slice_index (numbers_of disks) i ≢ k) → bay_at bays k ≡ missing

-- All frames are home, without a name, and free in rising order; their bytes are zeros and their rows clear. The hands of
-- the clock are half the frames apart. The disks are home.
pub record IsNew (s : StoreSeen) (count : ℕ) (disks : List (ℕ × DiskSeen)) (swap : Option DiskSeen) : Type 0 where
  pub frames : s.frames ≡ replicate count (Some zeros)
  pub names : s.names ≡ replicate count None
  pub rows : s.rows ≡ replicate count clear_row
  pub free : s.free ≡ range_with_len 0 count
  pub cached : s.cached ≡ []
  pub clock : s.clock ≡ fresh_clock count (count / 2)
  pub order : s.order ≡ numbers_of disks
  pub bays : AreHome s.bays disks swap
