-- How many frames are away, and how many disks are out. Public clauses cite this.
use Rattle.std.specs.Prelude.{◌≤◌, ℕ, Bool, true, false, length, filter, is_none}
use Rattle.page_store.specs.Bays.{BaySeen, missing, home, out}
use Rattle.page_store.specs.StoreFits.{StoreFits}
use Rattle.page_store.specs.Notes.{Notes}
use Rattle.page_store.specs.Seen.{StoreSeen, IsSoundStore}
use Rattle.page_store.specs.Table.{PlaceTable}

-- The disk is out with a seat.
abbrev pub is_disk_out : BaySeen → Bool
is_disk_out missing = false
is_disk_out (home disk) = false
is_disk_out (out seat) = true

-- There is a disk, home or out.
abbrev pub is_disk : BaySeen → Bool
is_disk missing = false
is_disk (home disk) = true
is_disk (out seat) = true

-- How many frames of a store are away.
abbrev pub frames_away : StoreSeen → ℕ
frames_away s = length (filter is_none s.frames)

-- How many disks of a store are out with seats.
abbrev pub disks_out : StoreSeen → ℕ
disks_out s = length (filter is_disk_out s.bays)

-- How many disks a store has, home or out.
abbrev pub disk_count : StoreSeen → ℕ
disk_count s = length (filter is_disk s.bays)

-- At most one frame is away for each disk that is out, and so at most one for each disk.
pub record AwayLaw : Type 0 where
  pub out : (s : StoreSeen) (notes : Notes) (table : PlaceTable) → IsSoundStore s → StoreFits s notes table → frames_away s ≤ disks_out s
  pub disks : (s : StoreSeen) (notes : Notes) (table : PlaceTable) → IsSoundStore s → StoreFits s notes table → frames_away s ≤ disk_count s
