-- Marks that rise as a Sync is answered. Public clauses cite this.
use Rattle.std.specs.Prelude.{◌≡◌, ◌≤◌, ◌<◌, ℕ, List, Some, slice_get}
use Rattle.disk_marks.specs.Marks.{MarksSeen}
use Rattle.fault_entry.specs.page_hash.declared.PageName.{PageName}
use Rattle.fault_entry.specs.seg_vn.CleanPlaces.{SharesFilePage}
use Rattle.fault_entry.specs.vm_world.StateSyncs.{marks_all_risen}
use Rattle.fault_entry.specs.vm_world.FlatMemory.{Memory}
use Rattle.fault_entry.specs.vm_world.Segments.{Spot, spot_at}
use Rattle.fault_entry.specs.vm_world.World.{World}
use Rattle.fault_entry.specs.vm_world.declared.segment.Segment.{Segment}

-- The marks of these pages rose, one after another: each is such a page, and every such page is one of them.
pub record Raises (w : World) (P : PageName → Type 0) (entries : ℕ) (m n : MarksSeen) : Type 0 where
  pub names : List PageName
  pub each : (i : ℕ) (name : PageName) → slice_get names i ≡ Some name → P name
  pub all : (name : PageName) → P name → (i : ℕ) × (slice_get names i ≡ Some name)
  pub rose : n ≡ marks_all_risen w m names entries

-- The page is one of a file's from one up to another.
pub record IsPageFrom (file from end : ℕ) (name : PageName) : Type 0 where
  pub object : name.object ≡ file
  pub low : from ≤ name.page
  pub high : name.page < end

-- A shared segment shows the page of a file at a place from one up to another.
abbrev pub IsSharedAt : World → Segment → ℕ → ℕ → PageName → Type 0
IsSharedAt w s from to name = (at : ℕ) × (from ≤ at) × (at < to) × SharesFilePage w (s, at) name

-- A page of a process, from one up to another, shows the page of a file through a shared segment.
abbrev pub IsSharedIn : Memory → ℕ → ℕ → ℕ → PageName → Type 0
IsSharedIn m p first end name = (q : ℕ) × (x : Spot) × (first ≤ q) × (q < end) × (spot_at m.spaces p q ≡ Some x) × SharesFilePage m.world x name
