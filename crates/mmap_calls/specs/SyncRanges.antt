-- What must come first of the pages of a range that a Sync wants clean. Inside: no public clause cites this.
use Rattle.std.specs.Prelude.{◌≡◌, ◌<◌, ◌≤◌, ℕ, List, Option, Some, None}
use Rattle.std.specs.FinMap as finite
use Rattle.seg_vn.specs.addr_space.Space.{Part}
use Rattle.seg_vn.specs.page_hash.declared.PageName.{PageName}
use Rattle.seg_vn.specs.vm_world.FlatMemory.{Memory}
use Rattle.seg_vn.specs.vm_world.Segments.{Spaces, Spot, spot_at}
use Rattle.seg_vn.specs.vm_world.Wants.{IsCleanPage}
use Rattle.seg_vn.specs.vm_world.Words.{Fits}
use Rattle.seg_vn.specs.vm_world.World.{world_seen}
use Rattle.seg_vn.specs.vm_world.declared.segment.Segment.{Segment}
use Rattle.seg_vn.specs.vm_world.declared.wants.Wants.{Wants}
use Rattle.seg_vn.specs.vm_world.declared.world.World as rust
use Rattle.seg_vn.specs.CleanPlaces.{SharesFilePage, WantsFirst}

-- The process is alive with these parts, and memory fits.
pub record IsAliveWith {D : Type 0} (w : rust.World D) (spaces : Spaces) (p : ℕ) (parts : List (Part Segment)) : Type 0 where
  pub memory : Fits w spaces
  pub here : finite.get spaces p ≡ Some parts

-- Each page of a file that shared mappings show from one page of a process up to another is clean.
abbrev pub AreClean : Memory → ℕ → ℕ → ℕ → Type 0
AreClean m p first end = (q : ℕ) (x : Spot) (name : PageName) → first ≤ q → q < end → spot_at m.spaces p q ≡ Some x → SharesFilePage m.world x name → IsCleanPage m.world name

-- A page of the process shows a page of a file that a Sync wants clean and that isn't, and this
-- must come first of it.
pub record WantsFirstAt (m : Memory) (p q : ℕ) (want : Wants) : Type 0 where
  pub spot : Spot
  pub here : spot_at m.spaces p q ≡ Some spot
  pub wants : WantsFirst m spot want

-- The pages of files that shared mappings show in the range are clean; or this page of the range
-- shows one that isn't, and this must come first of it.
abbrev pub CleansRange : Memory → ℕ → ℕ → ℕ → Option (ℕ × Wants) → Type 0
CleansRange m p first end None = AreClean m p first end
CleansRange m p first end (Some r) = (first ≤ r.0) × (r.0 < end) × WantsFirstAt m p r.0 r.1

-- What a range comes to, as its pages are to be clean, whatever the process and the spaces in which
-- it is alive with these parts.
abbrev pub RangeCleaned : {D : Type 0} → rust.World D → rust.World D → List (Part Segment) → ℕ → ℕ → Option (ℕ × Wants) → Type 0
RangeCleaned old new parts first end result = (spaces : Spaces) (p : ℕ) → IsAliveWith old spaces p parts → CleansRange (record { world = world_seen new; spaces = spaces }) p first end result

-- Some process may be alive with these parts.
abbrev pub MayShowParts : {D : Type 0} → rust.World D → List (Part Segment) → Type 0
MayShowParts w parts = (spaces : Spaces) × (p : ℕ) × IsAliveWith w spaces p parts
