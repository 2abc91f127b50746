-- What plans wait for, and which pages can be pushed out. Public clauses cite this.
use Rattle.std.specs.Prelude.{◌≡◌, ℕ, Option, Some, None, IsSome}
use Rattle.block_device.specs.DiskSeen.{DiskSeen}
use Rattle.core_arena.specs.Bytes.{bytes_at}
use Rattle.page_hash.specs.Names.{find}
use Rattle.page_hash.specs.declared.PageName.{PageName}
use Rattle.page_lock.specs.Rows.{row_at}
use Rattle.page_store.specs.Bays.{bay_at, home, out}
use Rattle.page_store.specs.Seen.{StoreSeen, IsListedFrame, residence}
use Rattle.page_store.specs.declared.plan.Hold.{Hold}
use Rattle.page_store.specs.declared.plan.Hold.TheVariants.{Page, Disk, File}
use Rattle.page_store.specs.declared.plan.Plan.{Plan}
use Rattle.page_store.specs.declared.plan.Plan.TheVariants.{Read, Push}
use Rattle.page_store.specs.declared.residence.Residence.TheVariants as at

-- the page of a plan
abbrev pub plan_page : Plan → PageName
plan_page (Read name) = name
plan_page (Push name) = name

-- the seat that holds the lock of this frame, where there is one
abbrev pub holder_in : Option ℕ → StoreSeen → Option ℕ
holder_in None s = None
holder_in (Some frame) s = (row_at s.rows frame).holder

-- the seat that holds the lock of a name's frame
abbrev pub holder_of : StoreSeen → PageName → Option ℕ
holder_of s name = holder_in (find s.names name) s

-- What is waited for: nothing exactly where the disk is home and the page isn't locked; else the seat that holds the page's
-- lock, or the seat that has the disk.
abbrev pub Waits : StoreSeen → PageName → ℕ → Option Hold → Type 0
Waits s name disk None = ((d : DiskSeen) × (bay_at s.bays disk ≡ home d)) × (holder_of s name ≡ None)
Waits s name disk (Some (Page seat)) = holder_of s name ≡ Some seat
Waits s name disk (Some (Disk seat)) = bay_at s.bays disk ≡ out seat
Waits s name disk (Some (File seat)) = ⊥

-- A frame whose page can be pushed or released: it is home, on no list, and nobody has its lock or keeps it.
pub record IsVictim (s : StoreSeen) (frame : ℕ) : Type 0 where
  pub here : IsSome (bytes_at s.frames frame)
  pub unlisted : IsListedFrame s frame → ⊥
  pub unlocked : (row_at s.rows frame).holder ≡ None
  pub unkept : (row_at s.rows frame).keeps ≡ 0

-- The frame chosen is one that can be pushed or released, and none exactly where there is none.
abbrev pub ChoosesFrame : StoreSeen → Option ℕ → Type 0
ChoosesFrame s None = (frame : ℕ) → IsVictim s frame → ⊥
ChoosesFrame s (Some frame) = IsVictim s frame
