-- What a disk holds of a history. Public clauses cite this.
use Rattle.std.specs.Prelude.{ℕ, ◌≡◌, ◌≢◌, ◌≤◌, ◌⊎◌, ◌-◌, ◌^◌, min, List, [], length, replicate, Some, slice_index_or}
use Rattle.std.specs.List.{Contains}
use Rattle.flat_model.specs.vm_types.declared.call.Entry.{Entry}
use Rattle.flat_model.specs.Flat.{Flat}
use Rattle.flat_model.specs.History.{replay}
use Rattle.page_store.specs.page_hash.declared.PageName.{PageName}
use Rattle.page_store.specs.Bytes.{clip}
use Rattle.mark_laws.specs.Pages.{ArePageOf, after_first, bytes_there, disk_place, page_there}
use Rattle.mark_laws.specs.Syncs.{HasSynced}

-- The bytes have the page of a file as it was after the first j entries, up to the file's end as it was then.
abbrev pub HasPageThen : Flat → List Entry → ℕ → PageName → List ℕ → Type 0
HasPageThen F H j name bytes = clip (bytes_there (after_first F H j) name) bytes ≡ page_there (after_first F H j) name

-- The page was zeros then, up to the file's end.
abbrev pub WasZeros : Flat → List Entry → ℕ → PageName → Type 0
WasZeros F H j name = page_there (after_first F H j) name ≡ replicate 4096 0

-- A BLOCK HOLDS A FRONT OF THE HISTORY for the page that a file keeps there: the page as it was after so many entries, unless it was zeros then. That is no
-- shorter than where any Sync of the page began that answered.
pub record HoldsFront (F : Flat) (H : List Entry) (name : PageName) (bytes : List ℕ) : Type 0 where
  pub entries : ℕ
  pub made : entries ≤ length H
  pub holds : HasPageThen F H entries name bytes ⊎ WasZeros F H entries name
  pub synced : (k b : ℕ) → HasSynced F H k b name → b ≤ entries

-- WHAT A DISK HOLDS that had these blocks at first. Writes failed of some of the blocks that files keep for pages: of no more than it counted faults. But for
-- these and block 0 each block is as it was at first, or is the page that a file keeps there; and but for these, each that a file keeps holds a front of the history.
pub record HoldsHistory (F : Flat) (H : List Entry) (number faults : ℕ) (given now : List (List ℕ)) : Type 0 where
  pub failed : List ℕ
  pub few : min (length failed) (2 ^ 64 - 1) ≤ faults
  pub kept : (block : ℕ) → Contains failed block → (name : PageName) × (disk_place (replay F H) name ≡ Some (number, block))
  pub each : (block : ℕ) → block ≢ 0 → ¬ Contains failed block
      → (slice_index_or now block [] ≡ slice_index_or given block [])
      ⊎ ((name : PageName) × (disk_place (replay F H) name ≡ Some (number, block)) × ArePageOf F H name (slice_index_or now block []))
  pub fronts : (name : PageName) (block : ℕ) → disk_place (replay F H) name ≡ Some (number, block) → ¬ Contains failed block
      → HoldsFront F H name (slice_index_or now block [])
