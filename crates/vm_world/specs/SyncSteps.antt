-- Where a Sync began, as a state keeps it. Public clauses cite this.
use Rattle.std.specs.Prelude.{◌≡◌, ◌<◌, true, ℕ, suc, List, length, Option, Some, None, slice_index_or, slice_set, ◌==◌, ◌&&◌, if◌then◌else◌}
use Rattle.flat_model.specs.vm_types.declared.call.Call.{Call}
use Rattle.flat_model.specs.vm_types.declared.call.Call.TheVariants.{Sync}
use Rattle.page_store.specs.page_hash.declared.PageName.{PageName}
use Rattle.page_store.specs.Notes.{Note, Notes}
use Rattle.page_store.specs.Seen.{IsGone}
use Rattle.flat_model.specs.Flat.{Flat}
use Rattle.flat_model.specs.History.{IsStart}
use Rattle.vm_world.specs.Events.{IsEvent}
use Rattle.vm_world.specs.FlatMemory.{Memory}
use Rattle.vm_world.specs.MemoryFits.{MemoryFits}
use Rattle.vm_world.specs.NotesFit.{NotesFit}
use Rattle.vm_world.specs.State.{KernelState, Seats, Sent}
use Rattle.vm_world.specs.StateFits.{StateFits}
use Rattle.vm_world.specs.declared.sync_start.SyncStart.{SyncStart}
use Rattle.vm_world.specs.Wants.{IsCleanPage}

-- Where a Sync of so many bytes from an address on began: at the start that is kept, where that is a Sync's of the same range; else now.
abbrev pub start_kept : Option SyncStart → ℕ → ℕ → ℕ → ℕ
start_kept None addr bytes now = now
start_kept (Some b) addr bytes now = if b.addr == addr && b.length == bytes then b.from else now

-- Where a Sync of a seat began: at the start that its seat keeps for it, and where it keeps none, with the history as it is. Any other call begins now.
abbrev pub start_of : KernelState → ℕ → Call → ℕ
start_of s seat (Sync a len) = start_kept (slice_index_or s.syncs seat None) a len (length s.history)
start_of s seat call = length s.history

-- The starts that are kept once a call of a seat has begun: where that is a Sync, its own is.
abbrev pub starts_begun : Call → ℕ → ℕ → List (Option SyncStart) → List (Option SyncStart)
starts_begun (Sync a len) seat start syncs = slice_set syncs seat (Some (record { from = start; addr = a; length = len }))
starts_begun call seat start syncs = syncs

-- The state in which a seat's call has begun.
abbrev pub with_call_begun : KernelState → ℕ → Call → KernelState
with_call_begun s seat call = record s { syncs = starts_begun call seat (start_of s seat call) s.syncs }

-- That a call has begun is an event. A Sync that is answered may have begun where it did. And no flight writes a clean page, unless the page that it writes
-- is gone.
pub record StartRule : Type 0 where
  pub begins : (s : KernelState) (seat : ℕ) (sent : Option Sent) (call : Call) → seat < length s.syncs → IsEvent seat s sent (with_call_begun s seat call) sent
  pub began : (opening : Flat) (s : KernelState) (seats : Seats) (seat : ℕ) (call : Call) → StateFits opening s seats → IsStart s.history (length s.history) (suc seat) (start_of s seat call)
  pub unwritten : (m : Memory) (notes : Notes) (name : PageName) → MemoryFits m → NotesFit m.world notes → IsCleanPage m.world name
      → (seat : ℕ) (note : Note) → notes seat ≡ Some note → note.writes ≡ true → note.name ≡ name → IsGone m.world.store note.frame
