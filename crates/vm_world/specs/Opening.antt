-- The state at the opening, and laws that the fit is met. Public clauses cite this.
use Rattle.std.specs.Prelude.{◌≡◌, ◌≤◌, ℕ, List, [], length, Some, None, if◌then◌else◌, slice_index_or}
use Rattle.std.specs.FinMap as finite
use Rattle.std.specs.FinSet as set
use Rattle.page_store.specs.block_device.DiskSeen.{DiskSeen}
use Rattle.page_store.specs.page_hash.Names.{name_at}
use Rattle.page_store.specs.page_lock.Rows.{row_at, clear_row}
use Rattle.page_store.specs.Bays.{home, out, bay_at}
use Rattle.page_store.specs.Notes.{no_notes}
use Rattle.page_store.specs.Seen.{StoreSeen, IsSoundStore}
use Rattle.anon_slots.specs.Slots.{unused_slots, IsSoundAnonSlots}
use Rattle.flat_model.specs.Counted.{top_count}
use Rattle.vm_world.specs.FlatMemory.{Memory, flat_memory}
use Rattle.vm_world.specs.FramesFit.{FilesFit, DisksFit}
use Rattle.vm_world.specs.Marks.{AreOpeningMarks}
use Rattle.vm_world.specs.State.{KernelState, Seats, is_top}
use Rattle.vm_world.specs.StateFits.{StateFits}

-- No frame holds a name, has a holder or a bit, or is cached; and no disk is out, nor has counted past the end of counts.
pub record IsIdleStore (store : StoreSeen) : Type 0 where
  pub sound : IsSoundStore store
  pub unnamed : (frame : ℕ) → name_at store.names frame ≡ None
  pub clear : (frame : ℕ) → row_at store.rows frame ≡ clear_row
  pub uncached : store.cached ≡ []
  pub still : (number seat : ℕ) → ¬ (bay_at store.bays number ≡ out seat)
  pub most : (number : ℕ) (d : DiskSeen) → bay_at store.bays number ≡ home d → d.faults ≤ top_count

-- Memory at the opening: idle frames, no slot in use, no map, no translation; and an empty space for each process without a parent.
pub record IsOpeningMemory (m : Memory) (parents : List ℕ) : Type 0 where
  pub store : IsIdleStore m.world.store
  pub anon : m.world.anon ≡ unused_slots (length m.world.anon.counts)
  pub slots : IsSoundAnonSlots m.world.anon
  pub maps : m.world.maps ≡ []
  pub leads : m.world.hat.frames ≡ length m.world.store.frames
  pub hat : (place : ℕ) → slice_index_or m.world.hat.places place None ≡ None
  pub files : FilesFit m.world.files
  pub disks : DisksFit m.world.store.bays m.world.files.disks (length m.world.anon.counts)
  pub spaces : (p : ℕ) → finite.get m.spaces p ≡ (if is_top parents p then Some [] else None)

-- The state at the opening: such memory; those are born who have no parent; nothing happened yet; and the marks are as at the opening.
pub record IsOpening (s : KernelState) : Type 0 where
  pub memory : IsOpeningMemory s.memory s.parents
  pub born : (p : ℕ) → set.contains s.born p ≡ is_top s.parents p
  pub history : s.history ≡ []
  pub pending : s.pending ≡ 0
  pub calls : (f : ℕ) → slice_index_or s.calls f None ≡ None
  pub syncs : (seat : ℕ) → slice_index_or s.syncs seat None ≡ None
  pub plan : s.plan ≡ None
  pub marks : AreOpeningMarks s.memory.world.files (length s.syncs) s.marks

-- No seat has anything outside.
abbrev pub no_seats : Seats
no_seats seat = None

-- The state at the opening fits its own flat memory.
pub record OpeningLaw : Type 0 where
  pub fits : (s : KernelState) → IsOpening s → StateFits (flat_memory s.memory s.born no_notes) s no_seats
