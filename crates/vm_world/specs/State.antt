-- The kernel's state, and what the seats have outside it. Public clauses cite this.
use Rattle.std.specs.Prelude.{ℕ, zero, suc, ◌^◌, ◌==◌, Bool, false, List, length, map, Option, None, if◌then◌else◌, option_map, slice_get, slice_index, slice_index_or}
use Rattle.std.specs.Option.{option_map_or}
use Rattle.std.specs.Ordering.{nat_cmp}
use Rattle.std.specs.FinMap as finite
use Rattle.std.specs.FinSet as set
use Rattle.flat_model.specs.vm_types.declared.call.Call.{Call}
use Rattle.flat_model.specs.vm_types.declared.call.Entry.{Entry}
use Rattle.page_store.specs.Notes.{Note, Notes}
use Rattle.page_store.specs.declared.plan.Plan.{Plan}
use Rattle.flat_model.specs.vnode_files.Vnode.{VnodeSeen}
use Rattle.mark_laws.specs.disk_marks.Marks.{MarksSeen}
use Rattle.vm_world.specs.FlatMemory.{Memory}
use Rattle.vm_world.specs.World.{StoreCore, core_of}
use Rattle.vm_world.specs.declared.sync_start.SyncStart.{SyncStart}

-- A process and its call.
abbrev pub Caller : Type 0
Caller = ℕ × Call

-- What a seat has outside the state: its transfer, and the process and call that it is for; none where it is for the clock.
pub record Sent : Type 0 where
  pub note : Note
  pub of : Option Caller

-- What each seat has outside, none where it has nothing.
abbrev pub Seats : Type 0
Seats = ℕ → Option Sent

-- The transfers alone that the seats have outside.
abbrev pub notes_of : Seats → Notes
notes_of seats seat = option_map (λ sent. sent.note) (seats seat)

-- What the seats of a list have outside; none past its end.
abbrev pub seats_of : List (Option Sent) → Seats
seats_of list seat = slice_index_or list seat None

-- The seats, one of which has this outside.
abbrev pub with_sent : Seats → ℕ → Option Sent → Seats
with_sent seats seat sent other = if other == seat then sent else seats other

-- A plan that was answered: to which seat, and for which process and call; none for the clock.
pub record KeptPlan : Type 0 where
  pub seat : ℕ
  pub plan : Plan
  pub of : Option Caller

-- The state: memory; who was ever alive; the history; the tails that became zeros since the last entry, as bits; for each file the seat whose call is
-- between two parts; for each seat where its Sync began, and of which range; the last plan; by the set-up each process's parent, or 0, and its most entries; and what is known of
-- the blocks of files' disks.
pub record KernelState : Type 0 where
  pub memory : Memory
  pub born : set.FinSet nat_cmp
  pub history : List Entry
  pub pending : ℕ
  pub calls : List (Option ℕ)
  pub syncs : List (Option SyncStart)
  pub plan : Option KeptPlan
  pub parents : List ℕ
  pub entries : List ℕ
  pub marks : MarksSeen

-- The seat of a process: that of process 1 is 0. Process 0 is none; no seat has so high a number.
abbrev pub seat_of : ℕ → ℕ
seat_of zero = 2 ^ 32
seat_of (suc p) = p

-- The parent of a process by the set-up, or 0; none where there is no such process.
abbrev pub process_parent : List ℕ → ℕ → Option ℕ
process_parent parents zero = None
process_parent parents (suc p) = slice_get parents p

-- The process has no parent: it is alive from the start.
abbrev pub is_top : List ℕ → ℕ → Bool
is_top parents p = option_map_or (λ parent. parent == 0) (process_parent parents p) false

-- The most entries of a process by the set-up.
abbrev pub room_of : List ℕ → ℕ → ℕ
room_of entries zero = 0
room_of entries (suc p) = slice_index entries p

-- What of a file never changes: its name, its disk and whether it may be written.
pub record FileMode : Type 0 where
  pub name : List ℕ
  pub disk : ℕ
  pub writable : Bool

-- What of this file never changes.
abbrev pub mode_of : VnodeSeen → FileMode
mode_of v = record { name = v.info.name; disk = v.info.disk; writable = v.info.writable }

-- What no event changes: the core of the frames and the order of the disks, the number of the frames, the slots, the disks' blocks, the files' modes, the
-- seats, and the set-up's parents and entries.
pub record Fixed : Type 0 where
  pub core : StoreCore
  pub frames : ℕ
  pub slots : ℕ
  pub disks : finite.FinMap nat_cmp ℕ
  pub files : List FileMode
  pub seats : ℕ
  pub parents : List ℕ
  pub entries : List ℕ

-- What of this state no event changes.
abbrev pub fixed_of : KernelState → Fixed
fixed_of s = record {
  core = core_of s.memory.world.store;
  frames = length s.memory.world.store.frames;
  slots = length s.memory.world.anon.counts;
  disks = s.memory.world.files.disks;
  files = map mode_of s.memory.world.files.files;
  seats = length s.syncs;
  parents = s.parents;
  entries = s.entries;
}
