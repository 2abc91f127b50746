-- A state that is tried out, with what its seats have outside it; and the files of the trials. Inside: no public clause cites this.
use Rattle.std.specs.Prelude.{◌≡◌, ◌<◌, ◌+◌, ◌^◌, ℕ, Bool, List, [], ◌∷◌, Option, None, Some, IfSome, IsSome, map, option_map, slice_index_or, length}
use Rattle.std.specs.FinMap as finite
use Rattle.seg_ops.specs.page_store.Flight.{FlightSeen, note_of, fresh}
use Rattle.seg_ops.specs.page_store.Notes.{no_notes}
use Rattle.vm_types.specs.WellFormed.{IsWellFormed}
use Rattle.vm_types.specs.declared.call.Call.{Call}
use Rattle.vm_types.specs.declared.call.Entry.{Entry}
use Rattle.vnode_files.specs.declared.vnode.FileInfo.{FileInfo}
use Rattle.vnode_files.specs.Files.{FilesSeen, no_files, with_disk, with_next_file}
use Rattle.vnode_files.specs.Vnode.{fresh_vnode}
use Rattle.flat_model.specs.Flat.{Flat}
use Rattle.flat_model.specs.OpenLaws.{MayFollow}
use Rattle.flat_model.specs.Told.{entries_of}
use Rattle.seg_ops.specs.vm_world.Events.{MayBear}
use Rattle.seg_ops.specs.vm_world.FlatMemory.{flat_memory}
use Rattle.seg_ops.specs.vm_world.Opening.{IsOpening, no_seats}
use Rattle.seg_ops.specs.vm_world.State.{KernelState, Caller, Sent, Seats, room_of, seats_of}
use Rattle.seg_ops.specs.vm_world.StateFits.{StateFits}
pub use Rattle.lane_driver.specs.Lanes.{LiesInOneLine}

-- What a seat has outside: its transfer, and the process and call that it is for.
abbrev pub TripSeen : Type 0
TripSeen = FlightSeen × Option Caller

-- What a seat has outside, as the notes of a state keep it.
abbrev pub trip_sent : TripSeen → Sent
trip_sent t = record { note = note_of t.0; of = t.1 }

-- The seats of a state, each with what it has outside.
abbrev pub seats_with : List (Option TripSeen) → Seats
seats_with trips = seats_of (map (option_map trip_sent) trips)

-- A transfer is for a call that is done with one entry, or for none.
abbrev pub IsOfOnePart : Option Caller → Type 0
IsOfOnePart of = IfSome of (λ (c : Caller). LiesInOneLine c.1)

-- A transfer that wasn't made yet.
pub record IsTrip (t : TripSeen) : Type 0 where
  pub fresh : t.0.outcome ≡ fresh
  pub served : IsOfOnePart t.1

-- The state has these seats and fits with what they have outside, and no call is between two parts: any entry may come next.
pub record IsTrialState (s : KernelState) (trips : List (Option TripSeen)) : Type 0 where
  pub opening : Flat
  pub fits : StateFits opening s (seats_with trips)
  pub follows : (e : Entry) → MayFollow s.history e
  pub seated : length s.syncs ≡ length trips
  pub each : (seat : ℕ) (t : TripSeen) → slice_index_or trips seat None ≡ Some t → IsTrip t

-- The state as it begins, with so many seats: it fits the flat memory that it is then, and nobody has anything outside.
pub record IsTrialStart (seats : ℕ) (s : KernelState) : Type 0 where
  pub opening : IsOpening s
  pub fits : StateFits (flat_memory s.memory s.born no_notes) s no_seats
  pub seated : length s.syncs ≡ seats

-- The seat has nothing outside, the call is well formed, and its process may make one entry more,
-- and may bear a child where the call does.
pub record MayTry (s : KernelState) (trips : List (Option TripSeen)) (seat : ℕ) (call : Call) : Type 0 where
  pub low : seat + 1 < 2 ^ 32
  pub within : seat < length trips
  pub idle : slice_index_or trips seat None ≡ None
  pub formed : IsWellFormed call
  pub alive : IsSome (finite.get s.memory.spaces (seat + 1))
  pub room : length (entries_of s.history (seat + 1)) < room_of s.entries (seat + 1)
  pub bears : MayBear s (seat + 1) call

-- A file of so many pages, from block 1 of its disk on.
abbrev pub trial_file : List ℕ → ℕ → ℕ → ℕ → Bool → FileInfo
trial_file name disk pages bytes writable = record { name = name; disk = disk; extents = record { start = 1; pages = pages } ∷ []; length = bytes; writable = writable }

-- Two disks of 16 blocks, without a file.
abbrev pub trial_disks : FilesSeen
trial_disks = with_disk (with_disk no_files 0 16) 1 16

-- Two disks of 16 blocks, and these two files, neither of them with a page written.
abbrev pub trial_files : FileInfo → FileInfo → FilesSeen
trial_files first second = with_next_file (with_next_file trial_disks (fresh_vnode first)) (fresh_vnode second)
