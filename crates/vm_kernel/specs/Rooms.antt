-- The rooms that a kernel is started with, and the callers that it begins with. Public clauses cite this.
use Rattle.std.specs.Prelude.{◌≡◌, ◌<◌, ◌⊎◌, ℕ, suc, false, List, [], ◌∷◌, length, Some, None, slice_get, slice_index_or}
use Rattle.kernel_lock.specs.Seats.{newcomer}
use Rattle.vm_kernel.specs.Callers.{KernelSeen, SeatSeen, CallerSeen}
use Rattle.vm_kernel.specs.declared.starting.Room.{Room}

-- At a place stands the room of the process with this seat, with the entries that the set-up gives the process; or, behind those of all processes, a room of
-- no process, which has none.
abbrev pub IsRoomAt : List ℕ → ℕ → Room → Type 0
IsRoomAt entries k room = ((room.process ≡ suc k) × (slice_get entries k ≡ Some room.entries)) ⊎ ((room.process ≡ 0) × (room.entries ≡ 0) × (k ≡ length entries))

-- Each room is that of its place: processes from 1 on with their entries, and one for none behind.
abbrev pub AreRooms : List ℕ → List Room → Type 0
AreRooms entries rooms = (k : ℕ) (d : Room) → k < length rooms → IsRoomAt entries k (slice_index_or rooms k d)

-- The callers of these rooms before their first call, whose seats have the numbers from k on.
abbrev pub callers_from : KernelSeen → ℕ → List Room → List CallerSeen
callers_from l k [] = []
callers_from l k (room ∷ rooms) = record { seat = newcomer l k; process = room.process } ∷ callers_from l (suc k) rooms

-- Inside: each room's process is that of the seat at its place, or none.
abbrev pub AreNamed : List Room → Type 0
AreNamed rooms = (k : ℕ) (d : Room) → k < length rooms → ((slice_index_or rooms k d).process ≡ 0) ⊎ ((slice_index_or rooms k d).process ≡ suc k)

-- Inside: a seat that has been nowhere.
pub record IsNewSeat (v : SeatSeen) : Type 0 where
  pub outside : v.inside ≡ false
  pub low : v.number < 65
  pub note : v.note ≡ None
  pub own : v.own ≡ []
  pub seen : v.seen ≡ []
