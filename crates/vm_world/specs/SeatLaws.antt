-- What follows from what a seat knows of its process, and from all seats having nothing outside. Public clauses cite this.
use Rattle.std.specs.Prelude.{◌≡◌, ◌<◌, ◌++◌, ◌||◌, ℕ, List, length, None, Some, IsSome, IsTrue, IsFalse}
use Rattle.std.specs.List.{list_any}
use Rattle.std.specs.FinMap as finite
use Rattle.page_store.specs.core_arena.Bytes.{bytes_at}
use Rattle.flat_model.specs.vm_types.declared.call.Call.{Call}
use Rattle.flat_model.specs.vm_types.declared.call.Call.TheVariants.{Fork}
use Rattle.flat_model.specs.vm_types.declared.call.Entry.{Entry}
use Rattle.flat_model.specs.vm_types.declared.call.Reply.{Reply}
use Rattle.page_store.specs.page_lock.Rows.{row_at}
use Rattle.page_store.specs.Bays.{out, bay_at}
use Rattle.page_store.specs.Seen.{StoreSeen}
use Rattle.flat_model.specs.Births.{is_birth, AreBorn}
use Rattle.flat_model.specs.Flat.{Flat, space_of}
use Rattle.flat_model.specs.History.{replay}
use Rattle.flat_model.specs.OpenLaws.{MayFollow}
use Rattle.flat_model.specs.Told.{entries_of}
use Rattle.vm_world.specs.Events.{CanTry}
use Rattle.vm_world.specs.HistoryFits.{has_left}
use Rattle.vm_world.specs.ServingLaws.{done_entry}
use Rattle.vm_world.specs.State.{KernelState, Seats, notes_of, seat_of, is_top, process_parent, room_of}
use Rattle.vm_world.specs.StateFits.{StateFits}
use Rattle.vm_world.specs.World.{AllTell}

-- A Fork's child is the process's, and none of these entries made it.
abbrev pub IsNewChild : List ℕ → List Entry → ℕ → Call → Type 0
IsNewChild parents own p (Fork child) = (process_parent parents child ≡ Some p) × IsFalse (list_any (is_birth child) own)
IsNewChild parents own p call = Unit {0}

-- A call may come next behind all entries of its process: there is room for one more; it goes on with a call that is between two parts; and a Fork's child
-- is new.
pub record MayComeNext (parents entries : List ℕ) (own : List Entry) (p : ℕ) (call : Call) : Type 0 where
  pub room : length own < room_of entries p
  pub follows : (reply : Reply) (cleared : ℕ) → MayFollow own (done_entry p call reply cleared)
  pub bears : IsNewChild parents own p call

-- A front of a history that has all entries of a process.
pub record HasSeen (H seen : List Entry) (p : ℕ) : Type 0 where
  pub rest : (later : List Entry) × (H ≡ seen ++ later)
  pub own : entries_of H p ≡ entries_of seen p

-- A process has no parent, or its birth is in a front of the history; and none of its own entries is an Exit.
pub record IsKnownAlive (parents : List ℕ) (seen own : List Entry) (p : ℕ) : Type 0 where
  pub born : IsTrue (is_top parents p || list_any (is_birth p) seen)
  pub here : IsFalse (has_left p own)

-- No disk is out; and no frame is locked, so each is home.
pub record IsAtRest (store : StoreSeen) : Type 0 where
  pub disks : (number seat : ℕ) → ¬ (bay_at store.bays number ≡ out seat)
  pub unlocked : (frame : ℕ) → (row_at store.rows frame).holder ≡ None
  pub home : (frame : ℕ) → frame < length store.frames → IsSome (bytes_at store.frames frame)

-- Where a state fits, a seat may try the call of a process that is alive if the call may come next behind the process's entries. A process is alive whose
-- birth was seen, and that made no Exit; what is known of it so is known by whoever has seen more; and where the disks tell, one that was so after a front of the history that has all its entries. And where no seat
-- has anything outside, all frames and disks are home.
pub record SeatLaw : Type 0 where
  pub can_try : (opening : Flat) (s : KernelState) (seats : Seats) (seat p : ℕ) (call : Call) → StateFits opening s seats → seat_of p ≡ seat
      → IsSome (finite.get s.memory.spaces p) → MayComeNext s.parents s.entries (entries_of s.history p) p call → CanTry s seat p call
  pub known : (opening : Flat) (s : KernelState) (seats : Seats) (seen later : List Entry) (p : ℕ) → StateFits opening s seats → s.history ≡ seen ++ later
      → IsKnownAlive s.parents seen (entries_of s.history p) p → IsSome (finite.get s.memory.spaces p)
  pub longer : (parents : List ℕ) (seen later own : List Entry) (p : ℕ) → IsKnownAlive parents seen own p → IsKnownAlive parents (seen ++ later) own p
  pub lives : (opening : Flat) (s : KernelState) (seats : Seats) (seen : List Entry) (p : ℕ) → StateFits opening s seats → AllTell s.memory.world (notes_of seats)
      → AreBorn opening → HasSeen s.history seen p → IsSome (space_of (replay opening seen) p) → IsSome (finite.get s.memory.spaces p)
  pub still : (opening : Flat) (s : KernelState) (seats : Seats) → StateFits opening s seats → ((k : ℕ) → seats k ≡ None) → IsAtRest s.memory.world.store
