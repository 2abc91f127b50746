-- Events of the kernel: what one seat does between entering and leaving the lock. Public clauses cite this.
use Rattle.std.specs.Prelude.{◌≡◌, ◌<◌, ◌++◌, ℕ, List, Option, Some, All, IsSome, IsFalse, length}
use Rattle.std.specs.FinMap as finite
use Rattle.std.specs.FinSet as set
use Rattle.flat_model.specs.vm_types.declared.call.Call.{Call}
use Rattle.flat_model.specs.vm_types.declared.call.Call.TheVariants.{Fork}
use Rattle.flat_model.specs.vm_types.declared.call.Entry.{Entry}
use Rattle.flat_model.specs.vm_types.declared.call.Reply.{Reply}
use Rattle.flat_model.specs.Flat.{Flat}
use Rattle.flat_model.specs.History.{replay}
use Rattle.flat_model.specs.OpenLaws.{MayFollow}
use Rattle.flat_model.specs.Shapes.{RefusesAsDue, SameShape}
use Rattle.flat_model.specs.Told.{entries_of}
use Rattle.mark_laws.specs.AccountLaws.{Moment, AccountsFor}
use Rattle.page_store.specs.Bays.{bay_at}
use Rattle.page_store.specs.Notes.{Notes}
use Rattle.page_store.specs.Value.{content_of}
use Rattle.vm_world.specs.DiskPlaces.{SameDisks, faults_in}
use Rattle.vm_world.specs.FlatMemory.{flat_memory}
use Rattle.vm_world.specs.Opening.{no_seats}
use Rattle.vm_world.specs.State.{KernelState, Seats, Sent, notes_of, with_sent, fixed_of, seat_of, process_parent, room_of}
use Rattle.vm_world.specs.StateFits.{StateFits}
use Rattle.vm_world.specs.World.{AllTell}

-- WHATEVER DISKS TELL, flat memory of the state, but for bytes, is what the history leaves; and each entry of the history, but for device errors, has the
-- signal or errno that was due, or none where none was.
pub record FollowsHistory (opening : Flat) (s : KernelState) : Type 0 where
  pub shape : (notes : Notes) → SameShape (flat_memory s.memory s.born notes) (replay opening s.history)
  pub refusals : RefusesAsDue opening s.history

-- What is seen of a state whose seats have these notes outside: its history; what each disk has and how many faults it counted, wherever it is; its marks.
abbrev pub moment_of : KernelState → Notes → Moment
moment_of s notes = record {
  history = s.history;
  contents = content_of s.memory.world.store notes;
  faults = λ disk. faults_in (bay_at s.memory.world.store.bays disk) notes;
  marks = s.marks;
}

-- WHERE THE DISKS TELL, they told before; and each block of a disk of files is accounted for, wherever its disk is.
abbrev pub AccountsForBlocks : Flat → KernelState → Notes → KernelState → Notes → Type 0
AccountsForBlocks F s before t after =
    AllTell t.memory.world after → AllTell s.memory.world before × AccountsFor F (moment_of s before) (moment_of t after)

-- WHERE THE DISKS TELL, they told before; and from whichever moment each block was accounted for up
-- to the one state, it is up to the other.
abbrev pub KeepsAccounts : Flat → KernelState → Notes → KernelState → Notes → Type 0
KeepsAccounts F s before t after =
    AllTell t.memory.world after → AllTell s.memory.world before
    × ((first : Moment) → AccountsFor F first (moment_of s before) → AccountsFor F first (moment_of t after))

-- THE EVENT. Whatever the opening and the other seats are: where a state fits with what a seat had outside, the next one fits with what the seat has
-- then. What is fixed stays, each disk has its size and its kind and tells where it told, wherever it is, and the history grew by entries of the seat's process
-- alone. Whatever disks tell, the state follows its history. And the blocks of files' disks stay accounted for.
pub record IsEvent (seat : ℕ) (s : KernelState) (before : Option Sent) (t : KernelState) (after : Option Sent) : Type 0 where
  pub fits : (opening : Flat) (seats : Seats) → seats seat ≡ before → StateFits opening s seats → StateFits opening t (with_sent seats seat after)
  pub fixed : fixed_of t ≡ fixed_of s
  pub disks : (opening : Flat) (seats : Seats) → seats seat ≡ before → StateFits opening s seats
      → SameDisks s.memory.world.store.bays (notes_of seats) t.memory.world.store.bays (notes_of (with_sent seats seat after))
  pub grown : (added : List Entry) × (t.history ≡ s.history ++ added) × All (λ (e : Entry). seat_of e.process ≡ seat) added
  pub follows : (opening : Flat) → FollowsHistory opening s → FollowsHistory opening t
  pub accounts : (opening : Flat) (seats : Seats) → seats seat ≡ before → StateFits opening s seats
      → KeepsAccounts opening s (notes_of seats) t (notes_of (with_sent seats seat after))

-- WHAT EVENTS KEEP, whoever makes them. The opening fits some flat memory with nothing outside; and whichever it fits, the state fits with what the seats have
-- outside. What is fixed stays, each disk has its size and its kind and tells where it told, wherever it is, and the state follows its history. Each block of a
-- disk of files is accounted for from the opening on.
pub record IsSince (opening s : KernelState) (seats : Seats) : Type 0 where
  pub starts : (F : Flat) × StateFits F opening no_seats
  pub fits : (F : Flat) → StateFits F opening no_seats → StateFits F s seats
  pub fixed : fixed_of s ≡ fixed_of opening
  pub disks : SameDisks opening.memory.world.store.bays (notes_of no_seats) s.memory.world.store.bays (notes_of seats)
  pub follows : (F : Flat) → FollowsHistory F opening → FollowsHistory F s
  pub accounts : (F : Flat) → StateFits F opening no_seats → AccountsForBlocks F opening (notes_of no_seats) s (notes_of seats)

-- A Fork's child is a child of this process that was never alive.
abbrev pub MayBear : KernelState → ℕ → Call → Type 0
MayBear s p (Fork child) = (process_parent s.parents child ≡ Some p) × IsFalse (set.contains s.born child)
MayBear s p call = Unit {0}

-- A seat may try a call: the process is its own, is alive and may make an entry more, and the call goes on with one that is between two parts.
pub record CanTry (s : KernelState) (seat p : ℕ) (call : Call) : Type 0 where
  pub own : seat_of p ≡ seat
  pub alive : IsSome (finite.get s.memory.spaces p)
  pub room : length (entries_of s.history p) < room_of s.entries p
  pub follows : (reply : Reply) (cleared : ℕ) → MayFollow s.history (record { process = p; call = call; reply = reply; cleared = cleared })
  pub bears : MayBear s p call
