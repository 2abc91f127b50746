-- Laws of what a seat is told of the state. Public clauses cite this.
use Rattle.std.specs.Prelude.{◌≡◌, ◌⊎◌, ◌<◌, ℕ, suc, List, length, Option, Some, None, replicate, IsSome, IsSomeAnd, slice_get, slice_set}
use Rattle.flat_model.specs.vm_types.declared.call.Call.{Call}
use Rattle.flat_model.specs.vm_types.declared.call.Entry.{Entry}
use Rattle.flat_model.specs.vm_types.declared.call.Reply.TheVariants.{Io}
use Rattle.page_store.specs.declared.plan.Hold.{Hold}
use Rattle.flat_model.specs.Flat.{Flat}
use Rattle.flat_model.specs.OpenLaws.{last_entry, IsOpenPart}
use Rattle.vm_world.specs.DiskPlaces.{HasCounted}
use Rattle.vm_world.specs.Events.{IsEvent, IsSince}
use Rattle.vm_world.specs.Opening.{no_seats}
use Rattle.vm_world.specs.State.{KernelState, Seats, Sent, notes_of, seats_of, with_sent}
use Rattle.vm_world.specs.StateFits.{StateFits}
use Rattle.vm_world.specs.Wants.{MayHold, seat_in}

-- Where nothing changes, that is an event; one event of a seat after another is an event; and a plan that is kept may be forgotten. A seat that is waited
-- for has something outside, or its process has a call of a file between two parts. The disk of each device error
-- is there, and counted at least what the error names. What events keep holds of an opening that fits, and each event
-- keeps it. A list of nothing but none is no seats; and the seats of a list, one of which has something else outside, are those of the list with that one changed.
pub record EventLaw : Type 0 where
  pub rests : (seat : ℕ) (s : KernelState) (sent : Option Sent) → IsEvent seat s sent s sent
  pub joined : (seat : ℕ) (s t u : KernelState) (before mid after : Option Sent) → IsEvent seat s before t mid → IsEvent seat t mid u after → IsEvent seat s before u after
  pub forgets : (seat : ℕ) (s : KernelState) (sent : Option Sent) → IsEvent seat s sent (record s { plan = None }) sent
  pub holds : (opening : Flat) (s : KernelState) (seats : Seats) (p : ℕ) (call : Call) (h : Hold) → StateFits opening s seats → MayHold s.memory s.calls p call h
      → IsSome (seats (seat_in h)) ⊎ ((f : ℕ) × IsSomeAnd (last_entry (suc (seat_in h)) s.history) (IsOpenPart f))
  pub counted : (opening : Flat) (s : KernelState) (seats : Seats) (k : ℕ) (e : Entry) (disk before after : ℕ) → StateFits opening s seats
      → slice_get s.history k ≡ Some e → e.reply ≡ Io disk before after → HasCounted s.memory.world.store.bays (notes_of seats) disk after
  pub opens : (s : KernelState) → (F : Flat) × StateFits F s no_seats → IsSince s s no_seats
  pub since : (opening s t : KernelState) (seats : Seats) (seat : ℕ) (before after : Option Sent) → IsSince opening s seats → seats seat ≡ before → IsEvent seat s before t after
      → IsSince opening t (with_sent seats seat after)
  pub none : (n : ℕ) → seats_of (replicate n None) ≡ no_seats
  pub list : (sents : List (Option Sent)) (seat : ℕ) (sent : Option Sent) → seat < length sents → with_sent (seats_of sents) seat sent ≡ seats_of (slice_set sents seat sent)
