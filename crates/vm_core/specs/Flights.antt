-- What the begin and the end of a transfer leave of the state. Public clauses cite this.
use Rattle.std.specs.Prelude.{◌≡◌, ◌++◌, ◌∷◌, [], ℕ, List, Option, Some, None, IsSome}
use Rattle.fault_entry.specs.vm_types.declared.call.Entry.{Entry}
use Rattle.fault_entry.specs.vm_types.declared.call.Reply.{Reply}
use Rattle.fault_entry.specs.vm_types.declared.call.Reply.TheVariants.{Io}
use Rattle.fault_entry.specs.hat_layer.declared.translation.Translation.{Translation}
use Rattle.fault_entry.specs.page_hash.Names.{find}
use Rattle.fault_entry.specs.page_store.Flight.{FlightSeen, Progress, fresh, done, failed, IsPerformed, note_of}
use Rattle.fault_entry.specs.page_store.Steps.{next_frame}
use Rattle.fault_entry.specs.page_store.declared.plan.Plan.{Plan}
use Rattle.fault_entry.specs.page_store.declared.plan.Plan.TheVariants as plan
use Rattle.fault_entry.specs.page_store.Seen.{StoreSeen}
use Rattle.fault_entry.specs.anon_slots.Slots.{AnonSlotsSeen}
use Rattle.fault_entry.specs.vnode_files.Files.{FilesSeen}
use Rattle.fault_entry.specs.seg_ops.Flights.{places_pushed, store_synced}
use Rattle.fault_entry.specs.seg_ops.Marks.{files_pushed, slots_pushed}
use Rattle.fault_entry.specs.vm_world.EntryLaws.{LocksAfter, StartsAfter}
use Rattle.fault_entry.specs.vm_world.State.{KernelState, KeptPlan, Sent, Caller}
use Rattle.fault_entry.specs.vm_world.Wants.{IsDirtyPage, MayReadIn}
use Rattle.fault_entry.specs.vm_world.World.{World}

-- A page can be read in that no frame has, where a frame can be taken, and a page can be pushed that is home and modified.
abbrev pub CanLeave : World → Plan → Type 0
CanLeave w (plan.Read name) = MayReadIn w name × IsSome (next_frame w.store)
CanLeave w (plan.Push name) = IsDirtyPage w name

-- The translations once a transfer began: those of a page that is pushed stay with clear bits, where a snapshot goes out, and go with its own frame, where
-- that goes out; every other is as it was.
abbrev pub places_begun : World → Plan → List (Option Translation)
places_begun w (plan.Read name) = w.hat.places
places_begun w (plan.Push name) = places_pushed (next_frame w.store) (find w.store.names name) w.hat.places

-- The files once a transfer began.
abbrev pub files_begun : World → Plan → FilesSeen
files_begun w (plan.Read name) = w.files
files_begun w (plan.Push name) = files_pushed w.files name

-- The slots once a transfer began.
abbrev pub slots_begun : World → Plan → AnonSlotsSeen
slots_begun w (plan.Read name) = w.anon
slots_begun w (plan.Push name) = slots_pushed w.anon name

-- The store as a transfer leaves it: a page that is pushed has its translations' bits then.
abbrev pub store_ready : World → Plan → StoreSeen
store_ready w (plan.Read name) = w.store
store_ready w (plan.Push name) = store_synced w name

-- The maps stay; and so do the files and the slots, but that a page which is pushed counts as pushed from then on.
pub record KeepsButPushed (old new : World) (plan : Plan) : Type 0 where
  pub maps : new.maps ≡ old.maps
  pub files : new.files ≡ files_begun old plan
  pub anon : new.anon ≡ slots_begun old plan

-- The plan is the one that is kept, for this seat.
pub record IsKeptFor (s : KernelState) (seat : ℕ) (p : Plan) (kept : KeptPlan) : Type 0 where
  pub is : s.plan ≡ Some kept
  pub mine : kept.seat ≡ seat
  pub same : kept.plan ≡ p

-- What a seat has outside once its flight left: the flight's note, for the process and call of the plan.
abbrev pub sent_with : KeptPlan → FlightSeen → Sent
sent_with kept f = record { note = note_of f; of = kept.of }

-- The flight that comes back is that of the seat, performed, and for this process and call.
pub record IsBack (sent : Sent) (f : FlightSeen) (of : Option Caller) : Type 0 where
  pub performed : IsPerformed sent.note f
  pub same : sent.of ≡ of

-- Exactly this entry is added, with the tails that it takes; none is pending then. Its process keeps the lock of no file but one of which its part doesn't
-- end the call, and no start of a Sync.
pub record AddsEntry (old new : KernelState) (e : Entry) : Type 0 where
  pub history : new.history ≡ old.history ++ e ∷ []
  pub pending : new.pending ≡ 0
  pub locks : LocksAfter e old.calls new.calls
  pub starts : StartsAfter e old.syncs new.syncs

-- No entry is added, and no call of a file began or ended.
pub record AddsNoEntry (old new : KernelState) : Type 0 where
  pub history : new.history ≡ old.history
  pub calls : new.calls ≡ old.calls

-- Nor did a Sync begin or end, and no tail became pending.
pub record EndsQuietly (old new : KernelState) : Type 0 where
  pub none : AddsNoEntry old new
  pub syncs : new.syncs ≡ old.syncs
  pub pending : new.pending ≡ old.pending

-- The device error of a transfer that failed, with the counts round that transfer.
abbrev pub error_at_end : FlightSeen → Progress → Option Reply
error_at_end f failed = Some (Io f.number f.before f.disk.faults)
error_at_end f done = None
error_at_end f fresh = None

-- What is answered as a flight comes back: that error, where the transfer failed and was for a call.
abbrev pub answer_at_end : FlightSeen → Option Caller → Option Reply
answer_at_end f None = None
answer_at_end f (Some of) = error_at_end f f.outcome

-- The entry that an answer adds, for this process and call.
abbrev pub EndsWith : KernelState → KernelState → Option Caller → Option Reply → Type 0
EndsWith old new (Some of) (Some reply) = AddsEntry old new (record { process = of.0; call = of.1; reply = reply; cleared = old.pending })
EndsWith old new of None = EndsQuietly old new
EndsWith old new None (Some reply) = ⊥
