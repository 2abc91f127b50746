-- The lines of a plan of one block, which are made on the kernel itself. Inside: no clause of `run` cites this.
use Rattle.std.specs.Prelude.{ℕ, ◌≡◌, ◌++◌, List, [], ◌∷◌, All, Option, Some, None}
use Rattle.kernel_lock.specs.Seats.{newcomer}
use Rattle.volume_files.specs.vm_types.declared.call.Call.{Call}
use Rattle.volume_files.specs.vm_types.declared.call.Entry.{Entry}
use Rattle.volume_files.specs.vm_types.declared.call.Reply.{Reply}
use Rattle.volume_files.specs.flat_model.Told.{entries_of}
use Rattle.vm_core.specs.vm_world.Events.{IsEvent}
use Rattle.vm_core.specs.vm_world.State.{KernelState, Caller}
use Rattle.vm_kernel.specs.Callers.{KernelSeen, CallerSeen}

-- The kernel of a plan of one block as the block sees it: it is no lock's.
abbrev pub alone_kernel : KernelState → KernelSeen
alone_kernel s = record {
  lock = record { words = 0; slots = 0; views_name = 0; atom = 0; block = 0; offset = 0; slot_names = [] };
  seats = 1;
  opening = s;
}

-- Its one caller, process 1's, once the kernel that was s has this history.
abbrev pub alone_caller : KernelState → List Entry → CallerSeen
alone_caller s H = record { seat = record (newcomer (alone_kernel s) 0) { own = entries_of H 1; seen = H }; process = 1 }

-- All entries are of process 1.
abbrev pub AreOfOne : List Entry → Type 0
AreOfOne H = All (λ (e : Entry). e.process ≡ 1) H

-- One entry more, of this process, call and reply.
abbrev pub HasOneMore : KernelState → KernelState → ℕ → Call → Reply → Type 0
HasOneMore old new p call reply = (cleared : ℕ) × (new.history ≡ old.history ++ record { process = p; call = call; reply = reply; cleared = cleared } ∷ [])

-- Where a transfer was answered, the history has the entry of its call more; else it is as it was.
abbrev pub GrowsWith : Option Caller → Option Reply → KernelState → KernelState → Type 0
GrowsWith of None old new = new.history ≡ old.history
GrowsWith None (Some reply) old new = ⊥
GrowsWith (Some of) (Some reply) old new = HasOneMore old new of.0 of.1 reply

-- Seat 0 did something between two moments at which no seat has anything outside, and made no entry.
pub record MadeNothing (old new : KernelState) : Type 0 where
  pub event : IsEvent 0 old None new None
  pub same : new.history ≡ old.history
