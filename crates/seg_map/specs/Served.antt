-- What is answered to a call on a file. Public clauses cite this.
use Rattle.std.specs.Prelude.{ℕ, List, Option, Result, Ok, Err}
use Rattle.seg_ops.specs.vm_types.declared.call.Call.{Call}
use Rattle.seg_ops.specs.vm_types.declared.call.Call.TheVariants.{Write}
use Rattle.seg_ops.specs.vm_types.declared.call.Reply.{Reply}
use Rattle.seg_ops.specs.vm_types.declared.call.Reply.TheVariants.{Done, Bytes}
use Rattle.seg_ops.specs.vm_world.FlatMemory.{Memory}
use Rattle.seg_ops.specs.vm_world.Segments.{Spaces}
use Rattle.seg_ops.specs.vm_world.Serving.{ServesDone, ServesNeed, ServesBusy}
use Rattle.seg_ops.specs.vm_world.Words.{memory, Fits}
use Rattle.seg_ops.specs.vm_world.declared.wants.Wants.{Wants}
use Rattle.seg_ops.specs.vm_world.declared.wants.Wants.TheVariants.{Transfer, Seat}
use Rattle.seg_ops.specs.vm_world.declared.world.World as rust

-- The call needs this first, whatever seats have the files' calls: a transfer, or a seat that it waits for.
abbrev pub ServesWant : Memory → Memory → ℕ → ℕ → ℕ → Call → Wants → Type 0
ServesWant old new pending more p call (Transfer plan) = ServesNeed old new pending more p call plan
ServesWant old new pending more p call (Seat h) = (calls : List (Option ℕ)) → ServesBusy old new pending more calls p call h

-- The call is done with this reply, or needs that first.
abbrev pub ServesReply : Reply → Memory → Memory → ℕ → ℕ → ℕ → Call → Result Unit Wants → Type 0
ServesReply reply old new pending more p call (Ok done) = ServesDone old new pending more p call reply
ServesReply reply old new pending more p call (Err want) = ServesWant old new pending more p call want

-- The call is done with these bytes, or needs that first.
abbrev pub ServesBytes : Memory → Memory → ℕ → ℕ → ℕ → Call → Result (List ℕ) Wants → Type 0
ServesBytes old new pending more p call (Ok line) = ServesDone old new pending more p call (Bytes line)
ServesBytes old new pending more p call (Err want) = ServesWant old new pending more p call want

-- What is answered to a part of a write, in any spaces with which the world fits, and whatever its call has still to write.
abbrev pub ServesPart : {D : Type 0} → rust.World D → rust.World D → ℕ → ℕ → List ℕ → Result Unit Wants → Type 0
ServesPart old new file offset line result =
    (spaces : Spaces) (p rest : ℕ) → Fits old spaces → ServesReply Done (memory old spaces) (memory new spaces) old.pending new.pending p (Write file offset line rest) result
