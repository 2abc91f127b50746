-- What is answered to a call. Public clauses cite this.
use Rattle.std.specs.Prelude.{ℕ, List, Option}
use Rattle.seg_ops.specs.vm_types.declared.call.Call.{Call}
use Rattle.seg_ops.specs.vm_types.declared.call.Reply.{Reply}
use Rattle.seg_ops.specs.vm_types.declared.call.Reply.TheVariants.{Io, Synced}
use Rattle.seg_ops.specs.vm_world.FlatMemory.{Memory}
use Rattle.seg_ops.specs.vm_world.Serving.{ServesDone, ServesNeed, ServesBusy}
use Rattle.seg_vn.specs.declared.attempt.Attempt.{Attempt}
use Rattle.seg_vn.specs.declared.attempt.Attempt.TheVariants.{Done, Need, Busy}

-- The call is done with its reply; or it needs a transfer first; or it has to wait, where the files' calls are these seats'.
abbrev pub Serves : Memory → Memory → ℕ → ℕ → List (Option ℕ) → ℕ → Call → Attempt → Type 0
Serves old new pending more calls p call (Done reply) = ServesDone old new pending more p call reply
Serves old new pending more calls p call (Need plan) = ServesNeed old new pending more p call plan
Serves old new pending more calls p call (Busy h) = ServesBusy old new pending more calls p call h

-- The reply tells neither of a transfer that failed nor where a Sync began.
abbrev pub IsPlainReply : Reply → Type 0
IsPlainReply (Io disk before after) = ⊥
IsPlainReply (Synced from) = ⊥
IsPlainReply reply = Unit {0}
