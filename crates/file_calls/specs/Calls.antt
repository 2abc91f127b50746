-- What is answered to a call on a file. Public clauses cite this.
use Rattle.std.specs.Prelude.{ℕ, Result, Ok, Err}
use Rattle.seg_vn.specs.vm_types.declared.call.Call.{Call}
use Rattle.seg_vn.specs.vm_types.declared.call.Call.TheVariants.{Read, Write, Truncate}
use Rattle.seg_vn.specs.vm_types.declared.call.Reply.{Reply}
use Rattle.seg_vn.specs.vm_types.declared.call.Reply.TheVariants.{Refused, Bytes}
use Rattle.seg_vn.specs.vm_types.declared.call.Reply.TheVariants as reply
use Rattle.seg_vn.specs.vm_world.FlatMemory.{Memory}
use Rattle.seg_vn.specs.vm_world.Serving.{ServesDone}
use Rattle.seg_vn.specs.vm_world.declared.wants.Wants.{Wants}
use Rattle.seg_map.specs.Served.{ServesWant}
use Rattle.seg_vn.specs.declared.attempt.Attempt.{Attempt}
use Rattle.seg_vn.specs.declared.attempt.Attempt.TheVariants.{Done}

-- The call is done with its reply, or needs that first, whatever seats have the files' calls.
abbrev pub ServesCall : Memory → Memory → ℕ → ℕ → ℕ → Call → Result Reply Wants → Type 0
ServesCall old new pending more p call (Ok reply) = ServesDone old new pending more p call reply
ServesCall old new pending more p call (Err want) = ServesWant old new pending more p call want

-- The replies of calls on files: an errno; to a part of a read bytes; and to the others that they are done.
abbrev pub IsFileReply : Reply → Call → Type 0
IsFileReply (Refused e) call = Unit {0}
IsFileReply (Bytes line) (Read file offset len) = Unit {0}
IsFileReply reply.Done (Write file offset line rest) = Unit {0}
IsFileReply reply.Done (Truncate file len) = Unit {0}
IsFileReply reply call = ⊥

-- A call that is done has a reply of its own.
abbrev pub IsFileAnswer : Attempt → Call → Type 0
IsFileAnswer (Done reply) call = IsFileReply reply call
IsFileAnswer attempt call = Unit {0}
