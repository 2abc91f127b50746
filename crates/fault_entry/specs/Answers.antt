-- What is answered to a load or a store, as an answer to any call. Public clauses cite this.
use Rattle.seg_vn.specs.vm_types.declared.call.Call.{Call}
use Rattle.seg_vn.specs.vm_types.declared.call.Call.TheVariants as call
use Rattle.seg_vn.specs.vm_types.declared.call.Reply.TheVariants as reply
use Rattle.seg_vn.specs.declared.attempt.Attempt.{Attempt}
use Rattle.seg_vn.specs.declared.attempt.Attempt.TheVariants as attempt
use Rattle.fault_entry.specs.declared.answers.Answer.{Answer}
use Rattle.fault_entry.specs.declared.answers.Answer.TheVariants.{Word, Stored, Signal, Need, Busy}

-- The answer to a load or a store as one to any call.
abbrev pub attempt_of : Answer → Attempt
attempt_of (Word n) = attempt.Done (reply.Word n)
attempt_of Stored = attempt.Done reply.Done
attempt_of (Signal s) = attempt.Done (reply.Signal s)
attempt_of (Need plan) = attempt.Need plan
attempt_of (Busy h) = attempt.Busy h

-- A hit of a load has its word, and that of a store is stored.
abbrev pub IsHitAnswer : Call → Answer → Type 0
IsHitAnswer (call.Load a n) (Word word) = Unit {0}
IsHitAnswer (call.Store a n v) Stored = Unit {0}
IsHitAnswer other answer = ⊥
