-- The calls that are served here. Public clauses cite this.
use Rattle.seg_vn.specs.vm_types.declared.call.Call.{Call}
use Rattle.seg_vn.specs.vm_types.declared.call.Call.TheVariants.{Exit}
use Rattle.seg_vn.specs.Serves.{IsPlainReply}
use Rattle.seg_vn.specs.declared.attempt.Attempt.{Attempt}
use Rattle.seg_vn.specs.declared.attempt.Attempt.TheVariants.{Done, Need, Busy}

-- The call is an Exit.
abbrev pub IsServedExit : Call → Type 0
IsServedExit Exit = Unit {0}
IsServedExit call = ⊥

-- An Exit is done, with a plain reply: it needs no transfer, and doesn't wait.
abbrev pub IsExitDone : Attempt → Type 0
IsExitDone (Done reply) = IsPlainReply reply
IsExitDone (Need plan) = ⊥
IsExitDone (Busy hold) = ⊥
