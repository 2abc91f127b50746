-- The calls that are served here, and how they end. Public clauses cite this.
use Rattle.std.specs.Prelude.{◌≡◌, ℕ}
use Rattle.seg_vn.specs.vm_types.declared.call.Call.{Call}
use Rattle.seg_vn.specs.vm_types.declared.call.Call.TheVariants.{Map, Unmap, Protect, Sync}
use Rattle.seg_vn.specs.vm_types.declared.call.Reply.TheVariants.{Synced}
use Rattle.seg_vn.specs.vm_world.declared.wants.Wants.{Wants}
use Rattle.seg_vn.specs.vm_world.declared.wants.Wants.TheVariants.{Transfer, Seat}
use Rattle.seg_vn.specs.Serves.{IsPlainReply}
use Rattle.seg_vn.specs.declared.attempt.Attempt.{Attempt}
use Rattle.seg_vn.specs.declared.attempt.Attempt.TheVariants.{Done, Need, Busy}

-- The calls that change what a process has mapped: Map, Unmap and Protect.
abbrev pub ChangesMappings : Call → Type 0
ChangesMappings (Map place len prot kind o offset) = Unit {0}
ChangesMappings (Unmap addr len) = Unit {0}
ChangesMappings (Protect addr len prot) = Unit {0}
ChangesMappings call = ⊥

-- The mapping calls: Map, Unmap, Protect and Sync.
abbrev pub IsMappingCall : Call → Type 0
IsMappingCall (Sync addr len) = Unit {0}
IsMappingCall call = ChangesMappings call

-- A call is done, with a plain reply: it needs no transfer, and doesn't wait.
abbrev pub IsDoneAtOnce : Attempt → Type 0
IsDoneAtOnce (Done reply) = IsPlainReply reply
IsDoneAtOnce (Need plan) = ⊥
IsDoneAtOnce (Busy hold) = ⊥

-- A Sync that is done says that it began there, or has a plain reply; else it needs a transfer, or has to wait.
abbrev pub IsSyncAnswer : ℕ → Attempt → Type 0
IsSyncAnswer from (Done (Synced began)) = began ≡ from
IsSyncAnswer from (Done reply) = IsPlainReply reply
IsSyncAnswer from (Need plan) = Unit {0}
IsSyncAnswer from (Busy hold) = Unit {0}

-- What is answered to a mapping call.
abbrev pub IsMappingAnswer : Call → ℕ → Attempt → Type 0
IsMappingAnswer (Sync addr len) from attempt = IsSyncAnswer from attempt
IsMappingAnswer call from attempt = IsDoneAtOnce attempt

-- What must come first, as the answer to a call.
abbrev pub attempt_wanting : Wants → Attempt
attempt_wanting (Transfer plan) = Need plan
attempt_wanting (Seat hold) = Busy hold
