-- How a line's call is kept. Inside: no public clause cites this.
use Rattle.flat_model.specs.vm_types.declared.call.Call.{Call}
use Rattle.flat_model.specs.vm_types.declared.call.Call.TheVariants as call
use Rattle.vm_script.specs.declared.plan_call.KeptCall.{KeptCall}
use Rattle.vm_script.specs.declared.plan_call.KeptCall.TheVariants as kept

-- The call that is kept so.
abbrev pub call_kept : KeptCall → Call
call_kept (kept.Load addr size) = call.Load addr size
call_kept (kept.Store addr size value) = call.Store addr size value
call_kept (kept.Map place len prot kind object offset) = call.Map place len prot kind object offset
call_kept (kept.Unmap addr len) = call.Unmap addr len
call_kept (kept.Protect addr len prot) = call.Protect addr len prot
call_kept (kept.Sync addr len) = call.Sync addr len
call_kept (kept.Read file offset len) = call.Read file offset len
call_kept (kept.Truncate file len) = call.Truncate file len
call_kept (kept.Fork child) = call.Fork child
call_kept kept.Exit = call.Exit
