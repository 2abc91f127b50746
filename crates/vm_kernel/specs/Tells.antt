-- How often a visit tells those who wait for something behind the lock. Public clauses cite this.
use Rattle.std.specs.Prelude.{◌≡◌, ◌⊎◌, ◌&&◌, ℕ, Option, Some, None, is_some, Result, Ok, Err, if◌then◌else◌}
use Rattle.vm_core.specs.fault_entry.Accesses.{IsAccess}
use Rattle.vm_core.specs.vm_types.Parts.{file_of_call, ends_call}
use Rattle.vm_core.specs.vm_types.declared.call.Call.{Call}
use Rattle.vm_core.specs.vm_types.declared.call.Reply.{Reply}
use Rattle.vm_core.specs.vm_world.State.{Caller}
use Rattle.vm_kernel.specs.declared.steps.Tried.{Tried}
use Rattle.vm_kernel.specs.declared.steps.Tried.TheVariants.{Done, Out, Busy}

-- Of a change: once where a try is done or lacks memory.
abbrev pub tells_of_try : {E : Type 0} → Result Tried E → ℕ
tells_of_try (Ok (Done reply)) = 1
tells_of_try (Ok Out) = 0
tells_of_try (Ok (Busy hold)) = 0
tells_of_try (Err e) = 1

-- Of a file's call: once where it is over, by the last part of a read or a write, or by a Truncate.
abbrev pub files_of : Call → Reply → ℕ
files_of call reply = if is_some (file_of_call call) && ends_call call reply then 1 else 0

-- How often a try tells that a file is free: once where it answered the end of a file's call.
abbrev pub files_of_try : {E : Type 0} → Call → Result Tried E → ℕ
files_of_try call (Ok (Done reply)) = files_of call reply
files_of_try call (Ok Out) = 0
files_of_try call (Ok (Busy hold)) = 0
files_of_try call (Err e) = 0

-- The same where a transfer that was for a call, or for none, ended with an error.
abbrev pub files_of_error : Reply → Option Caller → ℕ
files_of_error reply None = 0
files_of_error reply (Some of) = files_of of.1 reply

-- How often the end of a transfer tells that a file is free: once where it ended a file's call.
abbrev pub files_of_end : Option Caller → Option Reply → ℕ
files_of_end of None = 0
files_of_end of (Some reply) = files_of_error reply of

-- Nobody waits for what a load or a store does, so it may tell nobody.
abbrev pub TellsTry : {E : Type 0} → Call → Result Tried E → ℕ → ℕ → Type 0
TellsTry call result changes files = (files ≡ files_of_try call result) × ((changes ≡ tells_of_try result) ⊎ (IsAccess call × (changes ≡ 0)))
