-- Entries and lines by their process. Inside: no public clause cites this.
use Rattle.std.specs.Prelude.{ℕ, zero, suc, Bool, true, false, List, [], ◌∷◌, ◌++◌, Option, Some, None, slice_set, slice_index_or}
use Rattle.vm_script.specs.vm_types.declared.call.Call.{Call}
use Rattle.vm_script.specs.vm_types.declared.call.Call.TheVariants as call
use Rattle.vm_script.specs.vm_types.declared.call.Entry.{Entry}
use Rattle.vm_script.specs.vm_types.declared.call.Reply.{Reply}
use Rattle.vm_script.specs.vm_types.declared.call.Reply.TheVariants as reply
use Rattle.vm_script.specs.Told.{parent_of}

-- With a member more in the group of process p, where there is one.
abbrev pub with_member : {A : Type 0} → List (List A) → ℕ → A → List (List A)
with_member groups p x = slice_set groups p (slice_index_or groups p [] ++ x ∷ [])

-- With the flag of the process that this call made, by its reply.
abbrev pub birth_flag : List Bool → Call → Reply → List Bool
birth_flag births (call.Fork child) reply.Done = slice_set births child true
birth_flag births c r = births

-- With the flag of the process that the entry made.
abbrev pub with_birth : List Bool → Entry → List Bool
with_birth births e = birth_flag births e.call e.reply

-- A process with this parent is born where it is a top process, or where the flag says that it was forked.
abbrev pub is_born_option : Option ℕ → Bool → Bool
is_born_option None forked = false
is_born_option (Some zero) forked = true
is_born_option (Some (suc parent)) forked = forked

-- A process is born where it is a top process, or was forked, as the flag says.
abbrev pub is_born_by : List ℕ → ℕ → Bool → Bool
is_born_by parents p forked = is_born_option (parent_of parents p) forked
