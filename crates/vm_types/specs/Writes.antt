-- A whole write, part by part. Public clauses cite this.
use Rattle.std.specs.Prelude.{ℕ, zero, suc, List, [], ◌∷◌, length, drop, Some, None}
use Rattle.vm_types.specs.declared.call.Call.{Call}
use Rattle.vm_types.specs.declared.call.Reply.TheVariants.{Done}
use Rattle.vm_types.specs.Parts.{next_part, part_bytes}

-- The first so many parts of a write whose parts are all done: this part, and then the next parts of the bytes
-- that are still to come.
abbrev pub write_parts : ℕ → Call → List ℕ → List Call
write_parts zero call bytes = []
write_parts (suc most) call bytes =
    call ∷ elim (next_part call Done bytes) [ None ↦ [] | Some next ↦ write_parts most next (drop (length (part_bytes next)) bytes) ]
