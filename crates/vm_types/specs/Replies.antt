-- What a reply says of its call. Public clauses cite this.
use Rattle.std.specs.Prelude.{Bool, true, false}
use Rattle.vm_types.specs.declared.call.Reply.{Reply}
use Rattle.vm_types.specs.declared.call.Reply.TheVariants.{Done, Word, Mapped, Bytes, Synced, Signal, Refused, Io}

-- The reply says that a transfer failed.
abbrev pub is_io : Reply → Bool
is_io (Io disk before after) = true
is_io Done = false
is_io (Word value) = false
is_io (Mapped addr) = false
is_io (Bytes line) = false
is_io (Synced from) = false
is_io (Signal signal) = false
is_io (Refused errno) = false
