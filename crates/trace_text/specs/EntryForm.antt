-- The entries that a trace may tell. Public clauses cite this.
use Rattle.std.specs.Prelude.{ℕ, ◌≤◌, ◌<◌, ◌^◌, length, All}
use Rattle.vm_report.specs.vm_types.declared.call.Call.{Call}
use Rattle.vm_report.specs.vm_types.declared.call.Call.TheVariants as call
use Rattle.vm_report.specs.vm_types.declared.call.Reply.{Reply}
use Rattle.vm_report.specs.vm_types.declared.call.Reply.TheVariants as reply
use Rattle.vm_report.specs.vm_types.declared.call.Entry.{Entry}
use Rattle.vm_report.specs.vm_types.WellFormed.{IsNumber, IsWellFormed}
use Rattle.vm_report.specs.vm_types.Words.{IsByte, FitsWord}

-- The number is below 2^64.
abbrev pub IsLongNumber : ℕ → Type 0
IsLongNumber n = n < 2 ^ 64

-- A word that a trace may tell as the reply to this call: the call is a load, and the word fits its
-- size.
abbrev pub IsLoadedWord : Call → ℕ → Type 0
IsLoadedWord (call.Load a n) v = FitsWord n v
IsLoadedWord c v = ⊥

-- An address that a trace may tell as the reply to this call: the call is a map, and the address is
-- a number.
abbrev pub IsMappedAddress : Call → ℕ → Type 0
IsMappedAddress (call.Map place len prot kind object offset) a = IsNumber a
IsMappedAddress c a = ⊥

-- A reply that a trace may tell of a call: a Word of a Load alone, Mapped of a Map alone, at most 64 bytes, and numbers of their types.
abbrev pub IsReplyTo : Call → Reply → Type 0
IsReplyTo c reply.Done = Unit {0}
IsReplyTo c (reply.Word v) = IsLoadedWord c v
IsReplyTo c (reply.Mapped a) = IsMappedAddress c a
IsReplyTo c (reply.Bytes line) = (length line ≤ 64) × All IsByte line
IsReplyTo c (reply.Synced from) = IsLongNumber from
IsReplyTo c (reply.Signal s) = Unit {0}
IsReplyTo c (reply.Refused e) = Unit {0}
IsReplyTo c (reply.Io disk before after) = IsNumber disk × IsLongNumber before × IsLongNumber after

-- An entry that a trace may tell: its process and its mask fit their digits, its call is well
-- formed, and its reply may be one to that call.
pub record IsTracedEntry (e : Entry) : Type 0 where
  pub process : IsNumber e.process
  pub cleared : IsLongNumber e.cleared
  pub call : IsWellFormed e.call
  pub reply : IsReplyTo e.call e.reply
