-- When a call is well formed. Public clauses cite this.
use Rattle.std.specs.Prelude.{ℕ, ◌≤◌, ◌<◌, ◌^◌, List, length, All}
use Rattle.vm_types.specs.declared.call.Call.{Call}
use Rattle.vm_types.specs.declared.call.Call.TheVariants.{Load, Store, Map, Unmap, Protect, Sync, Read, Write, Truncate, Fork, Exit}
use Rattle.vm_types.specs.declared.call.Object.{Object}
use Rattle.vm_types.specs.declared.call.Object.TheVariants.{File, NewZero, Zero}
use Rattle.vm_types.specs.declared.call.Place.{Place}
use Rattle.vm_types.specs.declared.call.Place.TheVariants.{At, Any}
use Rattle.vm_types.specs.Pages.{line_rest}
use Rattle.vm_types.specs.Prot.{IsProt}
use Rattle.vm_types.specs.Words.{IsByte, IsWordSize, FitsWord}

-- A number is below 2^32.
abbrev pub IsNumber : ℕ → Type 0
IsNumber n = n < 2 ^ 32

-- A place is any, or an address that is a number.
abbrev pub IsPlace : Place → Type 0
IsPlace (At addr) = IsNumber addr
IsPlace Any = Unit {0}

-- An object is a new one, or has a number.
abbrev pub IsObject : Object → Type 0
IsObject (File file) = IsNumber file
IsObject NewZero = Unit {0}
IsObject (Zero zero) = IsNumber zero

-- A part of a write has at least one byte, and its bytes, each below 256, lie inside one aligned line of 64.
pub record IsInOneLine (offset : ℕ) (bytes : List ℕ) : Type 0 where
  pub some : 1 ≤ length bytes
  pub inside : length bytes ≤ line_rest offset
  pub each : All IsByte bytes

-- A call is well formed where its numbers are below 2^32, its protection is a set of READ and WRITE, its word has
-- 1, 2 or 4 bytes and a value that fits them, its part of a read asks for at least one byte, and its part of a
-- write is 1 to 64 bytes, each below 256, inside one aligned line.
abbrev pub IsWellFormed : Call → Type 0
IsWellFormed (Load addr size) = IsNumber addr × IsWordSize size
IsWellFormed (Store addr size value) = IsNumber addr × IsWordSize size × FitsWord size value
IsWellFormed (Map place len prot kind object offset) = IsPlace place × IsNumber len × IsProt prot × IsObject object × IsNumber offset
IsWellFormed (Unmap addr len) = IsNumber addr × IsNumber len
IsWellFormed (Protect addr len prot) = IsNumber addr × IsNumber len × IsProt prot
IsWellFormed (Sync addr len) = IsNumber addr × IsNumber len
IsWellFormed (Read file offset len) = IsNumber file × IsNumber offset × IsNumber len × (1 ≤ len)
IsWellFormed (Write file offset bytes rest) = IsNumber file × IsNumber offset × IsInOneLine offset bytes × IsNumber rest
IsWellFormed (Truncate file len) = IsNumber file × IsNumber len
IsWellFormed (Fork child) = IsNumber child
IsWellFormed Exit = Unit {0}
