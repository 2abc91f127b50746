-- What a trace may tell. Public clauses cite this.
use Rattle.std.specs.Prelude.{ℕ, ◌≤◌, ◌+◌, ◌^◌, List, [], ◌∷◌, length, map, All, Contains, IsTrue}
use Rattle.vm_report.specs.vm_types.WellFormed.{IsNumber}
use Rattle.vm_report.specs.vm_types.Words.{IsByte}
use Rattle.vm_report.specs.vm_script.Fields.{is_file_name}
use Rattle.trace_text.specs.Traces.{TracedFile, Trace}
use Rattle.trace_text.specs.EntryForm.{IsLongNumber, IsTracedEntry}
use Rattle.trace_text.specs.TraceLines.{AreTwoNumbers}

-- Numbers below 2^32, each above those before it, from n on.
abbrev pub RiseFrom : ℕ → List ℕ → Type 0
RiseFrom n [] = Unit {0}
RiseFrom n (m ∷ ms) = (n ≤ m) × IsNumber m × RiseFrom (m + 1) ms

-- A file that a trace may tell: its name is one of a script's, its disk is there, its bytes are bytes, and its numbers are below 2^32.
pub record IsTracedFile (disks : List (ℕ × ℕ)) (file : TracedFile) : Type 0 where
  pub name : IsTrue (is_file_name file.name)
  pub disk : Contains (map (λ d. d.0) disks) file.disk
  pub extents : All AreTwoNumbers file.extents
  pub len : IsNumber (length file.bytes)
  pub bytes : All IsByte file.bytes

-- What is told is a trace: disks and top processes rise, the processes from 1 on, slots, disks, files and entries may be told, each file has a
-- number, and the entries can be counted in 64 bits.
pub record IsTrace (t : Trace) : Type 0 where
  pub slots : IsNumber t.slots
  pub rising : RiseFrom 0 (map (λ d. d.0) t.disks)
  pub blocks : All (λ d. IsNumber d.1) t.disks
  pub roots : RiseFrom 1 t.roots
  pub files : All (IsTracedFile t.disks) t.files
  pub numbered : length t.files ≤ 2 ^ 32
  pub entries : All IsTracedEntry t.history
  -- `decimal` prints 64 digits at most, so a bound is needed for one text a trace; no text can hold so many entries
  pub count : IsLongNumber (length t.history)
