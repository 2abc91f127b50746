-- The lines of a trace, one kind after the other, and the text of each. Public clauses cite this.
use Rattle.std.specs.Prelude.{ℕ, ◌≡◌, ◌≤◌, ◌==◌, Bool, false, List, [], ◌∷◌, ◌++◌, length, codes, decimal, All, IsTrue, if◌then◌else◌}
use Rattle.std.specs.List.{list_all, onto_first}
use Rattle.vm_report.specs.vm_types.declared.call.Entry.{Entry}
use Rattle.vm_report.specs.vm_types.WellFormed.{IsNumber}
use Rattle.vm_report.specs.vm_types.Words.{IsByte, word_bytes}
use Rattle.vm_report.specs.vm_script.Fields.{is_file_name}
use Rattle.vm_report.specs.vm_script.Lines.{is_feed}
use Rattle.vm_report.specs.vm_script.Texts.{hex_text}
use Rattle.vm_report.specs.Trace.{opening_text, disk_text, root_text, file_text, entry_text}
use Rattle.trace_text.specs.EntryForm.{IsLongNumber, IsTracedEntry}

-- The line of a file: number, name, mode, disk, length and extents.
pub record FileHead : Type 0 where
  pub file : ℕ
  pub name : List ℕ
  pub writable : Bool
  pub disk : ℕ
  pub len : ℕ
  pub extents : List (ℕ × ℕ)

-- A line of a trace: the swap slots, a disk with its blocks, a top process, a file, bytes of that file from an offset on, the number of entries,
-- or an entry.
pub data TraceLine : Type 0 where
  Slots : ℕ → TraceLine
  Disk : ℕ × ℕ → TraceLine
  Root : ℕ → TraceLine
  File : FileHead → TraceLine
  Piece : ℕ → List ℕ → TraceLine
  Entries : ℕ → TraceLine
  Act : Entry → TraceLine

-- The text of a line.
abbrev pub trace_line_text : TraceLine → List ℕ
trace_line_text (Slots n) = opening_text n [] []
trace_line_text (Disk d) = disk_text d
trace_line_text (Root p) = root_text p 0
trace_line_text (File x) = file_text x.file x.name x.writable x.disk x.len x.extents
trace_line_text (Piece offset bytes) = hex_text (word_bytes 4 offset) ++ 32 ∷ hex_text bytes ++ 10 ∷ []
trace_line_text (Entries n) = codes "entries " ++ decimal n ++ 10 ∷ []
trace_line_text (Act e) = entry_text e

-- Two numbers, each below 2^32.
abbrev pub AreTwoNumbers : ℕ × ℕ → Type 0
AreTwoNumbers x = IsNumber x.0 × IsNumber x.1

-- What the line of a file may tell: numbers below 2^32, and a file's name.
pub record IsFileHead (x : FileHead) : Type 0 where
  pub file : IsNumber x.file
  pub name : IsTrue (is_file_name x.name)
  pub disk : IsNumber x.disk
  pub len : IsNumber x.len
  pub extents : All AreTwoNumbers x.extents

-- Bytes that a line of a file may tell: 1 to 32 of them, not all zeros.
pub record IsPiece (bytes : List ℕ) : Type 0 where
  pub some : 1 ≤ length bytes
  pub few : length bytes ≤ 32
  pub told : list_all (λ b. b == 0) bytes ≡ false
  pub each : All IsByte bytes

-- What a line of a trace may tell: numbers of their widths, a file's head, a piece or an entry.
abbrev pub IsTraceLine : TraceLine → Type 0
IsTraceLine (Slots n) = IsNumber n
IsTraceLine (Disk d) = AreTwoNumbers d
IsTraceLine (Root p) = IsNumber p
IsTraceLine (File x) = IsFileHead x
IsTraceLine (Piece offset bytes) = IsNumber offset × IsPiece bytes
IsTraceLine (Entries n) = IsLongNumber n
IsTraceLine (Act e) = IsTracedEntry e

-- A line that stands before the entries.
abbrev pub IsOpeningLine : TraceLine → Type 0
IsOpeningLine (Act e) = ⊥
IsOpeningLine l = Unit {0}

-- The lines of a text, each with the line feed that ends it, which the last one may lack.
abbrev pub fed_lines : List ℕ → List (List ℕ)
fed_lines [] = []
fed_lines (b ∷ bytes) = if is_feed b then (b ∷ []) ∷ fed_lines bytes else onto_first b (fed_lines bytes)
