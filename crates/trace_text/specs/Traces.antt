-- A trace and its text. Public clauses cite this.
use Rattle.std.specs.Prelude.{ℕ, ◌+◌, Bool, List, [], ◌∷◌, ◌++◌, length}
use Rattle.std.specs.List.{flat_map}
use Rattle.vm_report.specs.vm_types.declared.call.Entry.{Entry}
use Rattle.vm_report.specs.Report.{file_lines}
use Rattle.vm_report.specs.Trace.{opening_text, root_text, file_text, entries_text}

-- A file as the opening part of a trace tells it: its name, whether it may be written, its disk, its extents, each a first block and a number
-- of blocks, and its bytes.
pub record TracedFile : Type 0 where
  pub name : List ℕ
  pub writable : Bool
  pub disk : ℕ
  pub extents : List (ℕ × ℕ)
  pub bytes : List ℕ

-- A trace: the swap slots, the disks with their blocks, the top processes and the files of its opening part, and its history.
pub record Trace : Type 0 where
  pub slots : ℕ
  pub disks : List (ℕ × ℕ)
  pub roots : List ℕ
  pub files : List TracedFile
  pub history : List Entry

-- The text of a file under its number: its line, and the lines of its bytes.
abbrev pub traced_file_text : ℕ → TracedFile → List ℕ
traced_file_text f file = file_text f file.name file.writable file.disk (length file.bytes) file.extents ++ file_lines 0 file.bytes

-- The texts of files, numbered from f on.
abbrev pub traced_files_text : ℕ → List TracedFile → List ℕ
traced_files_text f [] = []
traced_files_text f (file ∷ files) = traced_file_text f file ++ traced_files_text (f + 1) files

-- The text of a trace: slots and disks, a line for each top process, the files, and the history.
abbrev pub trace_text : Trace → List ℕ
trace_text t = opening_text t.slots t.disks [] ++ flat_map (λ p. root_text p 0) t.roots ++ traced_files_text 0 t.files ++ entries_text t.history
