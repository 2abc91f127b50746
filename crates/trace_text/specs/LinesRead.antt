-- What the lines of a text tell that were read so far. Public clauses cite this.
use Rattle.std.specs.Prelude.{ℕ, ◌≡◌, ◌≤◌, ◌+◌, ◌%◌, ◌==◌, true, List, [], ◌∷◌, ◌++◌, length, map, drop, replicate, All, Some}
use Rattle.std.specs.List.{list_all, flat_map}
use Rattle.vm_report.specs.vm_types.WellFormed.{IsNumber}
use Rattle.vm_report.specs.flat_model.Words.{with_bytes}
use Rattle.trace_text.specs.EntryForm.{IsLongNumber}
use Rattle.trace_text.specs.Traces.{TracedFile, Trace}
use Rattle.trace_text.specs.TraceForm.{IsTrace}
use Rattle.trace_text.specs.TraceLines.{TraceLine, FileHead, Slots, Disk, Root, File, Piece, Entries, Act, trace_line_text, IsTraceLine}
use Rattle.trace_text.specs.LineOrder.{LinePlace, AtOpening, AtDisks, AtRoots, InFile, AtEntries, place_after_all, files_lines}

-- The trace of which nothing is told.
abbrev pub untold : Trace
untold = record { slots = 0; disks = []; roots = []; files = []; history = [] }

-- A file by its line alone: its bytes are zeros.
abbrev pub file_of_head : FileHead → TracedFile
file_of_head x = record { name = x.name; writable = x.writable; disk = x.disk; extents = x.extents; bytes = replicate x.len 0 }

-- A file with these bytes written over its own from an offset on.
abbrev pub file_with_bytes : ℕ → List ℕ → TracedFile → TracedFile
file_with_bytes offset bytes file = record file { bytes = with_bytes file.bytes offset bytes }

-- Files with these bytes written over those of the last one from an offset on.
abbrev pub put_in_last : ℕ → List ℕ → List TracedFile → List TracedFile
put_in_last offset bytes [] = []
put_in_last offset bytes (f ∷ []) = file_with_bytes offset bytes f ∷ []
put_in_last offset bytes (f ∷ g ∷ files) = f ∷ put_in_last offset bytes (g ∷ files)

-- What is told once a line more is read.
abbrev pub tell : Trace → TraceLine → Trace
tell t (Slots n) = record t { slots = n }
tell t (Disk d) = record t { disks = t.disks ++ d ∷ [] }
tell t (Root p) = record t { roots = t.roots ++ p ∷ [] }
tell t (File x) = record t { files = t.files ++ file_of_head x ∷ [] }
tell t (Piece offset bytes) = record t { files = put_in_last offset bytes t.files }
tell t (Entries n) = t
tell t (Act e) = record t { history = t.history ++ e ∷ [] }

-- Numbers below 2^32, each above those before it, from n on, and the next one is at least `least`.
abbrev pub RiseTo : ℕ → List ℕ → ℕ → Type 0
RiseTo n [] least = n ≤ least
RiseTo n (m ∷ ms) least = (n ≤ m) × IsNumber m × RiseTo (m + 1) ms least

-- The slots and disks told form a trace, these are the numbers of the disks, the next is at least
-- `least`, and nothing else is told.
pub record DisksTold (t : Trace) (least : ℕ) (numbers : List ℕ) : Type 0 where
  pub trace : IsTrace t
  pub are : numbers ≡ map (λ d. d.0) t.disks
  pub rise : RiseTo 0 numbers least
  pub roots : t.roots ≡ []
  pub files : t.files ≡ []
  pub history : t.history ≡ []

-- Slots, disks and top processes are told and form a trace, the next process is at least `least`,
-- and no file or entry is told.
pub record RootsTold (t : Trace) (least : ℕ) (numbers : List ℕ) : Type 0 where
  pub trace : IsTrace t
  pub are : numbers ≡ map (λ d. d.0) t.disks
  pub rise : RiseTo 1 t.roots least
  pub files : t.files ≡ []
  pub history : t.history ≡ []

-- The last of so many files has this length and zeros from `least` on, where a line of 32 bytes
-- begins.
pub record LastTold (files : List TracedFile) (count len least : ℕ) : Type 0 where
  pub before : List TracedFile
  pub file : TracedFile
  pub is : files ≡ before ++ file ∷ []
  pub number : count ≡ length before + 1
  pub size : length file.bytes ≡ len
  pub zeros : list_all (λ b. b == 0) (drop least file.bytes) ≡ true
  pub even : least % 32 ≡ 0

-- Slots, disks, top processes and so many files are told, the last file up to `least`, and no
-- entry.
pub record FilesTold (t : Trace) (numbers : List ℕ) (count len least : ℕ) : Type 0 where
  pub trace : IsTrace t
  pub are : numbers ≡ map (λ d. d.0) t.disks
  pub last : LastTold t.files count len least
  pub history : t.history ≡ []

-- What is told is a trace, to which n entries more are to come.
pub record EntriesTold (t : Trace) (n : ℕ) : Type 0 where
  pub trace : IsTrace t
  pub count : IsLongNumber (length t.history + n)

-- What is told of a trace where the next line stands at this place.
abbrev pub IsTold : Trace → LinePlace → Type 0
IsTold t AtOpening = t ≡ untold
IsTold t (AtDisks least numbers) = DisksTold t least numbers
IsTold t (AtRoots least numbers) = RootsTold t least numbers
IsTold t (InFile numbers count len least) = FilesTold t numbers count len least
IsTold t (AtEntries n) = EntriesTold t n

-- The lines of a trace before the number of entries.
abbrev pub opening_lines : Trace → List TraceLine
opening_lines t = Slots t.slots ∷ (map Disk t.disks ++ (map Root t.roots ++ files_lines 0 t.files))

-- The lines that tell so much of a trace, up to a place.
abbrev pub lines_told : Trace → LinePlace → List TraceLine
lines_told t AtOpening = []
lines_told t (AtEntries n) = opening_lines t ++ Entries (length t.history + n) ∷ map Act t.history
lines_told t s = opening_lines t

-- So many lines of the text were read, what they tell is this, these may follow, and the rest of the text is left.
pub record HasRead (text left : List ℕ) (t : Trace) (s : LinePlace) (count : ℕ) : Type 0 where
  pub front : text ≡ flat_map trace_line_text (lines_told t s) ++ left
  pub lines : length (lines_told t s) ≡ count
  pub each : All IsTraceLine (lines_told t s)
  pub run : place_after_all AtOpening (lines_told t s) ≡ Some s
  pub told : IsTold t s
