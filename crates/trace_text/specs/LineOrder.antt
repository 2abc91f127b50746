-- Which lines of a trace may follow which, and the lines of a trace. Public clauses cite this.
use Rattle.std.specs.Prelude.{ℕ, zero, suc, ◌≡◌, ◌+◌, ◌-◌, ◌/◌, ◌%◌, ◌==◌, min, Bool, true, false, ◌&&◌, List, [], ◌∷◌, ◌++◌, length, map, take, drop, nat_eq, nat_le, nat_lt, Option, Some, None, if◌then◌else◌}
use Rattle.std.specs.List.{list_all, list_any}
use Rattle.trace_text.specs.EntryReading.{◌>>=◌}
use Rattle.trace_text.specs.Traces.{TracedFile, Trace}
use Rattle.trace_text.specs.TraceLines.{TraceLine, FileHead, Slots, Disk, Root, File, Piece, Entries, Act, trace_line_text, IsTraceLine}

-- What may stand next, beside the disks' numbers and the number of files: the first line; a disk or
-- top process from a number on; bytes of a file from an offset on; or n entries.
pub data LinePlace : Type 0 where
  AtOpening : LinePlace
  AtDisks : ℕ → List ℕ → LinePlace
  AtRoots : ℕ → List ℕ → LinePlace
  InFile : List ℕ → ℕ → ℕ → ℕ → LinePlace
  AtEntries : ℕ → LinePlace

-- The numbers of the disks told and how many files were told, where a file or the number of entries
-- may stand next.
abbrev pub file_place : LinePlace → Option (List ℕ × ℕ)
file_place (AtDisks least disks) = Some (disks, 0)
file_place (AtRoots least disks) = Some (disks, 0)
file_place (InFile disks files len least) = Some (disks, files)
file_place s = None

-- The place behind the first line, where that line may stand.
abbrev pub after_slots : LinePlace → Option LinePlace
after_slots AtOpening = Some (AtDisks 0 [])
after_slots s = None

-- The place behind a disk's line, where it may stand: no top process was told, and its number is
-- above those of the disks told.
abbrev pub after_disk : LinePlace → ℕ → Option LinePlace
after_disk (AtDisks least disks) d = if nat_le least d then Some (AtDisks (d + 1) (disks ++ d ∷ [])) else None
after_disk s d = None

-- The place behind a top process' line, where it may stand: its number is at least 1 and above
-- those told, and no file was told.
abbrev pub after_root : LinePlace → ℕ → Option LinePlace
after_root (AtDisks least disks) p = if nat_le 1 p then Some (AtRoots (p + 1) disks) else None
after_root (AtRoots least disks) p = if nat_le least p then Some (AtRoots (p + 1) disks) else None
after_root s p = None

-- The place behind a file's line, where it may stand: its number is the next one, and its disk was
-- told.
abbrev pub file_at : FileHead → List ℕ × ℕ → Option LinePlace
file_at x p = if (x.file == p.1) && list_any (nat_eq x.disk) p.0 then Some (InFile p.0 (p.1 + 1) x.len 0) else None

-- A piece begins a line of 32 bytes, and is as long as the file's end lets it be.
abbrev pub may_be_piece : ℕ → ℕ → ℕ → Bool
may_be_piece len offset count = (offset % 32 == 0) && nat_lt offset len && (count == min 32 (len - offset))

-- The place behind so many bytes of a file at an offset, where they may stand: not below the least
-- offset, and a whole piece of the file.
abbrev pub after_piece : LinePlace → ℕ → ℕ → Option LinePlace
after_piece (InFile disks files len least) offset count =
    if nat_le least offset && may_be_piece len offset count then Some (InFile disks files len (offset + 32)) else None
after_piece s offset count = None

-- The place behind an entry's line, where an entry is to come.
abbrev pub after_entry : LinePlace → Option LinePlace
after_entry (AtEntries (suc n)) = Some (AtEntries n)
after_entry s = None

-- The place behind a line, if the line may stand there.
abbrev pub place_after : LinePlace → TraceLine → Option LinePlace
place_after s (Slots n) = after_slots s
place_after s (Disk d) = after_disk s d.0
place_after s (Root p) = after_root s p
place_after s (File x) = file_place s >>= file_at x
place_after s (Piece offset bytes) = after_piece s offset (length bytes)
place_after s (Entries n) = file_place s >>= λ p. Some (AtEntries n)
place_after s (Act e) = after_entry s

-- The place behind lines, if each of them may stand where those before it end.
abbrev pub place_after_all : LinePlace → List TraceLine → Option LinePlace
place_after_all s [] = Some s
place_after_all s (l ∷ ls) = place_after s l >>= λ t. place_after_all t ls

-- Whether entries may stand there.
abbrev pub takes_entries : LinePlace → Bool
takes_entries (AtEntries n) = true
takes_entries s = false

-- No line with this text may stand there.
abbrev pub NoneThere : LinePlace → List ℕ → Type 0
NoneThere s line = (l : TraceLine) (t : LinePlace) → IsTraceLine l → place_after s l ≡ Some t → ¬ (line ≡ trace_line_text l)

-- The line of a piece of a file at an offset; there is none where all its bytes are zeros.
abbrev pub piece_line : ℕ → List ℕ → List TraceLine
piece_line offset bytes = if list_all (λ b. b == 0) bytes then [] else Piece offset bytes ∷ []

-- The lines of so many pieces of 32 bytes of a file, from an offset on.
abbrev pub pieces_lines : ℕ → ℕ → List ℕ → List TraceLine
pieces_lines zero offset bytes = []
pieces_lines (suc n) offset bytes = piece_line offset (take 32 bytes) ++ pieces_lines n (offset + 32) (drop 32 bytes)

-- What the line of a file under this number tells.
abbrev pub head_of : ℕ → TracedFile → FileHead
head_of f file = record { file = f; name = file.name; writable = file.writable; disk = file.disk; len = length file.bytes; extents = file.extents }

-- The lines of files, numbered from f on: each file's own line, and the lines of its bytes.
abbrev pub files_lines : ℕ → List TracedFile → List TraceLine
files_lines f [] = []
files_lines f (file ∷ files) = File (head_of f file) ∷ (pieces_lines ((length file.bytes + 31) / 32) 0 file.bytes ++ files_lines (f + 1) files)

-- The lines of a trace: slots, disks, top processes, files, the number of entries, and the entries.
abbrev pub trace_lines : Trace → List TraceLine
trace_lines t = Slots t.slots ∷ (map Disk t.disks ++ (map Root t.roots ++ (files_lines 0 t.files ++ Entries (length t.history) ∷ map Act t.history)))
