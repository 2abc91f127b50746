-- The words of a trace's lines, one space apart. Inside: no public clause cites this.
use Rattle.std.specs.Prelude.{ℕ, Bool, List, [], ◌∷◌, codes, decimal, if◌then◌else◌}
use Rattle.vm_report.specs.vm_types.Words.{word_bytes}
use Rattle.vm_report.specs.vm_script.Texts.{hex_text}
use Rattle.vm_report.specs.Trace.{extents_text}
use Rattle.trace_text.specs.EntryWords.{entry_words}
use Rattle.trace_text.specs.TraceLines.{TraceLine, FileHead, Slots, Disk, Root, File, Piece, Entries, Act}

-- The word of a file's mode: `rw` if it may be written, otherwise `ro`.
abbrev pub mode_word : Bool → List ℕ
mode_word writable = if writable then codes "rw" else codes "ro"

-- The seven words of a file's line.
abbrev pub head_words : FileHead → List (List ℕ)
head_words x = codes "file" ∷ decimal x.file ∷ x.name ∷ mode_word x.writable ∷ decimal x.disk ∷ decimal x.len ∷ extents_text x.extents ∷ []

-- The words of a line.
abbrev pub line_words : TraceLine → List (List ℕ)
line_words (Slots n) = codes "trace" ∷ codes "swap" ∷ decimal n ∷ []
line_words (Disk d) = codes "disk" ∷ decimal d.0 ∷ decimal d.1 ∷ []
line_words (Root p) = codes "root" ∷ decimal p ∷ []
line_words (File x) = head_words x
line_words (Piece offset bytes) = hex_text (word_bytes 4 offset) ∷ hex_text bytes ∷ []
line_words (Entries n) = codes "entries" ∷ decimal n ∷ []
line_words (Act e) = entry_words e
