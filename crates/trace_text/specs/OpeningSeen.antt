-- The lines of the opening part, and what they tell, as the code keeps it. Public clauses cite this.
use Rattle.std.specs.Prelude.{ℕ, ◌+◌, ◌-◌, ◌*◌, ◌/◌, List, [], ◌∷◌, ◌++◌, length, map, replicate}
use Rattle.trace_text.specs.declared.opening.TraceOpening.{TraceOpening}
use Rattle.trace_text.specs.declared.opening_words.FileHead.{FileHead as KeptHead}
use Rattle.trace_text.specs.declared.opening_words.OpeningLine.{OpeningLine}
use Rattle.trace_text.specs.declared.opening_words.OpeningLine.TheVariants as kept
use Rattle.trace_text.specs.declared.so_far.OpeningSoFar.{OpeningSoFar}
use Rattle.trace_text.specs.declared.so_far.Stage.{Stage}
use Rattle.trace_text.specs.declared.so_far.Stage.TheVariants as stage
use Rattle.trace_text.specs.declared.traced_file.TracedFile.{TracedFile as KeptFile}
use Rattle.trace_text.specs.LineOrder.{LinePlace, AtDisks, AtRoots, InFile, AtEntries}
use Rattle.trace_text.specs.Traces.{TracedFile, Trace}
use Rattle.trace_text.specs.TraceLines.{TraceLine, FileHead, Slots, Disk, Root, File, Piece, Entries}

-- What the line of a file tells, as it is kept.
abbrev pub head_seen : KeptHead → FileHead
head_seen x = record { file = x.file; name = x.name.items; writable = x.writable; disk = x.disk; len = x.len; extents = x.extents.items }

-- The line of a trace that a kept line is.
abbrev pub opening_line_seen : OpeningLine → TraceLine
opening_line_seen (kept.Slots n) = Slots n
opening_line_seen (kept.Disk d n) = Disk (d, n)
opening_line_seen (kept.Root p) = Root p
opening_line_seen (kept.File x) = File (head_seen x)
opening_line_seen (kept.Piece offset bytes) = Piece offset bytes.items
opening_line_seen (kept.Entries n) = Entries n

-- Bytes with zeros behind them, up to a length.
abbrev pub padded : ℕ → List ℕ → List ℕ
padded len bytes = bytes ++ replicate (len - length bytes) 0

-- The file of a trace that a kept file tells; bytes that weren't kept are zeros.
abbrev pub traced_file_seen : KeptFile → TracedFile
traced_file_seen f = record {
  name = f.head.name.items;
  writable = f.head.writable;
  disk = f.head.disk;
  extents = f.head.extents.items;
  bytes = padded f.head.len f.bytes.items;
}

-- The files told so far, by the stage of the reading.
abbrev pub files_seen : Stage → List TracedFile
files_seen (stage.Disks least) = []
files_seen (stage.Roots least) = []
files_seen (stage.InFile before file) = map traced_file_seen before.items ++ traced_file_seen file ∷ []
files_seen (stage.Entries files count) = map traced_file_seen files.items

-- The least offset at which more bytes of a file may come.
abbrev pub least_offset : KeptFile → ℕ
least_offset f = (length f.bytes.items + 31) / 32 * 32

-- Which lines may come next at a stage, with the numbers of the disks told.
abbrev pub stage_seen : Stage → List ℕ → LinePlace
stage_seen (stage.Disks least) numbers = AtDisks least numbers
stage_seen (stage.Roots least) numbers = AtRoots least numbers
stage_seen (stage.InFile before file) numbers = InFile numbers (length before.items + 1) file.head.len (least_offset file)
stage_seen (stage.Entries files count) numbers = AtEntries count

-- Which lines may come next behind the lines kept so far.
abbrev pub place_seen : OpeningSoFar → LinePlace
place_seen w = stage_seen w.stage (map (λ d. d.0) w.disks.items)

-- What the lines kept so far tell: no entry yet.
abbrev pub trace_seen : OpeningSoFar → Trace
trace_seen w = record { slots = w.slots; disks = w.disks.items; roots = w.roots.items; files = files_seen w.stage; history = [] }

-- What the lines before the entries tell.
abbrev pub opening_seen : TraceOpening → Trace
opening_seen o = record { slots = o.slots; disks = o.disks.items; roots = o.roots.items; files = map traced_file_seen o.files.items; history = [] }
