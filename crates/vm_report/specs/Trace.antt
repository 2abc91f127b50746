-- The text of a trace. Public clauses cite this.
use Rattle.std.specs.Prelude.{ℕ, ◌+◌, ◌==◌, Bool, List, [], ◌∷◌, ◌++◌, length, codes, decimal, if◌then◌else◌}
use Rattle.std.specs.List.{flat_map}
use Rattle.vm_script.specs.vm_types.declared.call.Call.{Call}
use Rattle.vm_script.specs.vm_types.declared.call.Call.TheVariants as call
use Rattle.vm_script.specs.vm_types.declared.call.Reply.{Reply}
use Rattle.vm_script.specs.vm_types.declared.call.Reply.TheVariants as reply
use Rattle.vm_script.specs.vm_types.declared.call.Entry.{Entry}
use Rattle.vm_script.specs.vm_types.declared.call.Object.{Object}
use Rattle.vm_script.specs.vm_types.declared.call.Object.TheVariants as object
use Rattle.vm_script.specs.vm_types.declared.call.Place.{Place}
use Rattle.vm_script.specs.vm_types.declared.call.Place.TheVariants.{At, Any}
use Rattle.vm_script.specs.vm_types.Words.{word_bytes}
use Rattle.vm_script.specs.Texts.{hex_text, prot_text, kind_text}
use Rattle.vm_report.specs.Texts.{word_text, call_word}
use Rattle.vm_report.specs.Results.{result_text, bytes_text}

-- A place as a trace prints it: an address, or `any`.
abbrev pub place_word : Place → List ℕ
place_word (At a) = word_text 4 a
place_word Any = codes "any"

-- An object as a trace prints it.
abbrev pub object_words : Object → List ℕ
object_words (object.File file) = codes "file " ++ decimal file
object_words object.NewZero = codes "newzero"
object_words (object.Zero z) = codes "zero " ++ decimal z

-- An address and a length.
abbrev pub range_text : ℕ → ℕ → List ℕ
range_text a len = word_text 4 a ++ 32 ∷ decimal len

-- What stands behind a call's word.
abbrev pub arguments_text : Call → List ℕ
arguments_text (call.Load a n) = 32 ∷ range_text a n
arguments_text (call.Store a n v) = 32 ∷ range_text a n ++ 32 ∷ word_text n v
arguments_text (call.Map place len prot kind object offset) =
    32 ∷ place_word place ++ 32 ∷ decimal len ++ 32 ∷ prot_text prot ++ 32 ∷ kind_text kind ++ 32 ∷ object_words object ++ 32 ∷ decimal offset
arguments_text (call.Unmap a len) = 32 ∷ range_text a len
arguments_text (call.Protect a len prot) = 32 ∷ range_text a len ++ 32 ∷ prot_text prot
arguments_text (call.Sync a len) = 32 ∷ range_text a len
arguments_text (call.Read file offset len) = 32 ∷ decimal file ++ 32 ∷ decimal offset ++ 32 ∷ decimal len
arguments_text (call.Write file offset line rest) = 32 ∷ decimal file ++ 32 ∷ decimal offset ++ 32 ∷ hex_text line ++ 32 ∷ decimal rest
arguments_text (call.Truncate file len) = 32 ∷ decimal file ++ 32 ∷ decimal len
arguments_text (call.Fork child) = 32 ∷ decimal child
arguments_text call.Exit = []

-- A call as a trace prints it.
abbrev pub call_text : Call → List ℕ
call_text c = call_word c ++ arguments_text c

-- A reply as a trace prints it: as the report's result, but for the number that a sync tells, the `ok` of a fork, and
-- the word before the bytes of a read.
abbrev pub reply_text : Call → Reply → List ℕ
reply_text c reply.Done = codes "ok"
reply_text c (reply.Synced from) = codes "ok " ++ decimal from
reply_text c (reply.Bytes bytes) = codes "bytes " ++ bytes_text bytes
reply_text c r = result_text c r

-- The line of an entry.
abbrev pub entry_text : Entry → List ℕ
entry_text e =
    decimal e.process ++ 32 ∷ hex_text (word_bytes 8 e.cleared) ++ 32 ∷ call_text e.call ++ codes " = " ++ reply_text e.call e.reply ++ 10 ∷ []

-- The part of a trace that tells the history.
abbrev pub entries_text : List Entry → List ℕ
entries_text H = codes "entries " ++ decimal (length H) ++ 10 ∷ flat_map entry_text H

-- The line of a disk: its number and its blocks.
abbrev pub disk_text : ℕ × ℕ → List ℕ
disk_text d = codes "disk " ++ decimal d.0 ++ 32 ∷ decimal d.1 ++ 10 ∷ []

-- The line of a top process; none for a process that has a parent.
abbrev pub root_text : ℕ → ℕ → List ℕ
root_text p parent = if parent == 0 then codes "root " ++ decimal p ++ 10 ∷ [] else []

-- A line for each top process, by the parents of the processes from number p on.
abbrev pub roots_text : ℕ → List ℕ → List ℕ
roots_text p [] = []
roots_text p (parent ∷ parents) = root_text p parent ++ roots_text (p + 1) parents

-- The opening part of a trace before its files: swap slots, disks and top processes.
abbrev pub opening_text : ℕ → List (ℕ × ℕ) → List ℕ → List ℕ
opening_text slots disks parents = codes "trace swap " ++ decimal slots ++ 10 ∷ flat_map disk_text disks ++ roots_text 1 parents

-- An extent: its first block and its number of blocks.
abbrev pub extent_text : ℕ × ℕ → List ℕ
extent_text x = decimal x.0 ++ 43 ∷ decimal x.1

-- A comma where something stands in front of it.
abbrev pub comma_before : List (ℕ × ℕ) → List ℕ
comma_before [] = []
comma_before (x ∷ more) = 44 ∷ []

-- The extents of a file, joined by commas.
abbrev pub extents_text : List (ℕ × ℕ) → List ℕ
extents_text [] = []
extents_text (x ∷ more) = extent_text x ++ comma_before more ++ extents_text more

-- The mode of a file: whether it may be written.
abbrev pub mode_text : Bool → List ℕ
mode_text writable = if writable then codes " rw" else codes " ro"

-- The line of a file in the opening part: number, name, mode, disk, length and extents.
abbrev pub file_text : ℕ → List ℕ → Bool → ℕ → ℕ → List (ℕ × ℕ) → List ℕ
file_text file name writable disk len extents =
    codes "file " ++ decimal file ++ 32 ∷ name ++ mode_text writable ++ 32 ∷ decimal disk ++ 32 ∷ decimal len ++ 32 ∷ extents_text extents ++ 10 ∷ []
