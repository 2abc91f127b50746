-- What rows stand for. Public clauses cite `entry_seen`.
use Rattle.std.specs.Prelude.{ℕ, ◌<◌, List, [], map, slice_index_or, All}
use Rattle.entry_list.specs.vm_types.declared.call.Call.TheVariants as call
use Rattle.entry_list.specs.vm_types.declared.call.Entry.{Entry}
use Rattle.entry_list.specs.vm_types.declared.call.Reply.TheVariants as reply
use Rattle.entry_list.specs.declared.row.EntryAt.{EntryAt}
use Rattle.entry_list.specs.declared.row.EntryAt.TheVariants as at
use Rattle.entry_list.specs.declared.row.ReadPart.{ReadPart}
use Rattle.entry_list.specs.declared.row.Row.{Row}
use Rattle.entry_list.specs.declared.row.Row.TheVariants as row

-- The entry of a load that gave a word, for which no tail became zeros.
abbrev pub loaded_entry : ℕ → ℕ → ℕ → ℕ → Entry
loaded_entry process addr size word = record { process = process; call = call.Load addr size; reply = reply.Word word; cleared = 0 }

-- The entry of a store that was done, for which no tail became zeros.
abbrev pub stored_entry : ℕ → ℕ → ℕ → ℕ → Entry
stored_entry process addr size value = record { process = process; call = call.Store addr size value; reply = reply.Done; cleared = 0 }

-- The entry of a part of a read that got bytes, for which no tail became zeros.
abbrev pub read_entry : ℕ → ℕ → ℕ → ℕ → List ℕ → Entry
read_entry process file offset length bytes = record { process = process; call = call.Read file offset length; reply = reply.Bytes bytes; cleared = 0 }

-- The entry that is read.
abbrev pub entry_seen : EntryAt → Entry
entry_seen (at.Load process addr size word) = loaded_entry process addr size word
entry_seen (at.Store process addr size value) = stored_entry process addr size value
entry_seen (at.Read process file offset length bytes) = read_entry process file offset length bytes.now
entry_seen (at.Whole e) = e.now

-- Stands for the entry at a place where none is.
abbrev pub absent_entry : Entry
absent_entry = record { process = 0; call = call.Exit; reply = reply.Done; cleared = 0 }

-- Stands for the part of a read at a place where none is: no bytes of file 0.
abbrev pub absent_part : ReadPart
absent_part = record { file = 0; offset = 0; length = 0; bytes = [] }

-- The entry of a process that read a part.
abbrev pub part_entry : ℕ → ReadPart → Entry
part_entry process part = read_entry process part.file part.offset part.length part.bytes

-- The entry of a row, over the entries that are kept whole and the parts that were read.
abbrev pub row_entry : List Entry → List ReadPart → Row → Entry
row_entry whole reads (row.Load process addr size word) = loaded_entry process addr size word
row_entry whole reads (row.Store process addr size value) = stored_entry process addr size value
row_entry whole reads (row.Read process place) = part_entry process (slice_index_or reads place absent_part)
row_entry whole reads (row.Whole place) = slice_index_or whole place absent_entry

-- The entries of rows.
abbrev pub row_entries : List Entry → List ReadPart → List Row → List Entry
row_entries whole reads rows = map (row_entry whole reads) rows

-- The place of a row, if it has one, is one of so many entries kept whole, or of so many parts.
abbrev pub IsRowWithin : ℕ → ℕ → Row → Type 0
IsRowWithin whole reads (row.Load process addr size word) = Unit {0}
IsRowWithin whole reads (row.Store process addr size value) = Unit {0}
IsRowWithin whole reads (row.Read process place) = place < reads
IsRowWithin whole reads (row.Whole place) = place < whole

-- Each row has its place, if it has one, among so many entries kept whole, or so many parts.
abbrev pub AreRowsWithin : ℕ → ℕ → List Row → Type 0
AreRowsWithin whole reads rows = All (IsRowWithin whole reads) rows
