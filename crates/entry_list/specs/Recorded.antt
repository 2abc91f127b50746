-- A list of entries while it grows. Public clauses cite it.
use Rattle.std.specs.Prelude.{ℕ, ◌≤◌, ◌<◌, ◌+◌, ◌^◌, List, length}
use Rattle.entry_list.specs.vm_types.declared.call.Entry.{Entry}
use Rattle.entry_list.specs.declared.row.ReadPart.{ReadPart}
use Rattle.entry_list.specs.declared.row.Row.{Row}
use Rattle.entry_list.specs.Rows.{AreRowsWithin}

-- The entries that were made, and how many there is room for in all.
pub record RecordingSeen : Type 0 where
  pub entries : List Entry
  pub room : ℕ

-- Each row has its entry or its part, and there is room for more of all three.
pub record IsSoundRecording (rows : List Row) (whole : List Entry) (reads : List ReadPart) (room row_capacity whole_capacity read_capacity : ℕ) : Type 0 where
  pub within : AreRowsWithin (length whole) (length reads) rows
  pub fewer : length whole + length reads ≤ length rows
  pub inside : length rows ≤ room
  pub row_room : room ≤ row_capacity
  pub whole_room : room ≤ whole_capacity
  pub read_room : room ≤ read_capacity
  pub few : room < 2 ^ 32
