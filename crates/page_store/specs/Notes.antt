-- What the seats have outside the store, as callers note it. Public clauses cite this.
use Rattle.std.specs.Prelude.{ℕ, ◌==◌, Bool, if◌then◌else◌, List, Option, None}
use Rattle.block_device.specs.DiskSeen.{DiskSeen}
use Rattle.page_hash.specs.declared.PageName.{PageName}

-- What a seat took out, as it was when it went: the seat and the core that its frame is of; the disk under its number;
-- whether the transfer writes; the page's name, block and valid bytes; and the frame with its bytes.
pub record Note : Type 0 where
  pub seat : ℕ
  pub origin : ℕ
  pub number : ℕ
  pub disk : DiskSeen
  pub writes : Bool
  pub name : PageName
  pub block : ℕ
  pub valid : ℕ
  pub frame : ℕ
  pub bytes : List ℕ

-- the note of each seat; none where the seat has nothing outside
abbrev pub Notes : Type 0
Notes = ℕ → Option Note

-- the notes with that of one seat changed
abbrev pub with_note : Notes → ℕ → Option Note → Notes
with_note notes seat note other = if other == seat then note else notes other

-- no seat has anything outside
abbrev pub no_notes : Notes
no_notes seat = None
