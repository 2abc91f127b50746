-- What is seen of a flight, and what its transfer does. Public clauses cite this.
use Rattle.std.specs.Prelude.{◌≡◌, ◌<◌, ◌≤◌, ◌==◌, ◌&&◌, ℕ, Bool, true, false, List, [], Option, Some, None, Result, Ok, Err, OnOk, IfSome, slice_index_or, length, not, if◌then◌else◌}
use Rattle.block_device.specs.DiskSeen.{DiskSeen, with_block, Spoils, HasBlocks}
use Rattle.block_device.specs.Counts.{HasRisen, HasCause}
use Rattle.page_hash.specs.declared.PageName.{PageName}
use Rattle.page_store.specs.Bays.{BaySeen, home}
use Rattle.page_store.specs.Bytes.{clip}
use Rattle.page_store.specs.Notes.{Note}

-- how far a transfer is
pub data Progress : Type 0 where
  fresh : Progress
  done : Progress
  failed : Progress

-- A flight: the seat that it is for; the disk under its number; whether it writes; the page's name, block and valid bytes;
-- the frame, by its core and number, with its bytes; the disk's count of faults before the transfer; and how far it is.
pub record FlightSeen : Type 0 where
  pub seat : ℕ
  pub number : ℕ
  pub disk : DiskSeen
  pub writes : Bool
  pub name : PageName
  pub block : ℕ
  pub valid : ℕ
  pub origin : ℕ
  pub frame : ℕ
  pub bytes : List ℕ
  pub before : ℕ
  pub outcome : Progress

-- the note of a flight before its transfer
abbrev pub note_of : FlightSeen → Note
note_of f = record { seat = f.seat; origin = f.origin; number = f.number; disk = f.disk; writes = f.writes; name = f.name; block = f.block; valid = f.valid; frame = f.frame; bytes = f.bytes }

-- the page of a file that a flight writes, and its block; none for any other transfer
abbrev pub file_push_of : FlightSeen → Option (PageName × ℕ)
file_push_of f = if f.writes && not (f.name.object == 64) then Some (f.name, f.block) else None

-- A write left the first valid bytes in its block, with zeros after them; one that failed left some bytes there.
abbrev pub IsWritten : Note → FlightSeen → Progress → Type 0
IsWritten note f fresh = ⊥
IsWritten note f done = f.disk.content ≡ with_block note.disk.content note.block (clip note.valid note.bytes)
IsWritten note f failed = Spoils note.disk.content f.disk.content note.block

-- where the disk tells, the bytes are the block's first valid ones, with zeros after them
abbrev pub HasBlock : Option (List (List ℕ)) → ℕ → ℕ → List ℕ → Type 0
HasBlock content block valid bytes = IfSome content (λ blocks. bytes ≡ clip valid (slice_index_or blocks block []))

-- A read gave the block's bytes; one that failed gave any.
abbrev pub IsRead : Note → FlightSeen → Progress → Type 0
IsRead note f fresh = ⊥
IsRead note f done = HasBlock note.disk.content note.block note.valid f.bytes
IsRead note f failed = Unit {0}

-- What became of a flight since its note was taken: it is the same transfer; a write left the frame as it was and changed at
-- most its block; a read left the disk's blocks as they were. The counts are those of this transfer: none fell, and after a
-- failure the count of faults rose. The block is one of the disk's, the disk is whole where it tells, and the frame has 4096
-- bytes.
pub record IsPerformed (note : Note) (f : FlightSeen) : Type 0 where
  pub seat : f.seat ≡ note.seat
  pub origin : f.origin ≡ note.origin
  pub number : f.number ≡ note.number
  pub size : f.disk.size ≡ note.disk.size
  pub kind : f.disk.kind ≡ note.disk.kind
  pub direction : f.writes ≡ note.writes
  pub name : f.name ≡ note.name
  pub block : f.block ≡ note.block
  pub valid : f.valid ≡ note.valid
  pub frame : f.frame ≡ note.frame
  pub kept : note.writes ≡ true → f.bytes ≡ note.bytes
  pub written : note.writes ≡ true → IsWritten note f f.outcome
  pub read : note.writes ≡ false → IsRead note f f.outcome
  pub unchanged : note.writes ≡ false → f.disk.content ≡ note.disk.content
  pub before : f.before ≡ note.disk.faults
  pub later : note.disk.faults ≤ f.disk.faults
  pub risen : f.outcome ≡ failed → HasRisen note.disk.faults f.disk.faults
  pub within : note.block < note.disk.size
  pub valid_within : note.valid ≤ 4096
  pub whole : HasBlocks f.disk.content f.disk.size
  pub bytes : length f.bytes ≡ 4096

-- how far a transfer is that was answered so
abbrev pub outcome_of : {E : Type 0} → Result (Unit {0}) E → Progress
outcome_of (Ok _) = done
outcome_of (Err _) = failed

-- What a read of a page does: where the disk tells, Ok gives the block's first valid bytes, with zeros after them; no block
-- changes; and it fails only with a fault counted.
pub record IsReadClipped {E : Type 0} (old new : DiskSeen) (block valid : ℕ) (bytes : List ℕ) (result : Result (Unit {0}) E) : Type 0 where
  pub gives : OnOk result (HasBlock old.content block valid bytes)
  pub content : new.content ≡ old.content
  pub size : new.size ≡ old.size
  pub kind : new.kind ≡ old.kind
  pub calls : HasRisen old.calls new.calls
  pub cause : HasCause old.faults new.faults result

-- The flight that a plan begins: for this seat and page, with the disk that was home, and a frame of this core.
pub record Begins (f : FlightSeen) (from of : ℕ) (bay : BaySeen) (way : Bool) (page : PageName) (place size core : ℕ) : Type 0 where
  pub seat : f.seat ≡ from
  pub number : f.number ≡ of
  pub disk : bay ≡ home f.disk
  pub writes : f.writes ≡ way
  pub name : f.name ≡ page
  pub block : f.block ≡ place
  pub valid : f.valid ≡ size
  pub origin : f.origin ≡ core
  pub outcome : f.outcome ≡ fresh
