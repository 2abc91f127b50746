-- When a transfer can begin, and what its begin and its end do beside their exact new stores. Public clauses cite this.
use Rattle.std.specs.Prelude.{◌≡◌, ◌≢◌, ◌⊎◌, ◌||◌, ℕ, Bool, true, false, if◌then◌else◌, Option, Some, None, IsSome, IsTrue, is_some, length, Contains}
use Rattle.std.specs.Option.{option_or}
use Rattle.block_device.specs.DiskSeen.{DiskSeen, HasBlocks}
use Rattle.core_arena.specs.Bytes.{bytes_at}
use Rattle.page_hash.specs.Names.{find, name_at}
use Rattle.page_hash.specs.declared.PageName.{PageName}
use Rattle.page_lock.specs.Rows.{row_at}
use Rattle.page_store.specs.Bays.{home, out, bay_at}
use Rattle.page_store.specs.StoreFits.{StoreFits, IsClean}
use Rattle.page_store.specs.Flight.{FlightSeen, IsPerformed, done, failed, note_of}
use Rattle.page_store.specs.Moves.{SameDisksTell, TakesFrame, Touches, is_only, family, family_of}
use Rattle.page_store.specs.Notes.{Note, Notes, with_note}
use Rattle.page_store.specs.Out.{IsFlightOf, DisksElsewhere}
use Rattle.page_store.specs.Seen.{StoreSeen, IsSoundStore, IsListedFrame, IsGone, own_frame, residence}
use Rattle.page_store.specs.Steps.{next_frame, next_name, with_read_begun, with_push_begun, without_snapshot, at_frame, is_dirty}
use Rattle.page_store.specs.Table.{PlaceTable}
use Rattle.page_store.specs.Value.{value, backing_value, tells}
use Rattle.page_store.specs.declared.plan.Plan.{Plan}
use Rattle.page_store.specs.declared.plan.Plan.TheVariants.{Read, Push}
use Rattle.page_store.specs.declared.residence.Residence.{Residence}
use Rattle.page_store.specs.declared.residence.Residence.TheVariants as at

-- the transfer of a plan writes
abbrev pub is_push : Plan → Bool
is_push (Read name) = false
is_push (Push name) = true

-- A page can be read where a frame can be taken and no frame has the page; a page can be pushed that is home, in a frame
-- on neither list.
abbrev pub CanBegin : Plan → StoreSeen → Type 0
CanBegin (Read name) s = IsSome (next_frame s) × (residence s name ≡ at.Absent)
CanBegin (Push name) s = (frame : ℕ) × (residence s name ≡ at.Home frame) × (¬ IsListedFrame s frame)

-- A read takes the next frame for its page. A push takes the next frame for a snapshot, where there is one, and else sends
-- the frame that has the page; a snapshot of the page that was out before is gone.
abbrev pub after_begin : Plan → StoreSeen → ℕ → ℕ → StoreSeen
after_begin (Read name) s seat number = at_frame (next_frame s) s (λ frame. with_read_begun s frame name seat number)
after_begin (Push name) s seat number = at_frame (find s.names name) s (λ own. with_push_begun (without_snapshot s own) own (next_frame s) seat number)

-- the frame that goes out with a plan: the next one where one is available, else that of the page
abbrev pub frame_out : Plan → StoreSeen → Option ℕ
frame_out (Read name) s = next_frame s
frame_out (Push name) s = option_or (next_frame s) (find s.names name)

-- the frame whose bytes go out: a snapshot has those of its page
abbrev pub frame_shown : Plan → StoreSeen → Option ℕ
frame_shown (Read name) s = next_frame s
frame_shown (Push name) s = find s.names name

-- where the page of a plan is once it was begun: a push for which a frame was available leaves it where it was
abbrev pub residence_begun : Plan → StoreSeen → ℕ → Residence
residence_begun (Read name) s seat = at.Moving seat
residence_begun (Push name) s seat = if is_some (next_frame s) then residence s name else at.Moving seat

-- the frames that the begin of a plan touches
abbrev pub is_touched_by : Plan → StoreSeen → ℕ → Bool
is_touched_by (Read name) s k = is_only (next_frame s) k
is_touched_by (Push name) s k = is_only (next_frame s) k || family_of s (find s.names name) k

-- The table has a plan's page in this block of this disk, and a page that is read is not blank and has so many valid bytes.
abbrev pub LivesAt : Plan → PlaceTable → ℕ → ℕ → ℕ → Type 0
LivesAt (Read name) table disk block valid = table name ≡ record { disk = disk; block = block; valid = valid; blank = false }
LivesAt (Push name) table disk block valid = ((table name).disk ≡ disk) × ((table name).block ≡ block)

-- whether the page of this own frame, where there is one, was written since its snapshot went out
abbrev pub is_rewritten_in : Option ℕ → StoreSeen → Bool
is_rewritten_in None s = false
is_rewritten_in (Some own) s = (row_at s.rows own).rewritten

-- whether the page that a frame has a snapshot of was written since that went out
abbrev pub was_rewritten : StoreSeen → ℕ → Bool
was_rewritten s frame = is_rewritten_in (row_at s.rows frame).source s

-- What the begin of a plan does: the frame and the disk go out with the seat, the page of a push keeps its modified bit, and
-- every name keeps its value, but for the bytes past the valid ones of the name that the taken frame held.
pub record BeginsTransfer (old new : StoreSeen) (plan : Plan) (name : PageName) (f : FlightSeen) : Type 0 where
  pub sound : IsSoundStore new
  pub out : IsFlightOf new f
  pub disks : DisksElsewhere old new f.number
  pub touches : Touches old new (is_touched_by plan old)
  pub page : residence new name ≡ residence_begun plan old f.seat
  pub modified : (own : ℕ) → find old.names name ≡ Some own → (row_at new.rows own).modified ≡ (row_at old.rows own).modified
  pub ungone : (row_at new.rows f.frame).gone ≡ false
  pub unwritten : was_rewritten new f.frame ≡ false
  pub own : (own : ℕ) → find old.names name ≡ Some own → own_frame new f.frame ≡ own
  pub unlisted : ¬ IsListedFrame new f.frame
  pub lost : (n : PageName) → next_name old ≡ Some n → residence new n ≡ at.Absent
  pub stay : (n : PageName) → n ≢ name → next_name old ≢ Some n → residence new n ≡ residence old n
  pub whole : HasBlocks f.disk.content f.disk.size
  pub size : length f.bytes ≡ 4096
  pub values : (notes : Notes) (table : PlaceTable) → StoreFits old notes table → notes f.seat ≡ None
      → LivesAt plan table f.number f.block f.valid
      → TakesFrame old notes new (with_note notes f.seat (Some (note_of f))) table

-- The page of a flight that comes back, where it isn't gone, is home in its own frame, with this modified bit.
pub record ComesHome (old new : StoreSeen) (f : FlightSeen) (modified : Bool) : Type 0 where
  pub home : residence new f.name ≡ at.Home (own_frame old f.frame)
  pub bit : (row_at new.rows (own_frame old f.frame)).modified ≡ modified
  pub unlisted : ¬ IsListedFrame new (own_frame old f.frame)

-- A write comes back: every name keeps its value, but for the written name where its page is gone and no home frame holds
-- the name. A read keeps the value of every name whose disk tells.
pub record EndsValues (old : StoreSeen) (before : Notes) (new : StoreSeen) (after : Notes) (table : PlaceTable) (note : Note) : Type 0 where
  pub fits : StoreFits new after table
  pub alike : SameDisksTell old before new after
  pub values : (n : PageName) → (note.writes ≡ false → IsTrue (tells old before (table n).disk))
      → (note.writes ≡ true → n ≡ note.name → ((row_at old.rows note.frame).gone ≡ false) ⊎ ((frame : ℕ) × (residence old n ≡ at.Home frame)))
      → value new after table n ≡ value old before table n
  pub stored : (n : PageName) → ((table n).blank ≡ false → note.writes ≡ true → n ≢ note.name)
      → backing_value new after (table n) ≡ backing_value old before (table n)

-- What the end of a transfer does. Where the page isn't gone it is home then, but for one that was to be read and that
-- failed; it is modified where a write failed, or where it was rewritten since it went out as a snapshot. A frame without a
-- page is free.
pub record EndsTransfer (old new : StoreSeen) (f : FlightSeen) : Type 0 where
  pub sound : IsSoundStore new
  pub disk : bay_at new.bays f.number ≡ home f.disk
  pub disks : DisksElsewhere old new f.number
  pub touches : Touches old new (family old f.frame)
  pub success : (row_at old.rows f.frame).gone ≡ false → f.outcome ≡ done → ComesHome old new f (was_rewritten old f.frame)
  pub failed_write : (row_at old.rows f.frame).gone ≡ false → f.outcome ≡ failed → f.writes ≡ true → ComesHome old new f true
  pub failed_read : (row_at old.rows f.frame).gone ≡ false → f.outcome ≡ failed → f.writes ≡ false → residence new f.name ≡ at.Absent
  pub free : (IsGone old f.frame ⊎ (IsSome (row_at old.rows f.frame).source ⊎ ((f.outcome ≡ failed) × (f.writes ≡ false)))) → Contains new.free f.frame
  pub stay : (n : PageName) → ((row_at old.rows f.frame).gone ≡ false → n ≢ f.name) → residence new n ≡ residence old n
  pub bytes : (row_at old.rows f.frame).source ≡ None → bytes_at new.frames (own_frame old f.frame) ≡ Some f.bytes
  pub values : (notes : Notes) (note : Note) (table : PlaceTable) → StoreFits old notes table → notes f.seat ≡ Some note → IsPerformed note f
      → EndsValues old notes new (with_note notes f.seat None) table note
  pub clean : (notes : Notes) (note : Note) (table later : PlaceTable) → StoreFits old notes table → notes f.seat ≡ Some note → IsPerformed note f
      → (row_at old.rows f.frame).gone ≡ false → f.outcome ≡ done → bytes_at new.frames (own_frame old f.frame) ≡ Some f.bytes
      → later note.name ≡ record { disk = note.number; block = note.block; valid = note.valid; blank = false }
      → IsClean new (with_note notes f.seat None) later (own_frame old f.frame) note.name
