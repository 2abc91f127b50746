-- The page from which a copy is made: its bytes, and whether its frame may go to the copy. Public clauses cite this.
use Rattle.std.specs.Prelude.{◌≡◌, ◌⊎◌, ◌||◌, ◌≤◌, ℕ, Bool, false, Some, IsSome}
use Rattle.page_store.specs.block_device.DiskSeen.{DiskSeen}
use Rattle.page_store.specs.core_arena.Bytes.{bytes_at}
use Rattle.page_store.specs.page_hash.Names.{find, is_name}
use Rattle.page_store.specs.page_hash.declared.PageName.{PageName}
use Rattle.page_store.specs.page_lock.Rows.{row_at}
use Rattle.page_store.specs.Bays.{home, bay_at}
use Rattle.page_store.specs.Notes.{Notes}
use Rattle.page_store.specs.Seen.{StoreSeen, IsListedFrame, residence}
use Rattle.page_store.specs.Steps.{next_frame, next_name, front_bytes, home_bytes}
use Rattle.page_store.specs.declared.residence.Residence.TheVariants.{Home}
use Rattle.vm_world.specs.hat_layer.Pool.{bits_of}
use Rattle.vm_world.specs.flat_model.Words.{Page}
use Rattle.vm_world.specs.NotesFit.{NotesFit}
use Rattle.vm_world.specs.Pages.{page_value}
use Rattle.vm_world.specs.World.{World, world_seen, world_table, AllTell}
use Rattle.vm_world.specs.WorldSteps.{cut_page}
use Rattle.vm_world.specs.declared.world.World as rust
use Rattle.seg_ops.specs.Rooms.{was_used}
use Rattle.seg_ops.specs.declared.sources.Front.{Front}

-- The page in a frame was written: its row says that it is modified, or a translation does.
abbrev pub was_written : World → ℕ → Bool
was_written w frame = (row_at w.store.rows frame).modified || (bits_of frame w.hat.places).1

-- The disk that a page lives on is home.
abbrev pub IsDiskHome : World → PageName → Type 0
IsDiskHome w name = (d : DiskSeen) × (bay_at w.store.bays (world_table w name).disk ≡ home d)

-- A PAGE CAN BE SPARED: it wasn't used since its bits of use were cleared last, and isn't modified, so that its disk has it, and that disk is home.
pub record CanBeSpared (w : World) (name : PageName) (frame : ℕ) : Type 0 where
  pub unused : was_used w frame ≡ false
  pub unwritten : was_written w frame ≡ false
  pub disk : IsDiskHome w name

-- What a page that is home has once the next frame is taken is known: its own frame is on no list, so that it stays; or it is the next one, and the page's
-- disk is home.
abbrev pub IsKnownLater : World → PageName → ℕ → Type 0
IsKnownLater w name frame = (¬ IsListedFrame w.store frame) ⊎ ((next_frame w.store ≡ Some frame) × IsDiskHome w name)

-- What a page that is home has once the next frame is taken: its bytes, and where the next frame is
-- its own, zeros in place of those past its valid ones.
abbrev pub bytes_kept : World → PageName → Page
bytes_kept w name = cut_page (is_name (next_name w.store) name) (world_table w name).valid (home_bytes w.store (find w.store.names name))

-- The bytes of a page that is copied: the first ones of a frame that is home, no more than a page has, and zeros after them.
abbrev pub copied_bytes : StoreSeen → Front → Page
copied_bytes s front = front_bytes s.frames front.frame front.valid

-- The frame of the front is home, and no more of its bytes are valid than a page has.
pub record IsFront (s : StoreSeen) (front : Front) : Type 0 where
  pub home : IsSome (bytes_at s.frames front.frame)
  pub valid : front.valid ≤ 4096

-- The page of a name has these bytes, as the disks tell it.
abbrev pub HasBytes : World → PageName → Page → Type 0
HasBytes w name bytes = (notes : Notes) → NotesFit w notes → AllTell w notes → page_value w notes name ≡ bytes

-- Each page that was home, and of which it is known what it has once the next frame is taken, has
-- that.
abbrev pub KeepsBytes : {D : Type 0} → rust.World D → rust.World D → Type 0
KeepsBytes old new = (name : PageName) (frame : ℕ) → residence old.store name ≡ Home frame → IsKnownLater (world_seen old) name frame
    → HasBytes (world_seen new) name (bytes_kept (world_seen old) name)
