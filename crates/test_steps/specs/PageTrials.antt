-- A machine on which the steps are tried: process 1 shows the three pages of a file. Inside: no public clause cites this.
use Rattle.std.specs.Prelude.{◌≡◌, ◌<◌, ℕ, [], ◌∷◌, Some, None, IsTrue, length}
use Rattle.std.specs.FinMap as finite
use Rattle.vm_types.specs.declared.call.Kind.TheVariants.{Shared}
use Rattle.vm_types.specs.declared.call.Object.TheVariants as object
use Rattle.addr_space.specs.Space.{Part}
use Rattle.seg_ops.specs.page_store.Flight.{FlightSeen, fresh, note_of}
use Rattle.seg_ops.specs.page_store.Notes.{no_notes, with_note}
use Rattle.seg_ops.specs.page_store.Out.{IsFlightOf}
use Rattle.vnode_files.specs.declared.vnode.FileInfo.{FileInfo}
use Rattle.vnode_files.specs.Files.{FilesSeen, vnode_at}
use Rattle.vnode_files.specs.Grow.{page_count}
use Rattle.anon_slots.specs.Slots.{AnonSlotsSeen}
use Rattle.seg_ops.specs.vm_world.MemoryFits.{MemoryFits}
use Rattle.seg_ops.specs.vm_world.NotesFit.{NotesFit}
use Rattle.seg_ops.specs.vm_world.declared.segment.Segment.{Segment}
use Rattle.seg_ops.specs.vm_world.Segments.{Spaces}
use Rattle.seg_ops.specs.vm_world.World.{World, file_name, page_exists}

-- File 0, shared, from page 1 of the process on, to be read and written.
abbrev pub trial_segment : Segment
trial_segment = record { pages = 3; prot = record { 0 = 3 }; max = record { 0 = 3 }; kind = Shared; object = object.File 0; index = 0; own = None; shown = None }

-- The part of the space that file 0's pages are shown in: pages 1 to 3.
abbrev pub trial_part : Part Segment
trial_part = record { first = 1; pages = 3; piece = trial_segment }

-- The one space, of process 1, with that file.
abbrev pub trial_spaces : Spaces
trial_spaces = finite.insert finite.empty 1 (trial_part ∷ [])

-- The file has three pages, in blocks 1 to 3 of disk 0.
pub record IsTrialFile (info : FileInfo) : Type 0 where
  pub disk : info.disk ≡ 0
  pub extents : info.extents ≡ record { start = 1; pages = 3 } ∷ []
  pub length : info.length ≡ 12288

-- The world fits with these spaces, and nothing is out.
pub record IsTrialIn (spaces : Spaces) (w : World) : Type 0 where
  pub memory : MemoryFits (record { world = w; spaces = spaces })
  pub notes : NotesFit w no_notes

-- The world fits with process 1's file, and nothing is out.
abbrev pub IsTrial : World → Type 0
IsTrial w = IsTrialIn trial_spaces w

-- The page is one of file 0.
pub record IsTrialPage (files : FilesSeen) (anon : AnonSlotsSeen) (page : ℕ) : Type 0 where
  pub file : 0 < length files.files
  pub kept : page < page_count (vnode_at files 0).info.extents
  pub exists : IsTrue (page_exists files anon (file_name 0 page))

-- The world fits with these spaces while the flight of one seat is out, which wasn't made yet.
pub record IsTrialOutIn (spaces : Spaces) (w : World) (f : FlightSeen) : Type 0 where
  pub out : IsFlightOf w.store f
  pub outcome : f.outcome ≡ fresh
  pub memory : MemoryFits (record { world = w; spaces = spaces })
  pub notes : NotesFit w (with_note no_notes f.seat (Some (note_of f)))

-- The world fits with process 1's file while the flight of one seat is out, which wasn't made yet.
abbrev pub IsTrialOut : World → FlightSeen → Type 0
IsTrialOut w f = IsTrialOutIn trial_spaces w f
