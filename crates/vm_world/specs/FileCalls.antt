-- Calls on files, told by the world: which are refused, and what those that are done do. Public clauses cite this.
use Rattle.std.specs.Prelude.{◌≡◌, ◌<◌, ◌+◌, ◌-◌, ◌%◌, ℕ, List, Option, Some, None, length, min, take, drop, true, false, is_some, option_map, nat_lt, if◌then◌else◌}
use Rattle.flat_model.specs.vm_types.declared.call.Call.{Call}
use Rattle.flat_model.specs.vm_types.declared.call.Call.TheVariants.{Read, Write, Truncate}
use Rattle.flat_model.specs.vm_types.declared.call.Errno.{Errno}
use Rattle.flat_model.specs.vm_types.declared.call.Errno.TheVariants as errno
use Rattle.flat_model.specs.vm_types.declared.call.Reply.{Reply}
use Rattle.flat_model.specs.vm_types.declared.call.Reply.TheVariants.{Done, Bytes, Refused}
use Rattle.flat_model.specs.vm_types.Pages.{line_rest}
use Rattle.flat_model.specs.vm_types.Parts.{file_of_call}
use Rattle.page_store.specs.Notes.{Notes}
use Rattle.flat_model.specs.vnode_files.Files.{FilesSeen, vnode_at, growth_of}
use Rattle.flat_model.specs.vnode_files.declared.extent.Extent.{Extent}
use Rattle.flat_model.specs.Parts.{with_extents_of, with_part, file_of_length}
use Rattle.flat_model.specs.Words.{Page, page, page_size, pages_in}
use Rattle.vm_world.specs.CallSteps.{ActsOnMemory}
use Rattle.vm_world.specs.FileSteps.{ChangesFile}
use Rattle.vm_world.specs.FlatMemory.{Memory}
use Rattle.vm_world.specs.MemoryFits.{MemoryFits}
use Rattle.vm_world.specs.NotesFit.{NotesFit}
use Rattle.vm_world.specs.Pages.{page_value}
use Rattle.vm_world.specs.Plans.{MayMeetFault, IsRefusal}
use Rattle.vm_world.specs.ServingLaws.{done_entry}
use Rattle.vm_world.specs.Wants.{HasRoomFor}
use Rattle.vm_world.specs.World.{World, file_name, AllTell}

-- The refusal that is due to a call which needs room for so many bytes: NoObject, then ReadOnly, then TooBig.
abbrev pub room_refusal : FilesSeen → ℕ → ℕ → Option Errno
room_refusal files f end =
    if nat_lt f (length files.files) then
    (if (vnode_at files f).info.writable then
    (if is_some (growth_of files f (pages_in end)) then None else Some errno.TooBig)
    else Some errno.ReadOnly)
    else Some errno.NoObject

-- The refusal that is due to a call on a file; none where it is served.
abbrev pub file_refusal : FilesSeen → Call → Option Errno
file_refusal files (Read f offset len) = if nat_lt f (length files.files) then None else Some errno.NoObject
file_refusal files (Write f offset line rest) = room_refusal files f (offset + length line)
file_refusal files (Truncate f len) = room_refusal files f len
file_refusal files call = None

-- How many bytes a part of a read gets: what it asks for, and none past its line or the file's end.
abbrev pub read_count : ℕ → ℕ → ℕ → ℕ
read_count length offset len = min (min len (line_rest offset)) (length - offset)

-- These are the bytes that a part of a read gets, of the page that has them.
abbrev pub ReadsFileLine : World → ℕ → ℕ → ℕ → List ℕ → Type 0
ReadsFileLine w f offset len line =
    (notes : Notes) → NotesFit w notes → AllTell w notes
    → line ≡ take (read_count (vnode_at w.files f).info.length offset len) (drop (offset % page_size) (page_value w notes (file_name f (page offset))))

-- A call that is refused, and a part of a read, change nothing. A part of a write and a Truncate are done where the file grows, if need be, and is then as
-- flat memory says.
pub record FileCallsLaw : Type 0 where
  pub refused : (p cleared : ℕ) (call : Call) (e : Errno) (m : Memory) → MemoryFits m → file_refusal m.world.files call ≡ Some e → ActsOnMemory m m (done_entry p call (Refused e) cleared)
  pub read : (p f offset len cleared : ℕ) (line : List ℕ) (m : Memory) → MemoryFits m → file_refusal m.world.files (Read f offset len) ≡ None → ReadsFileLine m.world f offset len line
      → ActsOnMemory m m (done_entry p (Read f offset len) (Bytes line) cleared)
  pub written : (p f offset rest cleared : ℕ) (line : List ℕ) (extents : List Extent) (old new : Memory) → MemoryFits old → file_refusal old.world.files (Write f offset line rest) ≡ None
      → growth_of old.world.files f (pages_in (offset + length line)) ≡ Some extents → ChangesFile f old new (λ file. with_part offset line (with_extents_of extents file))
      → ActsOnMemory old new (done_entry p (Write f offset line rest) Done cleared)
  pub truncated : (p f len cleared : ℕ) (extents : List Extent) (old new : Memory) → MemoryFits old → file_refusal old.world.files (Truncate f len) ≡ None
      → growth_of old.world.files f (pages_in len) ≡ Some extents → ChangesFile f old new (λ file. file_of_length len (with_extents_of extents file))
      → ActsOnMemory old new (done_entry p (Truncate f len) Done cleared)
  -- A call that isn't refused may meet a device error.
  pub faults : (p : ℕ) (call : Call) (f : ℕ) (m : Memory) → MemoryFits m → file_of_call call ≡ Some f → file_refusal m.world.files call ≡ None → MayMeetFault m p call
  -- The errno that is due to it is the files', or none. Where none is, it has room for what it needs.
  pub due : (p : ℕ) (call : Call) (f : ℕ) (m : Memory) → MemoryFits m → file_of_call call ≡ Some f → IsRefusal m p call (option_map Refused (file_refusal m.world.files call))
  pub room : (files : FilesSeen) (f end : ℕ) → room_refusal files f end ≡ None → HasRoomFor files f end
