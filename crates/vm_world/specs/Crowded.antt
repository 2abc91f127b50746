-- A state of two processes in which much goes on at once, and the law that it fits. Public clauses cite this.
use Rattle.std.specs.Prelude.{ℕ, true, false, List, [], ◌∷◌, Option, Some, None}
use Rattle.std.specs.FinMap as finite
use Rattle.std.specs.FinSet as set
use Rattle.flat_model.specs.vm_types.declared.call.Call.TheVariants.{Read, Fork}
use Rattle.flat_model.specs.vm_types.declared.call.Entry.{Entry}
use Rattle.flat_model.specs.vm_types.declared.call.Kind.TheVariants.{Private}
use Rattle.flat_model.specs.vm_types.declared.call.Object.TheVariants as object
use Rattle.flat_model.specs.vm_types.declared.call.Reply.TheVariants.{Bytes, Done}
use Rattle.flat_model.specs.vnode_files.declared.vnode.FileInfo.{FileInfo}
use Rattle.flat_model.specs.vnode_files.Files.{FilesSeen}
use Rattle.addr_space.specs.Space.{Part}
use Rattle.anon_map.specs.Maps.{Map}
use Rattle.anon_slots.specs.Slots.{AnonSlotsSeen}
use Rattle.page_store.specs.block_device.DiskSeen.{DiskSeen, one_disk}
use Rattle.hat_layer.specs.Pool.{HatSeen}
use Rattle.page_store.specs.page_clock.Clock.{fresh_clock}
use Rattle.page_store.specs.page_lock.Rows.{clear_row}
use Rattle.page_store.specs.Bays.{missing, home, out}
use Rattle.page_store.specs.Notes.{Note}
use Rattle.page_store.specs.Seen.{StoreSeen}
use Rattle.page_store.specs.declared.plan.Plan.TheVariants.{Push}
use Rattle.flat_model.specs.Flat.{Flat, File}
use Rattle.flat_model.specs.Parts.{read_line}
use Rattle.flat_model.specs.Words.{Page, IsPage}
use Rattle.vm_world.specs.Marks.{MarksSeen, opening_row, unused_row}
use Rattle.vm_world.specs.FlatMemory.{Memory, flat_memory, file_with_pages}
use Rattle.vm_world.specs.Segments.{Segment, Spaces}
use Rattle.vm_world.specs.State.{KernelState, Seats, notes_of, seats_of}
use Rattle.vm_world.specs.StateFits.{StateFits}
use Rattle.vm_world.specs.World.{file_name, slot_name}
use Rattle.vm_world.specs.declared.sync_start.SyncStart.{SyncStart}

-- Page 1 of a process is private, with a map of its own of this number.
abbrev pub crowded_part : ℕ → Part Segment
crowded_part own = record {
  first = 1;
  pages = 1;
  piece = record { pages = 1; prot = record { 0 = 3 }; max = record { 0 = 3 }; kind = Private; object = object.NewZero; index = 0; own = Some own; shown = None };
}

-- The space of process 1, which was alive from the start.
abbrev pub crowded_parent : Spaces
crowded_parent = finite.insert finite.empty 1 (crowded_part 0 ∷ [])

-- The spaces of process 1 and of process 2, the child that it bore.
abbrev pub crowded_spaces : Spaces
crowded_spaces = finite.insert crowded_parent 2 (crowded_part 1 ∷ [])

-- Two anon maps of one place each, which both hold slot 0, as a fork leaves them.
abbrev pub crowded_maps : List (Option Map)
crowded_maps = Some (record { places = Some 0 ∷ []; holders = 1 }) ∷ Some (record { places = Some 0 ∷ []; holders = 1 }) ∷ []

-- Slot 0 counts twice, and its page is in swap alone; slot 1 is in use no more.
abbrev pub crowded_slots : AnonSlotsSeen
crowded_slots = record { counts = 2 ∷ 0 ∷ []; swapped = true ∷ false ∷ []; reserved = 2 }

-- File 0 has two pages on disk 0, the second with a tail.
abbrev pub crowded_info : FileInfo
crowded_info = record { name = 97 ∷ []; disk = 0; extents = record { start = 1; pages = 2 } ∷ []; length = 5000; writable = true }

-- File 1 has a part of a page on disk 1.
abbrev pub crowded_other : FileInfo
crowded_other = record { name = 98 ∷ []; disk = 1; extents = record { start = 1; pages = 1 } ∷ []; length = 100; writable = true }

-- The two files, on disk 0 of three blocks and disk 1 of two; none of their pages is blank.
abbrev pub crowded_files : FilesSeen
crowded_files = record {
  disks = finite.insert (finite.insert finite.empty 0 3) 1 2;
  files = record { info = crowded_info; blanks = false ∷ false ∷ [] } ∷ record { info = crowded_other; blanks = false ∷ [] } ∷ [];
}

-- A disk of so many blocks, which has these pages in them and counted no fault.
abbrev pub crowded_disk : List Page → ℕ → DiskSeen
crowded_disk pages size = record { content = Some pages; size = size; kind = one_disk; faults = 0; calls = 0 }

-- Four frames. Page 0 of file 0 is home and modified; its page 1 lost its frame. Page 0 of file 1 is home and modified, while a snapshot of it is away
-- with seat 1, and disk 1 too; it was written since. Frame 3 is away with seat 2, with a page that is gone, and the swap disk too.
abbrev pub crowded_store : Page → StoreSeen
crowded_store page = record {
  origin = 0;
  frames = Some page ∷ Some page ∷ None ∷ None ∷ [];
  names = Some (file_name 0 0) ∷ Some (file_name 1 0) ∷ None ∷ None ∷ [];
  rows = record clear_row { modified = true }
      ∷ record clear_row { modified = true; rewritten = true; snapshot = Some 2 }
      ∷ record clear_row { holder = Some 1; source = Some 1 }
      ∷ record clear_row { holder = Some 2; gone = true }
      ∷ [];
  free = [];
  cached = [];
  bays = home (crowded_disk (page ∷ page ∷ page ∷ []) 3) ∷ out 1 ∷ missing ∷ missing ∷ missing ∷ missing ∷ missing ∷ missing ∷ out 2 ∷ [];
  order = 0 ∷ 1 ∷ [];
  clock = fresh_clock 4 1;
}

-- No translation is loaded.
abbrev pub crowded_hat : HatSeen
crowded_hat = record { places = []; hand = 0; frames = 4 }

-- Memory of the two processes and the two files, where no translation is loaded.
abbrev pub crowded_memory : Page → Memory
crowded_memory page = record {
  world = record { store = crowded_store page; anon = crowded_slots; maps = crowded_maps; hat = crowded_hat; files = crowded_files };
  spaces = crowded_spaces;
}

-- What seat 1 has outside: the snapshot of file 1's page, to be written.
abbrev pub crowded_snapshot : Page → Note
crowded_snapshot page = record { seat = 1; origin = 0; number = 1; disk = crowded_disk (page ∷ page ∷ []) 2; writes = true; name = file_name 1 0; block = 1; valid = 100; frame = 2; bytes = page }

-- What seat 2 has outside: the page of slot 1, which was given up while it was on its way.
abbrev pub crowded_gone : Page → Note
crowded_gone page = record { seat = 2; origin = 0; number = 8; disk = crowded_disk (page ∷ page ∷ []) 2; writes = true; name = slot_name 1; block = 1; valid = 4096; frame = 3; bytes = page }

-- Seat 1 has the snapshot outside, seat 2 the page that is gone, both for the clock.
abbrev pub crowded_seats : Page → Seats
crowded_seats page = seats_of (None ∷ Some (record { note = crowded_snapshot page; of = None }) ∷ Some (record { note = crowded_gone page; of = None }) ∷ [])

-- File 0 as it was at the opening: its tail isn't zeros.
abbrev pub crowded_file : Page → File
crowded_file page = file_with_pages (λ index. page) crowded_info

-- Process 1 has borne process 2.
abbrev pub crowded_birth : Entry
crowded_birth = record { process = 1; call = Fork 2; reply = Done; cleared = 0 }

-- Process 1 has read the first part of 100 bytes of file 0.
abbrev pub crowded_read : Page → Entry
crowded_read page = record { process = 1; call = Read 0 0 100; reply = Bytes (read_line (crowded_file page) 0 100); cleared = 0 }

-- The history: process 1 has borne process 2, and then read a part of file 0.
abbrev pub crowded_history : Page → List Entry
crowded_history page = crowded_birth ∷ crowded_read page ∷ []

-- The blocks of the files' pages have them since the opening; seat 1 pushes the page of file 1 since before the first entry.
abbrev pub crowded_marks : MarksSeen
crowded_marks = record {
  rows = (unused_row ∷ opening_row false ∷ opening_row false ∷ []) ∷ (unused_row ∷ opening_row false ∷ []) ∷ [];
  pushes = None ∷ Some (record { file = 1; page = 0; from = 0; whole = true }) ∷ None ∷ None ∷ [];
}

-- The Sync of process 2 is of its first page.
abbrev pub crowded_start : SyncStart
crowded_start = record { from = 1; addr = 0; length = 4096 }

-- The tail of file 0 became zeros since; process 1's call of file 0 is between two parts; the Sync of process 2 began behind its birth; and a push of
-- file 0's first page is planned for the clock, at seat 3.
abbrev pub crowded_state : Page → KernelState
crowded_state page = record {
  memory = crowded_memory page;
  born = set.insert (set.insert set.empty 1) 2;
  history = crowded_history page;
  pending = 1;
  calls = Some 0 ∷ None ∷ [];
  syncs = None ∷ Some crowded_start ∷ None ∷ None ∷ [];
  plan = Some (record { seat = 3; plan = Push (file_name 0 0); of = None });
  parents = 0 ∷ 1 ∷ [];
  entries = 9 ∷ 9 ∷ [];
  marks = crowded_marks;
}

-- The flat memory from which it began: process 1 was alive alone.
abbrev pub crowded_opening : Page → Flat
crowded_opening page = record (flat_memory (record (crowded_memory page) { spaces = crowded_parent }) (set.insert set.empty 1) (notes_of (crowded_seats page))) {
  files = crowded_file page ∷ file_with_pages (λ index. page) crowded_other ∷ [];
}

-- A process and the child that it bore, which share a slot, a snapshot that is out, a push of a page that is gone, a tail that is pending, a call between
-- two parts, a Sync that began and a plan that is kept fit together.
pub record CrowdedLaw : Type 0 where
  pub fits : (page : Page) → IsPage page → StateFits (crowded_opening page) (crowded_state page) (crowded_seats page)
