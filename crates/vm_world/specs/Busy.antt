-- A state in which much goes on at once, and the law that it fits. Public clauses cite this.
use Rattle.std.specs.Prelude.{◌==◌, true, false, List, [], ◌∷◌, Option, Some, None, if◌then◌else◌}
use Rattle.std.specs.FinMap as finite
use Rattle.std.specs.FinSet as set
use Rattle.flat_model.specs.vm_types.declared.call.Kind.TheVariants.{Private}
use Rattle.flat_model.specs.vm_types.declared.call.Object.TheVariants as object
use Rattle.addr_space.specs.Space.{Part}
use Rattle.anon_map.specs.Maps.{Map}
use Rattle.anon_slots.specs.Slots.{AnonSlotsSeen}
use Rattle.page_store.specs.block_device.DiskSeen.{DiskSeen, one_disk}
use Rattle.hat_layer.specs.Pool.{HatSeen}
use Rattle.page_store.specs.page_clock.Clock.{fresh_clock}
use Rattle.page_store.specs.page_lock.Rows.{clear_row}
use Rattle.page_store.specs.Bays.{missing, out}
use Rattle.page_store.specs.Notes.{Note}
use Rattle.page_store.specs.Seen.{StoreSeen}
use Rattle.flat_model.specs.vnode_files.Files.{no_files}
use Rattle.flat_model.specs.Words.{Page, IsPage}
use Rattle.vm_world.specs.Marks.{no_marks}
use Rattle.vm_world.specs.FlatMemory.{Memory, flat_memory}
use Rattle.vm_world.specs.Segments.{Segment, Spaces}
use Rattle.vm_world.specs.State.{KernelState, Seats, notes_of}
use Rattle.vm_world.specs.StateFits.{StateFits}
use Rattle.vm_world.specs.World.{slot_name}

-- A segment of three private pages of new zero memory, with anon map 0 as its own.
abbrev pub busy_segment : Segment
busy_segment = record { pages = 3; prot = record { 0 = 3 }; max = record { 0 = 3 }; kind = Private; object = object.NewZero; index = 0; own = Some 0; shown = None }

-- The three private pages as a part of a space, from page 1 on.
abbrev pub busy_part : Part Segment
busy_part = record { first = 1; pages = 3; piece = busy_segment }

-- Process 1 alone is alive, with the part of three private pages.
abbrev pub busy_spaces : Spaces
busy_spaces = finite.insert finite.empty 1 (busy_part ∷ [])

-- One anon map, with one holder: each of its three places has a slot.
abbrev pub busy_maps : List (Option Map)
busy_maps = Some (record { places = Some 0 ∷ Some 1 ∷ Some 2 ∷ []; holders = 1 }) ∷ []

-- Three slots, each counted once and reserved; the pages of the first two were pushed.
abbrev pub busy_slots : AnonSlotsSeen
busy_slots = record { counts = 1 ∷ 1 ∷ 1 ∷ []; swapped = true ∷ true ∷ false ∷ []; reserved = 3 }

-- Two frames: the third page is home in frame 0, and the second is away in frame 1 with seat 1, and so is the swap disk.
abbrev pub busy_store : Page → StoreSeen
busy_store page = record {
  origin = 0;
  frames = Some page ∷ None ∷ [];
  names = Some (slot_name 2) ∷ Some (slot_name 1) ∷ [];
  rows = clear_row ∷ record clear_row { holder = Some 1 } ∷ [];
  free = [];
  cached = [];
  bays = missing ∷ missing ∷ missing ∷ missing ∷ missing ∷ missing ∷ missing ∷ missing ∷ out 1 ∷ [];
  order = [];
  clock = fresh_clock 2 1;
}

-- The third page has a translation, through which it was written.
abbrev pub busy_hat : HatSeen
busy_hat = record { places = Some (record { space = 1; page = 3; frame = 0; writable = true; referenced = true; modified = true }) ∷ []; hand = 0; frames = 2 }

-- Memory of process 1 with its three private pages, their slots and frames, and no file.
abbrev pub busy_memory : Page → Memory
busy_memory page = record { world = record { store = busy_store page; anon = busy_slots; maps = busy_maps; hat = busy_hat; files = no_files }; spaces = busy_spaces }

-- The swap disk, which tells its three blocks.
abbrev pub busy_disk : Page → DiskSeen
busy_disk page = record { content = Some (page ∷ page ∷ page ∷ []); size = 3; kind = one_disk; faults = 0; calls = 0 }

-- What seat 1 has outside: the second page, to be written to the swap disk.
abbrev pub busy_note : Page → Note
busy_note page = record { seat = 1; origin = 0; number = 8; disk = busy_disk page; writes = true; name = slot_name 1; block = 1; valid = 4096; frame = 1; bytes = page }

-- Seat 1 has its note outside, for the clock; no other seat has anything.
abbrev pub busy_seats : Page → Seats
busy_seats page seat = if seat == 1 then Some (record { note = busy_note page; of = None }) else None

-- Process 1 is alive, and nothing is in the history.
abbrev pub busy_state : Page → KernelState
busy_state page = record {
  memory = busy_memory page;
  born = set.insert set.empty 1;
  history = [];
  pending = 0;
  calls = [];
  syncs = [];
  plan = None;
  parents = 0 ∷ [];
  entries = 9 ∷ [];
  marks = no_marks;
}

-- A private page in swap alone, one that is being written, and one that is home, with a translation through which it was written, fit together.
pub record BusyLaw : Type 0 where
  pub fits : (page : Page) → IsPage page → StateFits (flat_memory (busy_memory page) (busy_state page).born (notes_of (busy_seats page))) (busy_state page) (busy_seats page)
