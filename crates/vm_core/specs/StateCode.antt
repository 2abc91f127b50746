-- The state as data, so that a model may have it as its value. Inside: no public clause cites this.
use Rattle.std.specs.Prelude.{ℕ, Bool, List, Option, Some, None, refl}
use Rattle.std.specs.Coded.{Coded, code_by, coded×, coded⊎, coded_ℕ, coded_bool, coded_list, coded_option}
use Rattle.std.specs.Ordering.{nat_cmp}
use Rattle.std.specs.FinMap as finite
use Rattle.std.specs.FinSet as set
use mathlib.Core.Logic.{inl, inr}
use Rattle.std.specs.Prelude.{◌⊎◌, ◌≡◌}
use Rattle.fault_entry.specs.addr_space.Space.{part_code}
use Rattle.fault_entry.specs.anon_map.Maps.{Map}
use Rattle.fault_entry.specs.anon_slots.Slots.{AnonSlotsSeen}
use Rattle.fault_entry.specs.block_device.DiskSeen.{DiskSeen}
use Rattle.fault_entry.specs.hat_layer.Pool.{HatSeen}
use Rattle.fault_entry.specs.hat_layer.declared.translation.Translation.{Translation}
use Rattle.fault_entry.specs.hat_layer.contracts.translation.Translation as translation
use Rattle.fault_entry.specs.page_clock.Seen.{ClockSeen}
use Rattle.fault_entry.specs.page_hash.declared.PageName.{PageName}
use Rattle.fault_entry.specs.page_hash.contracts.PageName as name
use Rattle.fault_entry.specs.page_lock.declared.Row.{Row}
use Rattle.fault_entry.specs.page_lock.contracts.Row as row
use Rattle.fault_entry.specs.page_store.Bays.{BaySeen, missing, home, out}
use Rattle.fault_entry.specs.page_store.Seen.{StoreSeen}
use Rattle.fault_entry.specs.page_store.declared.plan.Plan.{Plan}
use Rattle.fault_entry.specs.page_store.contracts.plan.Plan as plan
use Rattle.fault_entry.specs.vm_types.declared.call.Entry.{Entry}
use Rattle.fault_entry.specs.vm_types.contracts.call.Call as call
use Rattle.fault_entry.specs.vm_types.contracts.call.Entry as entry
use Rattle.fault_entry.specs.vnode_files.Files.{FilesSeen}
use Rattle.fault_entry.specs.vnode_files.FilesCode.{files_code}
use Rattle.fault_entry.specs.vm_world.FlatMemory.{Memory}
use Rattle.fault_entry.specs.vm_world.Segments.{Spaces}
use Rattle.fault_entry.specs.vm_world.State.{KernelState, KeptPlan, Caller}
use Rattle.fault_entry.specs.vm_world.World.{World}
use Rattle.fault_entry.specs.vm_world.declared.sync_start.SyncStart.{SyncStart}
use Rattle.fault_entry.specs.vm_world.contracts.sync_start.SyncStart as start
use Rattle.fault_entry.specs.seg_vn.Segments.{segment_code}
use Rattle.disk_marks.specs.Marks.{MarksSeen}
use Rattle.disk_marks.specs.declared.marks.MarkRow.{MarkRow}
use Rattle.disk_marks.specs.contracts.marks.MarkRow as mark_row
use Rattle.disk_marks.specs.declared.marks.Pushing.{Pushing}
use Rattle.disk_marks.specs.contracts.marks.Pushing as pushing

-- A disk as data: its content where it tells that, its size, its kind, its faults and its calls.
abbrev pub disk_code : Coded DiskSeen
disk_code =
    code_by (Option (List (List ℕ)) × (ℕ × ((Bool × (ℕ × Bool)) × (ℕ × ℕ)))) (coded× (coded_option (coded_list (coded_list coded_ℕ))) (coded× coded_ℕ (coded× (coded× coded_bool (coded× coded_ℕ coded_bool)) (coded× coded_ℕ coded_ℕ))))
    (λ d. (d.content, (d.size, ((d.kind.exact, (d.kind.members, d.kind.mirror)), (d.faults, d.calls)))))
    (λ p. record { content = p.0; size = p.1.0; kind = record { exact = p.1.1.0.0; members = p.1.1.0.1.0; mirror = p.1.1.0.1.1 }; faults = p.1.1.1.0; calls = p.1.1.1.1 }) (λ _. refl)

abbrev of_bay : BaySeen → Option (DiskSeen ⊎ ℕ)
of_bay missing = None
of_bay (home disk) = Some (inl disk)
of_bay (out seat) = Some (inr seat)

abbrev to_bay : Option (DiskSeen ⊎ ℕ) → BaySeen
to_bay None = missing
to_bay (Some (inl disk)) = home disk
to_bay (Some (inr seat)) = out seat

-- A bay made of its data is the bay again.
pub to-of : (b : BaySeen) → to_bay (of_bay b) ≡ b
to-of missing = refl
to-of (home disk) = refl
to-of (out seat) = refl

-- A bay as data: no disk, the disk that is home, or the seat that has it.
abbrev pub bay_code : Coded BaySeen
bay_code = code_by (Option (DiskSeen ⊎ ℕ)) (coded_option (coded⊎ disk_code coded_ℕ)) of_bay to_bay to-of

-- The clock as data: how many frames, the distance of its hands, the front hand, which moves next.
abbrev pub clock_code : Coded ClockSeen
clock_code =
    code_by (ℕ × (ℕ × (ℕ × Bool))) (coded× coded_ℕ (coded× coded_ℕ (coded× coded_ℕ coded_bool)))
    (λ c. (c.frames, (c.distance, (c.front, c.back_next)))) (λ p. record { frames = p.0; distance = p.1.0; front = p.1.1.0; back_next = p.1.1.1 }) (λ _. refl)

-- The tables of a store: its origin, its frames, their names and their rows.
abbrev pub Tables : Type 0
Tables = ℕ × (List (Option (List ℕ)) × (List (Option PageName) × List Row))

-- The tables of a store as data.
abbrev pub tables_code : Coded Tables
tables_code = coded× coded_ℕ (coded× (coded_list (coded_option (coded_list coded_ℕ))) (coded× (coded_list (coded_option name.the_row.coded)) (coded_list row.the_row.coded)))

-- The lists of a store, where its disks are, their order, and the clock.
abbrev pub Queues : Type 0
Queues = List ℕ × (List ℕ × (List BaySeen × (List ℕ × ClockSeen)))

-- The lists, the bays and the clock of a store as data.
abbrev pub queues_code : Coded Queues
queues_code = coded× (coded_list coded_ℕ) (coded× (coded_list coded_ℕ) (coded× (coded_list bay_code) (coded× (coded_list coded_ℕ) clock_code)))

-- A page store as data: its tables and its queues.
abbrev pub store_code : Coded StoreSeen
store_code =
    code_by (Tables × Queues) (coded× tables_code queues_code)
    (λ s. ((s.origin, (s.frames, (s.names, s.rows))), (s.free, (s.cached, (s.bays, (s.order, s.clock))))))
    (λ p. record { origin = p.0.0; frames = p.0.1.0; names = p.0.1.1.0; rows = p.0.1.1.1; free = p.1.0; cached = p.1.1.0; bays = p.1.1.1.0; order = p.1.1.1.1.0; clock = p.1.1.1.1.1 }) (λ _. refl)

-- The slots as data: their counts, which of them were swapped out, and how many are reserved.
abbrev pub slots_code : Coded AnonSlotsSeen
slots_code =
    code_by (List ℕ × (List Bool × ℕ)) (coded× (coded_list coded_ℕ) (coded× (coded_list coded_bool) coded_ℕ))
    (λ s. (s.counts, (s.swapped, s.reserved))) (λ p. record { counts = p.0; swapped = p.1.0; reserved = p.1.1 }) (λ _. refl)

-- An anon map as data: the slot of each place, and how many hold the map.
abbrev pub map_code : Coded Map
map_code =
    code_by (List (Option ℕ) × ℕ) (coded× (coded_list (coded_option coded_ℕ)) coded_ℕ) (λ m. (m.places, m.holders)) (λ p. record { places = p.0; holders = p.1 }) (λ _. refl)

-- The translations as data: each place, the one that a full pool steals next, the number of frames.
abbrev pub pool_code : Coded HatSeen
pool_code =
    code_by (List (Option Translation) × (ℕ × ℕ)) (coded× (coded_list (coded_option translation.the_row.coded)) (coded× coded_ℕ coded_ℕ))
    (λ h. (h.places, (h.hand, h.frames))) (λ p. record { places = p.0; hand = p.1.0; frames = p.1.1 }) (λ _. refl)

-- The world below the segments as data.
abbrev pub world_code : Coded World
world_code =
    code_by (StoreSeen × (AnonSlotsSeen × (List (Option Map) × (HatSeen × FilesSeen)))) (coded× store_code (coded× slots_code (coded× (coded_list (coded_option map_code)) (coded× pool_code files_code))))
    (λ w. (w.store, (w.anon, (w.maps, (w.hat, w.files))))) (λ p. record { store = p.0; anon = p.1.0; maps = p.1.1.0; hat = p.1.1.1.0; files = p.1.1.1.1 }) (λ _. refl)

-- Memory as data: the world and each process's segments.
abbrev pub memory_code : Coded Memory
memory_code =
    code_by (World × Spaces) (coded× world_code (finite.code coded_ℕ (coded_list (part_code segment_code)))) (λ m. (m.world, m.spaces)) (λ p. record { world = p.0; spaces = p.1 }) (λ _. refl)

-- A plan that is kept between two events as data: its seat, the plan, and for which call it is.
abbrev pub kept_code : Coded KeptPlan
kept_code =
    code_by (ℕ × (Plan × Option Caller)) (coded× coded_ℕ (coded× plan.the_row.coded (coded_option (coded× coded_ℕ call.the_row.coded))))
    (λ k. (k.seat, (k.plan, k.of))) (λ p. record { seat = p.0; plan = p.1.0; of = p.1.1 }) (λ _. refl)

-- The marks as data: a row for each block of each disk, and the push that each seat has out.
abbrev pub marks_code : Coded MarksSeen
marks_code =
    code_by (List (List MarkRow) × List (Option Pushing)) (coded× (coded_list (coded_list mark_row.the_row.coded)) (coded_list (coded_option pushing.the_row.coded)))
    (λ m. (m.rows, m.pushes)) (λ p. record { rows = p.0; pushes = p.1 }) (λ _. refl)

-- What happened: who was born, the history, and which tails are pending.
abbrev pub Past : Type 0
Past = set.FinSet nat_cmp × (List Entry × ℕ)

-- What happened as data.
abbrev pub past_code : Coded Past
past_code = coded× (set.code coded_ℕ) (coded× (coded_list entry.the_row.coded) coded_ℕ)

-- What is kept between two events: the calls of files, the starts of Syncs, and a plan.
abbrev pub Between : Type 0
Between = List (Option ℕ) × (List (Option SyncStart) × Option KeptPlan)

-- What is kept between two events as data.
abbrev pub between_code : Coded Between
between_code = coded× (coded_list (coded_option coded_ℕ)) (coded× (coded_list (coded_option start.the_row.coded)) (coded_option kept_code))

-- THE STATE of the kernel as data: each of its fields comes back as it was.
abbrev pub state_code : Coded KernelState
state_code =
    code_by (Memory × (Past × (Between × ((List ℕ × List ℕ) × MarksSeen)))) (coded× memory_code (coded× past_code (coded× between_code (coded× (coded× (coded_list coded_ℕ) (coded_list coded_ℕ)) marks_code))))
    (λ s. (s.memory, ((s.born, (s.history, s.pending)), ((s.calls, (s.syncs, s.plan)), ((s.parents, s.entries), s.marks)))))
    (λ p. record { memory = p.0; born = p.1.0.0; history = p.1.0.1.0; pending = p.1.0.1.1; calls = p.1.1.0.0; syncs = p.1.1.0.1.0; plan = p.1.1.0.1.1; parents = p.1.1.1.0.0; entries = p.1.1.1.0.1; marks = p.1.1.1.1 }) (λ _. refl)
