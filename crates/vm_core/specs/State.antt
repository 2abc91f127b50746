-- What a state keeps, as contracts see it. Public clauses cite `kept_seen`.
use Rattle.std.specs.Prelude.{◌≤◌, ◌+◌, ℕ, suc, Bool, true, false, List, [], ◌∷◌, Option, Some, None, length, if◌then◌else◌, ◌++◌, ◌-◌, slice_set}
use Rattle.std.specs.Ordering.{nat_cmp}
use Rattle.std.specs.FinSet as set
use Rattle.fault_entry.specs.vm_types.declared.call.Entry.{Entry}
use Rattle.fault_entry.specs.addr_space.Space.{Part}
use Rattle.fault_entry.specs.page_store.Away.{disk_count}
use Rattle.fault_entry.specs.page_store.Seen.{StoreSeen}
use Rattle.fault_entry.specs.vm_world.Segments.{Spaces}
use Rattle.fault_entry.specs.vm_world.declared.segment.Segment.{Segment}
use Rattle.fault_entry.specs.vm_world.ZeroObjects.{KnowsZeros}
use Rattle.fault_entry.specs.vm_world.State.{KernelState, KeptPlan, is_top}
use Rattle.vm_core.specs.declared.kept.Kept.{Kept}

-- The plan as the state's meaning has it.
abbrev pub kept_seen : Kept → KeptPlan
kept_seen k = record { seat = k.seat; plan = k.plan; of = k.of }

-- The processes that are marked, the first mark being that of process k.
abbrev pub marked_processes : ℕ → List Bool → List ℕ
marked_processes k [] = []
marked_processes k (true ∷ marks) = k ∷ marked_processes (suc k) marks
marked_processes k (false ∷ marks) = marked_processes (suc k) marks

-- Who was ever alive, by a mark for each process from 1 on.
abbrev pub born_of : List Bool → set.FinSet nat_cmp
born_of marks = set.from_list (marked_processes 1 marks)

-- WHAT IS KEPT. There are four more frames than disks, so that some frame is home whatever is away. The list of zero objects is right. Each process has a seat.
pub record IsSoundKernel (store : StoreSeen) (zeros : List (Option ℕ)) (spaces : Spaces) (entries : List ℕ) (seats : ℕ) : Type 0 where
  pub frames : disk_count store + 4 ≤ length store.frames
  pub known : KnowsZeros zeros spaces
  pub seated : length entries ≤ seats

-- EACH PROCESS HAS ITS PLACE: for its space, for the mark that it was ever alive, and for its seat.
pub record EachHasPlaces (parents : List ℕ) (processes marked seated : ℕ) : Type 0 where
  pub spaces : length parents ≤ processes
  pub marks : length parents ≤ marked
  pub seats : length parents ≤ seated

-- The space of a process at the start: empty where it has no parent, else none.
abbrev pub top_space : List ℕ → ℕ → Option (List (Part Segment))
top_space parents p = if is_top parents p then Some [] else None

-- The state with an entry more, which took the pending tails. No Sync of its process has begun.
abbrev pub with_next_entry : KernelState → Entry → KernelState
with_next_entry s e = record s { history = s.history ++ e ∷ []; pending = 0; syncs = slice_set s.syncs (e.process - 1) None }
