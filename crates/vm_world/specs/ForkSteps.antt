-- A process that comes with a copy of another's segments. Public clauses cite this.
use Rattle.std.specs.Prelude.{◌≡◌, ◌≢◌, ◌↔◌, ◌<◌, ◌≤◌, ◌+◌, ℕ, zero, suc, true, false, [], List, Option, Some, None, IsSome, length, count_by, sum_by, unwrap_or, option_map, slice_index, slice_index_or}
use Rattle.std.specs.Option.{option_map_or}
use Rattle.std.specs.FinMap as finite
use Rattle.std.specs.FinSet as set
use Rattle.std.specs.Ordering.{nat_cmp}
use Rattle.flat_model.specs.vm_types.declared.call.Call.TheVariants.{Fork}
use Rattle.flat_model.specs.vm_types.declared.call.Entry.{Entry}
use Rattle.flat_model.specs.vm_types.declared.call.Errno.{Errno}
use Rattle.flat_model.specs.vm_types.declared.call.Reply.TheVariants.{Done, Refused}
use Rattle.flat_model.specs.vm_types.WellFormed.{IsWellFormed}
use Rattle.addr_space.specs.Space.{Part, part, part_at, begins, with_new_part}
use Rattle.anon_map.specs.Maps.{Map, IsUnused, fresh_map, places_of, with_map}
use Rattle.hat_layer.specs.declared.translation.Translation.{Translation}
use Rattle.flat_model.specs.Access.{with_space}
use Rattle.flat_model.specs.Flat.{Flat, IsFlat, Space}
use Rattle.flat_model.specs.Mapping.{cells_of}
use Rattle.flat_model.specs.Processes.{with_child}
use Rattle.flat_model.specs.Shapes.{SameShape}
use Rattle.flat_model.specs.Step.{IsDue, after_act}
use Rattle.page_store.specs.Notes.{Notes}
use Rattle.vm_world.specs.declared.sync_start.SyncStart.{SyncStart}
use Rattle.vm_world.specs.CallSteps.{ActsOnMemory, KeepsMachine, StaysAlive}
use Rattle.vm_world.specs.CountsFit.{is_number, slots_for_part}
use Rattle.vm_world.specs.EntryLaws.{LocksAfter, StartsAfter}
use Rattle.vm_world.specs.Events.{CanTry, IsEvent}
use Rattle.vm_world.specs.Failures.{with_entry_made}
use Rattle.vm_world.specs.FlatMemory.{Memory, flat_memory, zero_maps}
use Rattle.vm_world.specs.MapSteps.{maps_held}
use Rattle.vm_world.specs.MemoryFits.{MemoryFits}
use Rattle.vm_world.specs.NotesFit.{NotesFit}
use Rattle.vm_world.specs.Plans.{IsRefusal, refusal_in}
use Rattle.vm_world.specs.SegmentSteps.{ChangesSegments}
use Rattle.vm_world.specs.State.{KernelState}
use Rattle.vm_world.specs.World.{AllTell}
use Rattle.vm_world.specs.Segments.{Segment, Spot, spot_at}

-- The slots that the places of a map hold; none where there is no map.
abbrev pub slots_held : List (Option Map) → Option ℕ → List (Option ℕ)
slots_held maps None = []
slots_held maps (Some number) = places_of maps number

-- Each slot is counted once more for each of these places that holds it.
pub record CountsMore (old new : List ℕ) (places : List (Option ℕ)) : Type 0 where
  pub slots : length new ≡ length old
  pub counts : (slot : ℕ) → slice_index new slot ≡ slice_index old slot + count_by (is_number slot) places

-- How many places of the own maps of a process's segments hold a slot.
abbrev pub times_owned : Memory → ℕ → ℕ → ℕ
times_owned m p slot = sum_by (λ (x : Part Segment). count_by (is_number slot) (slots_held m.world.maps x.piece.own)) (unwrap_or (finite.get m.spaces p) [])

-- A segment that shows what another one does, with another map of its own, if it has one.
abbrev pub copied_piece : ℕ → Segment → Segment
copied_piece number s = record s { own = option_map (λ (own : ℕ). number) s.own }

-- A copy of a part at the same pages, with another map of its own, if it has one.
abbrev pub copied_part : ℕ → Part Segment → Part Segment
copied_part number x = part x.first x.pages (copied_piece number x.piece)

-- The maps with a copy of one, which has one holder.
abbrev pub maps_copied : List (Option Map) → Option ℕ → ℕ → List (Option Map)
maps_copied maps None number = maps
maps_copied maps (Some own) number = with_map maps number (fresh_map (places_of maps own))

-- Memory with a copy of a part for a process: where it is private, a new map holds the slots which the part's own map holds, and each slot is counted so often;
-- the map of the zero object that it shows has a holder more; and as many slots more are reserved as the part reserves.
abbrev pub with_part_copied : Memory → ℕ → List (Part Segment) → Part Segment → ℕ → List ℕ → Memory
with_part_copied m child kids x number counts = record {
  world = record m.world {
    anon = record m.world.anon { counts = counts; reserved = m.world.anon.reserved + slots_for_part x };
    maps = maps_held (maps_copied m.world.maps x.piece.own number) x.piece.shown;
  };
  spaces = finite.insert m.spaces child (with_new_part (copied_part number x) kids);
}

-- A part of a process may be copied for another one: no page there has a cell; the number of the new map names none; each slot is counted once more for each
-- place that holds it; no page of the part that is private has a translation that may write; a holder more can be counted; and there are slots for its pages.
pub record MayCopy (m : Memory) (p child : ℕ) (parent kids : List (Part Segment)) (x : Part Segment) (number : ℕ) (counts : List ℕ) : Type 0 where
  pub apart : p ≢ child
  pub here : finite.get m.spaces p ≡ Some parent
  pub child_here : finite.get m.spaces child ≡ Some kids
  pub found : begins parent x.first ≡ Some x
  pub free : (q : ℕ) → x.first ≤ q → q < x.first + x.pages → part_at kids q ≡ None
  pub unused : IsSome x.piece.own → IsUnused m.world.maps number
  pub more : CountsMore m.world.anon.counts counts (slots_held m.world.maps x.piece.own)
  pub alike : x.piece.own ≡ None → counts ≡ m.world.anon.counts
  pub held : (place : ℕ) (t : Translation) (y : Spot) (own : ℕ) → slice_index_or m.world.hat.places place None ≡ Some t → spot_at m.spaces t.space t.page ≡ Some y → x.piece.own ≡ Some own → y.0.own ≡ Some own → t.writable ≡ false
  pub room : m.world.anon.reserved + slots_for_part x ≤ length m.world.anon.counts

-- The cells of a space, with those that another one has at n pages from the first on.
abbrev pub cells_copied : Space → Space → ℕ → ℕ → Space
cells_copied to from first zero = to
cells_copied to from first (suc n) = option_map_or (λ c. finite.insert (cells_copied to from first n) (first + n) c) (finite.get from (first + n)) (cells_copied to from first n)

-- Flat memory where a process has the cells of another one at n pages from the first on.
abbrev pub with_cells_copied : Flat → ℕ → ℕ → ℕ → ℕ → Flat
with_cells_copied F p child first n = with_space F child (cells_copied (cells_of F child) (cells_of F p) first n)

-- Memory with a process more, which has no part.
abbrev pub with_empty_process : Memory → ℕ → Memory
with_empty_process m p = record m { spaces = finite.insert m.spaces p [] }

-- Flat memory with a process more, which has no cell; it was ever alive then.
abbrev pub with_child_born : Flat → ℕ → Flat
with_child_born F p = with_space (record F { born = set.insert F.born p }) p finite.empty

-- A process is born as memory changes: the machine and the spaces of the others stay; memory and the notes fit as before; disks tell where they told; this is
-- said of flat memory before and after, as the disks tell it; and whatever disks tell, it has the shape then of what this function makes of it.
pub record BringsProcess (child : ℕ) (old new : Memory) (after : Flat → Flat) (means : Flat → Flat → Type 0) : Type 0 where
  pub absent : finite.get old.spaces child ≡ None
  pub here : IsSome (finite.get new.spaces child)
  pub machine : KeepsMachine old.world new.world
  pub others : (q : ℕ) → q ≢ child → finite.get new.spaces q ≡ finite.get old.spaces q
  pub memory : MemoryFits new
  pub notes : (notes : Notes) → NotesFit old.world notes → NotesFit new.world notes
  pub tells : (notes : Notes) → NotesFit old.world notes → AllTell old.world notes ↔ AllTell new.world notes
  pub flat : (born : set.FinSet nat_cmp) (notes : Notes) → NotesFit old.world notes → AllTell old.world notes → IsFlat (flat_memory old born notes)
      → means (flat_memory old born notes) (flat_memory new (set.insert born child) notes)
  pub shaped : (born : set.FinSet nat_cmp) (notes : Notes) → SameShape (flat_memory new (set.insert born child) notes) (after (flat_memory old born notes))

-- Flat memory is this function of what it was.
abbrev pub BearsProcess : ℕ → Memory → Memory → (Flat → Flat) → Type 0
BearsProcess child old new after = BringsProcess child old new after (λ F G. G ≡ after F)

-- The entry of a Fork may be made now: it takes the pending tails, its call is well formed, its child is the process's own, and new, and its errno, or
-- that it has none, is what is due.
pub record MayFork (s : KernelState) (seat child : ℕ) (e : Entry) : Type 0 where
  pub fork : e.call ≡ Fork child
  pub try : CanTry s seat e.process e.call
  pub cleared : e.cleared ≡ s.pending
  pub formed : IsWellFormed e.call
  pub refusal : IsRefusal s.memory e.process e.call (refusal_in e.reply)

-- A copy of a part comes for another process: in flat memory that process has the cells which the other has there, and nothing else changes; no zero object comes or goes. One copy after
-- another copies the cells of both, where the other process has none between. A process that comes, and is then given all the cells of another, is that
-- process's child. A Fork that is done is an event with its entry, and its child was ever alive then; and so is one that is refused.
pub record ForkRule : Type 0 where
  pub copy : (m : Memory) (p child : ℕ) (parent kids : List (Part Segment)) (x : Part Segment) (number : ℕ) (counts : List ℕ) → MemoryFits m → MayCopy m p child parent kids x number counts
      → ChangesSegments child m (with_part_copied m child kids x number counts) (λ F. with_cells_copied F p child x.first x.pages)
  pub zeros : (m : Memory) (p child : ℕ) (parent kids : List (Part Segment)) (x : Part Segment) (number : ℕ) (counts : List ℕ) → MemoryFits m → MayCopy m p child parent kids x number counts
      → zero_maps (with_part_copied m child kids x number counts).spaces ≡ zero_maps m.spaces
  pub joined : (u v w : Memory) (p child end first n : ℕ) (parent : List (Part Segment)) → p ≢ child → finite.get u.spaces p ≡ Some parent → end ≤ first
      → ((q : ℕ) → end ≤ q → q < first → part_at parent q ≡ None)
      → ChangesSegments child u v (λ F. with_cells_copied F p child 0 end) → ChangesSegments child v w (λ F. with_cells_copied F p child first n)
      → ChangesSegments child u w (λ F. with_cells_copied F p child 0 (first + n))
  pub forked : (m n : Memory) (p child : ℕ) (parent : List (Part Segment)) (end : ℕ) → MemoryFits m → finite.get m.spaces p ≡ Some parent → finite.get m.spaces child ≡ None
      → ((q : ℕ) → end ≤ q → part_at parent q ≡ None) → IsSome (finite.get n.spaces child) → ChangesSegments child (with_empty_process m child) n (λ F. with_cells_copied F p child 0 end)
      → BearsProcess child m n (λ F. with_child F p child)
  pub done : (s : KernelState) (new : Memory) (seat child : ℕ) (e : Entry) (calls : List (Option ℕ)) (syncs : List (Option SyncStart)) → MayFork s seat child e → e.reply ≡ Done
      → BringsProcess child s.memory new (λ F. after_act F e) (λ F G. IsDue F e × (G ≡ after_act F e))
      → LocksAfter e s.calls calls → StartsAfter e s.syncs syncs → length syncs ≡ length s.syncs
      → IsEvent seat s None (with_entry_made (record s { memory = new; born = set.insert s.born child }) e calls syncs) None
  pub refused : (s : KernelState) (new : Memory) (seat child : ℕ) (e : Entry) (errno : Errno) (calls : List (Option ℕ)) (syncs : List (Option SyncStart)) → MayFork s seat child e → e.reply ≡ Refused errno
      → ActsOnMemory s.memory new e → StaysAlive new e.process e.call
      → LocksAfter e s.calls calls → StartsAfter e s.syncs syncs → length syncs ≡ length s.syncs
      → IsEvent seat s None (with_entry_made (record s { memory = new }) e calls syncs) None
