-- The history beside memory, the disks' counts, calls in parts, and the set-up. Public clauses cite this.
use Rattle.std.specs.Prelude.{◌≡◌, ◌↔◌, ◌<◌, ◌≤◌, ◌^◌, ◌||◌, ◌==◌, ℕ, suc, Bool, true, false, List, Option, Some, None, length, IsSome, IsSomeAnd, IsTrue, IsFalse, slice_get, slice_index_or, if◌then◌else◌}
use Rattle.std.specs.List.{list_any}
use Rattle.std.specs.Ordering.{nat_cmp}
use Rattle.std.specs.FinMap as finite
use Rattle.std.specs.FinSet as set
use Rattle.flat_model.specs.vm_types.declared.call.Call.{Call}
use Rattle.flat_model.specs.vm_types.declared.call.Call.TheVariants.{Fork, Exit}
use Rattle.flat_model.specs.vm_types.declared.call.Entry.{Entry}
use Rattle.flat_model.specs.vm_types.declared.call.Reply.TheVariants.{Io}
use Rattle.page_store.specs.Bays.{BaySeen, bay_at}
use Rattle.page_store.specs.Notes.{Notes}
use Rattle.flat_model.specs.Flat.{Flat, IsFlat}
use Rattle.flat_model.specs.Step.{is_bit_set, tails_cleared}
use Rattle.flat_model.specs.History.{replay, Legal, IsStart}
use Rattle.flat_model.specs.Births.{is_birth}
use Rattle.flat_model.specs.Counted.{Counted, top_count}
use Rattle.flat_model.specs.OpenLaws.{last_entry, IsOpenPart, EndsCalls}
use Rattle.flat_model.specs.Told.{entries_of}
use Rattle.vm_world.specs.declared.sync_start.SyncStart.{SyncStart}
use Rattle.vm_world.specs.DiskPlaces.{HasCounted, faults_in}
use Rattle.vm_world.specs.Segments.{Spaces}
use Rattle.vm_world.specs.State.{process_parent, room_of, is_top}

-- The call is an Exit.
abbrev pub is_exit : Call → Bool
is_exit Exit = true
is_exit call = false

-- The history is legal from the opening, and leaves flat memory well formed; and flat memory as it is now is what the history leaves, with the pending
-- tails zeros.
pub record HistoryFits (opening : Flat) (H : List Entry) (pending : ℕ) (now : Flat) : Type 0 where
  pub legal : Legal opening H
  pub whole : IsFlat (replay opening H)
  pub shows : now ≡ tails_cleared (replay opening H) (is_bit_set pending)
  pub bits : pending < 2 ^ length (replay opening H).files

-- The device errors name faults that were counted, each of a disk that is there, whose count isn't below the one that was told; and no count is past the
-- end of counts.
pub record FaultsFit (H : List Entry) (bays : List BaySeen) (notes : Notes) : Type 0 where
  pub counted : Counted H
  pub reached : (k : ℕ) (e : Entry) (disk before after : ℕ) → slice_get H k ≡ Some e → e.reply ≡ Io disk before after
      → HasCounted bays notes disk after
  pub most : (disk count : ℕ) → faults_in (bay_at bays disk) notes ≡ Some count → count ≤ top_count

-- Each process does each call to its end; a file's call is a seat's exactly where the last entry of the seat's process is a part of the file that
-- doesn't end its call; and where a seat's Sync began is behind all that its process did.
pub record CallsFit (H : List Entry) (calls : List (Option ℕ)) (syncs : List (Option SyncStart)) : Type 0 where
  pub ends : EndsCalls H
  pub files : (f seat : ℕ) → (slice_index_or calls f None ≡ Some seat) ↔ IsSomeAnd (last_entry (suc seat) H) (IsOpenPart f)
  pub starts : (seat : ℕ) (b : SyncStart) → slice_index_or syncs seat None ≡ Some b → IsStart H (length H) (suc seat) b.from

-- No process has more entries than the set-up gave it, and each Fork of a child is its parent's.
pub record RoomsFit (H : List Entry) (parents entries : List ℕ) : Type 0 where
  pub made : (p : ℕ) → length (entries_of H p) ≤ room_of entries p
  pub forks : (k child : ℕ) (e : Entry) → slice_get H k ≡ Some e → e.call ≡ Fork child → process_parent parents child ≡ Some e.process

-- The entry is an Exit of the process.
abbrev pub is_exit_of : ℕ → Entry → Bool
is_exit_of p e = if e.process == p then is_exit e.call else false

-- The process made an Exit, by the history.
abbrev pub has_left : ℕ → List Entry → Bool
has_left p H = list_any (is_exit_of p) H

-- Those were ever alive who have no parent, and those whose birth the history has; who is alive was born; and who was born stays alive until its Exit.
pub record BirthsFit (H : List Entry) (parents : List ℕ) (spaces : Spaces) (born : set.FinSet nat_cmp) : Type 0 where
  pub lived : (p : ℕ) → set.contains born p ≡ (is_top parents p || list_any (is_birth p) H)
  pub alive : (p : ℕ) → IsSome (finite.get spaces p) → IsTrue (set.contains born p)
  pub stays : (p : ℕ) → IsTrue (set.contains born p) → IsFalse (has_left p H) → IsSome (finite.get spaces p)
