-- The history with an entry more, and tails that become zeros meanwhile. Public clauses cite this.
use Rattle.std.specs.Prelude.{◌≡◌, ◌≢◌, ◌↔◌, ◌⊎◌, ◌<◌, ◌^◌, ◌||◌, ◌++◌, ◌==◌, ℕ, suc, Bool, List, [], ◌∷◌, Option, Some, None, length, MatchBool, IsSome, IsTrue, IsFalse, slice_index_or}
use Rattle.std.specs.Ordering.{nat_cmp}
use Rattle.std.specs.FinMap as finite
use Rattle.std.specs.FinSet as set
use Rattle.flat_model.specs.vm_types.declared.call.Call.TheVariants.{Fork}
use Rattle.flat_model.specs.vm_types.declared.call.Entry.{Entry}
use Rattle.flat_model.specs.vm_types.declared.call.Reply.TheVariants.{Io}
use Rattle.flat_model.specs.vm_types.Parts.{file_of_call, is_part}
use Rattle.flat_model.specs.vm_types.WellFormed.{IsWellFormed}
use Rattle.page_store.specs.Bays.{BaySeen}
use Rattle.page_store.specs.Notes.{Notes}
use Rattle.flat_model.specs.Births.{is_birth}
use Rattle.flat_model.specs.CountLaws.{IsNextCount}
use Rattle.flat_model.specs.Flat.{Flat, space_of}
use Rattle.flat_model.specs.History.{KeepsParts, IsSyncStart, is_io}
use Rattle.flat_model.specs.HistoryLaws.{IsNextPart}
use Rattle.flat_model.specs.OpenLaws.{MayFollow, IsOpenPart}
use Rattle.flat_model.specs.Step.{is_bit_set, tails_cleared, after_act, IsDue, IsUnborn}
use Rattle.flat_model.specs.SyncLaws.{is_in_life}
use Rattle.flat_model.specs.Told.{entries_of}
use Rattle.vm_world.specs.declared.sync_start.SyncStart.{SyncStart}
use Rattle.vm_world.specs.DiskPlaces.{HasCounted}
use Rattle.vm_world.specs.HistoryFits.{HistoryFits, FaultsFit, CallsFit, RoomsFit, BirthsFit, has_left}
use Rattle.vm_world.specs.Segments.{Spaces}
use Rattle.vm_world.specs.State.{process_parent, room_of}

-- The locks of the files' calls after an entry: the process has the lock of a file whose part doesn't end its call and no other, and all others stay.
abbrev pub LocksAfter : Entry → List (Option ℕ) → List (Option ℕ) → Type 0
LocksAfter e old new = (f seat : ℕ) → (slice_index_or new f None ≡ Some seat) ↔ MatchBool (e.process == suc seat) (IsOpenPart f e) (slice_index_or old f None ≡ Some seat)

-- The starts of Syncs after an entry: that of its process is dropped, and that of a process that it makes.
abbrev pub StartsAfter : Entry → List (Option SyncStart) → List (Option SyncStart) → Type 0
StartsAfter e old new = (seat : ℕ) (b : SyncStart) → slice_index_or new seat None ≡ Some b → IsFalse (is_in_life (suc seat) e) × (slice_index_or old seat None ≡ Some b)

-- An entry of a seat's process goes with the lock of its file: where a seat has the lock, it is the process's own, and the call a part; or it is another's,
-- and the call met a device error.
abbrev pub MayUseFile : Entry → ℕ → List (Option ℕ) → Type 0
MayUseFile e seat calls = (f s : ℕ) → file_of_call e.call ≡ Some f → slice_index_or calls f None ≡ Some s
    → ((s ≡ seat) × IsTrue (is_part e.call)) ⊎ ((s ≢ seat) × IsTrue (is_io e.reply))

-- The entry takes the pending tails, and is due in flat memory as it is now: the history stays legal, and leaves what the call made of flat memory. More
-- tails become zeros while no entry is made. And each part that reads the history holds with the entry, where what it adds does.
pub record EntryLaw : Type 0 where
  pub history : (opening : Flat) (H : List Entry) (pending : ℕ) (now : Flat) (e : Entry) → HistoryFits opening H pending now
      → e.cleared ≡ pending → IsWellFormed e.call → IsSome (space_of now e.process) → IsUnborn now e.call → IsDue now e → IsSyncStart H (length H) e → IsNextPart H e
      → HistoryFits opening (H ++ e ∷ []) 0 (after_act now e)
  pub tails : (opening : Flat) (H : List Entry) (pending more : ℕ) (now : Flat) (lost : ℕ → Bool) → HistoryFits opening H pending now
      → ((f : ℕ) → f < length now.files → is_bit_set more f ≡ (is_bit_set pending f || lost f)) → more < 2 ^ length now.files
      → HistoryFits opening H more (tails_cleared now lost)
  pub faults : (H : List Entry) (bays : List BaySeen) (notes : Notes) (e : Entry) → FaultsFit H bays notes → IsNextCount H e
      → ((disk before after : ℕ) → e.reply ≡ Io disk before after → HasCounted bays notes disk after)
      → FaultsFit (H ++ e ∷ []) bays notes
  pub calls : (H : List Entry) (calls : List (Option ℕ)) (syncs : List (Option SyncStart)) (calls' : List (Option ℕ)) (syncs' : List (Option SyncStart)) (e : Entry) → CallsFit H calls syncs → MayFollow H e → LocksAfter e calls calls' → StartsAfter e syncs syncs'
      → CallsFit (H ++ e ∷ []) calls' syncs'
  pub part : (H : List Entry) (calls : List (Option ℕ)) (syncs : List (Option SyncStart)) (parents entries : List ℕ) (e : Entry) (seat : ℕ) → CallsFit H calls syncs → RoomsFit H parents entries → KeepsParts H → e.process ≡ suc seat → MayUseFile e seat calls
      → IsNextPart H e
  pub rooms : (H : List Entry) (parents entries : List ℕ) (e : Entry) → RoomsFit H parents entries → length (entries_of H e.process) < room_of entries e.process
      → ((child : ℕ) → e.call ≡ Fork child → process_parent parents child ≡ Some e.process) → RoomsFit (H ++ e ∷ []) parents entries
  pub births : (H : List Entry) (parents : List ℕ) (spaces spaces' : Spaces) (born born' : set.FinSet nat_cmp) (e : Entry) → BirthsFit H parents spaces born
      → ((p : ℕ) → set.contains born' p ≡ (set.contains born p || is_birth p e)) → ((p : ℕ) → IsSome (finite.get spaces' p) → IsTrue (set.contains born' p))
      → ((p : ℕ) → IsTrue (set.contains born' p) → IsFalse (has_left p (H ++ e ∷ [])) → IsSome (finite.get spaces' p))
      → BirthsFit (H ++ e ∷ []) parents spaces' born'
