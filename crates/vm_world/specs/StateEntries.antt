-- The marks of a state, and how entries keep them true. Public clauses cite this.
use Rattle.std.specs.Prelude.{◌≡◌, ◌≢◌, ◌++◌, ℕ, suc, [], ◌∷◌, length, nat_lt, if◌then◌else◌}
use Rattle.flat_model.specs.vm_types.declared.call.Call.{Call}
use Rattle.flat_model.specs.vm_types.declared.call.Call.TheVariants.{Truncate}
use Rattle.flat_model.specs.vm_types.declared.call.Entry.{Entry}
use Rattle.flat_model.specs.vm_types.declared.call.Reply.{Reply}
use Rattle.flat_model.specs.vm_types.declared.call.Reply.TheVariants.{Done, Synced}
use Rattle.flat_model.specs.Flat.{Flat}
use Rattle.flat_model.specs.History.{Legal}
use Rattle.flat_model.specs.vnode_files.Files.{FilesSeen, vnode_at}
use Rattle.page_store.specs.page_hash.declared.PageName.{PageName}
use Rattle.mark_laws.specs.disk_marks.Marks.{MarksSeen}
use Rattle.mark_laws.specs.Cuts.{marks_shortened}
use Rattle.mark_laws.specs.EntryLaws.{ReachesNext}
use Rattle.mark_laws.specs.Syncs.{HasSynced}
use Rattle.vm_world.specs.State.{KernelState, Seats, notes_of}
use Rattle.vm_world.specs.World.{AllTell}
use Rattle.vm_world.specs.MarksOf.{MarksOf, FailuresOf}
use Rattle.vm_world.specs.StateMarks.{PagesFit}

-- The marks once a call was answered, and there are so many entries: a Truncate that is done, of a file that had more bytes, changes those of the file.
abbrev pub marks_answered : FilesSeen → Call → Reply → ℕ → MarksSeen → MarksSeen
marks_answered files (Truncate f len) Done j m =
    let info = (vnode_at files f).info in
    if nat_lt len info.length then marks_shortened m f info.disk info.extents info.length len j else m
marks_answered files call reply j m = m

-- A state has an entry more: the disks are where they were, and none tells that didn't; and where they tell, the history is legal.
pub record MakesEntry (opening : Flat) (s : KernelState) (e : Entry) (new : KernelState) (seats : Seats) : Type 0 where
  pub history : new.history ≡ s.history ++ e ∷ []
  pub bays : new.memory.world.store.bays ≡ s.memory.world.store.bays
  pub tells : AllTell new.memory.world (notes_of seats) → AllTell s.memory.world (notes_of seats)
  pub legal : AllTell new.memory.world (notes_of seats) → Legal opening (s.history ++ e ∷ [])

-- THE MARKS STAY TRUE with each entry that is no Sync, as its answer changes them; and with a Sync that answers, where they reach that far. So do the failures
-- that they name.
pub record StateEntriesLaw : Type 0 where
  pub answers : (opening : Flat) (s new : KernelState) (e : Entry) (seats : Seats) (m : MarksSeen)
      → PagesFit opening s seats → MarksOf opening s seats m → MakesEntry opening s e new seats → ((b : ℕ) → e.reply ≢ Synced b)
      → MarksOf opening new seats (marks_answered s.memory.world.files e.call e.reply (suc (length s.history)) m)
  pub syncs : (opening : Flat) (s new : KernelState) (e : Entry) (seats : Seats) (m : MarksSeen) (b : ℕ)
      → PagesFit opening s seats → MarksOf opening s seats m → MakesEntry opening s e new seats → e.reply ≡ Synced b
      → (AllTell s.memory.world (notes_of seats) → (name : PageName) → HasSynced opening (s.history ++ e ∷ []) (length s.history) b name
      → ReachesNext opening s.history e m b name)
      → MarksOf opening new seats m
  pub failures : (opening : Flat) (s new : KernelState) (e : Entry) (seats : Seats) (m : MarksSeen)
      → FailuresOf s seats m → MakesEntry opening s e new seats
      → FailuresOf new seats (marks_answered s.memory.world.files e.call e.reply (suc (length s.history)) m)
