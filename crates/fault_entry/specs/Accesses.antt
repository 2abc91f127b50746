-- What holds of loads and stores beside what is answered to them. Public clauses cite this.
use Rattle.std.specs.Prelude.{◌≡◌, ℕ, Bool, true, false, List, Option, Some, None}
use Rattle.std.specs.FinMap as finite
use Rattle.seg_vn.specs.addr_space.Space.{Part}
use Rattle.seg_vn.specs.hat_layer.Pool.{translation_at, change_at, after_access}
use Rattle.seg_vn.specs.hat_layer.declared.translation.Translation.{Translation}
use Rattle.seg_vn.specs.page_hash.declared.PageName.{PageName}
use Rattle.seg_vn.specs.page_store.Seen.{residence}
use Rattle.seg_vn.specs.page_store.declared.residence.Residence.TheVariants.{Home}
use Rattle.seg_vn.specs.vm_types.declared.call.Call.{Call}
use Rattle.seg_vn.specs.vm_types.declared.call.Call.TheVariants.{Load, Store}
use Rattle.seg_vn.specs.vm_types.declared.call.Reply.TheVariants as reply
use Rattle.seg_vn.specs.vm_types.WellFormed.{IsWellFormed}
use Rattle.seg_vn.specs.vm_world.FlatMemory.{Memory}
use Rattle.seg_vn.specs.vm_world.Plans.{MayMeetFault}
use Rattle.seg_vn.specs.vm_world.Segments.{Spaces, Spot, spot_at, shown_name}
use Rattle.seg_vn.specs.vm_world.TranslationsFit.{MayWriteInPlace}
use Rattle.seg_vn.specs.vm_world.Words.{memory, Fits}
use Rattle.seg_vn.specs.vm_world.World.{World}
use Rattle.seg_vn.specs.vm_world.declared.segment.Segment.{Segment}
use Rattle.seg_vn.specs.vm_world.declared.world.World as rust
use Rattle.seg_vn.specs.declared.attempt.Attempt.{Attempt}
use Rattle.seg_vn.specs.declared.attempt.Attempt.TheVariants.{Done, Need, Busy}
use Rattle.seg_vn.specs.Serves.{Serves, IsPlainReply}
use Rattle.seg_vn.specs.seg_ops.Faults.{LetsAccess}
use Rattle.seg_vn.specs.seg_ops.SlotsDue.{KeepsSlots, MakesSlotAt, slot_due}

-- A load or a store, well formed.
abbrev pub IsAccess : Call → Type 0
IsAccess (Load a n) = IsWellFormed (Load a n)
IsAccess (Store a n v) = IsWellFormed (Store a n v)
IsAccess call = ⊥

-- The call is a store.
abbrev pub is_store : Call → Bool
is_store (Store a n v) = true
is_store call = false

-- After a load that answers a word and a store that is done, a slot was made for the page exactly where one is due; else every slot and place is as it was.
abbrev pub SlotsWhereDone : Memory → World → ℕ → ℕ → Bool → Attempt → Type 0
SlotsWhereDone old new p q write (Done (reply.Word word)) = (x : Spot) → spot_at old.spaces p q ≡ Some x → MakesSlotAt old.world new (slot_due old.world.anon old.world.maps x write)
SlotsWhereDone old new p q write (Done reply.Done) = (x : Spot) → spot_at old.spaces p q ≡ Some x → MakesSlotAt old.world new (slot_due old.world.anon old.world.maps x write)
SlotsWhereDone old new p q write answer = KeepsSlots old.world new

-- The page has a translation, to the home frame of the page that its place shows.
pub record IsShown (m : Memory) (p q : ℕ) : Type 0 where
  pub translation : Translation
  pub loaded : translation_at m.world.hat.places p q ≡ Some translation
  pub spot : Spot
  pub here : spot_at m.spaces p q ≡ Some spot
  pub name : PageName
  pub shows : shown_name m.world.maps spot ≡ Some name
  pub home : residence m.world.store name ≡ Home translation.frame

-- After a load that answers a word and a store that is done, the page has a translation, to the
-- home frame of the page that its place shows.
abbrev pub IsShownWhereDone : Memory → ℕ → ℕ → Attempt → Type 0
IsShownWhereDone m p q (Done (reply.Word word)) = IsShown m p q
IsShownWhereDone m p q (Done reply.Done) = IsShown m p q
IsShownWhereDone m p q answer = Unit {0}

-- A HIT: all that changed are the bytes of frames, and the bits of the page's own translation, which say that it was used, and of a store that it was
-- written. Names, rows and lists are as they were, and so is each other translation.
pub record IsHit (old new : World) (p q : ℕ) (write : Bool) : Type 0 where
  pub store : new.store ≡ record old.store { frames = new.store.frames }
  pub places : new.hat.places ≡ change_at p q (after_access write) old.hat.places
  pub rest : new ≡ record old { store = new.store; hat = new.hat }

-- ONE FAULT AT MOST: an access whose page had a translation that lets it is a hit; and where the page had none, the one that it has then lets a store
-- where the page may be written where it is, so that a store after a load of a page that its cell owns alone comes to no other fault.
pub record FaultsOnce (old : Memory) (new : World) (p q : ℕ) (write : Bool) : Type 0 where
  pub hit : LetsAccess old.world p q write → IsHit old.world new p q write
  pub opens : translation_at old.world.hat.places p q ≡ None → (x : Spot) (t : Translation) → spot_at old.spaces p q ≡ Some x → translation_at new.hat.places p q ≡ Some t
      → MayWriteInPlace new.anon new.maps x → t.writable ≡ true

-- A load that answers a word and a store that is done come to one fault at most.
abbrev pub IsHitWhereDone : Memory → World → ℕ → ℕ → Bool → Attempt → Type 0
IsHitWhereDone old new p q write (Done (reply.Word word)) = FaultsOnce old new p q write
IsHitWhereDone old new p q write (Done reply.Done) = FaultsOnce old new p q write
IsHitWhereDone old new p q write answer = Unit {0}

-- What is done has a plain reply; and a transfer is needed, or somebody waited for, only where neither Align, NoMap nor Prot is due.
abbrev pub MayBeAnswered : Memory → ℕ → Call → Attempt → Type 0
MayBeAnswered m p call (Done reply) = IsPlainReply reply
MayBeAnswered m p call (Need plan) = MayMeetFault m p call
MayBeAnswered m p call (Busy h) = MayMeetFault m p call

-- What is answered to an access of a page: what serves it, what may be answered, the translation,
-- the slot that was made, and that it faulted once at most.
pub record ServesWord (old new : Memory) (pending more p q : ℕ) (call : Call) (answer : Attempt) : Type 0 where
  pub serves : (calls : List (Option ℕ)) → Serves old new pending more calls p call answer
  pub due : MayBeAnswered new p call answer
  pub shown : IsShownWhereDone new p q answer
  pub slots : SlotsWhereDone old new.world p q (is_store call) answer
  pub hit : IsHitWhereDone old new.world p q (is_store call) answer

-- The world fits where a process has these parts.
abbrev pub IsFitFor : {D : Type 0} → rust.World D → ℕ → List (Part Segment) → Type 0
IsFitFor w p parts = (spaces : Spaces) × Fits w spaces × (finite.get spaces p ≡ Some parts)

-- This is answered to an access, whatever the spaces in which the process has these parts.
abbrev pub WordServed : {D : Type 0} → rust.World D → rust.World D → ℕ → List (Part Segment) → ℕ → Call → Attempt → Type 0
WordServed old new p parts q call answer = (spaces : Spaces) → Fits old spaces → finite.get spaces p ≡ Some parts → ServesWord (memory old spaces) (memory new spaces) old.pending new.pending p q call answer
