-- One move of a hand of the clock. Public clauses cite this.
use Rattle.std.specs.Prelude.{◌≡◌, ◌≢◌, ◌↔◌, ◌⊎◌, ◌++◌, ◌∷◌, [], ℕ, true, false, List, Option, Some, None, IsSome, slice_index_or}
use Rattle.seg_ops.specs.block_device.DiskSeen.{DiskSeen}
use Rattle.seg_ops.specs.core_arena.Bytes.{bytes_at}
use Rattle.seg_ops.specs.hat_layer.Pool.{frame_of}
use Rattle.seg_ops.specs.hat_layer.declared.translation.Translation.{Translation}
use Rattle.seg_ops.specs.page_clock.Clock.{next_pick, next_clock}
use Rattle.seg_ops.specs.page_clock.declared.Pick.{Pick}
use Rattle.seg_ops.specs.page_clock.declared.Pick.TheVariants.{Front, Back}
use Rattle.seg_ops.specs.page_hash.declared.PageName.{PageName}
use Rattle.seg_ops.specs.page_lock.Rows.{row_at}
use Rattle.seg_ops.specs.page_lock.declared.Row.{Row}
use Rattle.seg_ops.specs.page_store.Bays.{home, bay_at}
use Rattle.seg_ops.specs.page_store.Seen.{StoreSeen, IsListedFrame, residence}
use Rattle.seg_ops.specs.page_store.declared.plan.Plan.{Plan}
use Rattle.seg_ops.specs.page_store.declared.plan.Plan.TheVariants as plan
use Rattle.seg_ops.specs.page_store.declared.residence.Residence.TheVariants.{Home}
use Rattle.seg_ops.specs.vm_world.declared.wants.Wants.{Wants}
use Rattle.seg_ops.specs.vm_world.declared.wants.Wants.TheVariants.{Transfer, Seat}
use Rattle.seg_ops.specs.vm_world.State.{KernelState, KeptPlan}
use Rattle.seg_ops.specs.vm_world.TranslationsFit.{IsModified, IsRewritten}
use Rattle.seg_ops.specs.vm_world.World.{World, world_table}

-- A translation leads to the frame and says that it was used.
pub record HasUsed (places : List (Option Translation)) (frame : ℕ) : Type 0 where
  pub place : ℕ
  pub translation : Translation
  pub there : slice_index_or places place None ≡ Some translation
  pub leads : translation.frame ≡ frame
  pub referenced : translation.referenced ≡ true

-- The page in a frame is referenced: its row says so, or one of its translations.
abbrev pub IsReferenced : StoreSeen → List (Option Translation) → ℕ → Type 0
IsReferenced store places frame = ((row_at store.rows frame).referenced ≡ true) ⊎ HasUsed places frame

-- The back hand lets go of the page in a frame: it is home, on neither list, not locked or kept, and neither referenced nor modified.
pub record IsUnusedPage (w : World) (frame : ℕ) : Type 0 where
  pub home : IsSome (bytes_at w.store.frames frame)
  pub unlisted : ¬ IsListedFrame w.store frame
  pub unlocked : (row_at w.store.rows frame).holder ≡ None
  pub unkept : (row_at w.store.rows frame).keeps ≡ 0
  pub unreferenced : ¬ IsReferenced w.store w.hat.places frame
  pub unmodified : ¬ IsModified w.store w.hat.places frame

-- The back hand wants the page of a name pushed: its frame has it, modified, not referenced and not locked, and its disk is home.
pub record IsToPush (w : World) (frame : ℕ) (name : PageName) : Type 0 where
  pub holds : residence w.store name ≡ Home frame
  pub unlocked : (row_at w.store.rows frame).holder ≡ None
  pub unreferenced : ¬ IsReferenced w.store w.hat.places frame
  pub modified : IsModified w.store w.hat.places frame
  pub disk : (d : DiskSeen) × (bay_at w.store.bays (world_table w name).disk ≡ home d)

-- The plan is the push of the page that the back hand wants pushed.
abbrev pub IsPushOf : World → ℕ → Plan → Type 0
IsPushOf w frame (plan.Push name) = IsToPush w frame name
IsPushOf w frame (plan.Read name) = ⊥

-- Two rows that differ in their bits alone.
pub record SameButBits (old new : Row) : Type 0 where
  pub holder : new.holder ≡ old.holder
  pub keeps : new.keeps ≡ old.keeps
  pub gone : new.gone ≡ old.gone
  pub snapshot : new.snapshot ≡ old.snapshot
  pub source : new.source ≡ old.source

-- A place of the pool has its translation, but for the bits, or lost it.
abbrev pub KeepsButBits : Option Translation → Option Translation → Type 0
KeepsButBits old None = Unit {0}
KeepsButBits None (Some u) = ⊥
KeepsButBits (Some t) (Some u) = (u.space ≡ t.space) × (u.page ≡ t.page) × (u.frame ≡ t.frame) × (u.writable ≡ t.writable)

-- The page in the frame counts as rewritten since its snapshot where it did.
abbrev pub SameRewritten : World → World → ℕ → Type 0
SameRewritten old new frame = IsRewritten new.store new.hat.places frame ↔ IsRewritten old.store old.hat.places frame

-- Nothing changed but the bits of one frame, in its row and in its translations, which may be gone, and whether it is on the cache list. Its page counts as
-- rewritten where it did, so one that is on its way to its disk isn't pushed again for it.
pub record TouchesFrame (old new : World) (frame : ℕ) : Type 0 where
  pub store : new.store ≡ record old.store { rows = new.store.rows; cached = new.store.cached }
  pub row : SameButBits (row_at old.store.rows frame) (row_at new.store.rows frame)
  pub rewritten : SameRewritten old new frame
  pub others : (k : ℕ) → k ≢ frame → row_at new.store.rows k ≡ row_at old.store.rows k
  pub places : (place : ℕ) → KeepsButBits (slice_index_or old.hat.places place None) (slice_index_or new.hat.places place None)
  pub leads : (place : ℕ) → frame_of (slice_index_or old.hat.places place None) ≢ Some frame
      → slice_index_or new.hat.places place None ≡ slice_index_or old.hat.places place None
  pub tables : new ≡ record old { store = new.store; hat = new.hat }

-- The hands moved on.
abbrev pub with_hand_moved : World → World
with_hand_moved w = record w { store = record w.store { clock = next_clock w.store.clock } }

-- No translation was dropped.
abbrev pub KeepsLoaded : World → World → Type 0
KeepsLoaded old new = (place : ℕ) → IsSome (slice_index_or old.hat.places place None) → IsSome (slice_index_or new.hat.places place None)

-- The page in the frame is modified where it was.
abbrev pub SameModified : World → World → ℕ → Type 0
SameModified old new frame = IsModified new.store new.hat.places frame ↔ IsModified old.store old.hat.places frame

-- The page in the frame is referenced where it was.
abbrev pub SameReferenced : World → World → ℕ → Type 0
SameReferenced old new frame = IsReferenced new.store new.hat.places frame ↔ IsReferenced old.store old.hat.places frame

-- The front hand: the page isn't referenced then, and is modified where it was.
pub record FrontClears (old new : World) (frame : ℕ) : Type 0 where
  pub touches : TouchesFrame old new frame
  pub cleared : ¬ IsReferenced new.store new.hat.places frame
  pub modified : SameModified old new frame
  pub loaded : KeepsLoaded old new
  pub cached : new.store.cached ≡ old.store.cached

-- An unused page is cached then, and no translation leads to it.
pub record IsReleased (old new : World) (frame : ℕ) : Type 0 where
  pub cached : new.store.cached ≡ old.store.cached ++ frame ∷ []
  pub unloaded : (place : ℕ) → frame_of (slice_index_or new.hat.places place None) ≢ Some frame

-- The page in the frame is modified and referenced where it was; no translation is dropped, and the
-- cache list stays.
pub record IsLeft (old new : World) (frame : ℕ) : Type 0 where
  pub cached : new.store.cached ≡ old.store.cached
  pub modified : SameModified old new frame
  pub referenced : SameReferenced old new frame
  pub loaded : KeepsLoaded old new

-- The back hand: an unused page is released, and any other stays. A push is answered exactly where the page is to be pushed.
pub record BackLooks (old new : World) (frame : ℕ) (answer : Option Plan) : Type 0 where
  pub touches : TouchesFrame old new frame
  pub released : IsUnusedPage old frame → IsReleased old new frame
  pub left : ¬ IsUnusedPage old frame → IsLeft old new frame
  pub push : (p : Plan) → (answer ≡ Some p) ↔ IsPushOf old frame p

-- What a hand does at its frame: the front hand clears and answers no plan, the back hand looks.
abbrev pub HandMoves : World → World → Pick → Option Plan → Type 0
HandMoves old new (Front frame) answer = FrontClears old new frame × (answer ≡ None)
HandMoves old new (Back frame) answer = BackLooks old new frame answer

-- ONE MOVE OF A HAND, the one whose turn it is.
abbrev pub ClockMoves : World → World → Option Plan → Type 0
ClockMoves old new answer = HandMoves (with_hand_moved old) new (next_pick old.store.clock) answer

-- What a frame's translations said of its use, its row says, and nothing else changed.
pub record GathersUse (old new : World) (frame : ℕ) : Type 0 where
  pub touches : TouchesFrame old new frame
  pub modified : SameModified old new frame
  pub referenced : SameReferenced old new frame
  pub loaded : KeepsLoaded old new
  pub cached : new.store.cached ≡ old.store.cached
  pub clear : (place : ℕ) (t : Translation) → slice_index_or new.hat.places place None ≡ Some t → t.frame ≡ frame → (t.referenced ≡ false) × (t.modified ≡ false)

-- The state after a move of a hand of a seat: its world is this, and the plan is kept that is answered.
abbrev pub after_hand : KernelState → World → Option KeptPlan → KernelState
after_hand s new plan = record s { memory = record s.memory { world = new }; plan = plan }

-- The plan that the clock answers to a seat is kept for no call.
abbrev pub kept_of_clock : ℕ → Plan → KeptPlan
kept_of_clock seat p = record { seat = seat; plan = p; of = None }

-- The plan that is wanted, where it can begin.
abbrev pub plan_in : Wants → Option Plan
plan_in (Transfer p) = Some p
plan_in (Seat h) = None
