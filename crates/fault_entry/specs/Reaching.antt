-- What an access comes to before its word is moved. Inside: no public clause cites this.
use Rattle.std.specs.Prelude.{◌≡◌, ◌⊎◌, ℕ, ◌%◌, Bool, true, List, Option, Some, None, Result, Ok, Err, if◌then◌else◌}
use Rattle.std.specs.FinMap as finite
use Rattle.std.specs.FinSet as set
use Rattle.seg_vn.specs.addr_space.Space.{Part}
use Rattle.std.specs.Ordering.{nat_cmp}
use Rattle.seg_vn.specs.hat_layer.Pool.{IsNoted}
use Rattle.seg_vn.specs.page_hash.declared.PageName.{PageName}
use Rattle.seg_vn.specs.page_store.Notes.{Notes}
use Rattle.seg_vn.specs.vm_types.declared.call.Signal.{Signal}
use Rattle.seg_vn.specs.vm_types.declared.prot.Prot.{Prot}
use Rattle.seg_vn.specs.vm_types.Prot.{can_read, can_write}
use Rattle.seg_vn.specs.flat_model.Access.{access_target}
use Rattle.seg_vn.specs.flat_model.Flat.{Flat}
use Rattle.seg_vn.specs.flat_model.Step.{IsPastAtMost}
use Rattle.seg_vn.specs.flat_model.Words.{page}
use Rattle.seg_vn.specs.vm_world.CallSteps.{ChangesMemory}
use Rattle.seg_vn.specs.vm_world.FlatMemory.{Memory, flat_memory}
use Rattle.seg_vn.specs.vm_world.Segments.{Spaces, Spot, spot_at}
use Rattle.seg_vn.specs.vm_world.Serving.{TakesFrames, AreReplaced, IsUnpushedSlot, ModifiesOnly, ShowsThere}
use Rattle.seg_vn.specs.vm_world.Words.{memory, Fits}
use Rattle.seg_vn.specs.vm_world.World.{World}
use Rattle.seg_vn.specs.vm_world.declared.segment.Segment.{Segment}
use Rattle.seg_vn.specs.vm_world.declared.world.World as rust
use Rattle.seg_vn.specs.seg_ops.OwnPages.{with_own_shown}
use Rattle.seg_vn.specs.seg_ops.Faults.{WaitsFor}
use Rattle.seg_vn.specs.seg_ops.SlotsDue.{KeepsSlots, MakesSlotAt, slot_due}
use Rattle.fault_entry.specs.Accesses.{FaultsOnce}
use Rattle.fault_entry.specs.declared.access.AccessStep.{AccessStep}
use Rattle.fault_entry.specs.declared.access.AccessStep.TheVariants.{Reached, Refused, Need, Busy}
use Rattle.seg_vn.specs.vm_world.declared.wants.Wants.{Wants}
use Rattle.seg_vn.specs.vm_world.declared.wants.Wants.TheVariants.{Transfer, Seat}

-- A protection lets a store, or a load.
abbrev pub may_access : Bool → Prot → Bool
may_access write prot = if write then can_write prot else can_read prot

-- The access goes to this frame: it was noted in the page's translation, which lets it, and so does its protection.
pub record ReachesPage (m : Memory) (p a n frame : ℕ) (write : Bool) : Type 0 where
  pub aligned : a % n ≡ 0
  pub spot : Spot
  pub here : spot_at m.spaces p (page a) ≡ Some spot
  pub allowed : may_access write spot.0.prot ≡ true
  pub noted : IsNoted m.world.hat.places p (page a) frame write

-- In flat memory, whatever is outside, neither Align, NoMap nor Prot is due.
abbrev pub MayReach : Memory → ℕ → ℕ → ℕ → Bool → Type 0
MayReach m p a n write = (born : set.FinSet nat_cmp) (notes : Notes) → IsPastAtMost (access_target (flat_memory m born notes) p (may_access write) a n)

-- What must come first, as what an access comes to.
abbrev pub step_wanting : Wants → AccessStep
step_wanting (Transfer plan) = Need plan
step_wanting (Seat h) = Busy h

-- What an access comes to: its frame, which it may use; the signal that is due; or what must come
-- first, where no other signal than Past may be due.
abbrev pub AccessMeans : Memory → Memory → ℕ → ℕ → ℕ → Bool → AccessStep → Type 0
AccessMeans old new p a n write (Reached frame) = ReachesPage new p a n frame write
AccessMeans old new p a n write (Refused s) = (born : set.FinSet nat_cmp) (notes : Notes) → access_target (flat_memory new born notes) p (may_access write) a n ≡ Err s
AccessMeans old new p a n write (Need plan) = WaitsFor old new p (page a) write (Transfer plan) × MayReach new p a n write
AccessMeans old new p a n write (Busy h) = WaitsFor old new p (page a) write (Seat h) × MayReach new p a n write

-- Flat memory as the access goes to its frame: a store to a private page finds that page its own.
abbrev pub after_reach : AccessStep → Bool → Flat → ℕ → ℕ → Flat
after_reach (Reached frame) true F p q = with_own_shown F p q
after_reach answer write F p q = F

-- Nothing follows what took frames, unless the access goes to a frame.
abbrev pub EndsReach : AccessStep → World → World → Type 0
EndsReach (Reached frame) mid new = Unit {0}
EndsReach answer mid new = new ≡ mid

-- A slot was made exactly where one is due, as the access goes to its frame.
abbrev pub ReachSlots : Memory → World → ℕ → ℕ → Bool → AccessStep → Type 0
ReachSlots old new p q write (Reached frame) = (x : Spot) → spot_at old.spaces p q ≡ Some x → MakesSlotAt old.world new (slot_due old.world.anon old.world.maps x write)
ReachSlots old new p q write answer = KeepsSlots old.world new

-- The signal that an access comes to, if it comes to one.
abbrev pub signal_in : AccessStep → Option Signal
signal_in (Refused s) = Some s
signal_in answer = None

-- The error of a result, if it is one.
abbrev pub error_in : {A E : Type 0} → Result A E → Option E
error_in (Ok x) = None
error_in (Err e) = Some e

-- THE SIGNAL THAT IS DUE to an access in flat memory, or that none is, whatever is outside.
abbrev pub IsSignalDue : Memory → ℕ → ℕ → ℕ → Bool → Option Signal → Type 0
IsSignalDue m p a n write s = (born : set.FinSet nat_cmp) (notes : Notes) → error_in (access_target (flat_memory m born notes) p (may_access write) a n) ≡ s

-- An access that goes to its frame came to one fault at most.
abbrev pub HitsReach : Memory → World → ℕ → ℕ → Bool → AccessStep → Type 0
HitsReach old new p q write (Reached frame) = FaultsOnce old new p q write
HitsReach old new p q write answer = Unit {0}

-- Once the access goes to its frame, the page there may be modified: of a store, and where it is that of a slot which was never pushed. No other page
-- becomes modified.
abbrev pub ReachModifies : Memory → ℕ → ℕ → Bool → AccessStep → PageName → Type 0
ReachModifies m p q write (Reached frame) name = ShowsThere m p q name × ((write ≡ true) ⊎ IsUnpushedSlot m.world.anon name)
ReachModifies m p q write answer name = ⊥

-- Frames may be taken for other pages, then a page may be made, with its slot, and the access comes to this.
pub record ServesAccess (old new : Memory) (pending more p a n : ℕ) (write : Bool) (answer : AccessStep) : Type 0 where
  pub mid : World
  pub first : TakesFrames old mid pending more
  pub acts : ChangesMemory p (record old { world = mid }) new (λ F. after_reach answer write F p (page a))
  pub ends : EndsReach answer mid new.world
  pub slots : ReachSlots old new.world p (page a) write answer
  pub due : IsSignalDue old p a n write (signal_in answer)
  pub replaced : AreReplaced old.world new.world first.cut
  pub modified : ModifiesOnly (ReachModifies new p (page a) write answer) old.world new.world
  pub hit : HitsReach old new.world p (page a) write answer
  pub means : AccessMeans old new p a n write answer

-- What an access comes to, whatever the spaces in which the process has these parts.
abbrev pub AccessServed : {D : Type 0} → rust.World D → rust.World D → ℕ → List (Part Segment) → ℕ → ℕ → Bool → AccessStep → Type 0
AccessServed old new p parts a n write answer =
    (spaces : Spaces) → Fits old spaces → finite.get spaces p ≡ Some parts → ServesAccess (memory old spaces) (memory new spaces) old.pending new.pending p a n write answer
