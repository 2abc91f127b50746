-- What faults come to. Public clauses cite this.
use Rattle.std.specs.Prelude.{◌≡◌, ℕ, Bool, true, false, not, List, Option, Some, Result, Ok, Err, IsFalse, IsTrue, if◌then◌else◌}
use Rattle.vm_world.specs.hat_layer.Pool.{translation_at}
use Rattle.vm_world.specs.hat_layer.declared.translation.Translation.{Translation}
use Rattle.page_store.specs.page_hash.declared.PageName.{PageName}
use Rattle.vm_world.specs.vm_types.declared.call.Call.{Call}
use Rattle.vm_world.specs.vm_types.declared.call.Call.TheVariants.{Load, Store}
use Rattle.vm_world.specs.vm_types.Prot.{can_read, can_write}
use Rattle.vm_world.specs.vm_types.declared.prot.Prot.{Prot}
use Rattle.vm_world.specs.flat_model.Flat.{Flat}
use Rattle.vm_world.specs.flat_model.Words.{page}
use Rattle.vm_world.specs.CallSteps.{ChangesMemory}
use Rattle.vm_world.specs.FlatMemory.{Memory}
use Rattle.vm_world.specs.Segments.{Spot, Spaces, shown_name, spot_at}
use Rattle.vm_world.specs.Serving.{TakesFrames, AreReplaced, IsUnpushedSlot, KeepsWanted, ModifiesOnly, IsWanted}
use Rattle.vm_world.specs.TranslationsFit.{MayWriteInPlace}
use Rattle.vm_world.specs.Wants.{shows_page}
use Rattle.vm_world.specs.Words.{memory, Fits}
use Rattle.vm_world.specs.World.{World}
use Rattle.vm_world.specs.declared.world.World as rust
use Rattle.seg_ops.specs.OwnPages.{with_own_shown}
use Rattle.seg_ops.specs.declared.plans.Fault.{Fault}
use Rattle.seg_ops.specs.declared.plans.Fault.TheVariants.{Loaded, Past}
use Rattle.vm_world.specs.declared.wants.Wants.{Wants}
use Rattle.seg_ops.specs.SlotsDue.{SlotsAfter}

-- The page has a translation that lets the access.
pub record LetsAccess (w : World) (p q : ℕ) (write : Bool) : Type 0 where
  pub translation : Translation
  pub loaded : translation_at w.hat.places p q ≡ Some translation
  pub writable : write ≡ true → translation.writable ≡ true

-- The call is a store to this page, or a load of it.
abbrev pub Accesses : Bool → ℕ → Call → Type 0
Accesses false q (Load a n) = page a ≡ q
Accesses true q (Store a n v) = page a ≡ q
Accesses write q call = ⊥

-- Each access of this page, all stores or all loads, wants this first, whatever seats have the
-- files' calls: a transfer that can run, or what holds it up. No home page that the access wants
-- lost its frame.
pub record WaitsFor (old new : Memory) (p q : ℕ) (write : Bool) (want : Wants) : Type 0 where
  pub wants : (calls : List (Option ℕ)) (call : Call) → Accesses write q call → IsWanted new calls p call want
  pub kept : (call : Call) → Accesses write q call → KeepsWanted old new p call

-- The page was loaded: it has a translation that lets the access; and that lets a store where the page may be written where it is, so that no other fault
-- comes before one.
pub record LoadsPage (w : World) (p q : ℕ) (x : Spot) (write : Bool) : Type 0 where
  pub lets : LetsAccess w p q write
  pub opens : MayWriteInPlace w.anon w.maps x → lets.translation.writable ≡ true

-- What a fault at a place of any mapping comes to.
abbrev pub FaultMeans : Memory → Memory → ℕ → ℕ → Spot → Bool → Result Fault Wants → Type 0
FaultMeans old new p q x write (Ok Loaded) = LoadsPage new.world p q x write
FaultMeans old new p q x write (Ok Past) = IsFalse (shows_page new.world x)
FaultMeans old new p q x write (Err want) = WaitsFor old new p q write want

-- Flat memory after a fault: for a store a private cell gets the page that it shows as its own.
abbrev pub after_fault : Result Fault Wants → Bool → Flat → ℕ → ℕ → Flat
after_fault (Ok Loaded) true F p q = with_own_shown F p q
after_fault answer write F p q = F

-- Nothing follows what took frames, unless the page is loaded.
abbrev pub EndsThere : Result Fault Wants → World → World → Type 0
EndsThere (Ok Loaded) mid new = Unit {0}
EndsThere answer mid new = new ≡ mid

-- The fault came to Past: the place is past its object's end.
abbrev pub is_past : Result Fault Wants → Bool
is_past (Ok Past) = true
is_past answer = false

-- A fault that loads a page makes it modified where it is that of a slot which was never pushed, and no other; one that doesn't makes none modified.
abbrev pub FaultModifies : World → Spot → Result Fault Wants → PageName → Type 0
FaultModifies w x (Ok Loaded) name = (shown_name w.maps x ≡ Some name) × IsUnpushedSlot w.anon name
FaultModifies w x answer name = ⊥

-- A fault takes frames for other pages, with the tails that are pending before and after, and the frames hold other pages then; if the page is loaded, flat
-- memory is so; a slot was made exactly where one was due; no page is modified that wasn't, but the one that is loaded, where that is so; it comes to Past
-- exactly where the place is past its object's end; and it comes to this.
pub record ServesFault (old new : Memory) (pending more p q : ℕ) (x : Spot) (write : Bool) (answer : Result Fault Wants) : Type 0 where
  pub mid : World
  pub first : TakesFrames old mid pending more
  pub acts : ChangesMemory p (record old { world = mid }) new (λ F. after_fault answer write F p q)
  pub ends : EndsThere answer mid new.world
  pub slots : SlotsAfter old.world new.world x write answer
  pub past : is_past answer ≡ not (shows_page old.world x)
  pub replaced : AreReplaced old.world new.world first.cut
  pub modified : ModifiesOnly (FaultModifies new.world x answer) old.world new.world
  pub means : FaultMeans old new p q x write answer

-- The protection lets a store, or a load.
abbrev pub IsAllowed : Bool → Prot → Type 0
IsAllowed write prot = IsTrue (if write then can_write prot else can_read prot)

-- The world fits where a page of a process shows this place.
abbrev pub IsFitAt : {D : Type 0} → rust.World D → ℕ → ℕ → Spot → Type 0
IsFitAt w p q x = (spaces : Spaces) × Fits w spaces × (spot_at spaces p q ≡ Some x)

-- What a fault at a place of any mapping comes to, by the world before and after, in these spaces.
abbrev pub FaultServed : {D : Type 0} → rust.World D → rust.World D → Spaces → ℕ → ℕ → Spot → Bool → Result Fault Wants → Type 0
FaultServed old new spaces p q x write answer = ServesFault (memory old spaces) (memory new spaces) old.pending new.pending p q x write answer

-- What a fault at a place comes to, whatever the spaces in which the page shows the place.
abbrev pub FaultServedAt : {D : Type 0} → rust.World D → rust.World D → ℕ → ℕ → Spot → Bool → Result Fault Wants → Type 0
FaultServedAt old new p q x write answer = (spaces : Spaces) → Fits old spaces → spot_at spaces p q ≡ Some x → FaultServed old new spaces p q x write answer
