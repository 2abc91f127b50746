-- What faults at places of any mapping come to, by the steps that they take.
use Rattle.seg_ops.proofs.flat_model.ClearedTails.{files_none as none-cleared}
use Rattle.std.proofs.Common.{◌≡◌, ℕ, Bool, true, false, List, [], ◌∷◌, length, Option, Some, None, refl, ap, ◌∙◌, Result, Ok, Err, not, IsTrue, sym}
use Rattle.std.specs.Prelude.{IfSome}
use Rattle.std.specs.Ordering.{nat_cmp}
use Rattle.std.specs.FinSet as set
use Rattle.seg_ops.specs.page_hash.Names.{is_name}
use Rattle.seg_ops.specs.page_hash.declared.PageName.{PageName}
use Rattle.seg_ops.specs.page_store.Notes.{Notes}
use Rattle.seg_ops.specs.page_store.Steps.{next_name}
use Rattle.seg_ops.specs.hat_layer.Pool.{translation_at, fresh_translation}
use Rattle.seg_ops.specs.vm_types.declared.call.Call.{Call}
use Rattle.seg_ops.specs.vm_types.declared.call.Call.TheVariants.{Load, Store, Map, Unmap, Protect, Sync, Read, Write, Truncate, Fork, Exit}
use Rattle.seg_ops.specs.flat_model.Flat.{File, Flat, IsFlat}
use Rattle.seg_ops.specs.flat_model.Step.{tails_cleared}
use Rattle.seg_ops.specs.flat_model.Shapes.{without_bytes}
use Rattle.seg_ops.specs.vm_world.CallSteps.{ChangesMemory}
use Rattle.seg_ops.specs.vm_world.FlatMemory.{Memory, flat_memory}
use Rattle.seg_ops.specs.vm_world.MemoryFits.{MemoryFits}
use Rattle.seg_ops.specs.vm_world.Segments.{Spot, Spaces}
use Rattle.seg_ops.specs.vm_world.Serving.{TakesFrames, LosesFrame, AreReplaced, ModifiesOnly}
use Rattle.seg_ops.specs.vm_world.StateSteps.{PendsTails}
use Rattle.seg_ops.specs.vm_world.Wants.{accessed_page, shows_page}
use Rattle.seg_ops.specs.vm_world.TranslationsFit.{MayWriteInPlace}
use Rattle.seg_ops.specs.vm_world.World.{World}
use Rattle.seg_ops.specs.vm_world.WorldSteps.{WorldStep, stays, tails_lost}
use Rattle.seg_ops.proofs.vm_world.Callers.{same-modes}
use Rattle.seg_ops.proofs.vm_world.CallSteps.{call_rule}
use Rattle.seg_ops.proofs.vm_world.FrameRule.{frame_law}
use Rattle.seg_ops.proofs.vm_world.Shapes.{same-respects, tables-shape}
use Rattle.seg_ops.specs.declared.plans.Fault.{Fault}
use Rattle.seg_ops.specs.declared.plans.Fault.TheVariants as fault
use Rattle.seg_ops.specs.vm_world.declared.wants.Wants.{Wants}
use Rattle.seg_ops.specs.vm_world.declared.wants.Wants.TheVariants as wants
use Rattle.seg_ops.specs.vm_world.Words.{KeepsPages}
use Rattle.seg_ops.proofs.OwnShown.{own_shown_law}
use Rattle.seg_ops.proofs.StillSteps.{memory_of}
use Rattle.seg_ops.specs.Faults.{Accesses, FaultMeans, FaultModifies, EndsThere, ServesFault, after_fault, is_past}
use Rattle.seg_ops.specs.SlotsDue.{SlotsAfter}
use Rattle.home_pages.proofs.Takes.{takes-later, takes-next}

-- an access of a page accesses it
pub accessed : (write : Bool) (q : ℕ) (call : Call) → Accesses write q call → accessed_page call ≡ Some q
accessed false q (Load a n) is = ap (λ (k : ℕ). Some k) is
accessed false q (Store a n v) is = absurd is
accessed false q (Map place len prot kind object offset) is = absurd is
accessed false q (Unmap a len) is = absurd is
accessed false q (Protect a len prot) is = absurd is
accessed false q (Sync a len) is = absurd is
accessed false q (Read file offset len) is = absurd is
accessed false q (Write file offset line rest) is = absurd is
accessed false q (Truncate file len) is = absurd is
accessed false q (Fork child) is = absurd is
accessed false q Exit is = absurd is
accessed true q (Load a n) is = absurd is
accessed true q (Store a n v) is = ap (λ (k : ℕ). Some k) is
accessed true q (Map place len prot kind object offset) is = absurd is
accessed true q (Unmap a len) is = absurd is
accessed true q (Protect a len prot) is = absurd is
accessed true q (Sync a len) is = absurd is
accessed true q (Read file offset len) is = absurd is
accessed true q (Write file offset line rest) is = absurd is
accessed true q (Truncate file len) is = absurd is
accessed true q (Fork child) is = absurd is
accessed true q Exit is = absurd is

-- THE SAME CHANGE, said in other words.
pub changes-as : (p : ℕ) (u v : Memory) (f g : Flat → Flat)
    → ((born : set.FinSet nat_cmp) (notes : Notes) → f (flat_memory u born notes) ≡ g (flat_memory u born notes)) → ChangesMemory p u v f → ChangesMemory p u v g
changes-as p u v f g same c = record {
  machine = c.machine;
  others = c.others;
  memory = c.memory;
  notes = c.notes;
  tells = c.tells;
  flat = λ born notes nf tell whole. c.flat born notes nf tell whole ∙ same born notes;
  shaped = λ born notes. c.shaped born notes ∙ ap without_bytes (same born notes);
}

pub no-tails : (F : Flat) → tails_cleared F (λ f. false) ≡ F
no-tails F = ap (λ (fs : List File). record F { files = fs }) (none-cleared F.files)

-- A STEP THAT KEEPS ALL PAGES changes nothing.
pub changes-kept : (p : ℕ) (u v : World) (spaces : Spaces) → MemoryFits (memory_of u spaces) → KeepsPages u v spaces → ChangesMemory p (memory_of u spaces) (memory_of v spaces) (λ F. F)
changes-kept p u v spaces f k = record {
  machine = record { core = k.core; frames = k.frames; slots = ap (λ (c : List ℕ). length c) k.tables.counts; disks = k.tables.disks; modes = same-modes u v k.tables; bays = k.bays };
  others = λ q far. refl;
  memory = k.memory;
  notes = λ notes nf. k.notes notes tt nf;
  tells = λ notes nf. k.tells notes tt nf;
  flat = λ born notes nf tell whole. frame_law.flat u v spaces stays (λ n. false) born notes f k tt nf tell whole ∙ no-tails (flat_memory (memory_of u spaces) born notes);
  shaped = λ born notes. tables-shape u v spaces born notes notes k.tables;
}

-- no tail is lost where the frame that is taken held no page
pub lost-none : (F : Flat) (w : World) → next_name w.store ≡ None → tails_cleared F (tails_lost w (is_name (next_name w.store))) ≡ F
lost-none F w free = ap (λ (o : Option PageName). tails_cleared F (tails_lost w (is_name o))) free ∙ no-tails F

-- flat memory stays well formed over a fault
pub fault-whole : (answer : Result Fault Wants) (write : Bool) (F : Flat) (p q : ℕ) → IsFlat F → IsFlat (after_fault answer write F p q)
fault-whole (Ok fault.Loaded) true F p q flat = own_shown_law.whole F p q flat
fault-whole (Ok fault.Loaded) false F p q flat = flat
fault-whole (Ok fault.Past) write F p q flat = flat
fault-whole (Err (wants.Transfer x)) write F p q flat = flat
fault-whole (Err (wants.Seat h)) write F p q flat = flat

-- A PAGE IS MADE: first steps that keep all pages; then the next frame is freed, the page is made there, and its translation is loaded.
pub serves-made : (old before freed made new : World) (spaces : Spaces) (p q : ℕ) (x : Spot) (write writable : Bool) (pending more frame : ℕ) (f : Flat → Flat)
    → MemoryFits (memory_of old spaces) → KeepsPages old before spaces → before.store.names ≡ old.store.names → before.files ≡ old.files
    → WorldStep before freed spaces stays (is_name (next_name before.store)) → PendsTails before (is_name (next_name before.store)) pending more → IfSome (next_name before.store) (λ (n : PageName). LosesFrame before freed n)
    → ChangesMemory p (memory_of freed spaces) (memory_of made spaces) f
    → ((born : set.FinSet nat_cmp) (notes : Notes) → f (flat_memory (memory_of freed spaces) born notes) ≡ after_fault (Ok fault.Loaded) write (flat_memory (memory_of freed spaces) born notes) p q)
    → KeepsPages made new spaces → translation_at new.hat.places p q ≡ Some (fresh_translation p q frame writable) → (write ≡ true → writable ≡ true) → (MayWriteInPlace new.anon new.maps x → writable ≡ true) → SlotsAfter old new x write (Ok fault.Loaded)
    → IsTrue (shows_page old x) → AreReplaced old new (is_name (next_name before.store)) → ModifiesOnly (FaultModifies new x (Ok fault.Loaded)) old new → ServesFault (memory_of old spaces) (memory_of new spaces) pending more p q x write (Ok fault.Loaded)
serves-made old before freed made new spaces p q x write writable pending more frame f fits keeps names files frees pends took makes same shows loaded lets opens slots some replaced modified = record {
  mid = freed;
  first = takes-later old before freed spaces pending more fits keeps names files (takes-next before freed spaces pending more frees pends took);
  acts = call_rule.joined p (memory_of freed spaces) (memory_of made spaces) (memory_of new spaces) (λ F. after_fault (Ok fault.Loaded) write F p q) (λ F. F)
      (λ born notes nf tell whole. fault-whole (Ok fault.Loaded) write (flat_memory (memory_of freed spaces) born notes) p q whole) same-respects
      (changes-as p (memory_of freed spaces) (memory_of made spaces) f (λ F. after_fault (Ok fault.Loaded) write F p q) same makes)
      (changes-kept p made new spaces makes.memory shows);
  ends = tt;
  slots = slots;
  past = sym (ap not some);
  replaced = replaced;
  modified = modified;
  means = record { lets = record { translation = fresh_translation p q frame writable; loaded = loaded; writable = lets }; opens = opens };
}

-- where nothing follows
ends-there : (answer : Result Fault Wants) (w : World) → EndsThere answer w w
ends-there (Ok fault.Loaded) w = tt
ends-there (Ok fault.Past) w = refl
ends-there (Err (wants.Transfer plan)) w = refl
ends-there (Err (wants.Seat h)) w = refl

-- NOTHING IS MADE: frames may be taken, and flat memory is as it was.
pub serves-kept : (old new : World) (spaces : Spaces) (p q : ℕ) (x : Spot) (write : Bool) (pending more : ℕ) (answer : Result Fault Wants) (first : TakesFrames (memory_of old spaces) new pending more) → AreReplaced old new first.cut → is_past answer ≡ not (shows_page old x)
    → ((born : set.FinSet nat_cmp) (notes : Notes) → flat_memory (memory_of new spaces) born notes ≡ after_fault answer write (flat_memory (memory_of new spaces) born notes) p q)
    → SlotsAfter old new x write answer → ModifiesOnly (FaultModifies new x answer) old new → FaultMeans (memory_of old spaces) (memory_of new spaces) p q x write answer → ServesFault (memory_of old spaces) (memory_of new spaces) pending more p q x write answer
serves-kept old new spaces p q x write pending more answer first replaced past same slots modified means = record {
  mid = new;
  first = first;
  acts = record {
    machine = record { core = refl; frames = refl; slots = refl; disks = refl; modes = refl; bays = refl };
    others = λ r far. refl;
    memory = first.step.memory;
    notes = λ notes nf. nf;
    tells = λ notes nf. ((λ tell. tell), (λ tell. tell));
    flat = λ born notes nf tell whole. same born notes;
    shaped = λ born notes. ap without_bytes (same born notes);
  };
  ends = ends-there answer new;
  slots = slots;
  past = past;
  replaced = replaced;
  modified = modified;
  means = means;
}
