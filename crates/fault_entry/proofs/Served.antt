-- What is answered to a load or a store, by what it reaches.
use Rattle.std.proofs.Common.{◌≡◌, ◌≢◌, ℕ, ◌%◌, Bool, true, false, List, Option, Some, None, Result, Ok, Err, refl, sym, ap, ◌∙◌, inl, inr, option_map}
use Rattle.std.specs.FinSet as set
use Rattle.std.specs.Ordering.{nat_cmp}
use Rattle.std.proofs.lemmas.Bool.{eq-eqb}
use Rattle.seg_vn.specs.anon_map.Maps.{Map}
use Rattle.seg_vn.specs.hat_layer.declared.translation.Translation.{Translation}
use Rattle.seg_vn.specs.hat_layer.Pool.{HatSeen, translation_at}
use Rattle.seg_vn.specs.page_store.Notes.{Notes}
use Rattle.seg_vn.specs.page_store.declared.plan.Plan.{Plan}
use Rattle.seg_vn.specs.page_store.declared.plan.Hold.{Hold}
use Rattle.seg_vn.specs.vm_types.declared.call.Call.{Call}
use Rattle.seg_vn.specs.vm_types.declared.call.Call.TheVariants as call
use Rattle.seg_vn.specs.vm_types.declared.call.Entry.{Entry}
use Rattle.seg_vn.specs.vm_types.declared.call.Reply.{Reply}
use Rattle.seg_vn.specs.vm_types.declared.call.Reply.TheVariants as reply
use Rattle.seg_vn.specs.vm_types.declared.call.Signal.{Signal}
use Rattle.seg_vn.specs.vm_types.Parts.{file_of_call}
use Rattle.seg_vn.specs.vm_types.Prot.{can_read, can_write}
use Rattle.seg_vn.specs.flat_model.Access.{access_target, load, store, with_page_stored}
use Rattle.seg_vn.specs.flat_model.Flat.{Cell, Flat, IsFlat}
use Rattle.seg_vn.specs.flat_model.Refusals.{or_signal, done_effect}
use Rattle.seg_vn.specs.flat_model.Words.{Page, page, word_at, word_put}
use Rattle.seg_vn.specs.vm_world.CallSteps.{ActsOnPages}
use Rattle.seg_vn.specs.vm_world.FlatMemory.{Memory, cell_of, flat_memory}
use Rattle.seg_vn.specs.vm_world.MemoryFits.{MemoryFits}
use Rattle.seg_vn.specs.vm_world.Pages.{contents_of}
use Rattle.seg_vn.specs.vm_world.Plans.{MayMeetFault, IsRefusal, refusal_in}
use Rattle.seg_vn.specs.vm_world.Segments.{Spaces, shown_name}
use Rattle.seg_vn.specs.vm_world.Serving.{MayModify, ModifiesNone, ModifiesOnly, ServesDone}
use Rattle.seg_vn.specs.vm_world.World.{World}
use Rattle.seg_vn.proofs.vm_world.CallSteps.{call_rule}
use Rattle.seg_vn.specs.seg_ops.Steps.{ReadsWord, WritesWord}
use Rattle.seg_vn.proofs.seg_ops.Hits.{hits}
use Rattle.seg_vn.proofs.seg_ops.NewlyModified.{none-of, only-as, then-none}
use Rattle.seg_vn.proofs.seg_ops.OwnShown.{own_shown_law}
use Rattle.seg_vn.proofs.seg_ops.StillSteps.{memory_of}
use Rattle.seg_vn.specs.declared.attempt.Attempt.TheVariants as attempt
use Rattle.seg_vn.specs.seg_ops.Faults.{Accesses}
use Rattle.seg_vn.specs.seg_ops.SlotsDue.{slot_due}
use Rattle.seg_vn.proofs.FaultSteps.{in-place-still}
use Rattle.seg_vn.proofs.home_pages.Replacements.{replaced-then}
use Rattle.seg_vn.proofs.SlotsDue.{made-still}
use Rattle.seg_vn.proofs.home_pages.Takes.{takes-there}
use Rattle.seg_vn.specs.page_store.Seen.{StoreSeen}
use Rattle.fault_entry.specs.Accesses.{IsShown, IsHit, ServesWord}
use Rattle.fault_entry.specs.Reaching.{ReachModifies, ServesAccess, IsSignalDue, after_reach, error_in}
use Rattle.fault_entry.specs.declared.access.AccessStep.{AccessStep}
use Rattle.fault_entry.specs.declared.access.AccessStep.TheVariants as access
use Rattle.fault_entry.proofs.Joined.{DoesSame, acts-after, store-same}
use Rattle.fault_entry.proofs.Targets.{there}
use Rattle.fault_entry.proofs.Words.{load-signals, store-signals, load-acts, store-acts}

-- what the change before it was leaves flat memory well formed
reach-whole : (answer : AccessStep) (write : Bool) (F : Flat) (p q : ℕ) → IsFlat F → IsFlat (after_reach answer write F p q)
reach-whole (access.Reached frame) true F p q flat = own_shown_law.whole F p q flat
reach-whole (access.Reached frame) false F p q flat = flat
reach-whole (access.Refused s) write F p q flat = flat
reach-whole (access.Need plan) write F p q flat = flat
reach-whole (access.Busy h) write F p q flat = flat

-- THE REFUSAL of a load and of a store is the signal that is due.
load-due : (F : Flat) (p a n : ℕ) → refusal_in (load F p a n).reply ≡ option_map reply.Signal (error_in (access_target F p can_read a n))
load-due F p a n = by_target (access_target F p can_read a n)
  where
    by_target : (o : Result (Cell × Page) Signal) → refusal_in (or_signal F (λ m. record { reply = reply.Word (word_at m.1 a n); after = F }) o).reply ≡ option_map reply.Signal (error_in o)
    by_target (Ok m) = refl
    by_target (Err s) = refl

store-due : (F : Flat) (p a n v : ℕ) → refusal_in (store F p a n v).reply ≡ option_map reply.Signal (error_in (access_target F p can_write a n))
store-due F p a n v = by_target (access_target F p can_write a n)
  where
    by_target : (o : Result (Cell × Page) Signal) → refusal_in (or_signal F (λ m. done_effect (with_page_stored F p (page a) m.0 (word_put m.1 a n v))) o).reply ≡ option_map reply.Signal (error_in o)
    by_target (Ok m) = refl
    by_target (Err s) = refl

pub load-refusal : (m : Memory) (p a n : ℕ) (s : Option Signal) → IsSignalDue m p a n false s → IsRefusal m p (call.Load a n) (option_map reply.Signal s)
load-refusal m p a n s due born notes = load-due (flat_memory m born notes) p a n ∙ ap (option_map reply.Signal) (due born notes)

pub store-refusal : (m : Memory) (p a n v : ℕ) (s : Option Signal) → IsSignalDue m p a n true s → IsRefusal m p (call.Store a n v) (option_map reply.Signal s)
store-refusal m p a n v s due born notes = store-due (flat_memory m born notes) p a n v ∙ ap (option_map reply.Signal) (due born notes)

-- frames are taken, a page may be made, and then pages change
done-serves : (old new : World) (made : World) (spaces : Spaces) (pending more p a n : ℕ) (write : Bool) (answer : AccessStep) (c : Call) (r : Reply) → (s : ServesAccess (memory_of old spaces) (memory_of made spaces) pending more p a n write answer)
    → ((cleared : ℕ) (born : set.FinSet nat_cmp) (notes : Notes) → DoesSame (λ F. after_reach answer write F p (page a)) (record { process = p; call = c; reply = r; cleared = cleared }) (flat_memory (memory_of s.mid spaces) born notes))
    → ((cleared : ℕ) → ActsOnPages made new spaces (record { process = p; call = c; reply = r; cleared = cleared })) → new.store.names ≡ made.store.names → IsRefusal (memory_of old spaces) p c (refusal_in r) → ModifiesOnly (MayModify (memory_of old spaces) (memory_of new spaces) p c r) old new → ((from : ℕ) → r ≢ reply.Synced from)
    → ServesDone (memory_of old spaces) (memory_of new spaces) pending more p c r
done-serves old new made spaces pending more p a n write answer c r s same acts names refusal modified plain = record {
  mid = s.mid;
  first = s.first;
  acts = λ cleared.
      let e : Entry = record { process = p; call = c; reply = r; cleared = cleared } in
      acts-after (memory_of s.mid spaces) (memory_of made spaces) (memory_of new spaces) e (λ F. after_reach answer write F p (page a))
      (λ born notes nf tell whole. reach-whole answer write (flat_memory (memory_of s.mid spaces) born notes) p (page a) whole) (same cleared) s.acts
      (call_rule.pages made new spaces e (acts cleared));
  replaced = replaced-then old made new s.first.cut names s.replaced;
  refusal = refusal;
  modified = modified;
  clean = λ from name is wants. absurd (plain from is);
}

-- an access is of no file
no-file : (write : Bool) (q : ℕ) (c : Call) → Accesses write q c → (f : ℕ) → file_of_call c ≡ Some f → ⊥
no-file false q (call.Load a n) at f is = let z : ◌≡◌ {A = Option ℕ} None (Some f) = is in cc
no-file true q (call.Store a n v) at f is = let z : ◌≡◌ {A = Option ℕ} None (Some f) = is in cc
no-file write q c at f is = absurd at

-- A TRANSLATION leads to the page that its place shows.
shown-there : (w : World) (spaces : Spaces) (p q : ℕ) (t : Translation) → MemoryFits (memory_of w spaces) → translation_at w.hat.places p q ≡ Some t → IsShown (memory_of w spaces) p q
shown-there w spaces p q t f there =
    let h = hits w spaces p q t f there in
    record { translation = t; loaded = there; spot = h.shows.spot; here = h.shows.here; name = h.name; shows = h.shows.shows; home = h.home }

-- A hit, and then bytes of frames change.
hit-then : (old mid new : World) (p q : ℕ) (write : Bool) → new.store ≡ record mid.store { frames = new.store.frames } → new.hat ≡ mid.hat → new ≡ record mid { store = new.store } → IsHit old mid p q write → IsHit old new p q write
hit-then old mid new p q write store hat only h = record {
  store = store ∙ ap (λ (st : StoreSeen). record st { frames = new.store.frames }) h.store;
  places = ap (λ (x : HatSeen). x.places) hat ∙ h.places;
  rest = only ∙ ap (λ (w : World). record w { store = new.store }) h.rest ∙ ap (λ (x : HatSeen). record old { store = new.store; hat = x }) (sym hat);
}

-- A WORD is put.
pub store-reached : (old mid new : World) (spaces : Spaces) (pending more p a n frame v : ℕ) → ServesAccess (memory_of old spaces) (memory_of mid spaces) pending more p a n true (access.Reached frame) → WritesWord mid new spaces p a n v → new.hat ≡ mid.hat
    → new.anon ≡ mid.anon → new.maps ≡ mid.maps → new.store ≡ record mid.store { frames = new.store.frames } → ModifiesNone mid new → new ≡ record mid { store = new.store } → ServesWord (memory_of old spaces) (memory_of new spaces) pending more p (page a) (call.Store a n v) (attempt.Done reply.Done)
store-reached old mid new spaces pending more p a n frame v s writes hat anon maps store modified only = record {
  serves = λ calls. done-serves old new mid spaces pending more p a n true (access.Reached frame) (call.Store a n v) reply.Done s
      (λ cleared born notes. store-same (flat_memory (memory_of s.mid spaces) born notes) p a n v cleared (cell_of (contents_of s.mid notes).place s.means.spot) (eq-eqb (a % n) 0 s.means.aligned)
      (there s.mid spaces born notes p a n can_write s.means.spot s.means.here) s.means.allowed)
      (λ cleared. store-acts mid new spaces p a n frame v cleared s.acts.memory s.means writes) (ap (λ (st : StoreSeen). st.names) store) (store-refusal (memory_of old spaces) p a n v None s.due)
      (then-none (MayModify (memory_of old spaces) (memory_of new spaces) p (call.Store a n v) reply.Done) old mid new (only-as (ReachModifies (memory_of mid spaces) p (page a) true (access.Reached frame)) (MayModify (memory_of old spaces) (memory_of new spaces) p (call.Store a n v) reply.Done) old mid
      (λ name is. (is.0.0, is.0.1, ap (λ (ms : List (Option Map)). shown_name ms is.0.0) maps ∙ is.0.2)) s.modified) modified) (λ from is. let z : reply.Done ≡ reply.Synced from = is in cc);
  due = tt;
  shown = shown-there new spaces p (page a) s.means.noted.entry writes.2.memory (ap (λ (h : HatSeen). translation_at h.places p (page a)) hat ∙ s.means.noted.there);
  slots = λ x here. made-still old mid new (slot_due old.anon old.maps x true) anon maps (s.slots x here);
  hit = record {
    hit = λ lets. hit-then old mid new p (page a) true store hat only (s.hit.hit lets);
    opens = λ none x t here at may. s.hit.opens none x t here (ap (λ (h : HatSeen). translation_at h.places p (page a)) (sym hat) ∙ at) (in-place-still new mid x (sym maps) (sym anon) may);
  };
}

module _ (old new : World) (spaces : Spaces) (pending more p a n : ℕ) where
  -- A WORD is read.
  pub load-reached : (frame word : ℕ) → ServesAccess (memory_of old spaces) (memory_of new spaces) pending more p a n false (access.Reached frame) → ReadsWord new spaces p a n word
      → ServesWord (memory_of old spaces) (memory_of new spaces) pending more p (page a) (call.Load a n) (attempt.Done (reply.Word word))
  load-reached frame word s reads =
      let f = s.acts.memory in
      record {
        serves = λ calls. done-serves old new new spaces pending more p a n false (access.Reached frame) (call.Load a n) (reply.Word word) s (λ cleared born notes. record { due = λ due. due; after = refl }) (λ cleared. load-acts new spaces p a n frame word cleared f s.means reads) refl (load-refusal (memory_of old spaces) p a n None s.due)
            (only-as (ReachModifies (memory_of new spaces) p (page a) false (access.Reached frame)) (MayModify (memory_of old spaces) (memory_of new spaces) p (call.Load a n) (reply.Word word)) old new
            (λ name is. (is.0, elim is.1 [ inl stored ↦ absurd (let z : false ≡ true = stored in cc) | inr unpushed ↦ unpushed ])) s.modified) (λ from is. let z : reply.Word word ≡ reply.Synced from = is in cc);
        due = tt;
        shown = shown-there new spaces p (page a) s.means.noted.entry f s.means.noted.there;
        slots = s.slots;
        hit = s.hit;
      }

  -- A SIGNAL is due.
  pub load-refused : (s : Signal) → ServesAccess (memory_of old spaces) (memory_of new spaces) pending more p a n false (access.Refused s)
      → ServesWord (memory_of old spaces) (memory_of new spaces) pending more p (page a) (call.Load a n) (attempt.Done (reply.Signal s))
  load-refused s r = record {
    serves = λ calls. done-serves old new new spaces pending more p a n false (access.Refused s) (call.Load a n) (reply.Signal s) r (λ cleared born notes. record { due = λ due. due; after = refl }) (λ cleared. load-signals new spaces p a n cleared s r.acts.memory r.means) refl (load-refusal (memory_of old spaces) p a n (Some s) r.due) r.modified (λ from is. let z : reply.Signal s ≡ reply.Synced from = is in cc);
    due = tt;
    shown = tt;
    slots = r.slots;
    hit = tt;
  }

  pub store-refused : (v : ℕ) (s : Signal) → ServesAccess (memory_of old spaces) (memory_of new spaces) pending more p a n true (access.Refused s)
      → ServesWord (memory_of old spaces) (memory_of new spaces) pending more p (page a) (call.Store a n v) (attempt.Done (reply.Signal s))
  store-refused v s r = record {
    serves = λ calls. done-serves old new new spaces pending more p a n true (access.Refused s) (call.Store a n v) (reply.Signal s) r (λ cleared born notes. record { due = λ due. due; after = refl }) (λ cleared. store-signals new spaces p a n v cleared s r.acts.memory r.means) refl (store-refusal (memory_of old spaces) p a n v (Some s) r.due) r.modified (λ from is. let z : reply.Signal s ≡ reply.Synced from = is in cc);
    due = tt;
    shown = tt;
    slots = r.slots;
    hit = tt;
  }

  -- IT WAITS.
  pub access-needs : (write : Bool) (c : Call) (plan : Plan) → Accesses write (page a) c → (IsSignalDue (memory_of old spaces) p a n write None → IsRefusal (memory_of old spaces) p c None) → ServesAccess (memory_of old spaces) (memory_of new spaces) pending more p a n write (access.Need plan) → MayMeetFault (memory_of new spaces) p c
      → ServesWord (memory_of old spaces) (memory_of new spaces) pending more p (page a) c (attempt.Need plan)
  access-needs write c plan at refusal s fault =
      let needs = s.means.0 in
      record {
        serves = λ calls. record { first = takes-there (memory_of old spaces) s.mid new pending more s.ends s.first; replaced = s.replaced; spaces = refl; runs = needs.wants calls c at; fault = fault; refusal = refusal s.due; wanted = needs.kept c at; files = λ f is. absurd (no-file write (page a) c at f is); modified = none-of (λ name. ⊥) old new (λ name never. never) s.modified };
        due = fault;
        shown = tt;
        slots = s.slots;
        hit = tt;
      }

  pub access-busy : (write : Bool) (c : Call) (h : Hold) → Accesses write (page a) c → (IsSignalDue (memory_of old spaces) p a n write None → IsRefusal (memory_of old spaces) p c None) → ServesAccess (memory_of old spaces) (memory_of new spaces) pending more p a n write (access.Busy h) → MayMeetFault (memory_of new spaces) p c
      → ServesWord (memory_of old spaces) (memory_of new spaces) pending more p (page a) c (attempt.Busy h)
  access-busy write c h at refusal s fault = record {
    serves = λ calls. record { first = takes-there (memory_of old spaces) s.mid new pending more s.ends s.first; replaced = s.replaced; spaces = refl; holds = s.means.0.wants calls c at; refusal = λ no_file. refusal s.due; modified = none-of (λ name. ⊥) old new (λ name never. never) s.modified };
    due = fault;
    shown = tt;
    slots = s.slots;
    hit = tt;
  }
