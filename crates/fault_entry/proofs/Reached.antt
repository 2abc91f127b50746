-- What an access comes to before its word is moved, case by case.
use Rattle.std.proofs.Common.{◌≡◌, ℕ, ◌%◌, Bool, true, false, cond, List, Option, Some, None, Ok, Err, refl, sym, ap, ◌∙◌, inl, inr, subst}
use Rattle.std.specs.Prelude.{not, ◌||◌}
use Rattle.std.specs.FinSet as set
use Rattle.std.specs.Ordering.{nat_cmp}
use Rattle.seg_vn.specs.hat_layer.declared.translation.Translation.{Translation}
use Rattle.seg_vn.specs.hat_layer.Pool.{IsNoted, frame_let, frame_for, change_at, change_page, after_access, holds, translation_at}
use Rattle.seg_vn.specs.anon_map.Maps.{Map}
use Rattle.seg_vn.specs.anon_slots.Slots.{AnonSlotsSeen}
use Rattle.seg_vn.specs.page_hash.declared.PageName.{PageName}
use Rattle.seg_vn.proofs.page_hash.NameLaws.{find-at}
use Rattle.seg_vn.specs.page_store.Seen.{StoreSeen, residence}
use Rattle.seg_vn.specs.page_store.declared.residence.Residence.TheVariants.{Home}
use Rattle.seg_vn.proofs.page_store.QueryLemmas.{home-is}
use Rattle.seg_vn.specs.vm_world.Wants.{shows_page}
use Rattle.seg_vn.specs.page_store.Notes.{Notes}
use Rattle.seg_vn.specs.vm_types.declared.call.Kind.{Kind}
use Rattle.seg_vn.specs.vm_types.declared.call.Kind.TheVariants.{Shared, Private}
use Rattle.seg_vn.specs.vm_types.declared.call.Signal.{Signal}
use Rattle.seg_vn.specs.vm_types.declared.call.Signal.TheVariants as signal
use Rattle.seg_vn.specs.flat_model.Access.{access_target}
use Rattle.seg_vn.specs.flat_model.Flat.{Flat}
use Rattle.seg_vn.specs.flat_model.Words.{page}
use Rattle.seg_vn.specs.vm_world.CallSteps.{ChangesMemory}
use Rattle.seg_vn.specs.vm_world.FlatMemory.{flat_memory}
use Rattle.seg_vn.specs.vm_world.MemoryFits.{MemoryFits}
use Rattle.seg_vn.specs.vm_world.Segments.{Spot, Spaces, spot_at, shown_name}
use Rattle.seg_vn.specs.vm_world.Serving.{IsUnpushedSlot, ModifiesOnly, ShowsThere}
use Rattle.seg_vn.specs.vm_world.TranslationsFit.{MayWriteInPlace}
use Rattle.seg_vn.specs.vm_world.World.{World}
use Rattle.seg_vn.proofs.vm_world.CallSteps.{call_rule}
use Rattle.seg_vn.proofs.vm_world.FlatWhole.{some-inj}
use Rattle.seg_vn.proofs.vm_world.Shapes.{same-respects}
use Rattle.seg_vn.specs.seg_ops.OwnPages.{with_own_shown}
use Rattle.seg_vn.specs.seg_ops.declared.plans.Fault.TheVariants as fault
use Rattle.seg_vn.specs.vm_world.declared.wants.Wants.{Wants}
use Rattle.seg_vn.specs.vm_world.declared.wants.Wants.TheVariants as wants
use Rattle.seg_vn.specs.vm_world.Words.{KeepsPages}
use Rattle.seg_vn.proofs.seg_ops.Composed.{keeps-same}
use Rattle.seg_vn.proofs.seg_ops.Hits.{noted-hits, noted-home}
use Rattle.seg_vn.proofs.seg_ops.NewlyModified.{only-as, only-then}
use Rattle.seg_vn.proofs.seg_ops.StillSteps.{memory_of}
use Rattle.seg_vn.specs.seg_ops.Faults.{FaultModifies, LetsAccess, ServesFault, after_fault}
use Rattle.seg_vn.specs.seg_ops.SlotsDue.{MakesSlotAt, slot_due}
use Rattle.seg_vn.proofs.ServedFaults.{changes-as, changes-kept, fault-whole}
use Rattle.seg_vn.proofs.FaultPlaces.{kept-own, kept-shared}
use Rattle.seg_vn.proofs.SlotsDue.{due-none, made-still, slots-kept}
use Rattle.seg_vn.proofs.FaultSteps.{in-place-still, shows-same}
use Rattle.seg_vn.proofs.home_pages.Replacements.{none-replaced, replaced-then}
use Rattle.seg_vn.proofs.home_pages.Takes.{takes-none}
use Rattle.fault_entry.specs.Reaching.{may_access, ReachesPage, ReachModifies, ServesAccess, IsSignalDue, after_reach, error_in, step_wanting}
use Rattle.fault_entry.specs.declared.access.AccessStep.TheVariants as access
use Rattle.fault_entry.proofs.Targets.{unaligned, unmapped, refused, past, may-reach, none-due}
use Rattle.fault_entry.proofs.Words.{name, place-shows, place-there, place-writable}

-- an access that the translation lets goes to a frame
lets : (b write : Bool) → (write ≡ true → b ≡ true) → (b || not write) ≡ true
lets true write is = refl
lets false true is = absurd (let z : false ≡ true = is refl in cc)
lets false false is = refl

pub goes-there : (w : World) (p q : ℕ) (write : Bool) (o : Option ℕ) → LetsAccess w p q write → o ≡ frame_for w.hat.places p q write → o ≡ None → ⊥
goes-there w p q write o l is none =
    let there = ap (frame_let write) l.loaded ∙ ap (λ (b : Bool). cond b (Some l.translation.frame) None) (lets l.translation.writable write l.writable) in
    let z : Some l.translation.frame ≡ None = sym there ∙ sym is ∙ none in cc

-- flat memory is as it was where a page that may be written in place is, or is only read
hit-same : (w : World) (spaces : Spaces) (p a n frame : ℕ) (write : Bool) (f : MemoryFits (memory_of w spaces)) (r : ReachesPage (memory_of w spaces) p a n frame write) (born : set.FinSet nat_cmp) (notes : Notes)
    → flat_memory (memory_of w spaces) born notes ≡ after_reach (access.Reached frame) write (flat_memory (memory_of w spaces) born notes) p (page a)
hit-same w spaces p a n frame false f r born notes = refl
hit-same w spaces p a n frame true f r born notes = by_kind r.spot.0.kind refl
  where
    by_kind : (k : Kind) → r.spot.0.kind ≡ k → flat_memory (memory_of w spaces) born notes ≡ with_own_shown (flat_memory (memory_of w spaces) born notes) p (page a)
    by_kind Shared kind = sym (kept-shared w spaces p (page a) r.spot f r.here born notes kind)
    by_kind Private kind = let a' = (place-writable w spaces p a n frame true f r refl).alone kind in sym (kept-own w spaces p (page a) r.spot f r.here born notes a'.0 a'.1)

-- a fault leaves what its access finds
reach-is : (write : Bool) (frame : ℕ) (F : Flat) (p q : ℕ) → after_fault (Ok fault.Loaded) write F p q ≡ after_reach (access.Reached frame) write F p q
reach-is true frame F p q = refl
reach-is false frame F p q = refl

-- AN ACCESS IS NOTED: of a store the page that is shown there may be modified then.
frame-shows : (w : World) (spaces : Spaces) (p q frame : ℕ) (write : Bool) (name : PageName) → MemoryFits (memory_of w spaces) → IsNoted w.hat.places p q frame write → residence w.store name ≡ Home frame → ShowsThere (memory_of w spaces) p q name
frame-shows w spaces p q frame write name f noted home =
    let h = noted-hits w spaces p q frame write f noted in
    let there = find-at w.store.names h.name frame (home-is w.store h.name frame (noted-home w spaces p q frame write f noted)).found in
    let same : h.name ≡ name = let z : Some h.name ≡ Some name = sym there ∙ find-at w.store.names name frame (home-is w.store name frame home).found in cc in
    (h.shows.spot, h.shows.here, h.shows.shows ∙ ap (λ (n : PageName). Some n) same)

noted-only : (w new : World) (spaces : Spaces) (p q frame : ℕ) (write : Bool) → MemoryFits (memory_of new spaces) → new.store ≡ w.store → IsNoted new.hat.places p q frame write → ModifiesOnly (λ name. (write ≡ true) × (residence w.store name ≡ Home frame)) w new
    → ModifiesOnly (ReachModifies (memory_of new spaces) p q write (access.Reached frame)) w new
noted-only w new spaces p q frame write f store noted modified =
    only-as (λ name. (write ≡ true) × (residence w.store name ≡ Home frame)) (ReachModifies (memory_of new spaces) p q write (access.Reached frame)) w new
    (λ name is. (frame-shows new spaces p q frame write name f noted (ap (λ (st : StoreSeen). residence st name) store ∙ is.1), inl is.0)) modified

-- it lets what it did
accessed-right : (p q : ℕ) (write : Bool) (u t : Translation) → change_page p q (after_access write) (Some u) ≡ Some t → t.writable ≡ u.writable
accessed-right p q write u t is = by_place (holds p q (Some u)) is
  where
    by_place : (b : Bool) → cond b (Some (after_access write u)) (Some u) ≡ Some t → t.writable ≡ u.writable
    by_place true e = let same : after_access write u ≡ t = cc in ap (λ (x : Translation). x.writable) (sym same)
    by_place false e = let same : u ≡ t = cc in ap (λ (x : Translation). x.writable) (sym same)

-- NOTHING is done: what is said of a memory that stays.
module _ (w : World) (spaces : Spaces) (pending p a n : ℕ) (write : Bool) (f : MemoryFits (memory_of w spaces)) where
  abbrev same-machine : ChangesMemory p (memory_of w spaces) (memory_of w spaces) (λ F. F)
  same-machine = changes-kept p w w spaces f (keeps-same w spaces f)

  signal-serves : (s : Signal) → ((born : set.FinSet nat_cmp) (notes : Notes) → access_target (flat_memory (memory_of w spaces) born notes) p (may_access write) a n ≡ Err s)
      → ServesAccess (memory_of w spaces) (memory_of w spaces) pending pending p a n write (access.Refused s)
  signal-serves s means = record { mid = w; first = takes-none w w spaces pending (keeps-same w spaces f); acts = same-machine; ends = refl; slots = record { counts = refl; places = refl }; due = λ born notes. ap error_in (means born notes); replaced = none-replaced w w; modified = record { modified = λ m k home is. inr (home, is); rewritten = λ m k home is. inr (home, is) }; hit = tt; means = means }

  pub align-access : ¬ (a % n ≡ 0) → ServesAccess (memory_of w spaces) (memory_of w spaces) pending pending p a n write (access.Refused signal.Align)
  align-access odd = signal-serves signal.Align (λ born notes. unaligned w spaces born notes p a n (may_access write) odd)

  pub unmapped-access : a % n ≡ 0 → spot_at spaces p (page a) ≡ None → ServesAccess (memory_of w spaces) (memory_of w spaces) pending pending p a n write (access.Refused signal.NoMap)
  unmapped-access even none = signal-serves signal.NoMap (λ born notes. unmapped w spaces born notes p a n (may_access write) even none)

  pub refused-access : (x : Spot) → a % n ≡ 0 → spot_at spaces p (page a) ≡ Some x → may_access write x.0.prot ≡ false → ServesAccess (memory_of w spaces) (memory_of w spaces) pending pending p a n write (access.Refused signal.Prot)
  refused-access x even here none = signal-serves signal.Prot (λ born notes. refused w spaces born notes p a n (may_access write) x even here none)

  -- A HIT makes no slot: its page is shown, and written in place.
  pub hit-access : (new : World) (x : Spot) (frame : ℕ) → a % n ≡ 0 → spot_at spaces p (page a) ≡ Some x → may_access write x.0.prot ≡ true → KeepsPages w new spaces → new ≡ record w { hat = new.hat }
      → new.hat.places ≡ change_at p (page a) (after_access write) w.hat.places → IsNoted new.hat.places p (page a) frame write → ModifiesOnly (λ name. (write ≡ true) × (residence w.store name ≡ Home frame)) w new → frame_for w.hat.places p (page a) write ≡ Some frame
      → ServesAccess (memory_of w spaces) (memory_of new spaces) pending pending p a n write (access.Reached frame)
  hit-access new x frame even here allowed keeps only places noted modified found =
      let anon = ap (λ (v : World). v.anon) only in
      let maps = ap (λ (v : World). v.maps) only in
      let r : ReachesPage (memory_of new spaces) p a n frame write = record { aligned = even; spot = x; here = here; allowed = allowed; noted = noted } in
      let due : slot_due new.anon new.maps x write ≡ None =
      due-none new.anon new.maps x write (name new spaces p a n frame write keeps.memory r) (place-shows new spaces p a n frame write keeps.memory r) (λ is. place-writable new spaces p a n frame write keeps.memory r is) in
      let moved : slot_due new.anon new.maps x write ≡ slot_due w.anon w.maps x write = λ i. slot_due (anon i) (maps i) x write in
      let still : slot_due w.anon w.maps x write ≡ None = sym moved ∙ due in
      record {
        mid = new;
        first = takes-none w new spaces pending keeps;
        acts = changes-as p (memory_of new spaces) (memory_of new spaces) (λ F. F) (λ F. after_reach (access.Reached frame) write F p (page a))
            (λ born notes. hit-same new spaces p a n frame write keeps.memory r born notes)
            (changes-kept p new new spaces keeps.memory (keeps-same new spaces keeps.memory));
        ends = tt;
        slots = λ y there. slots-kept w new y write (subst (λ (z : Spot). slot_due w.anon w.maps z write ≡ None) (some-inj x y (sym here ∙ there)) still) anon maps;
        due = λ born notes. none-due w spaces born notes p a n (may_access write) x even f here allowed
            (sym (shows-same w new x maps (ap (λ (v : World). v.files) only)) ∙ place-there new spaces p a n frame write keeps.memory r);
        replaced = none-replaced w new;
        modified = noted-only w new spaces p (page a) frame write keeps.memory (ap (λ (v : World). v.store) only) noted modified;
        hit = record {
          hit = λ lets_it. record {
            store = ap (λ (v : World). v.store) only ∙ ap (λ (fs : List (Option (List ℕ))). record w.store { frames = fs }) (sym (ap (λ (v : World). v.store.frames) only));
            places = places;
            rest = only ∙ ap (λ (st : StoreSeen). record w { store = st; hat = new.hat }) (sym (ap (λ (v : World). v.store) only));
          };
          opens = λ none y t at there may. absurd (let z : None ≡ Some frame = sym (ap (frame_let write) none) ∙ found in cc);
        };
        means = r;
      }

-- A FAULT, by what it comes to.
module _ (old new : World) (spaces : Spaces) (pending more p a n : ℕ) (write : Bool) (x : Spot) (even : a % n ≡ 0) (here : spot_at spaces p (page a) ≡ Some x) (allowed : may_access write x.0.prot ≡ true)
    (fits : MemoryFits (memory_of old spaces)) where
  there-is : (b : Bool) → false ≡ not b → b ≡ true
  there-is true is = refl
  there-is false is = absurd (let z : false ≡ true = is in cc)

  is-past : (b : Bool) → true ≡ not b → b ≡ false
  is-past true is = absurd (let z : true ≡ false = is in cc)
  is-past false is = refl

  abbrev goes : World → ℕ → PageName → Type 0
  goes v frame = ReachModifies (memory_of v spaces) p (page a) write (access.Reached frame)

  loaded-goes : (mid v : World) (frame : ℕ) → v.maps ≡ mid.maps → v.anon ≡ mid.anon → (name : PageName) → FaultModifies mid x (Ok fault.Loaded) name → goes v frame name
  loaded-goes mid v frame maps anon name is =
      ((x, here, ap (λ (ms : List (Option Map)). shown_name ms x) maps ∙ is.0), inr (subst (λ (s : AnonSlotsSeen). IsUnpushedSlot s name) (sym anon) is.1))

  not-due : false ≡ not (shows_page old x) → IsSignalDue (memory_of old spaces) p a n write None
  not-due past born notes = none-due old spaces born notes p a n (may_access write) x even fits here allowed (there-is (shows_page old x) past)

  pub loaded-access : (mid : World) (frame : ℕ) → ServesFault (memory_of old spaces) (memory_of mid spaces) pending more p (page a) x write (Ok fault.Loaded) → KeepsPages mid new spaces
      → new.anon ≡ mid.anon → new.maps ≡ mid.maps → new.store ≡ mid.store → ModifiesOnly (λ name. (write ≡ true) × (residence mid.store name ≡ Home frame)) mid new → (LetsAccess old p (page a) write → ⊥) → IsNoted new.hat.places p (page a) frame write
      → translation_at new.hat.places p (page a) ≡ change_page p (page a) (after_access write) (translation_at mid.hat.places p (page a))
      → ServesAccess (memory_of old spaces) (memory_of new spaces) pending more p a n write (access.Reached frame)
  loaded-access mid frame s keeps anon maps store modified miss noted changed = record {
    mid = s.mid;
    first = s.first;
    acts = changes-as p (memory_of s.mid spaces) (memory_of new spaces) (λ F. after_fault (Ok fault.Loaded) write F p (page a)) (λ F. after_reach (access.Reached frame) write F p (page a))
        (λ born notes. reach-is write frame (flat_memory (memory_of s.mid spaces) born notes) p (page a))
        (call_rule.joined p (memory_of s.mid spaces) (memory_of mid spaces) (memory_of new spaces) (λ F. after_fault (Ok fault.Loaded) write F p (page a)) (λ F. F)
        (λ born notes nf tell whole. fault-whole (Ok fault.Loaded) write (flat_memory (memory_of s.mid spaces) born notes) p (page a) whole) same-respects s.acts (changes-kept p mid new spaces s.acts.memory keeps));
    ends = tt;
    slots = λ y there. subst (λ (z : Spot). MakesSlotAt old new (slot_due old.anon old.maps z write)) (some-inj x y (sym here ∙ there)) (made-still old mid new (slot_due old.anon old.maps x write) anon maps s.slots);
    due = not-due s.past;
    replaced = replaced-then old mid new s.first.cut (ap (λ (st : StoreSeen). st.names) store) s.replaced;
    modified = only-then (FaultModifies mid x (Ok fault.Loaded)) (goes new frame) (goes new frame) old mid new (loaded-goes mid new frame maps anon) (λ name is. is) s.modified
        (noted-only mid new spaces p (page a) frame write keeps.memory store noted modified);
    hit = record {
      hit = λ lets_it. absurd (miss lets_it);
      opens = λ none y t at there may.
          let same = some-inj x y (sym here ∙ at) in
          let was = s.means.opens (in-place-still new mid x (sym maps) (sym anon) (subst (λ (z : Spot). MayWriteInPlace new.anon new.maps z) (sym same) may)) in
          accessed-right p (page a) write s.means.lets.translation t (ap (change_page p (page a) (after_access write)) (sym s.means.lets.loaded) ∙ sym changed ∙ there) ∙ was;
    };
    means = record { aligned = even; spot = x; here = here; allowed = allowed; noted = noted };
  }

  pub past-access : ServesFault (memory_of old spaces) (memory_of new spaces) pending more p (page a) x write (Ok fault.Past) → ServesAccess (memory_of old spaces) (memory_of new spaces) pending more p a n write (access.Refused signal.Past)
  past-access s = record {
    mid = s.mid;
    first = s.first;
    acts = s.acts;
    ends = s.ends;
    slots = s.slots;
    due = λ born notes. ap error_in (past old spaces born notes p a n (may_access write) x even fits here allowed (is-past (shows_page old x) s.past));
    replaced = s.replaced;
    modified = s.modified;
    hit = tt;
    means = λ born notes. past new spaces born notes p a n (may_access write) x even s.acts.memory here allowed s.means;
  }

  pub wants-access : (want : Wants) → ServesFault (memory_of old spaces) (memory_of new spaces) pending more p (page a) x write (Err want) → ServesAccess (memory_of old spaces) (memory_of new spaces) pending more p a n write (step_wanting want)
  wants-access (wants.Transfer plan) s = record {
    mid = s.mid;
    first = s.first;
    acts = s.acts;
    ends = s.ends;
    slots = s.slots;
    due = not-due s.past;
    replaced = s.replaced;
    modified = s.modified;
    hit = tt;
    means = (s.means, λ born notes. may-reach new spaces born notes p a n (may_access write) x even here allowed);
  }
  wants-access (wants.Seat h) s = record {
    mid = s.mid;
    first = s.first;
    acts = s.acts;
    ends = s.ends;
    slots = s.slots;
    due = not-due s.past;
    replaced = s.replaced;
    modified = s.modified;
    hit = tt;
    means = (s.means, λ born notes. may-reach new spaces born notes p a n (may_access write) x even here allowed);
  }
