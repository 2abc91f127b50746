-- What faults come to at places of any mapping: where a page is shown where it is, and where zeros are made.
use Rattle.std.proofs.Common.{◌≡◌, ◌≢◌, ℕ, ◌<◌, ◌+◌, Bool, true, false, cond, List, length, Option, Some, None, refl, sym, ap, ◌∙◌, inl, inr, subst, slice_set, Ok, Err, not}
use Rattle.std.specs.Prelude.{IsTrue, IsFalse, ◌||◌, ◌^◌, is_some, nat_lt, option_map, option_and_then}
use Rattle.std.specs.Option.{option_or, option_map_or}
use Rattle.std.specs.FinSet as set
use Rattle.std.specs.Ordering.{nat_cmp}
use Rattle.seg_ops.specs.anon_map.Maps.{places_of, with_places}
use Rattle.seg_ops.specs.anon_map.Maps as maps_of
use Rattle.seg_ops.specs.anon_slots.Slots.{AnonSlotsSeen, count_at}
use Rattle.seg_ops.specs.page_hash.Names.{is_name}
use Rattle.seg_ops.specs.page_hash.declared.PageName.{PageName}
use Rattle.seg_ops.specs.page_store.Notes.{Notes}
use Rattle.seg_ops.specs.page_store.Seen.{residence}
use Rattle.seg_ops.specs.page_store.Steps.{next_frame, next_name}
use Rattle.seg_ops.specs.page_store.declared.residence.Residence.TheVariants.{Home}
use Rattle.seg_ops.specs.page_store.declared.plan.Plan.{Plan}
use Rattle.seg_ops.specs.page_store.declared.plan.Plan.TheVariants as plan
use Rattle.seg_ops.specs.page_store.declared.plan.Hold.TheVariants as hold
use Rattle.seg_ops.specs.hat_layer.Pool.{translation_at, fresh_translation}
use Rattle.seg_ops.specs.vm_types.Prot.{can_read, can_write}
use Rattle.seg_ops.specs.vm_types.declared.call.Call.{Call}
use Rattle.seg_ops.specs.vm_types.declared.call.Call.TheVariants.{Load, Store, Map, Unmap, Protect, Sync, Read, Write, Truncate, Fork, Exit}
use Rattle.seg_ops.specs.vm_types.declared.call.Kind.{Kind}
use Rattle.seg_ops.specs.vm_types.declared.call.Kind.TheVariants.{Shared, Private}
use Rattle.seg_ops.specs.vm_types.declared.call.Object.{Object}
use Rattle.seg_ops.specs.vm_types.declared.call.Object.TheVariants as object
use Rattle.seg_ops.specs.vnode_files.Files.{FilesSeen, vnode_at}
use Rattle.seg_ops.specs.flat_model.Step.{is_bit_set}
use Rattle.seg_ops.specs.flat_model.Words.{page, pages_in}
use Rattle.seg_ops.specs.vm_world.FlatMemory.{Memory, flat_memory}
use Rattle.seg_ops.specs.vm_world.MemoryFits.{MemoryFits}
use Rattle.seg_ops.specs.vm_world.Plans.{CanRunPlan}
use Rattle.seg_ops.specs.vm_world.Segments.{Spot, Spaces, spot_at, own_slot, shown_name, object_name}
use Rattle.seg_ops.specs.vm_world.Serving.{TakesFrames, KeepsWanted, ModifiesNone, AreReplaced, IsWanted}
use Rattle.seg_ops.specs.vm_world.StateSteps.{PendsTails}
use Rattle.seg_ops.specs.vm_world.TranslationsFit.{MayWriteInPlace}
use Rattle.seg_ops.specs.vm_world.Wants.{IsDirtyPage, MakesSlotFor, ShowsPage, WantsHome, accessed_page, object_has, shows_page}
use Rattle.seg_ops.specs.vm_world.World.{World, slot_in, slot_name}
use Rattle.seg_ops.specs.vm_world.WorldSteps.{tails_lost}
use Rattle.seg_ops.proofs.NewlyModified.{only-of, only-same}
use Rattle.seg_ops.proofs.vm_world.FlatWhole.{some-inj}
use Rattle.seg_ops.specs.OwnPages.{with_own_shown}
use Rattle.seg_ops.specs.Plans.{FetchesPage, IsAsked}
use Rattle.seg_ops.specs.declared.plans.Fault.TheVariants as fault
use Rattle.seg_ops.specs.vm_world.declared.wants.Wants.{Wants}
use Rattle.seg_ops.specs.vm_world.declared.wants.Wants.TheVariants as wants
use Rattle.seg_ops.specs.vm_world.Words.{KeepsPages}
use Rattle.seg_ops.specs.Steps.{MayShow}
use Rattle.seg_ops.proofs.Composed.{keeps-same}
use Rattle.seg_ops.proofs.Disks.{home-free}
use Rattle.seg_ops.proofs.SlotOwners.{not-shown}
use Rattle.seg_ops.proofs.SlotPlaces.{own-else, slot-here}
use Rattle.seg_ops.proofs.StillSteps.{memory_of}
use Rattle.seg_vn.specs.FaultPlaces.{PagePlace, ZerosShown}
use Rattle.home_pages.specs.Brings.{BringsPage}
use Rattle.seg_ops.specs.Faults.{Accesses, FaultMeans, ServesFault, WaitsFor, after_fault}
use Rattle.seg_vn.specs.Shown.{ZerosPlace}
use Rattle.seg_ops.specs.SlotsDue.{KeepsSlots}
use Rattle.seg_vn.proofs.ServedFaults.{accessed, serves-kept}
use Rattle.seg_vn.proofs.FaultPlaces.{kept-shared, kept-own, kept-new, private-has}
use Rattle.seg_vn.proofs.Faulted.{access-wants, wanted-name}
use Rattle.seg_vn.proofs.Modifying.{loaded-modifies}
use Rattle.seg_vn.proofs.FilePlaces.{either-allowed}
use Rattle.seg_vn.proofs.SlotsDue.{due-none, slots-kept}
use Rattle.home_pages.proofs.Takes.{or-false, takes-none, takes-then}
use Rattle.home_pages.proofs.Replacements.{none-replaced, replaced-beside, replaced-then}

-- what a place shows, by the maps and the files alone
has-same : (old new : World) (shown : Option ℕ) (i : ℕ) (o : Object) → new.maps ≡ old.maps → new.files ≡ old.files → object_has new shown i o ≡ object_has old shown i o
has-same old new shown i (object.File f) maps files = ap (λ (fs : FilesSeen). nat_lt i (pages_in (vnode_at fs f).info.length)) files
has-same old new shown i (object.Zero z) maps files = ap (λ (ms : List (Option maps_of.Map)). option_map_or (λ number. nat_lt i (length (places_of ms number))) shown false) maps
has-same old new shown i object.NewZero maps files = refl

pub shows-same : (old new : World) (x : Spot) → new.maps ≡ old.maps → new.files ≡ old.files → shows_page new x ≡ shows_page old x
shows-same old new x maps files =
    ap (λ (ms : List (Option maps_of.Map)). is_some (own_slot ms x) || object_has new x.0.shown (x.0.index + x.1) x.0.object) maps
    ∙ ap (λ (b : Bool). is_some (own_slot old.maps x) || b) (has-same old new x.0.shown (x.0.index + x.1) x.0.object maps files)

pub there-still : (old new : World) (spaces : Spaces) (p q : ℕ) (x : Spot) → spot_at spaces p q ≡ Some x → IsTrue (shows_page old x) → new.maps ≡ old.maps → new.files ≡ old.files → ShowsPage (memory_of new spaces) p q x
there-still old new spaces p q x here some maps files = record { here = here; some = shows-same old new x maps files ∙ some }

pub in-place-still : (old new : World) (x : Spot) → new.maps ≡ old.maps → new.anon ≡ old.anon → MayWriteInPlace old.anon old.maps x → MayWriteInPlace new.anon new.maps x
in-place-still old new x maps anon m =
    subst (λ (a : AnonSlotsSeen). MayWriteInPlace a new.maps x) (sym anon) (subst (λ (ms : List (Option maps_of.Map)). MayWriteInPlace old.anon ms x) (sym maps) m)

pub shows-object : (w : World) (x : Spot) → IsTrue (object_has w x.0.shown (x.0.index + x.1) x.0.object) → IsTrue (shows_page w x)
shows-object w x has = ap (λ (b : Bool). is_some (own_slot w.maps x) || b) has ∙ or-true (is_some (own_slot w.maps x))
  where
    or-true : (b : Bool) → (b || true) ≡ true
    or-true true = refl
    or-true false = refl

-- A PAGE THAT IS SHOWN WHERE IT IS.
kept-in-place : (w : World) (spaces : Spaces) (p q : ℕ) (x : Spot) (write writable : Bool) (born : set.FinSet nat_cmp) (notes : Notes) → MemoryFits (memory_of w spaces) → spot_at spaces p q ≡ Some x
    → (write ≡ true → writable ≡ true) → (writable ≡ true → MayWriteInPlace w.anon w.maps x) → flat_memory (memory_of w spaces) born notes ≡ after_fault (Ok fault.Loaded) write (flat_memory (memory_of w spaces) born notes) p q
kept-in-place w spaces p q x false writable born notes fits here lets in_place = refl
kept-in-place w spaces p q x true writable born notes fits here lets in_place = by_kind x.0.kind refl
  where
    by_kind : (k : Kind) → x.0.kind ≡ k → flat_memory (memory_of w spaces) born notes ≡ with_own_shown (flat_memory (memory_of w spaces) born notes) p q
    by_kind Shared kind = sym (kept-shared w spaces p q x fits here born notes kind)
    by_kind Private kind = let a = (in_place (lets refl)).alone kind in sym (kept-own w spaces p q x fits here born notes a.0 a.1)

-- A PAGE THAT IS SHOWN and that isn't home: what it needs, each access of the place wants first.
fetch-wants : (want : Wants) (m : Memory) (name : PageName) → FetchesPage m name want → (calls : List (Option ℕ)) (p : ℕ) (call : Call) → WantsHome m p call name → IsWanted m calls p call want
fetch-wants (wants.Transfer plan) m name f calls p call w = record { may = f.may (p, call) w; ready = f.ready; frame = f.frame }
fetch-wants (wants.Seat h) m name f calls p call w = f calls (p, call) w

pub shown-waits : (old mid : World) (spaces : Spaces) (p q : ℕ) (x : Spot) (write : Bool) (name : PageName) (want : Wants) → ShowsPage (memory_of mid spaces) p q x → shown_name mid.maps x ≡ Some name
    → FetchesPage (memory_of mid spaces) name want → ((frame : ℕ) → residence old.store name ≢ Home frame) → WaitsFor (memory_of old spaces) (memory_of mid spaces) p q write want
shown-waits old mid spaces p q x write name want there shows f apart = record {
  wants = λ calls call acc. fetch-wants want (memory_of mid spaces) name f calls p call (access-wants (memory_of mid spaces) p q x call name (accessed write q call acc) there shows);
  kept = λ call acc other frame wants home. absurd (apart frame (ap (residence old.store) (sym (wanted-name (memory_of mid spaces) p q x call name other (accessed write q call acc) there.here shows wants)) ∙ home));
}

module _ (old mid : World) (spaces : Spaces) (p q : ℕ) (x : Spot) (write writable : Bool) (pending more : ℕ) (name : PageName) (fits : MemoryFits (memory_of old spaces)) (place : PagePlace old spaces p q x name write writable)
    (maps : mid.maps ≡ old.maps) (anon : mid.anon ≡ old.anon) (files : mid.files ≡ old.files) where
  pub may-show : MayShow mid spaces p q name writable
  may-show = record {
    spot = x;
    here = place.here;
    shows = ap (λ (ms : List (Option maps_of.Map)). shown_name ms x) maps ∙ place.shows;
    allowed = place.allowed;
    in_place = λ writes. in-place-still old mid x maps anon (place.in_place writes);
  }

  pub page-loaded : (new : World) (frame : ℕ) → BringsPage (memory_of old spaces) (memory_of mid spaces) pending more name (Ok tt) → KeepsPages mid new spaces → new.store.names ≡ mid.store.names → ModifiesNone mid new → new.maps ≡ mid.maps → new.anon ≡ mid.anon
      → translation_at new.hat.places p q ≡ Some (fresh_translation p q frame writable) → ServesFault (memory_of old spaces) (memory_of new spaces) pending more p q x write (Ok fault.Loaded)
  page-loaded new frame b keeps names modified maps' anon' loaded =
      serves-kept old new spaces p q x write pending more (Ok fault.Loaded) (takes-then old mid new spaces pending more fits b.first keeps names)
      (replaced-beside old new b.first.cut (replaced-then old mid new b.first.cut names b.replaced)) (sym (ap not place.some))
      (λ born notes. kept-in-place new spaces p q x write writable born notes keeps.memory place.here place.lets (λ writes. in-place-still old new x (maps' ∙ maps) (anon' ∙ anon) (place.in_place writes)))
      (slots-kept old new x write (due-none old.anon old.maps x write name place.shows (λ writes. place.in_place (place.lets writes))) (anon' ∙ anon) (maps' ∙ maps))
      (loaded-modifies old mid new x name b.modified modified (ap (λ (ms : List (Option maps_of.Map)). shown_name ms x) (maps' ∙ maps) ∙ place.shows) anon')
      (record {
        lets = record { translation = fresh_translation p q frame writable; loaded = loaded; writable = place.lets };
        opens = λ is. place.opens (in-place-still new old x (sym (maps' ∙ maps)) (sym (anon' ∙ anon)) is);
      })

  shows-there : shown_name mid.maps x ≡ Some name
  shows-there = ap (λ (ms : List (Option maps_of.Map)). shown_name ms x) maps ∙ place.shows

  pub page-waits : (want : Wants) → BringsPage (memory_of old spaces) (memory_of mid spaces) pending more name (Err want) → ServesFault (memory_of old spaces) (memory_of mid spaces) pending more p q x write (Err want)
  page-waits want b =
      serves-kept old mid spaces p q x write pending more (Err want) b.first b.replaced (sym (ap not place.some)) (λ born notes. refl) (record { counts = anon; places = maps }) b.modified
      (shown-waits old mid spaces p q x write name want (there-still old mid spaces p q x place.here place.some maps files) shows-there b.means.0 b.means.1)

-- A FRAME IS WANTED for a page that is made, and none can be had.
asked-wants : (w : World) (spaces : Spaces) (p q : ℕ) (x : Spot) (victim : PageName) (answer : Wants) (calls : List (Option ℕ)) (call : Call) → MemoryFits (memory_of w spaces) → accessed_page call ≡ Some q → ShowsPage (memory_of w spaces) p q x
    → MakesSlotFor w x call → next_frame w.store ≡ None → IsDirtyPage w victim → IsAsked w (plan.Push victim) answer → IsWanted (memory_of w spaces) calls p call answer
asked-wants w spaces p q x victim (wants.Transfer a) calls call f acc there makes none dirty asked = subst (λ (b : Plan). CanRunPlan (memory_of w spaces) (Some (p, call)) b) (sym asked.0) (record {
  may = (dirty, inr (inr (q, x, acc, there, makes), none));
  ready = asked.1;
  frame = λ read. absurd (let z : true ≡ false = read in cc);
})
asked-wants w spaces p q x victim (wants.Seat (hold.Page seat)) calls call f acc there makes none dirty asked = absurd (home-free w spaces victim dirty.frame seat f dirty.home asked)
asked-wants w spaces p q x victim (wants.Seat (hold.Disk seat)) calls call f acc there makes none dirty asked = (plan.Push victim, (dirty, inr (inr (q, x, acc, there, makes), none)), asked)
asked-wants w spaces p q x victim (wants.Seat (hold.File seat)) calls call f acc there makes none dirty asked = absurd asked

pub pushes-made : (old w : World) (spaces : Spaces) (p q : ℕ) (x : Spot) (write : Bool) (victim : PageName) (answer : Wants) → MemoryFits (memory_of w spaces) → ShowsPage (memory_of w spaces) p q x
    → ((call : Call) → Accesses write q call → MakesSlotFor w x call) → ((call : Call) → Accesses write q call → KeepsWanted (memory_of old spaces) (memory_of w spaces) p call)
    → next_frame w.store ≡ None → IsDirtyPage w victim → IsAsked w (plan.Push victim) answer → FaultMeans (memory_of old spaces) (memory_of w spaces) p q x write (Err answer)
pushes-made old w spaces p q x write victim answer f there makes wanted none dirty asked = record {
  wants = λ calls call acc. asked-wants w spaces p q x victim answer calls call f (accessed write q call acc) there (makes call acc) none dirty asked;
  kept = wanted;
}

pub made-asks : (old w : World) (spaces : Spaces) (p q : ℕ) (x : Spot) (write : Bool) (pending more : ℕ) (victim : PageName) (answer : Wants) (first : TakesFrames (memory_of old spaces) w pending more) → AreReplaced old w first.cut → IsTrue (shows_page old x) → KeepsSlots old w → ShowsPage (memory_of w spaces) p q x
    → ((call : Call) → Accesses write q call → MakesSlotFor w x call) → ((call : Call) → Accesses write q call → KeepsWanted (memory_of old spaces) (memory_of w spaces) p call) → ModifiesNone old w
    → next_frame w.store ≡ None → IsDirtyPage w victim → IsAsked w (plan.Push victim) answer → ServesFault (memory_of old spaces) (memory_of w spaces) pending more p q x write (Err answer)
made-asks old w spaces p q x write pending more victim answer first replaced some kept there makes wanted modified none dirty asked =
    serves-kept old w spaces p q x write pending more (Err answer) first replaced (sym (ap not some)) (λ born notes. refl) kept (only-of _ old w modified)
    (pushes-made old w spaces p q x write victim answer first.step.memory there makes wanted none dirty asked)

-- ZEROS: no page is shown, and an access makes one.
pub shown-bare : (maps : List (Option maps_of.Map)) (x : Spot) → own_slot maps x ≡ None → object_name maps x.0.shown (x.0.index + x.1) x.0.object ≡ None → shown_name maps x ≡ None
shown-bare maps x bare none = ap (λ (o : Option ℕ). option_or (option_map slot_name o) (object_name maps x.0.shown (x.0.index + x.1) x.0.object)) bare ∙ none

met-none : (m : Memory) (p q k : ℕ) (x y : Spot) (name : PageName) → k ≡ q → spot_at m.spaces p q ≡ Some x → shown_name m.world.maps x ≡ None → spot_at m.spaces p k ≡ Some y → shown_name m.world.maps y ≡ Some name → ⊥
met-none m p q k x y name same here none there its =
    let e : y ≡ x = some-inj y x (sym there ∙ ap (spot_at m.spaces p) same ∙ here) in
    let z : None ≡ Some name = sym none ∙ ap (shown_name m.world.maps) (sym e) ∙ its in cc

pub wanted-none : (m : Memory) (p q : ℕ) (x : Spot) (call : Call) (name : PageName) → accessed_page call ≡ Some q → spot_at m.spaces p q ≡ Some x → shown_name m.world.maps x ≡ None → WantsHome m p call name → ⊥
wanted-none m p q x (Load a n) name acc here none wants = met-none m p q (page a) x wants.0 name (some-inj (page a) q acc) here none wants.1.here wants.2
wanted-none m p q x (Store a n v) name acc here none wants = met-none m p q (page a) x wants.0 name (some-inj (page a) q acc) here none wants.1.here wants.2
wanted-none m p q x (Map place len prot kind object offset) name acc here none wants = absurd (let z : None ≡ Some q = acc in cc)
wanted-none m p q x (Unmap a len) name acc here none wants = absurd (let z : None ≡ Some q = acc in cc)
wanted-none m p q x (Protect a len prot) name acc here none wants = absurd (let z : None ≡ Some q = acc in cc)
wanted-none m p q x (Sync a len) name acc here none wants = absurd (let z : None ≡ Some q = acc in cc)
wanted-none m p q x (Read file offset len) name acc here none wants = absurd (let z : None ≡ Some q = acc in cc)
wanted-none m p q x (Write file offset line rest) name acc here none wants = absurd (let z : None ≡ Some q = acc in cc)
wanted-none m p q x (Truncate file len) name acc here none wants = absurd (let z : None ≡ Some q = acc in cc)
wanted-none m p q x (Fork child) name acc here none wants = absurd (let z : None ≡ Some q = acc in cc)
wanted-none m p q x Exit name acc here none wants = absurd (let z : None ≡ Some q = acc in cc)

pub makes-zeros : (w : World) (x : Spot) (write : Bool) (q : ℕ) (call : Call) → shown_name w.maps x ≡ None → Accesses write q call → MakesSlotFor w x call
makes-zeros w x false q (Load a n) none acc = none
makes-zeros w x false q (Store a n v) none acc = absurd acc
makes-zeros w x false q (Map place len prot kind object offset) none acc = absurd acc
makes-zeros w x false q (Unmap a len) none acc = absurd acc
makes-zeros w x false q (Protect a len prot) none acc = absurd acc
makes-zeros w x false q (Sync a len) none acc = absurd acc
makes-zeros w x false q (Read file offset len) none acc = absurd acc
makes-zeros w x false q (Write file offset line rest) none acc = absurd acc
makes-zeros w x false q (Truncate file len) none acc = absurd acc
makes-zeros w x false q (Fork child) none acc = absurd acc
makes-zeros w x false q Exit none acc = absurd acc
makes-zeros w x true q (Load a n) none acc = absurd acc
makes-zeros w x true q (Store a n v) none acc = inl none
makes-zeros w x true q (Map place len prot kind object offset) none acc = absurd acc
makes-zeros w x true q (Unmap a len) none acc = absurd acc
makes-zeros w x true q (Protect a len prot) none acc = absurd acc
makes-zeros w x true q (Sync a len) none acc = absurd acc
makes-zeros w x true q (Read file offset len) none acc = absurd acc
makes-zeros w x true q (Write file offset line rest) none acc = absurd acc
makes-zeros w x true q (Truncate file len) none acc = absurd acc
makes-zeros w x true q (Fork child) none acc = absurd acc
makes-zeros w x true q Exit none acc = absurd acc

pub makes-copy : (w : World) (x : Spot) (write : Bool) (q : ℕ) (call : Call) → write ≡ true → x.0.kind ≡ Private → ((slot : ℕ) → own_slot w.maps x ≡ Some slot → count_at w.anon slot ≢ 1) → Accesses write q call → MakesSlotFor w x call
makes-copy w x false q (Load a n) write private apart acc = absurd (let z : false ≡ true = write in cc)
makes-copy w x false q (Store a n v) write private apart acc = absurd acc
makes-copy w x false q (Map place len prot kind object offset) write private apart acc = absurd acc
makes-copy w x false q (Unmap a len) write private apart acc = absurd acc
makes-copy w x false q (Protect a len prot) write private apart acc = absurd acc
makes-copy w x false q (Sync a len) write private apart acc = absurd acc
makes-copy w x false q (Read file offset len) write private apart acc = absurd acc
makes-copy w x false q (Write file offset line rest) write private apart acc = absurd acc
makes-copy w x false q (Truncate file len) write private apart acc = absurd acc
makes-copy w x false q (Fork child) write private apart acc = absurd acc
makes-copy w x false q Exit write private apart acc = absurd acc
makes-copy w x true q (Load a n) write private apart acc = absurd acc
makes-copy w x true q (Store a n v) write private apart acc = inr (private, apart)
makes-copy w x true q (Map place len prot kind object offset) write private apart acc = absurd acc
makes-copy w x true q (Unmap a len) write private apart acc = absurd acc
makes-copy w x true q (Protect a len prot) write private apart acc = absurd acc
makes-copy w x true q (Sync a len) write private apart acc = absurd acc
makes-copy w x true q (Read file offset len) write private apart acc = absurd acc
makes-copy w x true q (Write file offset line rest) write private apart acc = absurd acc
makes-copy w x true q (Truncate file len) write private apart acc = absurd acc
makes-copy w x true q (Fork child) write private apart acc = absurd acc
makes-copy w x true q Exit write private apart acc = absurd acc

-- the tails that are pending, where the second of two frames held no page
pub pends-then : (u v : World) (cut : PageName → Bool) (a b c : ℕ) → PendsTails u cut a b → PendsTails v (is_name (next_name v.store)) b c → next_name v.store ≡ None → v.files ≡ u.files → PendsTails u cut a c
pends-then u v cut a b c first second none files = record {
  bits = λ f lt.
      second.bits f (subst (λ (fs : FilesSeen). f < length fs.files) (sym files) lt)
      ∙ ap (λ (o : Option PageName). is_bit_set b f || tails_lost v (is_name o) f) none
      ∙ or-false (is_bit_set b f) ∙ first.bits f lt;
  below = λ low. subst (λ (fs : FilesSeen). c < 2 ^ length fs.files) files (second.below (subst (λ (fs : FilesSeen). b < 2 ^ length fs.files) (sym files) (first.below low)));
}

-- THE PLACE GETS A SLOT, which is shown there then.
pub own-gets : (maps put : List (Option maps_of.Map)) (x : Spot) (m i s : ℕ) → put ≡ with_places maps m (slice_set (places_of maps m) i (Some s)) → i < length (places_of maps m) → x.0.own ≡ Some m → x.1 ≡ i → own_slot put x ≡ Some s
own-gets maps put x m i s set within own place =
    ap (option_and_then (λ number. slot_in put number x.1)) own
    ∙ ap (λ (k : ℕ). slot_in put m k) place
    ∙ ap (λ (ms : List (Option maps_of.Map)). slot_in ms m i) set
    ∙ slot-here maps m i (Some s) within

pub own-shown : (maps : List (Option maps_of.Map)) (x : Spot) (s : ℕ) → own_slot maps x ≡ Some s → shown_name maps x ≡ Some (slot_name s)
own-shown maps x s own = ap (λ (o : Option ℕ). option_or (option_map slot_name o) (object_name maps x.0.shown (x.0.index + x.1) x.0.object)) own

pub zeros-get : (w : World) (spaces : Spaces) (p q : ℕ) (x : Spot) (m i s : ℕ) (put : List (Option maps_of.Map)) → MemoryFits (memory_of w spaces) → spot_at spaces p q ≡ Some x → own_slot w.maps x ≡ None → ZerosPlace w spaces x m i
    → put ≡ with_places w.maps m (slice_set (places_of w.maps m) i (Some s)) → shown_name put x ≡ Some (slot_name s)
zeros-get w spaces p q x m i s put fits here bare zeros set = elim zeros.new [
  | inl new ↦ own-shown put x s (own-gets w.maps put x m i s set zeros.within new.1 new.2)
  | inr zero ↦
      let other : own_slot put x ≡ None =
      ap (λ (ms : List (Option maps_of.Map)). own_slot ms x) set ∙ own-else w.maps m i x.1 (Some s) x.0.own zeros.within (λ own place. not-shown (memory_of w spaces) p q p q m x x fits here own here zero.0) ∙ bare in
      ap (λ (o : Option ℕ). option_or (option_map slot_name o) (object_name put x.0.shown (x.0.index + x.1) x.0.object)) other
      ∙ ap (object_name put x.0.shown (x.0.index + x.1)) zero.3
      ∙ ap (option_and_then (λ number. option_map slot_name (slot_in put number (x.0.index + x.1)))) zero.0
      ∙ ap (λ (k : ℕ). option_map slot_name (slot_in put m k)) zero.1
      ∙ ap (λ (ms : List (Option maps_of.Map)). option_map slot_name (slot_in ms m i)) set
      ∙ ap (option_map slot_name) (slot-here w.maps m i (Some s) zeros.within)
]

pub zeros-there : (w made : World) (spaces : Spaces) (p q : ℕ) (x : Spot) (m i s : ℕ) (write writable : Bool) → MemoryFits (memory_of w spaces) → ZerosShown w spaces p q x m i write writable
    → made.maps ≡ with_places w.maps m (slice_set (places_of w.maps m) i (Some s)) → shown_name made.maps x ≡ Some (slot_name s)
zeros-there w made spaces p q x m i s write writable fits z set = zeros-get w spaces p q x m i s made.maps fits z.here z.bare z.zeros set

pub zeros-may : (w made : World) (spaces : Spaces) (p q : ℕ) (x : Spot) (m i s : ℕ) (write writable : Bool) → MemoryFits (memory_of w spaces) → ZerosShown w spaces p q x m i write writable
    → made.maps ≡ with_places w.maps m (slice_set (places_of w.maps m) i (Some s)) → count_at made.anon s ≡ 1 → MayShow made spaces p q (slot_name s) writable
zeros-may w made spaces p q x m i s write writable fits z set once = record {
  spot = x;
  here = z.here;
  shows = zeros-there w made spaces p q x m i s write writable fits z set;
  allowed = z.allowed;
  in_place = λ writes. record {
    prot = (z.in_place writes).0;
    alone = λ private. (s, own-of ((z.in_place writes).1 private), once);
  };
}
  where
    own-of : x.0.object ≡ object.NewZero → own_slot made.maps x ≡ Some s
    own-of is = elim z.zeros.new [
      | inl new ↦ own-gets w.maps made.maps x m i s set z.zeros.within new.1 new.2
      | inr zero ↦ absurd (let e : object.NewZero ≡ object.Zero zero.2 = sym is ∙ zero.3 in cc)
    ]

-- which may be written where it is exactly where the place that was made is its own, if it is private
pub zeros-open : (w : World) (spaces : Spaces) (p q : ℕ) (x : Spot) (m i s : ℕ) (write writable : Bool) (anon : AnonSlotsSeen) (maps : List (Option maps_of.Map)) → MemoryFits (memory_of w spaces) → ZerosShown w spaces p q x m i write writable
    → maps ≡ with_places w.maps m (slice_set (places_of w.maps m) i (Some s)) → MayWriteInPlace anon maps x → writable ≡ true
zeros-open w spaces p q x m i s write writable anon maps fits z set may = z.opens (
  may.prot,
  λ private. elim z.zeros.new [
    | inl new ↦ new.0
    | inr zero ↦ absurd (
        let a = may.alone private in
        let apart : x.0.own ≡ Some m → x.1 ≡ i → ⊥ = λ own at. let e : object.Zero zero.2 ≡ object.NewZero = sym zero.3 ∙ z.zeros.zero p q x z.here own at in cc in
        let same : own_slot maps x ≡ None = ap (λ (ms : List (Option maps_of.Map)). own_slot ms x) set ∙ own-else w.maps m i x.1 (Some s) x.0.own z.zeros.within apart ∙ z.bare in
        let none : None ≡ Some a.0 = sym same ∙ a.1 in cc)
  ],
)

-- and flat memory stays, whether the page is shared or new zero memory
pub zeros-kept : (w : World) (spaces : Spaces) (p q : ℕ) (x : Spot) (write writable : Bool) (born : set.FinSet nat_cmp) (notes : Notes) → MemoryFits (memory_of w spaces) → spot_at spaces p q ≡ Some x
    → (write ≡ true → writable ≡ true) → (writable ≡ true → IsTrue (can_write x.0.prot) × (x.0.kind ≡ Private → x.0.object ≡ object.NewZero))
    → flat_memory (memory_of w spaces) born notes ≡ after_fault (Ok fault.Loaded) write (flat_memory (memory_of w spaces) born notes) p q
zeros-kept w spaces p q x false writable born notes fits here lets in_place = refl
zeros-kept w spaces p q x true writable born notes fits here lets in_place = by_kind x.0.kind refl
  where
    by_kind : (k : Kind) → x.0.kind ≡ k → flat_memory (memory_of w spaces) born notes ≡ with_own_shown (flat_memory (memory_of w spaces) born notes) p q
    by_kind Shared kind = sym (kept-shared w spaces p q x fits here born notes kind)
    by_kind Private kind =
        let own = private-has w spaces p q x fits here kind in
        sym (kept-new w spaces p q x fits here born notes own.0 own.1 ((in_place (lets refl)).1 kind))

-- THE PAGE OF AN OBJECT, where it is shown as it is: to a shared place, or to a load.
pub object-place : (w : World) (spaces : Spaces) (p q : ℕ) (x : Spot) (name : PageName) (write writable : Bool) → spot_at spaces p q ≡ Some x → own_slot w.maps x ≡ None → object_name w.maps x.0.shown (x.0.index + x.1) x.0.object ≡ Some name
    → IsTrue (object_has w x.0.shown (x.0.index + x.1) x.0.object) → IsTrue (cond write (can_write x.0.prot) (can_read x.0.prot)) → (writable ≡ true → MayWriteInPlace w.anon w.maps x) → (MayWriteInPlace w.anon w.maps x → writable ≡ true) → (write ≡ true → writable ≡ true)
    → PagePlace w spaces p q x name write writable
object-place w spaces p q x name write writable here bare is has allowed in_place opens lets = record {
  here = here;
  shows = ap (λ (o : Option ℕ). option_or (option_map slot_name o) (object_name w.maps x.0.shown (x.0.index + x.1) x.0.object)) bare ∙ is;
  some = shows-object w x has;
  allowed = either-allowed write (can_read x.0.prot) (can_write x.0.prot) allowed;
  in_place = in_place;
  opens = opens;
  lets = lets;
}

-- a shared place may be written where it is
pub shared-in-place : (w : World) (spaces : Spaces) (p q : ℕ) (x : Spot) → MemoryFits (memory_of w spaces) → spot_at spaces p q ≡ Some x → x.0.own ≡ None → IsTrue (can_write x.0.prot) → MayWriteInPlace w.anon w.maps x
shared-in-place w spaces p q x fits here own writes = record {
  prot = writes;
  alone = λ private. let o = private-has w spaces p q x fits here private in absurd (let z : None ≡ Some o.0 = sym own ∙ o.1 in cc);
}

-- nothing is shown past the object's end
pub past-serves : (w : World) (spaces : Spaces) (p q : ℕ) (x : Spot) (write : Bool) (pending : ℕ) → MemoryFits (memory_of w spaces) → own_slot w.maps x ≡ None → IsFalse (object_has w x.0.shown (x.0.index + x.1) x.0.object)
    → ServesFault (memory_of w spaces) (memory_of w spaces) pending pending p q x write (Ok fault.Past)
past-serves w spaces p q x write pending fits bare past = serves-kept w w spaces p q x write pending pending (Ok fault.Past) (takes-none w w spaces pending (keeps-same w spaces fits)) (none-replaced w w) (sym (ap not (ap (λ (o : Option ℕ). is_some o || object_has w x.0.shown (x.0.index + x.1) x.0.object) bare ∙ past))) (λ born notes. refl) (record { counts = refl; places = refl }) (only-same _ w)
    (ap (λ (o : Option ℕ). is_some o || object_has w x.0.shown (x.0.index + x.1) x.0.object) bare ∙ past)
