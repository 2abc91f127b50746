-- Stores to private pages that aren't their cell's alone, by the steps that they take.
use Rattle.std.proofs.Common.{◌≡◌, ℕ, ◌<◌, ◌+◌, Bool, true, false, List, length, Option, Some, None, refl, sym, ap, ◌∙◌, inl, subst, arith, slice_set, Ok, Err, not, inr}
use Rattle.std.specs.Prelude.{IsTrue, IfSome, MatchOption, ◌||◌, is_some, nat_lt, option_map, option_and_then, unwrap_or}
use Rattle.std.specs.Option.{option_or, option_map_or}
use Rattle.std.specs.FinSet as set
use Rattle.std.specs.Ordering.{nat_cmp}
use Rattle.std.proofs.lemmas.Bool.{ltb-true}
use Rattle.seg_ops.specs.core_arena.Bytes.{bytes_at, zeros}
use Rattle.seg_ops.specs.anon_map.Maps.{Map, places_of, with_places}
use Rattle.seg_ops.specs.anon_slots.Slots.{AnonSlotsSeen, count_at}
use Rattle.seg_ops.specs.page_hash.Names.{find, is_name}
use Rattle.seg_ops.specs.page_hash.declared.PageName.{PageName}
use Rattle.seg_ops.specs.page_store.Notes.{Notes}
use Rattle.seg_ops.specs.page_store.Seen.{StoreSeen, IsListedFrame, residence}
use Rattle.seg_ops.specs.page_store.Steps.{next_frame, next_name, after_abort, at_frame, with_page_given_up, without_snapshot}
use Rattle.seg_ops.specs.page_store.declared.residence.Residence.TheVariants.{Home, Moving, Absent}
use Rattle.seg_ops.specs.page_store.declared.plan.Hold.TheVariants as hold
use Rattle.seg_ops.proofs.NewlyModified.{only-of, only-same}
use Rattle.seg_ops.proofs.page_store.QueryLemmas.{absent-is}
use Rattle.seg_ops.specs.hat_layer.Pool.{HatSeen, translation_at, fresh_translation}
use Rattle.seg_ops.specs.hat_layer.declared.translation.Dropped.{Dropped}
use Rattle.seg_ops.specs.vm_types.declared.call.Call.{Call}
use Rattle.seg_ops.specs.vm_types.Prot.{can_read}
use Rattle.seg_ops.specs.vm_types.declared.call.Object.{Object}
use Rattle.seg_ops.specs.vm_types.declared.call.Object.TheVariants as object
use Rattle.seg_ops.specs.vnode_files.Files.{FilesSeen, vnode_at}
use Rattle.seg_ops.specs.flat_model.Flat.{Cell, Flat, shown}
use Rattle.seg_ops.specs.flat_model.Words.{Page, zero_page, pages_in}
use Rattle.seg_ops.specs.vm_world.CallSteps.{ChangesMemory}
use Rattle.seg_ops.specs.vm_world.FlatMemory.{cell_of, flat_memory, own_without_slot}
use Rattle.seg_ops.specs.vm_world.MemoryFits.{MemoryFits}
use Rattle.seg_ops.specs.vm_world.Pages.{page_value, contents_of}
use Rattle.seg_ops.specs.vm_world.Segments.{Spot, Spaces, spot_at, own_slot, shown_name, object_name}
use Rattle.seg_ops.specs.vm_world.Serving.{TakesFrames, KeepsWanted, ModifiesNone, ModifiesOnly, AreReplaced}
use Rattle.seg_ops.specs.vm_world.StateSteps.{PendsTails}
use Rattle.seg_ops.specs.vm_world.Wants.{MakesSlotFor, ShowsPage, accessed_page, object_has, shows_page}
use Rattle.seg_ops.specs.vm_world.World.{World, slot_in, slot_name, file_name, is_unpushed, page_exists, world_table}
use Rattle.seg_ops.proofs.vm_world.CallSteps.{call_rule}
use Rattle.seg_ops.proofs.vm_world.FlatWhole.{some-inj}
use Rattle.seg_ops.proofs.vm_world.FrameRule.{exists-page}
use Rattle.seg_ops.proofs.vm_world.StoredPages.{zeros-are}
use Rattle.seg_ops.proofs.vm_world.Shapes.{same-respects}
use Rattle.seg_ops.specs.Copies.{HasBytes, IsKnownLater, bytes_kept}
use Rattle.seg_ops.specs.OwnPages.{with_own_shown}
use Rattle.seg_ops.specs.Slots.{OwnsAlone}
use Rattle.seg_ops.specs.Plans.{FetchesPage}
use Rattle.seg_ops.specs.declared.plans.Fault.TheVariants as fault
use Rattle.seg_ops.specs.vm_world.declared.wants.Wants.{Wants}
use Rattle.seg_ops.specs.vm_world.declared.wants.Wants.TheVariants as wants
use Rattle.seg_ops.specs.vm_world.Words.{KeepsPages}
use Rattle.seg_ops.specs.Steps.{MayShow, with_dropped_gathered}
use Rattle.seg_ops.proofs.Composed.{keeps-same}
use Rattle.seg_ops.proofs.Fills.{blank-is}
use Rattle.seg_ops.proofs.FillSteps.{absent-zeros}
use Rattle.seg_ops.proofs.OwnShown.{own_shown_law}
use Rattle.seg_ops.proofs.SlotOwners.{places_law}
use Rattle.seg_ops.proofs.StillSteps.{with_tables, memory_of, value-is}
use Rattle.seg_vn.specs.FaultPlaces.{CellShows, CopyPlace, OwnSpot, ShowsZeros}
use Rattle.seg_ops.specs.Faults.{Accesses, FaultModifies, ServesFault}
use Rattle.seg_ops.specs.SlotsDue.{KeepsSlots, SlotsAfter, slot_due}
use Rattle.seg_vn.proofs.ServedFaults.{changes-kept, serves-kept}
use Rattle.seg_vn.proofs.FaultPlaces.{own-none, own-private, file-shown, zero-shown, zero-at}
use Rattle.seg_vn.proofs.FaultSteps.{makes-copy, own-gets, own-shown, pends-then, shown-waits, shows-same, wanted-none}
use Rattle.seg_vn.proofs.Faulted.{wanted-name, absent-home}
use Rattle.seg_vn.proofs.SlotsDue.{due-own}
use Rattle.home_pages.proofs.Takes.{takes-none}
use Rattle.home_pages.proofs.Replacements.{none-replaced}

-- bits that are gathered leave the lists and the names
pub gathered-next : (s new : StoreSeen) (o : Option Dropped) → new ≡ with_dropped_gathered s o → next_frame new ≡ next_frame s
gathered-next s new o is = ap next_frame is ∙ by_drop o
  where
    by_drop : (o : Option Dropped) → next_frame (with_dropped_gathered s o) ≡ next_frame s
    by_drop None = refl
    by_drop (Some d) = refl

pub gathered-same : (s new : StoreSeen) (o : Option Dropped) → new ≡ with_dropped_gathered s o → new.names ≡ s.names
gathered-same s new o is = ap (λ (t : StoreSeen). t.names) is ∙ by_drop o
  where
    by_drop : (o : Option Dropped) → (with_dropped_gathered s o).names ≡ s.names
    by_drop None = refl
    by_drop (Some d) = refl

-- .. and the bytes of frames, and so does a page that is given up
pub gathered-frames : (s new : StoreSeen) (o : Option Dropped) → new ≡ with_dropped_gathered s o → new.frames ≡ s.frames
gathered-frames s new o is = ap (λ (t : StoreSeen). t.frames) is ∙ by_drop o
  where
    by_drop : (o : Option Dropped) → (with_dropped_gathered s o).frames ≡ s.frames
    by_drop None = refl
    by_drop (Some d) = refl

pub freed-frames : (s new : StoreSeen) (o : Option PageName) → MatchOption o (new ≡ s) (λ name. new ≡ after_abort s name) → new.frames ≡ s.frames
freed-frames s new None is = ap (λ (t : StoreSeen). t.frames) is
freed-frames s new (Some name) is = ap (λ (t : StoreSeen). t.frames) is ∙ by_frame (find s.names name)
  where
    by_bytes : (frame : ℕ) (bytes : Option (List ℕ)) → (with_page_given_up (without_snapshot s frame) frame bytes).frames ≡ s.frames
    by_bytes frame None = refl
    by_bytes frame (Some bytes) = refl

    by_frame : (o : Option ℕ) → (at_frame o s (λ frame. with_page_given_up (without_snapshot s frame) frame (bytes_at s.frames frame))).frames ≡ s.frames
    by_frame None = refl
    by_frame (Some frame) = by_bytes frame (bytes_at s.frames frame)

-- .. and what a page has once the next frame is taken
pub gathered-later : (w : World) (store : StoreSeen) (hat : HatSeen) (o : Option Dropped) → store ≡ with_dropped_gathered w.store o → (name : PageName) (frame : ℕ) → IsKnownLater w name frame → IsKnownLater (with_tables w store hat) name frame
gathered-later w store hat o is name frame later = subst (λ (s : StoreSeen). IsKnownLater (with_tables w s hat) name frame) (sym is) (by_drop o later)
  where
    by_drop : (o : Option Dropped) → IsKnownLater w name frame → IsKnownLater (with_tables w (with_dropped_gathered w.store o) hat) name frame
    by_drop None l = l
    by_drop (Some d) l = l

pub gathered-kept : (w : World) (store : StoreSeen) (hat : HatSeen) (o : Option Dropped) → store ≡ with_dropped_gathered w.store o → (name : PageName) → bytes_kept (with_tables w store hat) name ≡ bytes_kept w name
gathered-kept w store hat o is name = ap (λ (s : StoreSeen). bytes_kept (with_tables w s hat) name) is ∙ by_drop o
  where
    by_drop : (o : Option Dropped) → bytes_kept (with_tables w (with_dropped_gathered w.store o) hat) name ≡ bytes_kept w name
    by_drop None = refl
    by_drop (Some d) = refl

-- a slot that other places hold too, where the page that is shown is its own
pub copied-slot : (w v : AnonSlotsSeen) (name : PageName) (o : Option ℕ) → v ≡ w → IfSome o (λ (s : ℕ). (1 < count_at w s) × (name ≡ slot_name s)) → (P : PageName → Type 0) → P name → IfSome o (λ (s : ℕ). (1 < count_at v s) × P (slot_name s))
copied-slot w v name None same shared P has = tt
copied-slot w v name (Some s) same shared P has = (subst (λ (a : AnonSlotsSeen). 1 < count_at a s) (sym same) shared.0, subst P shared.1 has)

-- WHOSE PLACE IT IS.
pub own-alone : (w : World) (spaces : Spaces) (p q m i : ℕ) (x : Spot) → MemoryFits (memory_of w spaces) → OwnSpot spaces p q m i x → OwnsAlone spaces p q m i x
own-alone w spaces p q m i x fits o = subst (λ (k : ℕ). OwnsAlone spaces p q m k x) o.place (places_law.alone (memory_of w spaces) p q m x fits o.here o.own)

pub copy-spot : (w : World) (spaces : Spaces) (p q m i : ℕ) (x : Spot) (slot : Option ℕ) (shown : Option PageName) → CopyPlace w spaces p q x m i slot shown → OwnSpot spaces p q m i x
copy-spot w spaces p q m i x slot shown c = record { here = c.here; own = c.own; place = c.place }

-- frames that are taken, where the last held no page
abbrev pub takes-more : (old freed : World) (spaces : Spaces) (a b c : ℕ) → TakesFrames (memory_of old spaces) freed a b → PendsTails freed (is_name (next_name freed.store)) b c → next_name freed.store ≡ None → freed.files ≡ old.files → TakesFrames (memory_of old spaces) freed a c
takes-more old freed spaces a b c t second none files = record { cut = t.cut; step = t.step; pends = pends-then old freed t.cut a b c t.pends second none files; took = t.took }

-- THE CELL GOT ITS PAGE, and the translation of that is loaded.
pub serves-after : (old freed made new : World) (spaces : Spaces) (p q : ℕ) (x : Spot) (pending more frame : ℕ) (first : TakesFrames (memory_of old spaces) freed pending more) → AreReplaced old new first.cut → IsTrue (shows_page old x)
    → ChangesMemory p (memory_of freed spaces) (memory_of made spaces) (λ F. with_own_shown F p q) → KeepsPages made new spaces → translation_at new.hat.places p q ≡ Some (fresh_translation p q frame true) → SlotsAfter old new x true (Ok fault.Loaded)
    → ModifiesOnly (FaultModifies new x (Ok fault.Loaded)) old new → ServesFault (memory_of old spaces) (memory_of new spaces) pending more p q x true (Ok fault.Loaded)
serves-after old freed made new spaces p q x pending more frame first replaced some makes shows loaded slots modified = record {
  mid = freed;
  first = first;
  acts = call_rule.joined p (memory_of freed spaces) (memory_of made spaces) (memory_of new spaces) (λ F. with_own_shown F p q) (λ F. F)
      (λ born notes nf tell whole. own_shown_law.whole (flat_memory (memory_of freed spaces) born notes) p q whole) same-respects makes (changes-kept p made new spaces makes.memory shows);
  ends = tt;
  slots = slots;
  past = sym (ap not some);
  replaced = replaced;
  modified = modified;
  means = record { lets = record { translation = fresh_translation p q frame true; loaded = loaded; writable = λ is. refl }; opens = λ is. refl };
}

-- the page of the slot that was made is shown there, ..
pub copy-shown : (w made : World) (spaces : Spaces) (p q m i s : ℕ) (x : Spot) (slot : Option ℕ) (shown : Option PageName) → CopyPlace w spaces p q x m i slot shown → i < length (places_of w.maps m)
    → made.maps ≡ with_places w.maps m (slice_set (places_of w.maps m) i (Some s)) → shown_name made.maps x ≡ Some (slot_name s)
copy-shown w made spaces p q m i s x slot shown c within set = own-shown made.maps x s (own-gets w.maps made.maps x m i s set within c.own c.place)

-- .. and may be
pub copy-may : (w made : World) (spaces : Spaces) (p q m i s : ℕ) (x : Spot) (slot : Option ℕ) (shown : Option PageName) → CopyPlace w spaces p q x m i slot shown → i < length (places_of w.maps m)
    → made.maps ≡ with_places w.maps m (slice_set (places_of w.maps m) i (Some s)) → count_at made.anon s ≡ 1 → MayShow made spaces p q (slot_name s) true
copy-may w made spaces p q m i s x slot shown c within set once =
    let own = own-gets w.maps made.maps x m i s set within c.own c.place in
    record {
      spot = x;
      here = c.here;
      shows = own-shown made.maps x s own;
      allowed = ap (λ (b : Bool). can_read x.0.prot || b) c.allowed ∙ or-true (can_read x.0.prot);
      in_place = λ writes. record { prot = c.allowed; alone = λ private. (s, own, once) };
    }
  where
    or-true : (b : Bool) → (b || true) ≡ true
    or-true true = refl
    or-true false = refl

-- what its own map holds there
pub held-there : (maps : List (Option Map)) (x : Spot) (m i : ℕ) (slot : Option ℕ) → x.0.own ≡ Some m → x.1 ≡ i → slot_in maps m i ≡ slot → own_slot maps x ≡ slot
held-there maps x m i slot own place holds = ap (option_and_then (λ number. slot_in maps number x.1)) own ∙ ap (λ (k : ℕ). slot_in maps m k) place ∙ holds

-- A STORE THERE makes a slot, in its own place, ..
pub copy-due : (w : World) (spaces : Spaces) (p q m i : ℕ) (x : Spot) (slot : Option ℕ) (shown : Option PageName) → MemoryFits (memory_of w spaces) → CopyPlace w spaces p q x m i slot shown → slot_due w.anon w.maps x true ≡ Some (m, i)
copy-due w spaces p q m i x slot shown fits c =
    due-own w.anon w.maps x m i slot (own-private w spaces p q x fits c.here m c.own) c.own c.place (held-there w.maps x m i slot c.own c.place c.holds) c.shared

-- .. as the calls say that want a frame for one.
pub copy-makes : (w v : World) (spaces : Spaces) (p q m i : ℕ) (x : Spot) (slot : Option ℕ) (shown : Option PageName) (call : Call) → MemoryFits (memory_of w spaces) → CopyPlace w spaces p q x m i slot shown → v.maps ≡ w.maps → v.anon ≡ w.anon
    → Accesses true q call → MakesSlotFor v x call
copy-makes w v spaces p q m i x slot shown call fits c maps anon acc =
    makes-copy v x true q call refl (own-private w spaces p q x fits c.here m c.own)
    (λ s is one.
    let held : slot ≡ Some s = sym (held-there w.maps x m i slot c.own c.place c.holds) ∙ ap (λ (ms : List (Option Map)). own_slot ms x) (sym maps) ∙ is in
    let more = c.shared s held in
    let same = ap (λ (a : AnonSlotsSeen). count_at a s) anon in
    omega (arith, more, same, one)) acc

-- and the page that is shown, which no frame holds, isn't home
pub zeros-wanted : (old mid : World) (spaces : Spaces) (p q : ℕ) (x : Spot) (shown : Option PageName) → spot_at spaces p q ≡ Some x → shown_name mid.maps x ≡ shown → ShowsZeros old shown → (call : Call) → accessed_page call ≡ Some q
    → KeepsWanted (memory_of old spaces) (memory_of mid spaces) p call
zeros-wanted old mid spaces p q x None here shows zs call acc = λ name frame wants home. absurd (wanted-none (memory_of mid spaces) p q x call name acc here shows wants)
zeros-wanted old mid spaces p q x (Some n) here shows zs call acc = λ other frame wants home.
    absurd (absent-home (residence old.store n) frame zs.0 (ap (residence old.store) (sym (wanted-name (memory_of mid spaces) p q x call n other acc here shows wants)) ∙ home))

-- the page that is shown, which is home on no list, stays so
pub source-wanted : (old mid : World) (spaces : Spaces) (p q : ℕ) (x : Spot) (n : PageName) (frame : ℕ) → spot_at spaces p q ≡ Some x → shown_name mid.maps x ≡ Some n → residence old.store n ≡ Home frame → residence mid.store n ≡ Home frame
    → ¬ IsListedFrame mid.store frame → (call : Call) → accessed_page call ≡ Some q → KeepsWanted (memory_of old spaces) (memory_of mid spaces) p call
source-wanted old mid spaces p q x n frame here shows was is unlisted call acc = λ other g wants home.
    let same = wanted-name (memory_of mid spaces) p q x call n other acc here shows wants in
    let at : g ≡ frame = let z : Home g ≡ Home frame = sym home ∙ ap (residence old.store) same ∙ was in cc in
    (ap (residence mid.store) same ∙ is ∙ ap (λ (k : ℕ). Home k) (sym at), λ l. unlisted (subst (λ (k : ℕ). IsListedFrame mid.store k) at l))

-- WHAT THE CELL SHOWS, where its place holds no slot: the page of its object.
module _ (v : World) (spaces : Spaces) (p q : ℕ) (x : Spot) (fits : MemoryFits (memory_of v spaces)) (here : spot_at spaces p q ≡ Some x) (born : set.FinSet nat_cmp) (notes : Notes) where
  abbrev F : Flat
  F = flat_memory (memory_of v spaces) born notes

  abbrev cell : Cell
  cell = cell_of (contents_of v notes).place x

  abbrev index : ℕ
  index = x.0.index + x.1

  slot-value : (name : PageName) (o : Option ℕ) → option_map slot_name o ≡ Some name → unwrap_or (option_map (λ s. page_value v notes (slot_name s)) o) zero_page ≡ page_value v notes name
  slot-value name None is = absurd (let z : None ≡ Some name = is in cc)
  slot-value name (Some s) is = ap (page_value v notes) (some-inj (slot_name s) name is)

  no-value : (o : Option ℕ) → option_map slot_name o ≡ None → unwrap_or (option_map (λ s. page_value v notes (slot_name s)) o) zero_page ≡ zero_page
  no-value None is = refl
  no-value (Some s) is = absurd (let z : Some (slot_name s) ≡ None = is in cc)

  -- the slot of a zero object's map
  zero-name : (z n : ℕ) (o : Option PageName) → x.0.object ≡ object.Zero z → x.0.shown ≡ Some n → object_name v.maps x.0.shown index x.0.object ≡ o → option_map slot_name (slot_in v.maps n index) ≡ o
  zero-name z n o is shows name =
      sym (ap (option_and_then (λ number. option_map slot_name (slot_in v.maps number index))) shows) ∙ sym (ap (object_name v.maps x.0.shown index) is) ∙ name

  zero-below : (z n : ℕ) → x.0.object ≡ object.Zero z → x.0.shown ≡ Some n → IsTrue (object_has v x.0.shown index x.0.object) → index < length (places_of v.maps n)
  zero-below z n is shows has =
      ltb-true index (length (places_of v.maps n))
      (sym (ap (λ (o : Option ℕ). option_map_or (λ number. nat_lt index (length (places_of v.maps number))) o false) shows) ∙ sym (ap (object_has v x.0.shown index) is) ∙ has)

  pub object-shows : (name : PageName) → cell.own ≡ None → object_name v.maps x.0.shown index x.0.object ≡ Some name → IsTrue (object_has v x.0.shown index x.0.object) → shown F cell ≡ Some (page_value v notes name)
  object-shows name none is has = by_object x.0.object refl
    where
      by_object : (o : Object) → x.0.object ≡ o → shown F cell ≡ Some (page_value v notes name)
      by_object (object.File f) ob =
          file-shown v spaces p q x fits here born notes f ob none (ltb-true index (pages_in (vnode_at v.files f).info.length) (sym (ap (object_has v x.0.shown index) ob) ∙ has))
          ∙ ap (λ (n : PageName). Some (page_value v notes n)) (some-inj (file_name f index) name (sym (ap (object_name v.maps x.0.shown index) ob) ∙ is))
      by_object (object.Zero z) ob =
          let zero = zero-at v spaces p q x fits here z ob in
          zero-shown v spaces p q x fits here born notes z zero.0 ob zero.1 none (zero-below z zero.0 ob zero.1 has)
          ∙ ap (λ (b : Page). Some b) (slot-value name (slot_in v.maps zero.0 index) (zero-name z zero.0 (Some name) ob zero.1 is))
      by_object object.NewZero ob = absurd (let z : None ≡ Some name = sym (ap (object_name v.maps x.0.shown index) ob) ∙ is in cc)

  pub object-zeros : cell.own ≡ None → own_without_slot x.0.object ≡ None → object_name v.maps x.0.shown index x.0.object ≡ None → IsTrue (object_has v x.0.shown index x.0.object) → shown F cell ≡ Some zero_page
  object-zeros none bare is has = by_object x.0.object refl
    where
      by_object : (o : Object) → x.0.object ≡ o → shown F cell ≡ Some zero_page
      by_object (object.File f) ob = absurd (let z : Some (file_name f index) ≡ None = sym (ap (object_name v.maps x.0.shown index) ob) ∙ is in cc)
      by_object (object.Zero z) ob =
          let zero = zero-at v spaces p q x fits here z ob in
          zero-shown v spaces p q x fits here born notes z zero.0 ob zero.1 none (zero-below z zero.0 ob zero.1 has)
          ∙ ap (λ (b : Page). Some b) (no-value (slot_in v.maps zero.0 index) (zero-name z zero.0 None ob zero.1 is))
      by_object object.NewZero ob = absurd (let z : Some zero_page ≡ None = sym (ap own_without_slot ob) ∙ bare in cc)

-- THE SAME of a place that is copied, once its world changed frames and translations alone.
module _ (w v : World) (spaces : Spaces) (p q m i : ℕ) (x : Spot) (slot : Option ℕ) (shown : Option PageName) (c : CopyPlace w spaces p q x m i slot shown) (fits : MemoryFits (memory_of v spaces))
    (maps : v.maps ≡ w.maps) (files : v.files ≡ w.files) where
  own-empty : slot ≡ None → own_slot v.maps x ≡ None
  own-empty none = held-there v.maps x m i None c.own c.place (ap (λ (ms : List (Option Map)). slot_in ms m i) maps ∙ c.holds ∙ none)

  name-is : slot ≡ None → object_name v.maps x.0.shown (x.0.index + x.1) x.0.object ≡ shown
  name-is none =
      sym (ap (λ (o : Option ℕ). option_or (option_map slot_name o) (object_name v.maps x.0.shown (x.0.index + x.1) x.0.object)) (own-empty none))
      ∙ ap (λ (ms : List (Option Map)). shown_name ms x) maps ∙ c.shows

  has-is : slot ≡ None → IsTrue (object_has v x.0.shown (x.0.index + x.1) x.0.object)
  has-is none = sym (ap (λ (o : Option ℕ). is_some o || object_has v x.0.shown (x.0.index + x.1) x.0.object) (own-empty none)) ∙ shows-same w v x maps files ∙ c.some

  pub cell-shows : (name : PageName) (bytes : Page) → shown ≡ Some name → HasBytes v name bytes → CellShows v spaces x slot bytes
  cell-shows name bytes is has = λ none born notes. (
    page_value v notes name,
    object-shows v spaces p q x fits c.here born notes name (own-none v spaces p q x fits c.here born notes (own-empty none) (c.bare none)) (name-is none ∙ is) (has-is none),
    λ nf tell. has notes nf tell,
  )

  pub cell-zeros : shown ≡ None → CellShows v spaces x slot zeros
  cell-zeros is = λ none born notes. (
    zeros,
    object-zeros v spaces p q x fits c.here born notes (own-none v spaces p q x fits c.here born notes (own-empty none) (c.bare none)) (c.bare none) (name-is none ∙ is) (has-is none)
        ∙ ap (λ (b : Page). Some b) (sym zeros-are),
    λ nf tell. refl,
  )

-- the value of a page that no frame holds and that was never pushed
zero-value : (v : World) (spaces : Spaces) (name : PageName) → MemoryFits (memory_of v spaces) → residence v.store name ≡ Absent → IsTrue (is_unpushed v.files v.anon name) → IsTrue (page_exists v.files v.anon name) → HasBytes v name zeros
zero-value v spaces name fits absent unpushed exists = λ notes nf tell.
    let real = exists-page v name fits.files exists in
    value-is v notes name real ∙ absent-zeros v.store notes (world_table v) name (absent-is v.store name fits.frames.sound absent) (blank-is v name fits.files real ∙ unpushed)

-- what a place that shows zeros has
pub zeros-show : (w v : World) (spaces : Spaces) (p q m i : ℕ) (x : Spot) (slot : Option ℕ) (shown : Option PageName) → CopyPlace w spaces p q x m i slot shown → MemoryFits (memory_of v spaces) → v.maps ≡ w.maps → v.files ≡ w.files → ShowsZeros v shown
    → CellShows v spaces x slot zeros
zeros-show w v spaces p q m i x slot None c fits maps files zs = cell-zeros w v spaces p q m i x slot None c fits maps files refl
zeros-show w v spaces p q m i x slot (Some name) c fits maps files zs = cell-shows w v spaces p q m i x slot (Some name) c fits maps files name zeros refl (zero-value v spaces name fits zs.0 zs.1 zs.2)

-- zeros that no frame holds stay so
pub zeros-stay : (w v : World) (shown : Option PageName) → ((name : PageName) → residence w.store name ≡ Absent → residence v.store name ≡ Absent) → v.files ≡ w.files → v.anon ≡ w.anon → ShowsZeros w shown → ShowsZeros v shown
zeros-stay w v None stay files anon zs = zs
zeros-stay w v (Some name) stay files anon zs = (
  stay name zs.0,
  ap (λ (fs : FilesSeen). is_unpushed fs v.anon name) files ∙ ap (λ (a : AnonSlotsSeen). is_unpushed w.files a name) anon ∙ zs.1,
  ap (λ (fs : FilesSeen). page_exists fs v.anon name) files ∙ ap (λ (a : AnonSlotsSeen). page_exists w.files a name) anon ∙ zs.2,
)

-- THE PAGE THAT IS SHOWN has to be waited for, or to be read in.
pub away-serves : (w : World) (spaces : Spaces) (p q : ℕ) (x : Spot) (write : Bool) (pending seat : ℕ) (name : PageName) → MemoryFits (memory_of w spaces) → spot_at spaces p q ≡ Some x → IsTrue (shows_page w x) → shown_name w.maps x ≡ Some name
    → residence w.store name ≡ Moving seat → ServesFault (memory_of w spaces) (memory_of w spaces) pending pending p q x write (Err (wants.Seat (hold.Page seat)))
away-serves w spaces p q x write pending seat name fits here some shows away =
    serves-kept w w spaces p q x write pending pending (Err (wants.Seat (hold.Page seat))) (takes-none w w spaces pending (keeps-same w spaces fits)) (none-replaced w w) (sym (ap not some)) (λ born notes. refl) (record { counts = refl; places = refl }) (only-same _ w)
    (shown-waits w w spaces p q x write name (wants.Seat (hold.Page seat)) (record { here = here; some = some }) shows (λ calls of w. (name, inl w, away)) (λ frame home. let z : Moving seat ≡ Home frame = sym away ∙ home in cc))

pub fetch-serves : (old mid : World) (spaces : Spaces) (p q : ℕ) (x : Spot) (write : Bool) (pending : ℕ) (name : PageName) (answer : Wants) → IsTrue (shows_page old x) → KeepsPages old mid spaces → KeepsSlots old mid → residence old.store name ≡ Absent → ModifiesNone old mid
    → ShowsPage (memory_of mid spaces) p q x → shown_name mid.maps x ≡ Some name → FetchesPage (memory_of mid spaces) name answer → ServesFault (memory_of old spaces) (memory_of mid spaces) pending pending p q x write (Err answer)
fetch-serves old mid spaces p q x write pending name answer some keeps kept absent modified there shows f =
    serves-kept old mid spaces p q x write pending pending (Err answer) (takes-none old mid spaces pending keeps) (none-replaced old mid) (sym (ap not some)) (λ born notes. refl) kept (only-of _ old mid modified)
    (shown-waits old mid spaces p q x write name answer there shows f (λ frame home. absent-home (residence old.store name) frame absent home))
