-- A SLOT THAT IS MADE for a place, with its page in a frame that is taken: memory fits.
use Rattle.std.proofs.Common.{◌≡◌, ◌≢◌, ℕ, zero, suc, ◌+◌, ◌<◌, ◌==◌, Bool, true, false, cond, List, [], length, Option, Some, None, refl, sym, ap, ◌∙◌, inl, inr, subst, arith, slice_index_or, slice_set}
use Rattle.std.specs.Prelude.{IsTrue, IsFalse, IsSome, IfSome, nat_lt, not, sum_by, option_map, option_and_then, unwrap_or}
use Rattle.std.specs.Option.{option_or}
use Rattle.std.specs.FinMap as finite
use Rattle.std.proofs.lemmas.Bool.{cases_eq}
use Rattle.std.proofs.lemmas.Bool.Decides.{eqb_tells}
use Rattle.std.proofs.lemmas.List.{length-set}
use Rattle.vm_world.specs.addr_space.Space.{Part}
use Rattle.page_store.specs.page_hash.Names.{name_at, find}
use Rattle.page_store.specs.page_hash.declared.PageName.{PageName}
use Rattle.page_store.proofs.page_hash.NameLaws.{find-absent}
use Rattle.page_store.specs.page_lock.Rows.{row_at}
use Rattle.page_store.specs.page_lock.declared.Row.{Row}
use Rattle.page_store.specs.Bays.{BaySeen}
use Rattle.page_store.specs.Seen.{StoreSeen, IsListedFrame, residence, residence_in}
use Rattle.page_store.specs.Steps.{next_frame, next_name, name_in, home_bytes}
use Rattle.page_store.specs.Notes.{Notes}
use Rattle.page_store.specs.Table.{PlaceTable}
use Rattle.page_store.specs.Value.{value, value_in, frame_value, note_of_holder, backing_value}
use Rattle.page_store.proofs.QueryLemmas.{home-is}
use Rattle.vm_world.specs.hat_layer.Pool.{translation_at}
use Rattle.page_store.specs.declared.residence.Residence.TheVariants.{Home, Absent}
use Rattle.vm_world.specs.anon_map.Maps.{Map, places_of, holders_of, with_places}
use Rattle.vm_world.specs.anon_slots.Slots.{AnonSlotsSeen, count_at, is_used}
use Rattle.vm_world.specs.hat_layer.declared.translation.Translation.{Translation}
use Rattle.vm_world.specs.vm_types.declared.call.Object.{Object}
use Rattle.vm_world.specs.vnode_files.Files.{FilesSeen, vnode_at}
use Rattle.vm_world.specs.flat_model.Words.{pages_in}
use Rattle.vm_world.specs.CountsFit.{SegmentsFit, SegmentFits, ObjectFits, OwnFits, slots_for_part}
use Rattle.vm_world.specs.FlatMemory.{zero_maps}
use Rattle.vm_world.specs.FramesFit.{FramesFit, DisksFit}
use Rattle.vm_world.specs.MemoryFits.{MemoryFits}
use Rattle.vm_world.specs.declared.segment.Segment.{Segment}
use Rattle.vm_world.specs.Segments.{Spot, Spaces, spot_at, own_slot, shown_name, object_name}
use Rattle.vm_world.specs.TranslationsFit.{MayWriteInPlace}
use Rattle.vm_world.specs.World.{World, slot_name, slot_in, page_exists}
use Rattle.vm_world.proofs.Counting.{map-within}
use Rattle.vm_world.proofs.FlatWhole.{some-inj}
use Rattle.vm_world.proofs.Lists.{all-turn}
use Rattle.vm_world.proofs.Loaded.{loaded-at}
use Rattle.seg_ops.specs.Slots.{MakesSlot, IsNewZero, OwnsAlone}
use Rattle.seg_ops.proofs.Fills.{TakesFor, next-listed, named, stays-home, still-listed, modified-elsewhere, elsewhere}
use Rattle.seg_ops.proofs.SlotPlaces.{slot-here, slot-else, places-set, holders-set, own-set, object-set, StaysShown, stays-shown}
use Rattle.seg_ops.proofs.SlotTables.{IsUnnamed}
use Rattle.seg_ops.proofs.StillSteps.{memory_of}

-- the world once the slot was made, with its page
abbrev pub with_slot : World → StoreSeen → AnonSlotsSeen → List (Option Map) → World
with_slot w store anon maps = record w { store = store; anon = anon; maps = maps }

-- each translation shows what it showed
abbrev pub AreShown : World → Spaces → List (Option Map) → Type 0
AreShown w spaces put = (k : ℕ) (t : Translation) → slice_index_or w.hat.places k None ≡ Some t → (x : Spot) (n : PageName) → spot_at spaces t.space t.page ≡ Some x → shown_name w.maps x ≡ Some n → StaysShown w.maps put x n

pub used-lt : (c : ℕ) → is_used c ≡ true → 0 < c
used-lt zero h = absurd (let z : false ≡ true = h in cc)
used-lt (suc c) h = omega arith

pub lt-used : (c : ℕ) → 0 < c → is_used c ≡ true
lt-used c lt = elim (eqb_tells c 0) [ inl y ↦ absurd (let e = y.1 in omega (arith, e, lt)) | inr n ↦ ap not n.0 ]

pub not-used : (c : ℕ) → is_used c ≡ false → c ≡ 0
not-used zero h = refl
not-used (suc c) h = absurd (let z : true ≡ false = sym (lt-used (suc c) (omega arith)) ∙ h in cc)

-- the page of a slot exists where the slot is in use
pub slot-exists : (files : FilesSeen) (anon : AnonSlotsSeen) (n : PageName) → (n.object == 64) ≡ true → page_exists files anon n ≡ is_used (count_at anon n.page)
slot-exists files anon n is = ap (λ (b : Bool). cond b (is_used (count_at anon n.page)) (nat_lt n.page (pages_in (vnode_at files n.object).info.length))) is

pub file-exists : (files : FilesSeen) (old new : AnonSlotsSeen) (n : PageName) → (n.object == 64) ≡ false → page_exists files new n ≡ page_exists files old n
file-exists files old new n is =
    ap (λ (b : Bool). cond b (is_used (count_at new n.page)) (nat_lt n.page (pages_in (vnode_at files n.object).info.length))) is
    ∙ sym (ap (λ (b : Bool). cond b (is_used (count_at old n.page)) (nat_lt n.page (pages_in (vnode_at files n.object).info.length))) is)

-- what exists is not the slot's page, and goes on to exist
pub exists-apart : (files : FilesSeen) (old new : AnonSlotsSeen) (maps put : List (Option Map)) (m i s : ℕ) (n : PageName) → MakesSlot old new maps put m i s → IsTrue (page_exists files old n) → n ≢ slot_name s
exists-apart files old new maps put m i s n k exists e =
    let used = used-lt (count_at old s) (sym (ap (λ (x : PageName). page_exists files old x) e) ∙ exists) in
    let none = k.free in
    omega (arith, used, none)

pub exists-made : (files : FilesSeen) (old new : AnonSlotsSeen) (maps put : List (Option Map)) (m i s : ℕ) (n : PageName) → MakesSlot old new maps put m i s → IsTrue (page_exists files old n) → IsTrue (page_exists files new n)
exists-made files old new maps put m i s n k exists = elim (eqb_tells n.object 64) [
  | inr x ↦ file-exists files old new n x.0 ∙ exists
  | inl y ↦
      let used = used-lt (count_at old n.page) (sym (slot-exists files old n y.0) ∙ exists) in
      let apart : n.page ≢ s = λ e. let z = ap (count_at old) e in let none = k.free in omega (arith, used, z, none) in
      slot-exists files new n y.0 ∙ lt-used (count_at new n.page) (k.used n.page apart used)
]

-- what doesn't exist goes on not to, but for the slot's page
pub missing-made : (files : FilesSeen) (old new : AnonSlotsSeen) (maps put : List (Option Map)) (m i s : ℕ) (n : PageName) → MakesSlot old new maps put m i s → n ≢ slot_name s → IsFalse (page_exists files old n) → IsFalse (page_exists files new n)
missing-made files old new maps put m i s n k ne missing = elim (eqb_tells n.object 64) [
  | inr x ↦ file-exists files old new n x.0 ∙ missing
  | inl y ↦
      let none = not-used (count_at old n.page) (sym (slot-exists files old n y.0) ∙ missing) in
      let apart : n.page ≢ s = λ e. ne (λ a. record { object = y.1 a; page = e a }) in
      slot-exists files new n y.0 ∙ ap is_used (k.unused n.page apart none)
]

slot-made : (files : FilesSeen) (old new : AnonSlotsSeen) (maps put : List (Option Map)) (m i s : ℕ) → MakesSlot old new maps put m i s → IsTrue (page_exists files new (slot_name s))
slot-made files old new maps put m i s k = let one = k.alone in lt-used (count_at new s) (omega (arith, one))

-- no frame has a slot that nobody holds
pub free-unnamed : (w : World) (s : ℕ) → FramesFit w.store w.files w.anon → count_at w.anon s ≡ 0 → IsUnnamed w.store (slot_name s)
free-unnamed w s f none k named = let used = used-lt (count_at w.anon s) (f.exist k (slot_name s) named) in omega (arith, used, none)

pub free-absent : (w : World) (s : ℕ) → FramesFit w.store w.files w.anon → count_at w.anon s ≡ 0 → residence w.store (slot_name s) ≡ Absent
free-absent w s f none = ap (λ (o : Option ℕ). residence_in o w.store) (find-absent w.store.names (slot_name s) (free-unnamed w s f none))

-- the lengths of the maps stay, whatever the place holds
pub lengths-set : (maps put : List (Option Map)) (m i : ℕ) (o : Option ℕ) → i < length (places_of maps m) → put ≡ with_places maps m (slice_set (places_of maps m) i o) → ◌≡◌ {A = ℕ → ℕ} (λ j. length (places_of put j)) (λ j. length (places_of maps j))
lengths-set maps put m i o lt set = λ a j. (ap (λ (ps : List (Option Map)). length (places_of ps j)) set ∙ places-set maps m j (slice_set (places_of maps m) i o) (map-within maps m i lt) (length-set (places_of maps m) i o)) a

pub segments-set : (w : World) (spaces : Spaces) (anon : AnonSlotsSeen) (put : List (Option Map)) (m i : ℕ) (o : Option ℕ) → MemoryFits (memory_of w spaces) → i < length (places_of w.maps m) → put ≡ with_places w.maps m (slice_set (places_of w.maps m) i o) → anon.reserved ≡ w.anon.reserved
    → ((number place slot : ℕ) → slot_in put number place ≡ Some slot → (slot_in w.maps number place ≡ Some slot → count_at w.anon slot ≡ 1) → count_at anon slot ≡ 1)
    → SegmentsFit (length w.files.files) anon put spaces
segments-set w spaces anon put m i o f within set reserved counts =
    let lt = map-within w.maps m i within in
    let size = length-set (places_of w.maps m) i o in
    let places = slice_set (places_of w.maps m) i o in
    record {
      ordered = f.segments.ordered;
      each = λ p parts is. all-turn (SegmentFits (length w.files.files) w.maps) (SegmentFits (length w.files.files) put) parts (λ x fit. record {
        pages = fit.pages;
        end = fit.end;
        within = fit.within;
        object = subst (λ (ps : List (Option Map)). ObjectFits (length w.files.files) ps x.piece x.piece.object) (sym set) (object-set (length w.files.files) w.maps m places x.piece x.piece.object lt fit.object);
        own = subst (λ (ps : List (Option Map)). OwnFits ps x.piece x.piece.kind) (sym set) (own-set w.maps m places x.piece x.piece.kind lt size fit.own);
      }) (f.segments.each p parts is);
      holders = λ j. ap (λ (ps : List (Option Map)). holders_of ps j) set ∙ holders-set w.maps m j places lt ∙ f.segments.holders j;
      zeros = f.segments.zeros;
      apart = f.segments.apart;
      once = λ z number place slot is held. counts number place slot held (f.segments.once z number place slot is);
      reserved = ap (λ (g : ℕ → ℕ). sum_by (λ (parts : List (Part Segment)). sum_by slots_for_part parts) (finite.values spaces) + sum_by g (finite.values (zero_maps spaces))) (lengths-set w.maps put m i o within set) ∙ f.segments.reserved ∙ sym reserved;
    }

-- a slot that was counted once where it is held still is
made-once : (old new : AnonSlotsSeen) (maps put : List (Option Map)) (m i s number place t : ℕ) → MakesSlot old new maps put m i s → slot_in put number place ≡ Some t → (slot_in maps number place ≡ Some t → count_at old t ≡ 1) → count_at new t ≡ 1
made-once old new maps put m i s number place t k held was = elim (cases_eq t s) [
  | inl e ↦ ap (count_at new) e ∙ k.alone
  | inr ne ↦
      let apart : (number ≡ m) × (place ≡ i) → ⊥ = λ e. ne (some-inj t s (sym held ∙ ap (λ (ps : List (Option Map)). slot_in ps number place) k.set
      ∙ ap (λ (a : ℕ). slot_in (with_places maps m (slice_set (places_of maps m) i (Some s))) a place) e.0 ∙ ap (slot_in (with_places maps m (slice_set (places_of maps m) i (Some s))) m) e.1 ∙ slot-here maps m i (Some s) k.within)) in
      k.once t ne (was (sym (slot-else maps m i number place (Some s) k.within apart) ∙ sym (ap (λ (ps : List (Option Map)). slot_in ps number place) k.set) ∙ held))
]

-- MEMORY FITS.
pub made-memory : (w : World) (spaces : Spaces) (new : StoreSeen) (anon : AnonSlotsSeen) (put : List (Option Map)) (m i s frame : ℕ) → MemoryFits (memory_of w spaces) → MakesSlot w.anon anon w.maps put m i s → TakesFor w.store new (slot_name s) frame → (row_at new.rows frame).modified ≡ true → AreShown w spaces put
    → MemoryFits (memory_of (with_slot w new anon put) spaces)
made-memory w spaces new anon put m i s frame f k t dirty shown =
    let listed = next-listed w.store frame t.next in
    record {
      frames = record {
        sound = t.laws.sound;
        unkept = λ j. elim (cases_eq j frame) [
          | inl e ↦ ap (λ (b : ℕ). (row_at new.rows b).keeps) e ∙ ap (λ (r : Row). r.keeps) t.row
          | inr ne ↦ ap (λ (r : Row). r.keeps) (elsewhere w.store new (slot_name s) frame j t ne).row ∙ f.frames.unkept j
        ];
        unmodified = λ j l. let r = still-listed w.store new (slot_name s) frame j t l in ap (λ (x : Row). x.modified) (elsewhere w.store new (slot_name s) frame j t r.0).row ∙ f.frames.unmodified j r.1;
        exist = λ j n h. elim (named w.store new (slot_name s) frame j n t h) [
          | inl e ↦ subst (λ (x : PageName). IsTrue (page_exists w.files anon x)) e.1 (slot-made w.files w.anon anon w.maps put m i s k)
          | inr e ↦ exists-made w.files w.anon anon w.maps put m i s n k (f.frames.exist j n e.1)
        ];
      };
      files = f.files;
      disks = subst (λ (c : ℕ). DisksFit new.bays w.files.disks c) (sym k.slots) (subst (λ (b : List BaySeen). DisksFit b w.files.disks (length w.anon.counts)) (sym t.laws.outside.bays) f.disks);
      pool = record { leads = f.pool.leads ∙ sym t.laws.touches.frames; single = f.pool.single };
      translations = λ j u is.
          let l = f.translations j u is in
          let apart : u.frame ≢ frame = λ e. l.unlisted (subst (λ (a : ℕ). IsListedFrame w.store a) (sym e) listed) in
          let stays = shown j u is l.spot l.name l.here l.shows in
          record {
            spot = l.spot;
            here = l.here;
            name = l.name;
            shows = stays.shows;
            home = stays-home w.store new (slot_name s) l.name frame u.frame f.frames.sound t apart l.home;
            unlisted = λ h. l.unlisted (still-listed w.store new (slot_name s) frame u.frame t h).1;
            allowed = l.allowed;
            writable = λ h. may l.spot stays.own (l.writable h);
          };
      unpushed = λ j a h unpushed home. elim (named w.store new (slot_name s) frame j (slot_name a) t h) [
        | inl e ↦ inl (ap (λ (b : ℕ). (row_at new.rows b).modified) e.0 ∙ dirty)
        | inr e ↦
            let apart : a ≢ s = λ d. free-unnamed w s f.frames k.free j (e.1 ∙ ap (λ (b : ℕ). Some (slot_name b)) d) in
            modified-elsewhere w.store new w.hat.places (slot_name s) frame j t e.0 (f.unpushed j a e.1 (sym (k.swapped a apart) ∙ unpushed) (subst (λ (b : Option (List ℕ)). IsSome b) (elsewhere w.store new (slot_name s) frame j t e.0).bytes home))
      ];
      counts = k.counts;
      segments = segments-set w spaces anon put m i (Some s) f k.within k.set k.reserved (λ number place t held was. made-once w.anon anon w.maps put m i s number place t k held was);
    }
  where
    may : (x : Spot) → own_slot put x ≡ own_slot w.maps x → MayWriteInPlace w.anon w.maps x → MayWriteInPlace anon put x
    may x own r = record {
      prot = r.prot;
      alone = λ private.
          let a = r.alone private in
          let apart : a.0 ≢ s = λ e. let one = a.2 in let z = ap (λ (b : ℕ). count_at w.anon b) e in let none = k.free in omega (arith, one, z, none) in
          (a.0, own ∙ a.1, k.once a.0 apart a.2);
    }

-- NEW ZERO MEMORY without a slot has no translation.
pub zero-shown : (w : World) (spaces : Spaces) (m i s : ℕ) → i < length (places_of w.maps m) → slot_in w.maps m i ≡ None → IsNewZero spaces m i → AreShown w spaces (with_places w.maps m (slice_set (places_of w.maps m) i (Some s)))
zero-shown w spaces m i s lt empty new_zero k t is x n here shows = stays-shown w.maps m i s x n lt empty (λ own place.
    let object_is = new_zero t.space t.page x here own place in
    let none : shown_name w.maps x ≡ None =
    ap (λ (o : Option ℕ). option_or (option_map slot_name (option_and_then (λ a. slot_in w.maps a x.1) o)) (object_name w.maps x.0.shown (x.0.index + x.1) x.0.object)) own
    ∙ ap (λ (j : ℕ). option_or (option_map slot_name (slot_in w.maps m j)) (object_name w.maps x.0.shown (x.0.index + x.1) x.0.object)) place
    ∙ ap (λ (o : Option ℕ). option_or (option_map slot_name o) (object_name w.maps x.0.shown (x.0.index + x.1) x.0.object)) empty
    ∙ ap (λ (o : Object). object_name w.maps x.0.shown (x.0.index + x.1) o) object_is in
    let z : None ≡ Some n = sym none ∙ shows in cc) shows

-- the page that loses the next frame exists, also once the slot was made
pub next-exists : (w : World) (spaces : Spaces) (anon : AnonSlotsSeen) (put : List (Option Map)) (m i s : ℕ) (lost : Option PageName) → MemoryFits (memory_of w spaces) → MakesSlot w.anon anon w.maps put m i s → lost ≡ next_name w.store → IfSome lost (λ name. IsTrue (page_exists w.files anon name))
next-exists w spaces anon put m i s lost f k is = subst (λ (o : Option PageName). IfSome o (λ name. IsTrue (page_exists w.files anon name))) (sym is) (by_frame (next_frame w.store))
  where
    by_name : (frame : ℕ) (o : Option PageName) → name_at w.store.names frame ≡ o → IfSome o (λ name. IsTrue (page_exists w.files anon name))
    by_name frame None e = tt
    by_name frame (Some name) e = exists-made w.files w.anon anon w.maps put m i s name k (f.frames.exist frame name e)

    by_frame : (o : Option ℕ) → IfSome (name_in w.store.names o) (λ name. IsTrue (page_exists w.files anon name))
    by_frame None = tt
    by_frame (Some frame) = by_name frame (name_at w.store.names frame) refl

-- THE PAGE OF A PRIVATE CELL shows another name, and has no translation.
pub copy-shown : (w : World) (spaces : Spaces) (p q m i s : ℕ) (x : Spot) → i < length (places_of w.maps m) → slot_in w.maps m i ≡ None → OwnsAlone spaces p q m i x → translation_at w.hat.places p q ≡ None → AreShown w spaces (with_places w.maps m (slice_set (places_of w.maps m) i (Some s)))
copy-shown w spaces p q m i s x lt empty owns unloaded k t is y n here shows =
    stays-shown w.maps m i s y n lt empty (λ own place.
    let where_is = owns.alone t.space t.page y here own place in
    loaded-at w.hat.places k t is (ap (λ (a : ℕ). translation_at w.hat.places a t.page) where_is.0 ∙ ap (λ (b : ℕ). translation_at w.hat.places p b) where_is.1 ∙ unloaded)) shows

-- the value of a page that is home
pub home-value_bytes : (s : StoreSeen) (notes : Notes) (table : PlaceTable) (n : PageName) (frame : ℕ) → residence s n ≡ Home frame → value s notes table n ≡ home_bytes s (find s.names n)
home-value_bytes s notes table n frame home =
    let i = home-is s n frame home in
    ap (λ (o : Option ℕ). value_in o s notes (table n)) i.found ∙ ap (λ (b : Option (List ℕ)). frame_value b (note_of_holder (row_at s.rows frame).holder notes) (backing_value s notes (table n))) i.there
    ∙ sym (ap (home_bytes s) i.found ∙ ap (λ (b : Option (List ℕ)). unwrap_or b []) i.there)
