-- A PLACE THAT IS EMPTIED: its slot is counted once less, and what other places and pages show stays.
use Rattle.std.proofs.Common.{◌≡◌, ◌≢◌, ℕ, ◌-◌, ◌<◌, ◌==◌, cond, List, length, map, Option, Some, None, refl, sym, ap, ◌∙◌, inl, inr, subst, arith, slice_set, slice_index_or, get_or-set_same}
use Rattle.std.specs.Prelude.{IsTrue, false, not, nat_lt, option_and_then}
use Rattle.std.proofs.lemmas.Bool.{cases_eq}
use Rattle.std.proofs.lemmas.Bool.Decides.{eqb_tells}
use Rattle.std.proofs.lemmas.List.{get_or-set_other, length-set}
use Rattle.page_store.specs.page_hash.declared.PageName.{PageName}
use Rattle.page_store.specs.Layout.{table_of}
use Rattle.vm_world.specs.anon_map.Maps.{Map, places_of, with_places}
use Rattle.vm_world.specs.anon_slots.Slots.{AnonSlotsSeen, count_at, is_used, IsSoundAnonSlots, with_count}
use Rattle.vm_world.specs.hat_layer.Pool.{translation_at}
use Rattle.vm_world.specs.hat_layer.declared.translation.Translation.{Translation}
use Rattle.vm_world.specs.vnode_files.Files.{FilesSeen, vnode_at}
use Rattle.vm_world.specs.vnode_files.Grow.{page_count}
use Rattle.vm_world.specs.vnode_files.Vnode.{is_blank}
use Rattle.vm_world.specs.CountsFit.{CountsFit}
use Rattle.vm_world.specs.MemoryFits.{MemoryFits}
use Rattle.vm_world.specs.Segments.{Spot, Spaces, spot_at, own_slot}
use Rattle.vm_world.specs.TranslationsFit.{MayWriteInPlace}
use Rattle.vm_world.specs.World.{World, file_blocks, slot_in, slot_name, is_page_name, page_exists, page_table}
use Rattle.vm_world.proofs.Counting.{adds, adds-own, adds-other, times-put}
use Rattle.vm_world.proofs.Counts.{held-used, only-place, used-below}
use Rattle.vm_world.proofs.Loaded.{loaded-at}
use Rattle.seg_ops.specs.Empties.{LeavesSlot, IsUnloadedZero}
use Rattle.seg_ops.specs.Slots.{OwnsAlone}
use Rattle.seg_ops.proofs.SlotCounts.{places-put}
use Rattle.seg_ops.proofs.SlotMemory.{AreShown, used-lt, lt-used, slot-exists, file-exists}
use Rattle.seg_ops.proofs.SlotOwners.{never-own, not-shown}
use Rattle.seg_ops.proofs.SlotPlaces.{slot-here, slot-else, stays-apart}
use Rattle.seg_ops.proofs.StillSteps.{memory_of}

pub left-slot : (anon : AnonSlotsSeen) (maps : List (Option Map)) (m i s : ℕ) → CountsFit anon maps → IsSoundAnonSlots (with_count anon s (count_at anon s - 1)) → i < length (places_of maps m) → slot_in maps m i ≡ Some s
    → LeavesSlot anon (with_count anon s (count_at anon s - 1)) maps (with_places maps m (slice_set (places_of maps m) i None)) m i s
left-slot anon maps m i s fit sound lt holds =
    let new : AnonSlotsSeen = with_count anon s (count_at anon s - 1) in
    let some = held-used anon maps m i s fit holds in
    let within : s < length anon.counts = used-below anon.counts s some in
    let less : count_at new s ≡ count_at anon s - 1 = get_or-set_same anon.counts s (count_at anon s - 1) 0 within in
    let else_is : (t : ℕ) → t ≢ s → count_at new t ≡ count_at anon t = λ t ne. get_or-set_other anon.counts s t (count_at anon s - 1) 0 ne in
    record {
      within = lt;
      set = refl;
      held = holds;
      less = omega (arith, less, some);
      others = else_is;
      slots = length-set anon.counts s (count_at anon s - 1);
      swapped = refl;
      reserved = refl;
      counts = record {
        sound = sound;
        counts = λ t.
            let put = times-put t maps m i None lt in
            let held : adds t (slot_in maps m i) ≡ adds t (Some s) = ap (adds t) holds in
            let none : adds t None ≡ 0 = refl in
            let was = fit.counts t in
            elim (cases_eq t s) [
              | inl e ↦
                  let gone : adds t (Some s) ≡ 1 = ap (λ (j : ℕ). adds j (Some s)) e ∙ adds-own s in
                  let now : count_at new t ≡ count_at anon s - 1 = ap (count_at new) e ∙ less in
                  let same = ap (count_at anon) e in
                  omega (arith, put, held, none, gone, was, now, same, some)
              | inr ne ↦
                  let gone = adds-other t s (λ d. ne (sym d)) in
                  let now = else_is t ne in
                  omega (arith, put, held, none, gone, was, now)
            ];
        places = places-put maps m i None lt ∙ fit.places;
      };
    }

module _ (files : FilesSeen) (old new : AnonSlotsSeen) (maps put : List (Option Map)) (m i s : ℕ) (k : LeavesSlot old new maps put m i s) where
  -- what exists then existed before
  pub existed : (n : PageName) → IsTrue (page_exists files new n) → IsTrue (page_exists files old n)
  existed n exists = elim (eqb_tells n.object 64) [
    | inr x ↦ sym (file-exists files old new n x.0) ∙ exists
    | inl y ↦ slot-exists files old n y.0 ∙ lt-used (count_at old n.page) (more n.page (used-lt (count_at new n.page) (sym (slot-exists files new n y.0) ∙ exists)))
  ]
    where
      more : (t : ℕ) → 0 < count_at new t → 0 < count_at old t
      more t used = elim (cases_eq t s) [
        | inl e ↦ let less = k.less in let a = ap (count_at old) e in let b = ap (count_at new) e in omega (arith, used, less, a, b)
        | inr ne ↦ let e = k.others t ne in omega (arith, used, e)
      ]

  -- every other page exists if it did
  pub exists-else : (n : PageName) → n ≢ slot_name s → page_exists files new n ≡ page_exists files old n
  exists-else n ne = elim (eqb_tells n.object 64) [
    | inr x ↦ file-exists files old new n x.0
    | inl y ↦ slot-exists files new n y.0 ∙ ap is_used (k.others n.page (λ e. ne (λ j. record { object = y.1 j; page = e j }))) ∙ sym (slot-exists files old n y.0)
  ]

  -- where each page lives stays, and which names are of pages
  pub table-left : page_table files new ≡ page_table files old
  table-left = λ j. table_of (map file_blocks files.files) (k.slots j) (λ name. cond (name.object == 64) (not (slice_index_or (k.swapped j) name.page false)) (is_blank (vnode_at files name.object) name.page))

  pub page-name-left : (n : PageName) → is_page_name files new n ≡ is_page_name files old n
  page-name-left n = ap (λ (c : ℕ). cond (n.object == 64) (nat_lt n.page c) (nat_lt n.page (page_count (vnode_at files n.object).info.extents))) k.slots

-- a slot that was counted once where it is held still is
pub left-once : (old new : AnonSlotsSeen) (maps put : List (Option Map)) (m i s number place t : ℕ) → CountsFit old maps → LeavesSlot old new maps put m i s → slot_in put number place ≡ Some t → (slot_in maps number place ≡ Some t → count_at old t ≡ 1) → count_at new t ≡ 1
left-once old new maps put m i s number place t fit k held was =
    let empty : List (Option Map) = with_places maps m (slice_set (places_of maps m) i None) in
    let set : slot_in put number place ≡ slot_in empty number place = ap (λ (ps : List (Option Map)). slot_in ps number place) k.set in
    let apart : (number ≡ m) × (place ≡ i) → ⊥ = λ e.
    let z : Some t ≡ None = sym held ∙ set ∙ ap (λ (a : ℕ). slot_in empty a place) e.0 ∙ ap (slot_in empty m) e.1 ∙ slot-here maps m i None k.within in cc in
    let there : slot_in maps number place ≡ Some t = sym (slot-else maps m i number place None k.within apart) ∙ sym set ∙ held in
    let one = was there in
    k.others t (λ e. apart (only-place t maps m i number place (sym (fit.counts t) ∙ one) (k.held ∙ ap (λ (a : ℕ). Some a) (sym e)) there)) ∙ one

-- No page that shows what the place holds has a translation.
pub record IsUnloadedPlace (places : List (Option Translation)) (spaces : Spaces) (m i : ℕ) : Type 0 where
  pub own : (j : ℕ) (t : Translation) (y : Spot) → slice_index_or places j None ≡ Some t → spot_at spaces t.space t.page ≡ Some y → y.0.own ≡ Some m → y.1 ≡ i → ⊥
  pub shown : (j : ℕ) (t : Translation) (y : Spot) → slice_index_or places j None ≡ Some t → spot_at spaces t.space t.page ≡ Some y → y.0.shown ≢ Some m

-- the place of one page alone, which has none; and each place of a zero object's map
pub owned-unloaded : (w : World) (spaces : Spaces) (p q m i : ℕ) (x : Spot) → MemoryFits (memory_of w spaces) → OwnsAlone spaces p q m i x → translation_at w.hat.places p q ≡ None → IsUnloadedPlace w.hat.places spaces m i
owned-unloaded w spaces p q m i x f owns unloaded = record {
  own = λ j t y is here own place.
      let where_is = owns.alone t.space t.page y here own place in
      loaded-at w.hat.places j t is (ap (λ (a : ℕ). translation_at w.hat.places a t.page) where_is.0 ∙ ap (λ (b : ℕ). translation_at w.hat.places p b) where_is.1 ∙ unloaded);
  shown = λ j t y is here. not-shown (memory_of w spaces) p q t.space t.page m x y f owns.here owns.own here;
}

pub zero-unloaded : (w : World) (spaces : Spaces) (z m i : ℕ) → MemoryFits (memory_of w spaces) → IsUnloadedZero w.hat.places spaces z m → IsUnloadedPlace w.hat.places spaces m i
zero-unloaded w spaces z m i f zero = record {
  own = λ j t y is here own place. never-own (memory_of w spaces) z m t.space t.page y f zero.zero here own;
  shown = λ j t y is here shows. loaded-at w.hat.places j t is (zero.unloaded t.space t.page y here shows);
}

-- EACH TRANSLATION SHOWS what it showed.
pub left-shown : (w : World) (spaces : Spaces) (anon : AnonSlotsSeen) (put : List (Option Map)) (m i s : ℕ) → LeavesSlot w.anon anon w.maps put m i s → IsUnloadedPlace w.hat.places spaces m i → AreShown w spaces put
left-shown w spaces anon put m i s k far = subst (λ (ps : List (Option Map)). AreShown w spaces ps) (sym k.set) (λ j t is y n here shows.
    stays-apart w.maps m i None y n k.within (far.own j t y is here) (far.shown j t y is here) shows)

-- and may be written in place if it might
pub left-writable : (w : World) (anon : AnonSlotsSeen) (put : List (Option Map)) (m i s : ℕ) (y : Spot) → CountsFit w.anon w.maps → LeavesSlot w.anon anon w.maps put m i s → (y.0.own ≡ Some m → y.1 ≡ i → ⊥) → own_slot put y ≡ own_slot w.maps y
    → MayWriteInPlace w.anon w.maps y → MayWriteInPlace anon put y
left-writable w anon put m i s y fit k apart own r = record {
  prot = r.prot;
  alone = λ private.
      let a = r.alone private in
      let far : a.0 ≢ s = λ e. at_place y.0.own refl (a.1 ∙ ap (λ (b : ℕ). Some b) e) (ap (λ (b : ℕ). count_at w.anon b) (sym e) ∙ a.2) in
      (a.0, own ∙ a.1, k.others a.0 far ∙ a.2);
}
  where
    at_place : (o : Option ℕ) → y.0.own ≡ o → option_and_then (λ number. slot_in w.maps number y.1) o ≡ Some s → count_at w.anon s ≡ 1 → ⊥
    at_place None e is one = let z : None ≡ Some s = is in cc
    at_place (Some number) e is one = let both = only-place s w.maps m i number y.1 (sym (fit.counts s) ∙ one) k.held is in apart (e ∙ ap (λ (b : ℕ). Some b) both.0) both.1
