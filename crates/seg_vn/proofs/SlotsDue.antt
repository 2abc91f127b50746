-- Where accesses make slots, by what their places show.
use Rattle.std.proofs.Common.{◌≡◌, ℕ, ◌<◌, ◌+◌, ◌-◌, Bool, true, false, cond, List, Option, Some, None, refl, sym, ap, ◌∙◌, inl, inr, subst, arith, slice_set, Result, Ok, Err}
use Rattle.std.specs.Prelude.{◌==◌, not, option_map}
use Rattle.std.proofs.lemmas.Bool.Decides.{eqb_tells}
use Rattle.seg_ops.specs.anon_map.Maps.{Map, places_of, with_places}
use Rattle.seg_ops.specs.anon_slots.Slots.{AnonSlotsSeen, count_at, with_count, with_new_slot}
use Rattle.seg_ops.specs.page_hash.declared.PageName.{PageName}
use Rattle.seg_ops.specs.vm_types.declared.call.Kind.{Kind}
use Rattle.seg_ops.specs.vm_types.declared.call.Kind.TheVariants.{Shared, Private}
use Rattle.seg_ops.specs.vm_types.declared.call.Object.TheVariants as object
use Rattle.seg_ops.specs.vm_world.Segments.{Spot, Spaces, own_slot, shown_name}
use Rattle.seg_ops.specs.vm_world.TranslationsFit.{MayWriteInPlace}
use Rattle.seg_ops.specs.vm_world.World.{World, slot_in}
use Rattle.seg_ops.specs.Slots.{GivesSlot, anon_left}
use Rattle.seg_ops.specs.declared.plans.Fault.TheVariants as fault
use Rattle.seg_ops.specs.vm_world.declared.wants.Wants.TheVariants as wants
use Rattle.seg_vn.specs.FaultPlaces.{ZerosShown}
use Rattle.seg_ops.specs.SlotsDue.{MakesSlotAt, MapPlace, SlotsAfter, holds_alone, makes_own, object_map_place, own_map_place, slot_due, zeros_due}

-- NONE IS DUE where a page is shown, and may be written in place, if it is to be written.
pub due-none : (anon : AnonSlotsSeen) (maps : List (Option Map)) (x : Spot) (write : Bool) (name : PageName) → shown_name maps x ≡ Some name → (write ≡ true → MayWriteInPlace anon maps x) → slot_due anon maps x write ≡ None
due-none anon maps x false name shows may = ap (zeros_due x) shows
due-none anon maps x true name shows may =
    ap (λ (b : Bool). cond b (own_map_place x) (zeros_due x (shown_name maps x))) (by_kind x.0.kind refl) ∙ ap (zeros_due x) shows
  where
    by_kind : (k : Kind) → x.0.kind ≡ k → makes_own anon (own_slot maps x) k ≡ false
    by_kind Shared kind = refl
    by_kind Private kind =
        let a = (may refl).alone kind in
        ap (λ (o : Option ℕ). not (holds_alone anon o)) a.1 ∙ ap (λ (n : ℕ). not (n == 1)) a.2

-- the place that a page's own map has for it
own-place-is : (x : Spot) (m i : ℕ) → x.0.own ≡ Some m → x.1 ≡ i → own_map_place x ≡ Some (m, i)
own-place-is x m i own place = ap (option_map (λ (number : ℕ). (number, x.1))) own ∙ ap (λ (j : ℕ). Some (m, j)) place

-- ONE IS DUE FOR ZEROS that have no slot.
module _ (w : World) (spaces : Spaces) (p q m i : ℕ) (x : Spot) (write writable : Bool) (z : ZerosShown w spaces p q x m i write writable) (shows : shown_name w.maps x ≡ None) where
  object-is : object_map_place x x.0.object ≡ Some (m, i)
  object-is = elim z.zeros.new [
    | inl new ↦ ap (object_map_place x) new.0 ∙ own-place-is x m i new.1 new.2
    | inr zero ↦ ap (object_map_place x) zero.3 ∙ ap (option_map (λ (number : ℕ). (number, x.0.index + x.1))) zero.0 ∙ ap (λ (j : ℕ). Some (m, j)) zero.1
  ]

  zeros-is : zeros_due x (shown_name w.maps x) ≡ Some (m, i)
  zeros-is = ap (zeros_due x) shows ∙ object-is

  own-is : x.0.object ≡ object.NewZero → own_map_place x ≡ Some (m, i)
  own-is is = elim z.zeros.new [
    | inl new ↦ own-place-is x m i new.1 new.2
    | inr zero ↦ absurd (let e : object.NewZero ≡ object.Zero zero.2 = sym is ∙ zero.3 in cc)
  ]

  either-is : (k : Kind) → (k ≡ Private → x.0.object ≡ object.NewZero) → cond (makes_own w.anon (own_slot w.maps x) k) (own_map_place x) (zeros_due x (shown_name w.maps x)) ≡ Some (m, i)
  either-is Shared new = zeros-is
  either-is Private new =
      ap (λ (o : Option ℕ). cond (not (holds_alone w.anon o)) (own_map_place x) (zeros_due x (shown_name w.maps x))) z.bare ∙ own-is (new refl)

  by-write : (b : Bool) → (b ≡ true → x.0.kind ≡ Private → x.0.object ≡ object.NewZero) → slot_due w.anon w.maps x b ≡ Some (m, i)
  by-write false new = zeros-is
  by-write true new = either-is x.0.kind (new refl)

  pub due-zeros : slot_due w.anon w.maps x write ≡ Some (m, i)
  due-zeros = by-write write (λ writes. (z.in_place (z.lets writes)).1)

-- ONE IS DUE FOR A STORE to a private page whose own place holds no slot alone.
pub due-own : (anon : AnonSlotsSeen) (maps : List (Option Map)) (x : Spot) (m i : ℕ) (slot : Option ℕ) → x.0.kind ≡ Private → x.0.own ≡ Some m → x.1 ≡ i → own_slot maps x ≡ slot
    → ((s : ℕ) → slot ≡ Some s → 1 < count_at anon s) → slot_due anon maps x true ≡ Some (m, i)
due-own anon maps x m i slot kind own place holds shared =
    ap (λ (k : Kind). cond (makes_own anon (own_slot maps x) k) (own_map_place x) (zeros_due x (shown_name maps x))) kind
    ∙ ap (λ (o : Option ℕ). cond (not (holds_alone anon o)) (own_map_place x) (zeros_due x (shown_name maps x))) holds
    ∙ ap (λ (b : Bool). cond (not b) (own_map_place x) (zeros_due x (shown_name maps x))) (by_slot slot shared)
    ∙ own-place-is x m i own place
  where
    more : (n : ℕ) → 1 < n → (n == 1) ≡ false
    more n lt = elim (eqb_tells n 1) [
      | inl same ↦ let e = same.1 in absurd (let z : ⊥ = omega (arith, lt, e) in z)
      | inr apart ↦ apart.0
    ]

    by_slot : (o : Option ℕ) → ((s : ℕ) → o ≡ Some s → 1 < count_at anon s) → holds_alone anon o ≡ false
    by_slot None many = refl
    by_slot (Some s) many = more (count_at anon s) (many s refl)

-- A PLACE GETS A SLOT: an empty one, or one that held another.
pub gives-new : (old new : AnonSlotsSeen) (maps put : List (Option Map)) (m i s : ℕ) → slot_in maps m i ≡ None → count_at old s ≡ 0 → count_at new s ≡ 1 → new ≡ with_new_slot old s
    → put ≡ with_places maps m (slice_set (places_of maps m) i (Some s)) → GivesSlot old new maps put m i s
gives-new old new maps put m i s empty free alone counts set = record { free = free; alone = alone; counts = counts ∙ ap (λ (o : Option ℕ). with_new_slot (anon_left old o) s) (sym empty); set = set }

pub gives-other : (old new : AnonSlotsSeen) (maps put : List (Option Map)) (m i held s : ℕ) → slot_in maps m i ≡ Some held → count_at old s ≡ 0 → count_at new s ≡ 1
    → new ≡ with_new_slot (with_count old held (count_at old held - 1)) s → put ≡ with_places maps m (slice_set (places_of maps m) i (Some s)) → GivesSlot old new maps put m i s
gives-other old new maps put m i held s holds free alone counts set = record { free = free; alone = alone; counts = counts ∙ ap (λ (o : Option ℕ). with_new_slot (anon_left old o) s) (sym holds); set = set }

-- WHAT A FAULT LEAVES OF SLOTS: nothing changed, ..
pub slots-kept : (old new : World) (x : Spot) (write : Bool) → slot_due old.anon old.maps x write ≡ None → new.anon ≡ old.anon → new.maps ≡ old.maps → SlotsAfter old new x write (Ok fault.Loaded)
slots-kept old new x write none anon maps = subst (λ (o : Option MapPlace). MakesSlotAt old new o) (sym none) (record { counts = anon; places = maps })

-- .. or a slot was made, once steps that change none were taken, and before such steps.
pub slots-made : (old freed made new : World) (x : Spot) (write : Bool) (m i s : ℕ) → slot_due old.anon old.maps x write ≡ Some (m, i) → GivesSlot freed.anon made.anon freed.maps made.maps m i s
    → freed.anon ≡ old.anon → freed.maps ≡ old.maps → new.anon ≡ made.anon → new.maps ≡ made.maps → SlotsAfter old new x write (Ok fault.Loaded)
slots-made old freed made new x write m i s due gives anon maps anon' maps' = subst (λ (o : Option MapPlace). MakesSlotAt old new o) (sym due) (
  s,
  subst (λ (a : AnonSlotsSeen). GivesSlot a new.anon old.maps new.maps m i s) anon
      (subst (λ (a : AnonSlotsSeen). GivesSlot freed.anon a old.maps new.maps m i s) (sym anon')
      (subst (λ (ms : List (Option Map)). GivesSlot freed.anon made.anon ms new.maps m i s) maps
      (subst (λ (ms : List (Option Map)). GivesSlot freed.anon made.anon freed.maps ms m i s) (sym maps') gives))),
)

-- a step that changes no slot afterwards
pub made-still : (old mid new : World) (o : Option MapPlace) → new.anon ≡ mid.anon → new.maps ≡ mid.maps → MakesSlotAt old mid o → MakesSlotAt old new o
made-still old mid new None anon maps k = record { counts = anon ∙ k.counts; places = maps ∙ k.places }
made-still old mid new (Some place) anon maps k = (
  k.0,
  subst (λ (a : AnonSlotsSeen). GivesSlot old.anon a old.maps new.maps place.0 place.1 k.0) (sym anon)
      (subst (λ (ms : List (Option Map)). GivesSlot old.anon mid.anon old.maps ms place.0 place.1 k.0) (sym maps) k.1),
)
