-- What is given back: by one step after another, by a map whose places are emptied, and by one that loses a holder.
use Rattle.seg_ops.proofs.anon_map.KeptLemmas.{there_within as there-within}
use Rattle.std.proofs.Common.{◌≡◌, ◌≢◌, ℕ, ◌-◌, ◌≤◌, Bool, true, false, cond, List, [], length, Option, Some, None, refl, sym, ap, ◌∙◌, inl, inr, subst, arith, slice_set}
use Rattle.std.specs.Prelude.{◌==◌, is_some, unwrap_or, replicate}
use Rattle.std.proofs.lemmas.Bool.{cases_Bool, cases_eq, eqb-true}
use Rattle.seg_ops.specs.anon_map.Maps.{Map, anon_map_at, IsMapThere, AreEmpty, places_of, holders_of, with_places, with_holders, free_numbers}
use Rattle.seg_ops.proofs.anon_map.MapLaws.{with_places_free, with_places_same, with_places_other, with_holders_free, with_holders_same, without_free}
use Rattle.seg_ops.specs.anon_slots.Slots.{AnonSlotsSeen, count_at}
use Rattle.seg_ops.specs.hat_layer.Pool.{HatSeen, translation_at}
use Rattle.seg_ops.specs.vm_world.MapSteps.{maps_released}
use Rattle.seg_ops.specs.vm_world.Serving.{ModifiesNone}
use Rattle.seg_ops.specs.vm_world.World.{World}
use Rattle.seg_ops.proofs.vm_world.KeptMaps.{same-places, same-there}
use Rattle.seg_ops.proofs.vm_world.MapChanges.{released-else, released-last, slot-replicate}
use Rattle.seg_ops.proofs.Modified.{modifies-same, modifies-then}
use Rattle.seg_ops.proofs.SlotPlaces.{places-after}
use Rattle.seg_vn.specs.Clears.{GivesBack}

pub gives-none : (w : World) → GivesBack w w
gives-none w = record { fall = λ slot. omega arith; none = λ p q is. is; there = λ n is. is; lengths = λ n is. refl; numbers = omega arith; modified = modifies-same w }

pub gives-then : (u v w : World) → GivesBack u v → GivesBack v w → GivesBack u w
gives-then u v w a b = record {
  fall = λ slot. let x = a.fall slot in let y = b.fall slot in omega (arith, x, y);
  none = λ p q is. b.none p q (a.none p q is);
  there = λ n is. a.there n (b.there n is);
  lengths = λ n is. b.lengths n is ∙ a.lengths n (b.there n is);
  numbers = let x = a.numbers in let y = b.numbers in omega (arith, x, y);
  modified = modifies-then u v w a.modified b.modified;
}

-- by translations that go
pub unloaded-given : (u v : World) → v.anon ≡ u.anon → v.maps ≡ u.maps → ((p q : ℕ) → translation_at u.hat.places p q ≡ None → translation_at v.hat.places p q ≡ None) → ModifiesNone u v → GivesBack u v
unloaded-given u v anon maps none modified = record {
  fall = λ slot. let e = ap (λ (a : AnonSlotsSeen). count_at a slot) anon in omega (arith, e);
  none = none;
  there = λ n. subst (λ (ms : List (Option Map)). IsMapThere ms n) maps;
  lengths = λ n is. ap (λ (ms : List (Option Map)). length (places_of ms n)) maps;
  numbers = let e = ap (λ (ms : List (Option Map)). free_numbers ms) maps in omega (arith, e);
  modified = modified;
}

-- A MAP THAT GETS OTHER PLACES, as many
module _ (u v : World) (n : ℕ) (ps : List (Option ℕ)) (is : IsMapThere u.maps n) (size : length ps ≡ length (places_of u.maps n)) (maps : v.maps ≡ with_places u.maps n ps) where
  here : places_of v.maps n ≡ ps
  here = ap (λ (ms : List (Option Map)). places_of ms n) maps ∙ places-after u.maps n ps (there-within u.maps n is)

  apart : (k : ℕ) → k ≢ n → anon_map_at v.maps k ≡ anon_map_at u.maps k
  apart k ne = ap (λ (ms : List (Option Map)). anon_map_at ms k) maps ∙ with_places_other u.maps n k ps ne

  pub places-given : ((slot : ℕ) → count_at v.anon slot ≤ count_at u.anon slot) → v.hat ≡ u.hat → ModifiesNone u v → GivesBack u v
  places-given fall hat modified = record {
    fall = fall;
    none = λ p q none. ap (λ (h : HatSeen). translation_at h.places p q) hat ∙ none;
    there = λ k there. elim (cases_eq k n) [
      | inl e ↦ subst (IsMapThere u.maps) (sym e) is
      | inr ne ↦ same-there v.maps u.maps k (sym (apart k ne)) there
    ];
    lengths = λ k there. elim (cases_eq k n) [
      | inl e ↦ ap (λ (j : ℕ). length (places_of v.maps j)) e ∙ ap (λ (l : List (Option ℕ)). length l) here ∙ size ∙ ap (λ (j : ℕ). length (places_of u.maps j)) (sym e)
      | inr ne ↦ ap (λ (l : List (Option ℕ)). length l) (same-places u.maps v.maps k (apart k ne))
    ];
    numbers = let a = ap (λ (ms : List (Option Map)). free_numbers ms) maps in let b = with_places_free u.maps n ps is in omega (arith, a, b);
    modified = modified;
  }

  -- and those of all maps are as empty as before, where these are
  pub places-empty : AreEmpty ps → (k : ℕ) → AreEmpty (places_of u.maps k) → AreEmpty (places_of v.maps k)
  places-empty none k empty = elim (cases_eq k n) [
    | inl e ↦ subst (λ (j : ℕ). AreEmpty (places_of v.maps j)) (sym e) (subst AreEmpty (sym here) none)
    | inr ne ↦ subst AreEmpty (sym (same-places u.maps v.maps k (apart k ne))) empty
  ]

  pub same-held : holders_of v.maps n ≡ holders_of u.maps n
  same-held = ap (λ (ms : List (Option Map)). holders_of ms n) maps ∙ ap (λ (o : Option Map). (unwrap_or o (record { places = []; holders = 0 })).holders) (with_places_same u.maps n ps is)

  pub empty-here : AreEmpty ps → AreEmpty (places_of v.maps n)
  empty-here none = subst AreEmpty (sym here) none

pub none-empty : (k : ℕ) → AreEmpty (replicate k None)
none-empty k i = slot-replicate k i

-- A MAP THAT LOSES A HOLDER
released-there : (maps : List (Option Map)) (o : Option ℕ) (k : ℕ) → ((n : ℕ) → o ≡ Some n → IsMapThere maps n) → IsMapThere (maps_released maps o) k → IsMapThere maps k
released-there maps None k there is = is
released-there maps (Some n) k there is = elim (cases_eq k n) [
  | inl e ↦ subst (IsMapThere maps) (sym e) (there n refl)
  | inr ne ↦ same-there (maps_released maps (Some n)) maps k (sym (released-else maps (Some n) k (λ same. (let e : n ≡ k = cc in ne (sym e))))) is
]

released-lengths : (maps : List (Option Map)) (o : Option ℕ) (k : ℕ) → ((n : ℕ) → o ≡ Some n → IsMapThere maps n) → IsMapThere (maps_released maps o) k → length (places_of (maps_released maps o) k) ≡ length (places_of maps k)
released-lengths maps None k there is = refl
released-lengths maps (Some n) k there is = elim (cases_eq k n) [
  | inr ne ↦ ap (λ (l : List (Option ℕ)). length l) (same-places maps (maps_released maps (Some n)) k (released-else maps (Some n) k (λ same. (let e : n ≡ k = cc in ne (sym e)))))
  | inl e ↦ elim (cases_Bool (holders_of maps n == 1)) [
    | inl last ↦ absurd (
        let gone = released-last maps n (there n refl) (eqb-true (holders_of maps n) 1 last) in
        let z : false ≡ true = sym (ap (λ (o : Option Map). is_some o) (ap (anon_map_at (maps_released maps (Some n))) e ∙ gone)) ∙ is in cc)
    | inr more ↦
        let left = ap (λ (b : Bool). places_of (cond b (slice_set maps n None) (with_holders maps n (holders_of maps n - 1))) n) more
        ∙ ap (λ (o : Option Map). (unwrap_or o (record { places = []; holders = 0 })).places) (with_holders_same maps n (holders_of maps n - 1) (there n refl)) in
        ap (λ (j : ℕ). length (places_of (maps_released maps (Some n)) j)) e ∙ ap (λ (l : List (Option ℕ)). length l) left ∙ ap (λ (j : ℕ). length (places_of maps j)) (sym e)
  ]
]

released-free : (maps : List (Option Map)) (o : Option ℕ) → ((n : ℕ) → o ≡ Some n → IsMapThere maps n) → free_numbers maps ≤ free_numbers (maps_released maps o)
released-free maps None there = omega arith
released-free maps (Some n) there = elim (cases_Bool (holders_of maps n == 1)) [
  | inl last ↦
      let e = ap (λ (b : Bool). free_numbers (cond b (slice_set maps n None) (with_holders maps n (holders_of maps n - 1)))) last in
      let f = without_free maps n (there n refl) in
      omega (arith, e, f)
  | inr more ↦
      let e = ap (λ (b : Bool). free_numbers (cond b (slice_set maps n None) (with_holders maps n (holders_of maps n - 1)))) more in
      let f = with_holders_free maps n (holders_of maps n - 1) (there n refl) in
      omega (arith, e, f)
]

pub release-given : (u v : World) (o : Option ℕ) (r : ℕ) → ((n : ℕ) → o ≡ Some n → IsMapThere u.maps n) → v ≡ record u { anon = record u.anon { reserved = r }; maps = maps_released u.maps o } → GivesBack u v
release-given u v o r there is = subst (λ (w : World). GivesBack u w) (sym is) (record {
  fall = λ slot. omega arith;
  none = λ p q none. none;
  there = λ k. released-there u.maps o k there;
  lengths = λ k. released-lengths u.maps o k there;
  numbers = released-free u.maps o there;
  modified = record { modified = λ name k home m. (home, m); rewritten = λ name k home m. (home, m) };
})
