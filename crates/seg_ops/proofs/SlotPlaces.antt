-- The maps after a place was set.
use Rattle.std.proofs.Common.{◌≡◌, ◌≢◌, ℕ, zero, suc, ◌+◌, ◌<◌, List, [], ◌∷◌, length, Option, Some, None, refl, sym, ap, ◌∙◌, ◌⊎◌, inl, inr, subst, slice_index_or, slice_set, get_or-set_same}
use Rattle.std.specs.Prelude.{IsSome, true, false, unwrap_or, option_map, option_and_then}
use Rattle.std.specs.Option.{option_or}
use Rattle.std.proofs.lemmas.Bool.{cases_eq}
use Rattle.std.proofs.lemmas.List.{get_or-set_other}
use Rattle.vm_world.specs.vm_types.declared.call.Object.{Object}
use Rattle.vm_world.specs.vm_types.declared.call.Object.TheVariants as object
use Rattle.vm_world.specs.vm_types.declared.call.Kind.{Kind}
use Rattle.vm_world.specs.vm_types.declared.call.Kind.TheVariants.{Shared, Private}
use Rattle.page_store.specs.page_hash.declared.PageName.{PageName}
use Rattle.vm_world.specs.anon_map.Maps.{Map, anon_map_at, the_map, IsMapThere, places_of, holders_of, with_places}
use Rattle.vm_world.specs.declared.segment.Segment.{Segment}
use Rattle.vm_world.specs.Segments.{Spot, own_slot, object_name, shown_name}
use Rattle.vm_world.specs.World.{slot_in, slot_name}
use Rattle.vm_world.specs.CountsFit.{OwnFits, ObjectFits}
use Rattle.vm_world.proofs.Counting.{map-within}

-- the map of a number after other places of one
map_set : (maps : List (Option Map)) (m k : ℕ) (places : List (Option ℕ)) → m < length maps → ((k ≡ m) × (anon_map_at (with_places maps m places) k ≡ Some (record (the_map maps m) { places = places }))) ⊎ ((k ≢ m) × (anon_map_at (with_places maps m places) k ≡ anon_map_at maps k))
map_set maps m k places lt = elim (cases_eq k m) [
  | inl e ↦ inl (e, ap (λ (j : ℕ). anon_map_at (with_places maps m places) j) e ∙ get_or-set_same maps m (Some (record (the_map maps m) { places = places })) None lt)
  | inr ne ↦ inr (ne, get_or-set_other maps m k (Some (record (the_map maps m) { places = places })) None ne)
]

pub places-set : (maps : List (Option Map)) (m k : ℕ) (places : List (Option ℕ)) → m < length maps → length places ≡ length (places_of maps m) → length (places_of (with_places maps m places) k) ≡ length (places_of maps k)
places-set maps m k places lt size = elim (map_set maps m k places lt) [
  | inl e ↦ ap (λ (o : Option Map). length (unwrap_or o (record { places = []; holders = 0 })).places) e.1 ∙ size ∙ ap (λ (j : ℕ). length (places_of maps j)) (sym e.0)
  | inr e ↦ ap (λ (o : Option Map). length (unwrap_or o (record { places = []; holders = 0 })).places) e.1
]

pub holders-set : (maps : List (Option Map)) (m k : ℕ) (places : List (Option ℕ)) → m < length maps → holders_of (with_places maps m places) k ≡ holders_of maps k
holders-set maps m k places lt = elim (map_set maps m k places lt) [
  | inl e ↦ ap (λ (o : Option Map). (unwrap_or o (record { places = []; holders = 0 })).holders) e.1 ∙ ap (λ (j : ℕ). holders_of maps j) (sym e.0)
  | inr e ↦ ap (λ (o : Option Map). (unwrap_or o (record { places = []; holders = 0 })).holders) e.1
]

pub there-set : (maps : List (Option Map)) (m k : ℕ) (places : List (Option ℕ)) → m < length maps → IsMapThere maps k → IsMapThere (with_places maps m places) k
there-set maps m k places lt there = elim (map_set maps m k places lt) [
  | inl e ↦ subst (λ (o : Option Map). IsSome o) (sym e.1) refl
  | inr e ↦ subst (λ (o : Option Map). IsSome o) (sym e.1) there
]

-- the slot at a place after one was set
pub slot-here : (maps : List (Option Map)) (m i : ℕ) (o : Option ℕ) → i < length (places_of maps m) → slot_in (with_places maps m (slice_set (places_of maps m) i o)) m i ≡ o
slot-here maps m i o lt =
    let e = get_or-set_same maps m (Some (record (the_map maps m) { places = slice_set (places_of maps m) i o })) None (map-within maps m i lt) in
    ap (λ (x : Option Map). slice_index_or (unwrap_or x (record { places = []; holders = 0 })).places i None) e ∙ get_or-set_same (places_of maps m) i o None lt

pub slot-else : (maps : List (Option Map)) (m i k j : ℕ) (o : Option ℕ) → i < length (places_of maps m) → ((k ≡ m) × (j ≡ i) → ⊥) → slot_in (with_places maps m (slice_set (places_of maps m) i o)) k j ≡ slot_in maps k j
slot-else maps m i k j o lt apart = elim (map_set maps m k (slice_set (places_of maps m) i o) (map-within maps m i lt)) [
  | inl e ↦
      ap (λ (x : Option Map). slice_index_or (unwrap_or x (record { places = []; holders = 0 })).places j None) e.1
      ∙ get_or-set_other (places_of maps m) i j o None (λ d. apart (e.0, d))
      ∙ ap (λ (a : ℕ). slot_in maps a j) (sym e.0)
  | inr e ↦ ap (λ (x : Option Map). slice_index_or (unwrap_or x (record { places = []; holders = 0 })).places j None) e.1
]

-- the places of the map that has others
pub places-after : (maps : List (Option Map)) (m : ℕ) (a : List (Option ℕ)) → m < length maps → places_of (with_places maps m a) m ≡ a
places-after maps m a lt = ap (λ (o : Option Map). (unwrap_or o (record { places = []; holders = 0 })).places) (get_or-set_same maps m (Some (record (the_map maps m) { places = a })) None lt)

-- a place that is set twice
pub set_twice : {X : Type 0} (xs : List X) (i : ℕ) (a b : X) → slice_set (slice_set xs i a) i b ≡ slice_set xs i b
set_twice [] i a b = refl
set_twice (x ∷ xs) zero a b = refl
set_twice (x ∷ xs) (suc i) a b = ap (λ l. x ∷ l) (set_twice xs i a b)

-- a place that holds what it held
pub set_same : {X : Type 0} (xs : List X) (i : ℕ) (d : X) → slice_set xs i (slice_index_or xs i d) ≡ xs
set_same [] i d = refl
set_same (x ∷ xs) zero d = refl
set_same (x ∷ xs) (suc i) d = ap (λ l. x ∷ l) (set_same xs i d)

pub places-same : (maps : List (Option Map)) (m : ℕ) → IsMapThere maps m → with_places maps m (places_of maps m) ≡ maps
places-same maps m there = ap (slice_set maps m) (by_map (anon_map_at maps m) there) ∙ set_same maps m None
  where
    by_map : (o : Option Map) → IsSome o → Some (record (unwrap_or o (record { places = []; holders = 0 })) { places = (unwrap_or o (record { places = []; holders = 0 })).places }) ≡ o
    by_map None there = absurd (let z : false ≡ true = there in cc)
    by_map (Some x) there = refl

pub place-same : (maps : List (Option Map)) (m i : ℕ) (o : Option ℕ) → IsMapThere maps m → slot_in maps m i ≡ o → with_places maps m (slice_set (places_of maps m) i o) ≡ maps
place-same maps m i o there is =
    ap (λ (a : Option ℕ). with_places maps m (slice_set (places_of maps m) i a)) (sym is) ∙ ap (with_places maps m) (set_same (places_of maps m) i None) ∙ places-same maps m there

pub places-twice : (maps : List (Option Map)) (m : ℕ) (a b : List (Option ℕ)) → m < length maps → with_places (with_places maps m a) m b ≡ with_places maps m b
places-twice maps m a b lt =
    let old : Map = the_map maps m in
    let the : the_map (with_places maps m a) m ≡ record old { places = a } = ap (λ (o : Option Map). unwrap_or o (record { places = []; holders = 0 })) (get_or-set_same maps m (Some (record old { places = a })) None lt) in
    ap (λ (x : Map). slice_set (with_places maps m a) m (Some (record x { places = b }))) the ∙ set_twice maps m (Some (record old { places = a })) (Some (record old { places = b }))

pub place-twice : (maps : List (Option Map)) (m i : ℕ) (o a : Option ℕ) → i < length (places_of maps m)
    → with_places (with_places maps m (slice_set (places_of maps m) i o)) m (slice_set (places_of (with_places maps m (slice_set (places_of maps m) i o)) m) i a) ≡ with_places maps m (slice_set (places_of maps m) i a)
place-twice maps m i o a lt =
    let within = map-within maps m i lt in
    let put = with_places maps m (slice_set (places_of maps m) i o) in
    places-twice maps m (slice_set (places_of maps m) i o) (slice_set (places_of put m) i a) within
    ∙ ap (λ (l : List (Option ℕ)). with_places maps m (slice_set l i a)) (places-after maps m (slice_set (places_of maps m) i o) within)
    ∙ ap (λ (l : List (Option ℕ)). with_places maps m l) (set_twice (places_of maps m) i o a)

-- An empty place that was set: what a page showed it shows, but for pages of which it is the own place.
pub record StaysShown (maps put : List (Option Map)) (x : Spot) (n : PageName) : Type 0 where
  pub shows : shown_name put x ≡ Some n
  pub own : own_slot put x ≡ own_slot maps x

pub own-else : (maps : List (Option Map)) (m i j : ℕ) (o : Option ℕ) (own : Option ℕ) → i < length (places_of maps m) → (own ≡ Some m → j ≡ i → ⊥)
    → option_and_then (λ k. slot_in (with_places maps m (slice_set (places_of maps m) i o)) k j) own ≡ option_and_then (λ k. slot_in maps k j) own
own-else maps m i j o None lt apart = refl
own-else maps m i j o (Some k) lt apart = slot-else maps m i k j o lt (λ e. apart (ap (λ (a : ℕ). Some a) e.0) e.1)

-- the page of the object, where there is one
object-else : (maps : List (Option Map)) (m i j s : ℕ) (shown : Option ℕ) (ob : Object) (n : PageName) → i < length (places_of maps m) → slot_in maps m i ≡ None → object_name maps shown j ob ≡ Some n
    → object_name (with_places maps m (slice_set (places_of maps m) i (Some s))) shown j ob ≡ Some n
object-else maps m i j s shown (object.File f) n lt empty is = is
object-else maps m i j s shown object.NewZero n lt empty is = is
object-else maps m i j s shown (object.Zero z) n lt empty is = by_shown shown is
  where
    by_slot : (k : ℕ) → ((k ≡ m) × (j ≡ i) → ⊥) → option_map slot_name (slot_in maps k j) ≡ Some n → option_map slot_name (slot_in (with_places maps m (slice_set (places_of maps m) i (Some s))) k j) ≡ Some n
    by_slot k b is = ap (option_map slot_name) (slot-else maps m i k j (Some s) lt b) ∙ is

    by_shown : (o : Option ℕ) → option_and_then (λ k. option_map slot_name (slot_in maps k j)) o ≡ Some n → option_and_then (λ k. option_map slot_name (slot_in (with_places maps m (slice_set (places_of maps m) i (Some s))) k j)) o ≡ Some n
    by_shown None is = is
    by_shown (Some k) is = by_slot k (λ e. let z : None ≡ Some n = ap (option_map slot_name) (sym empty) ∙ ap (λ (a : ℕ). option_map slot_name (slot_in maps a i)) (sym e.0) ∙ ap (λ (a : ℕ). option_map slot_name (slot_in maps k a)) (sym e.1) ∙ is in cc) is

pub stays-shown : (maps : List (Option Map)) (m i s : ℕ) (x : Spot) (n : PageName) → i < length (places_of maps m) → slot_in maps m i ≡ None → (x.0.own ≡ Some m → x.1 ≡ i → ⊥) → shown_name maps x ≡ Some n
    → StaysShown maps (with_places maps m (slice_set (places_of maps m) i (Some s))) x n
stays-shown maps m i s x n lt empty apart is =
    let own = own-else maps m i x.1 (Some s) x.0.own lt apart in
    record {
      own = own;
      shows = ap (λ (o : Option ℕ). option_or (option_map slot_name o) (object_name (with_places maps m (slice_set (places_of maps m) i (Some s))) x.0.shown (x.0.index + x.1) x.0.object)) own ∙ by_own (own_slot maps x) is;
    }
  where
    by_own : (o : Option ℕ) → option_or (option_map slot_name o) (object_name maps x.0.shown (x.0.index + x.1) x.0.object) ≡ Some n → option_or (option_map slot_name o) (object_name (with_places maps m (slice_set (places_of maps m) i (Some s))) x.0.shown (x.0.index + x.1) x.0.object) ≡ Some n
    by_own (Some t) is = is
    by_own None is = object-else maps m i (x.0.index + x.1) s x.0.shown x.0.object n lt empty is

-- what a page shows where neither its own place nor its object's map is the one that was set
object-apart : (maps : List (Option Map)) (m i j : ℕ) (o : Option ℕ) (shown : Option ℕ) (ob : Object) → i < length (places_of maps m) → shown ≢ Some m → object_name (with_places maps m (slice_set (places_of maps m) i o)) shown j ob ≡ object_name maps shown j ob
object-apart maps m i j o shown (object.File f) lt far = refl
object-apart maps m i j o shown object.NewZero lt far = refl
object-apart maps m i j o shown (object.Zero z) lt far = by_shown shown far
  where
    by_shown : (a : Option ℕ) → a ≢ Some m → option_and_then (λ k. option_map slot_name (slot_in (with_places maps m (slice_set (places_of maps m) i o)) k j)) a ≡ option_and_then (λ k. option_map slot_name (slot_in maps k j)) a
    by_shown None far = refl
    by_shown (Some k) far = ap (option_map slot_name) (slot-else maps m i k j o lt (λ e. far (ap (λ (a : ℕ). Some a) e.0)))

pub stays-apart : (maps : List (Option Map)) (m i : ℕ) (o : Option ℕ) (x : Spot) (n : PageName) → i < length (places_of maps m) → (x.0.own ≡ Some m → x.1 ≡ i → ⊥) → x.0.shown ≢ Some m → shown_name maps x ≡ Some n
    → StaysShown maps (with_places maps m (slice_set (places_of maps m) i o)) x n
stays-apart maps m i o x n lt apart far is =
    let put = with_places maps m (slice_set (places_of maps m) i o) in
    let own = own-else maps m i x.1 o x.0.own lt apart in
    record {
      own = own;
      shows = ap (λ (a : Option ℕ). option_or (option_map slot_name a) (object_name put x.0.shown (x.0.index + x.1) x.0.object)) own
          ∙ ap (λ (b : Option PageName). option_or (option_map slot_name (own_slot maps x)) b) (object-apart maps m i (x.0.index + x.1) o x.0.shown x.0.object lt far) ∙ is;
    }

-- a segment fits the maps after a place was set
pub own-set : (maps : List (Option Map)) (m : ℕ) (places : List (Option ℕ)) (s : Segment) (k : Kind) → m < length maps → length places ≡ length (places_of maps m) → OwnFits maps s k → OwnFits (with_places maps m places) s k
own-set maps m places s Shared lt size fit = fit
own-set maps m places s Private lt size fit = (fit.0, fit.1, there-set maps m fit.0 places lt fit.2, places-set maps m fit.0 places lt size ∙ fit.3, holders-set maps m fit.0 places lt ∙ fit.4)

pub object-set : (files : ℕ) (maps : List (Option Map)) (m : ℕ) (places : List (Option ℕ)) (s : Segment) (ob : Object) → m < length maps → ObjectFits files maps s ob → ObjectFits files (with_places maps m places) s ob
object-set files maps m places s (object.File f) lt fit = fit
object-set files maps m places s object.NewZero lt fit = fit
object-set files maps m places s (object.Zero z) lt fit = (fit.0, fit.1, there-set maps m fit.0 places lt fit.2)
