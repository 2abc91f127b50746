-- Segments whose anon maps stay: they fit, and each page shows what it showed.
use Rattle.vm_world.proofs.ShownZeros.{number-is, is-the-number}
use Rattle.std.proofs.Common.{◌≡◌, ◌≢◌, ℕ, ◌+◌, ◌<◌, ◌≤◌, Bool, true, false, cond, List, [], ◌∷◌, length, Option, Some, None, refl, sym, ap, ◌∙◌, inl, inr, subst, arith, slice_index_or}
use Rattle.std.specs.Prelude.{option_map, option_and_then, IsSome, All, unwrap_or}
use Rattle.std.specs.Option.{option_or}
use Rattle.std.proofs.lemmas.Bool.{cases_Bool, eq-eqb, eqb-true}
use Rattle.std.proofs.lemmas.List.Elements.{All-nil, All-cons, All-head, All-tail}
use Rattle.flat_model.specs.vm_types.declared.call.Kind.{Kind}
use Rattle.flat_model.specs.vm_types.declared.call.Kind.TheVariants.{Shared, Private}
use Rattle.flat_model.specs.vm_types.declared.call.Object.{Object}
use Rattle.flat_model.specs.vm_types.declared.call.Object.TheVariants as object
use Rattle.addr_space.specs.Space.{Part}
use Rattle.anon_map.specs.Maps.{Map, anon_map_at, IsMapThere, places_of, holders_of}
use Rattle.flat_model.specs.Words.{Page}
use Rattle.page_store.specs.page_hash.declared.PageName.{PageName}
use Rattle.vm_world.specs.CountsFit.{SegmentFits, ObjectFits, OwnFits, times_had, is_number}
use Rattle.vm_world.specs.FlatMemory.{cell_of, own_without_slot}
use Rattle.vm_world.specs.Pages.{place_contents}
use Rattle.vm_world.specs.Segments.{Segment, Spot, own_slot, object_name, shown_name}
use Rattle.vm_world.specs.World.{slot_in, slot_name}

-- The maps of a segment stay: its own as it is, and that of the zero object which it shows with its places.
pub record KeepsMaps (maps put : List (Option Map)) (s : Segment) : Type 0 where
  pub own : (n : ℕ) → s.own ≡ Some n → anon_map_at put n ≡ anon_map_at maps n
  pub shown : (n : ℕ) → s.shown ≡ Some n → IsMapThere put n × (places_of put n ≡ places_of maps n)

pub same-places : (maps put : List (Option Map)) (n : ℕ) → anon_map_at put n ≡ anon_map_at maps n → places_of put n ≡ places_of maps n
same-places maps put n e = ap (λ (o : Option Map). (unwrap_or o (record { places = []; holders = 0 })).places) e

pub same-holders : (maps put : List (Option Map)) (n : ℕ) → anon_map_at put n ≡ anon_map_at maps n → holders_of put n ≡ holders_of maps n
same-holders maps put n e = ap (λ (o : Option Map). (unwrap_or o (record { places = []; holders = 0 })).holders) e

pub same-there : (maps put : List (Option Map)) (n : ℕ) → anon_map_at put n ≡ anon_map_at maps n → IsMapThere maps n → IsMapThere put n
same-there maps put n e there = subst (λ (o : Option Map). IsSome o) (sym e) there

-- A SEGMENT FITS
object-kept : (files : ℕ) (maps put : List (Option Map)) (s : Segment) (o : Object) → KeepsMaps maps put s → ObjectFits files maps s o → ObjectFits files put s o
object-kept files maps put s (object.File f) k fit = fit
object-kept files maps put s (object.Zero z) k fit = (fit.0, fit.1, (k.shown fit.0 fit.1).0)
object-kept files maps put s object.NewZero k fit = fit

own-kept : (maps put : List (Option Map)) (s : Segment) (o : Kind) → KeepsMaps maps put s → OwnFits maps s o → OwnFits put s o
own-kept maps put s Shared k fit = fit
own-kept maps put s Private k fit =
    let e = k.own fit.0 fit.1 in
    (fit.0, fit.1, same-there maps put fit.0 e fit.2, ap (λ (ps : List (Option ℕ)). length ps) (same-places maps put fit.0 e) ∙ fit.3, same-holders maps put fit.0 e ∙ fit.4)

pub kept-fits : (files : ℕ) (maps put : List (Option Map)) (a : Part Segment) → KeepsMaps maps put a.piece → SegmentFits files maps a → SegmentFits files put a
kept-fits files maps put a k fit = record {
  pages = fit.pages;
  end = fit.end;
  within = fit.within;
  object = object-kept files maps put a.piece a.piece.object k fit.object;
  own = own-kept maps put a.piece a.piece.kind k fit.own;
}

-- AND SHOWS what it showed
pub slot-in-same : (maps put : List (Option Map)) (n i : ℕ) → places_of put n ≡ places_of maps n → slot_in put n i ≡ slot_in maps n i
slot-in-same maps put n i e = ap (λ (ps : List (Option ℕ)). slice_index_or ps i None) e

and-then-same : {X : Type 0} (f g : ℕ → Option X) (o : Option ℕ) → ((n : ℕ) → o ≡ Some n → g n ≡ f n) → option_and_then g o ≡ option_and_then f o
and-then-same f g None same = refl
and-then-same f g (Some n) same = same n refl

pub kept-slot : (maps put : List (Option Map)) (x : Spot) → KeepsMaps maps put x.0 → own_slot put x ≡ own_slot maps x
kept-slot maps put x k = and-then-same (λ n. slot_in maps n x.1) (λ n. slot_in put n x.1) x.0.own (λ n is. slot-in-same maps put n x.1 (same-places maps put n (k.own n is)))

kept-object : (maps put : List (Option Map)) (s : Segment) (i : ℕ) (o : Object) → KeepsMaps maps put s → object_name put s.shown i o ≡ object_name maps s.shown i o
kept-object maps put s i (object.File f) k = refl
kept-object maps put s i (object.Zero z) k = and-then-same (λ n. option_map slot_name (slot_in maps n i)) (λ n. option_map slot_name (slot_in put n i)) s.shown (λ n is. ap (option_map slot_name) (slot-in-same maps put n i (k.shown n is).1))
kept-object maps put s i object.NewZero k = refl

pub kept-name : (maps put : List (Option Map)) (x : Spot) → KeepsMaps maps put x.0 → shown_name put x ≡ shown_name maps x
kept-name maps put x k =
    let a = kept-slot maps put x k in
    let b = kept-object maps put x.0 (x.0.index + x.1) x.0.object k in
    λ i. option_or (option_map slot_name (a i)) (b i)

pub kept-cell : (page : PageName → Page) (maps put : List (Option Map)) (x : Spot) → KeepsMaps maps put x.0 → cell_of (place_contents page put) x ≡ cell_of (place_contents page maps) x
kept-cell page maps put x k =
    let own : option_and_then (λ n. option_or (place_contents page put n x.1) (own_without_slot x.0.object)) x.0.own ≡ option_and_then (λ n. option_or (place_contents page maps n x.1) (own_without_slot x.0.object)) x.0.own =
    and-then-same (λ n. option_or (place_contents page maps n x.1) (own_without_slot x.0.object)) (λ n. option_or (place_contents page put n x.1) (own_without_slot x.0.object)) x.0.own
    (λ n is. ap (λ (s : Option ℕ). option_or (option_map (λ slot. page (slot_name slot)) s) (own_without_slot x.0.object)) (slot-in-same maps put n x.1 (same-places maps put n (k.own n is)))) in
    λ i. record { prot = x.0.prot; max = x.0.max; kind = x.0.kind; object = x.0.object; index = x.0.index + x.1; own = own i }

pub own-counts : (m : ℕ) (s : Segment) → s.own ≡ Some m → 1 ≤ times_had m s
own-counts m s is = let e = ap (λ (b : Bool). cond {A = ℕ} b 1 0) (is-the-number m s.own is) in omega (arith, e)

pub shown-counts : (m : ℕ) (s : Segment) → s.shown ≡ Some m → 1 ≤ times_had m s
shown-counts m s is = let e = ap (λ (b : Bool). cond {A = ℕ} b 1 0) (is-the-number m s.shown is) in omega (arith, e)

-- the own map of a segment that fits is there, with one holder
pub own-there : (maps : List (Option Map)) (s : Segment) (k : Kind) (n : ℕ) → OwnFits maps s k → s.own ≡ Some n → IsMapThere maps n × (holders_of maps n ≡ 1) × (length (places_of maps n) ≡ s.pages) × (k ≡ Private)
own-there maps s Shared n fit is = absurd (let z : None ≡ Some n = sym fit ∙ is in cc)
own-there maps s Private n fit is =
    let same : fit.0 ≡ n = let z : Some fit.0 ≡ Some n = sym fit.1 ∙ is in cc in
    subst (λ (k : ℕ). IsMapThere maps k × (holders_of maps k ≡ 1) × (length (places_of maps k) ≡ s.pages) × (Private ≡ Private)) same (fit.2, fit.4, fit.3, refl)

-- and the map that it shows is that of a zero object, which is there
pub shown-there : (files : ℕ) (maps : List (Option Map)) (s : Segment) (o : Object) (n : ℕ) → ObjectFits files maps s o → s.shown ≡ Some n → IsMapThere maps n × ((z : ℕ) × (o ≡ object.Zero z))
shown-there files maps s (object.File f) n fit is = absurd (let z : None ≡ Some n = sym fit.1 ∙ is in cc)
shown-there files maps s object.NewZero n fit is = absurd (let z : None ≡ Some n = sym fit.1 ∙ is in cc)
shown-there files maps s (object.Zero z) n fit is =
    let same : fit.0 ≡ n = let z : Some fit.0 ≡ Some n = sym fit.1 ∙ is in cc in
    (subst (λ (k : ℕ). IsMapThere maps k) same fit.2, (z, refl))

-- THE OTHERS' MAPS STAY, where the maps of one segment change: its own, and of that which it shows the holders, or all where it has no other holder.
pub record Touches (maps put : List (Option Map)) (own shown : Option ℕ) : Type 0 where
  pub else : (n : ℕ) → IsMapThere maps n → own ≢ Some n → shown ≢ Some n → anon_map_at put n ≡ anon_map_at maps n
  pub held : (n : ℕ) → IsMapThere maps n → own ≢ Some n → shown ≡ Some n → 1 < holders_of maps n → IsMapThere put n × (places_of put n ≡ places_of maps n)

pub others-keep : (files : ℕ) (maps put : List (Option Map)) (x : Segment) (a : Part Segment) → Touches maps put x.own x.shown → SegmentFits files maps a
    → ((n : ℕ) → times_had n a.piece + times_had n x ≤ holders_of maps n) → ((n : ℕ) → x.own ≡ Some n → holders_of maps n ≡ 1) → KeepsMaps maps put a.piece
others-keep files maps put x a t fit few one = record {
  own = λ n is.
      let there = own-there maps a.piece a.piece.kind n fit.own is in
      let once = there.1 in
      let mine = own-counts n a.piece is in
      let all = few n in
      t.else n there.0 (λ its. (let more = own-counts n x its in absurd (omega (arith, mine, more, all, once)))) (λ its. (let more = shown-counts n x its in absurd (omega (arith, mine, more, all, once))));
  shown = λ n is.
      let there = shown-there files maps a.piece a.piece.object n fit.object is in
      let mine = shown-counts n a.piece is in
      let all = few n in
      let not_own : x.own ≢ Some n = λ its. (let more = own-counts n x its in let once = one n its in absurd (omega (arith, mine, more, all, once))) in
      elim (cases_Bool (is_number n x.shown)) [
        | inl y ↦ let its = number-is n x.shown y in let more = shown-counts n x its in t.held n there.0 not_own its (omega (arith, mine, more, all))
        | inr not ↦ let e = t.else n there.0 not_own (λ its. (let z : false ≡ true = sym not ∙ is-the-number n x.shown its in cc)) in (same-there maps put n e there.0, same-places maps put n e)
      ];
}

pub all-both : {X : Type 0} (P Q : X → Type 0) (xs : List X) → All P xs → All Q xs → All (λ x. P x × Q x) xs
all-both P Q [] a b = All-nil (λ x. P x × Q x)
all-both P Q (x ∷ xs) a b = All-cons (λ x. P x × Q x) x xs (All-head P x xs a, All-head Q x xs b) (all-both P Q xs (All-tail P x xs a) (All-tail Q x xs b))

pub all-every : {X : Type 0} (P : ℕ → X → Type 0) (xs : List X) → ((n : ℕ) → All (P n) xs) → All (λ x. (n : ℕ) → P n x) xs
all-every P [] each = All-nil (λ x. (n : ℕ) → P n x)
all-every P (x ∷ xs) each = All-cons (λ x. (n : ℕ) → P n x) x xs (λ n. All-head (P n) x xs (each n)) (all-every P xs (λ n. All-tail (P n) x xs (each n)))
