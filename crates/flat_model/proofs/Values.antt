-- Finite maps whose values a function changes.
use Rattle.std.proofs.Common.{◌≡◌, ◌≢◌, ℕ, ◌+◌, Bool, true, false, cond, T, ◌&&◌, List, [], ◌∷◌, length, map, Option, Some, None, refl, sym, ap, subst, ◌∙◌, inl, inr}
use Rattle.std.specs.Prelude.{option_map}
use Rattle.std.specs.List.{fold, sum_by}
use Rattle.std.specs.Ordering.{nat_cmp, is_eq, is_lt}
use Rattle.std.specs.Cmp.{nat_cmp_total}
use Rattle.std.specs.FinMap as finite
use Rattle.std.specs.FinMap.{is_sorted}
use Rattle.std.specs.FinMap.Entries.{below_all}
use Rattle.std.proofs.lemmas.Bool.{cases_eq}
use Rattle.std.proofs.lemmas.List.{length-map}
use Rattle.flat_model.specs.Shapes.{map_with}
use Rattle.flat_model.proofs.Ranges.{get-insert_here, get-insert_apart, get-remove_here, get-remove_apart, get-retain_keys, option_map-cond as by_key}

find-changed : {X Y : Type 0} (f : X → Y) (es : List (ℕ × X)) (q : ℕ) → finite.find nat_cmp q (map (λ e. (e.0, f e.1)) es) ≡ option_map f (finite.find nat_cmp q es)
find-changed f [] q = refl
find-changed f (e ∷ es) q = ap (cond (is_eq (nat_cmp q e.0)) (Some (f e.1))) (find-changed f es q) ∙ by_key f (is_eq (nat_cmp q e.0)) e.1 (finite.find nat_cmp q es)

pub get-map_with : {X Y : Type 0} (f : X → Y) (m : finite.FinMap nat_cmp X) (q : ℕ) → finite.get (map_with f m) q ≡ option_map f (finite.get m q)
get-map_with f m q = finite.get-from_entries nat_cmp_total (map (λ e. (e.0, f e.1)) (finite.entries m)) q ∙ find-changed f (finite.entries m) q ∙ ap (option_map f) (sym (finite.get-entries m q))

pub on_option : {X Y : Type 0} (f g : X → Y) (o : Option X) → ((x : X) → o ≡ Some x → g x ≡ f x) → option_map g o ≡ option_map f o
on_option f g None same = refl
on_option f g (Some x) same = ap (λ y. Some y) (same x refl)

-- functions that agree on the values there are
pub map_with-same : {X Y : Type 0} (f g : X → Y) (m : finite.FinMap nat_cmp X) → ((q : ℕ) (x : X) → finite.get m q ≡ Some x → g x ≡ f x) → map_with g m ≡ map_with f m
map_with-same f g m same = finite.same_map nat_cmp_total finite.nat_cmp-IsAntisymmetric _ _ (λ q. get-map_with g m q ∙ on_option f g (finite.get m q) (same q) ∙ sym (get-map_with f m q))

-- one function after another
pub map_with-twice : {X Y Z : Type 0} (f : X → Y) (g : Y → Z) (h : X → Z) (m : finite.FinMap nat_cmp X) → ((x : X) → g (f x) ≡ h x) → map_with g (map_with f m) ≡ map_with h m
map_with-twice {X} f g h m same = finite.same_map nat_cmp_total finite.nat_cmp-IsAntisymmetric _ _ (λ q. get-map_with g (map_with f m) q ∙ ap (option_map g) (get-map_with f m q) ∙ both (finite.get m q) ∙ sym (get-map_with h m q))
  where
    both : (o : Option X) → option_map g (option_map f o) ≡ option_map h o
    both None = refl
    both (Some x) = ap (λ z. Some z) (same x)

pub map-empty : {X Y : Type 0} (f : X → Y) → map_with f finite.empty ≡ finite.empty
map-empty {X} {Y} f = finite.same_map nat_cmp_total finite.nat_cmp-IsAntisymmetric (map_with f finite.empty) finite.empty (λ q.
    get-map_with f finite.empty q ∙ ap (option_map f) (finite.get-empty nat_cmp q) ∙ sym (finite.get-empty nat_cmp q))

-- a value is taken away
pub map-remove : {X Y : Type 0} (f : X → Y) (m : finite.FinMap nat_cmp X) (k : ℕ) → map_with f (finite.remove m k) ≡ finite.remove (map_with f m) k
map-remove f m k = finite.same_map nat_cmp_total finite.nat_cmp-IsAntisymmetric _ _ (λ q. get-map_with f (finite.remove m k) q ∙ elim (cases_eq q k) [
  | inl e ↦ ap (λ (j : ℕ). option_map f (finite.get (finite.remove m k) j)) e ∙ ap (option_map f) (get-remove_here m k) ∙ sym (get-remove_here (map_with f m) k) ∙ ap (finite.get (finite.remove (map_with f m) k)) (sym e)
  | inr ne ↦ ap (option_map f) (get-remove_apart m k q ne) ∙ sym (get-map_with f m q) ∙ sym (get-remove_apart (map_with f m) k q ne)
])

-- and one is put
pub map-insert : {X Y : Type 0} (f : X → Y) (m : finite.FinMap nat_cmp X) (k : ℕ) (v : X) → map_with f (finite.insert m k v) ≡ finite.insert (map_with f m) k (f v)
map-insert f m k v = finite.same_map nat_cmp_total finite.nat_cmp-IsAntisymmetric _ _ (λ q. get-map_with f (finite.insert m k v) q ∙ elim (cases_eq q k) [
  | inl e ↦ ap (λ (j : ℕ). option_map f (finite.get (finite.insert m k v) j)) e ∙ ap (option_map f) (get-insert_here m k v) ∙ sym (get-insert_here (map_with f m) k (f v)) ∙ ap (finite.get (finite.insert (map_with f m) k (f v))) (sym e)
  | inr ne ↦ ap (option_map f) (get-insert_apart m k v q ne) ∙ sym (get-map_with f m q) ∙ sym (get-insert_apart (map_with f m) k (f v) q ne)
])

kept : {X Y : Type 0} (f : X → Y) (b : Bool) (o : Option X) → option_map f (cond b o None) ≡ cond b (option_map f o) None
kept f true o = refl
kept f false o = refl

-- the values whose keys pass are kept
pub map-retain_keys : {X Y : Type 0} (f : X → Y) (m : finite.FinMap nat_cmp X) (s t : ℕ → Bool) → ((q : ℕ) → s q ≡ t q) → map_with f (finite.retain_keys m s) ≡ finite.retain_keys (map_with f m) t
map-retain_keys f m s t same = finite.same_map nat_cmp_total finite.nat_cmp-IsAntisymmetric _ _ (λ q.
    get-map_with f (finite.retain_keys m s) q ∙ ap (option_map f) (get-retain_keys m s q) ∙ kept f (s q) (finite.get m q)
    ∙ (λ i. cond (same q i) (sym (get-map_with f m q) i) None) ∙ sym (get-retain_keys (map_with f m) t q))

below-changed : {X Y : Type 0} (f : X → Y) (k : ℕ) (es : List (ℕ × X)) → below_all nat_cmp k (map (λ e. (e.0, f e.1)) es) ≡ below_all nat_cmp k es
below-changed f k [] = refl
below-changed f k (e ∷ es) = ap (λ b. is_lt (nat_cmp k e.0) && b) (below-changed f k es)

sorted-changed : {X Y : Type 0} (f : X → Y) (es : List (ℕ × X)) → is_sorted nat_cmp (map (λ e. (e.0, f e.1)) es) ≡ is_sorted nat_cmp es
sorted-changed f [] = refl
sorted-changed f (e ∷ es) = λ i. below-changed f e.0 es i && sorted-changed f es i

-- the entries are those with each value changed
pub entries-map_with : {X Y : Type 0} (f : X → Y) (m : finite.FinMap nat_cmp X) → finite.entries (map_with f m) ≡ map (λ e. (e.0, f e.1)) (finite.entries m)
entries-map_with {X} {Y} f m =
    let es : List (ℕ × Y) = map (λ (e : ℕ × X). (e.0, f e.1)) (finite.entries m) in
    let sorted : T (is_sorted nat_cmp es) = subst T (sym (sorted-changed f (finite.entries m))) (finite.entries_sorted m) in
    ap finite.entries (finite.same_map nat_cmp_total finite.nat_cmp-IsAntisymmetric (map_with f m) (finite.from_sorted es) (λ q.
    finite.get-from_entries nat_cmp_total es q ∙ sym (finite.get-from_sorted nat_cmp es q sorted)))
    ∙ finite.entries-from_sorted nat_cmp es sorted

pub values-map_with : {X Y : Type 0} (f : X → Y) (m : finite.FinMap nat_cmp X) → finite.values (map_with f m) ≡ map f (finite.values m)
values-map_with {X} {Y} f m = ap (map (λ (e : ℕ × Y). e.1)) (entries-map_with f m) ∙ each (finite.entries m)
  where
    each : (es : List (ℕ × X)) → map (λ (e : ℕ × Y). e.1) (map (λ (e : ℕ × X). (e.0, f e.1)) es) ≡ map f (map (λ (e : ℕ × X). e.1) es)
    each [] = refl
    each (e ∷ es) = ap (λ (ys : List Y). f e.1 ∷ ys) (each es)

pub len-map_with : {X Y : Type 0} (f : X → Y) (m : finite.FinMap nat_cmp X) → finite.len (map_with f m) ≡ finite.len m
len-map_with {X} f m = finite.len-entries (map_with f m) ∙ ap (λ es. length es) (entries-map_with f m) ∙ length-map (finite.entries m) (λ (e : ℕ × X). (e.0, f e.1)) ∙ sym (finite.len-entries m)

-- the sum over changed values
pub sum-map_with : {X Y : Type 0} (f : Y → ℕ) (g : X → Y) (h : X → ℕ) (m : finite.FinMap nat_cmp X) → ((x : X) → f (g x) ≡ h x) → sum_by f (finite.values (map_with g m)) ≡ sum_by h (finite.values m)
sum-map_with {X} f g h m same = ap (sum_by f) (values-map_with g m) ∙ along 0 (finite.values m) ∙ (λ i. sum_by (λ (x : X). same x i) (finite.values m))
  where
    along : (a : ℕ) (xs : List X) → fold (λ s x. s + f x) a (map g xs) ≡ fold (λ s x. s + f (g x)) a xs
    along a [] = refl
    along a (x ∷ xs) = along (a + f (g x)) xs
