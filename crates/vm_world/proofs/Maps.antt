-- Finite maps: their values, functions of these, and the cells of spaces.
use Rattle.std.proofs.Common.{◌≡◌, ◌≢◌, ℕ, Bool, true, false, ◌+◌, cond, List, [], ◌∷◌, length, map, Option, Some, None, refl, sym, ap, ◌∙◌, inl, inr, subst, arith}
use Rattle.std.specs.Prelude.{option_map, option_and_then, is_some, All}
use Rattle.std.specs.Ordering.{nat_cmp, is_eq}
use Rattle.std.specs.Cmp.{nat_cmp_total}
use Rattle.std.proofs.lemmas.Bool.{cases_eq}
use Rattle.std.proofs.lemmas.List.{length-map}
use Rattle.std.proofs.lemmas.List.Elements.{All-nil, All-cons}
use Rattle.std.specs.FinMap as finite
use Rattle.addr_space.specs.Space.{Part, piece_at}
use Rattle.addr_space.specs.Pages.{pages_of_parts}
use Rattle.addr_space.proofs.PageLaws.{get-pages_of_parts}
use Rattle.flat_model.specs.Flat.{Space, cell_in}
use Rattle.flat_model.proofs.Entries.{Above, Above-entries, find_rest, find_below, first_found}
pub use Rattle.flat_model.proofs.Values.{get-map_with, len-map_with, map-insert, map-remove, map_with-same, on_option}
use Rattle.flat_model.proofs.Ranges.{get-insert_here, get-insert_apart, get-remove_here, get-remove_apart, option_map-cond as by_key}
use Rattle.flat_model.specs.Words.{Page}
use Rattle.vm_world.specs.Segments.{Segment, Spaces, spot_at}
use Rattle.vm_world.specs.FlatMemory.{map_with, cell_of, space_with}

-- functions that agree on all values but one
pub map_with-but_one : {X Y : Type 0} (f g : X → Y) (m : finite.FinMap nat_cmp X) (k : ℕ) (x : X) → finite.get m k ≡ Some x → ((q : ℕ) (y : X) → finite.get m q ≡ Some y → q ≢ k → g y ≡ f y)
    → map_with g m ≡ finite.insert (map_with f m) k (g x)
map_with-but_one f g m k x is same = finite.same_map nat_cmp_total finite.nat_cmp-IsAntisymmetric _ _ (λ q. elim (cases_eq q k) [
  | inl e ↦ subst (λ j. finite.get (map_with g m) j ≡ finite.get (finite.insert (map_with f m) k (g x)) j) (sym e) (get-map_with g m k ∙ ap (option_map g) is ∙ sym (get-insert_here (map_with f m) k (g x)))
  | inr ne ↦ get-map_with g m q ∙ on_option f g (finite.get m q) (λ y at. same q y at ne) ∙ sym (get-map_with f m q) ∙ sym (get-insert_apart (map_with f m) k (g x) q ne)
])

-- the cell at a page of a space
pub get-space_with : (held : ℕ → ℕ → Option Page) (parts : List (Part Segment)) (q : ℕ) → finite.get (space_with held parts) q ≡ option_map (cell_of held) (piece_at parts q)
get-space_with held parts q = get-map_with (cell_of held) (pages_of_parts parts) q ∙ ap (option_map (cell_of held)) (get-pages_of_parts parts q)

-- the cell at a page of a process
pub cell-at : (held : ℕ → ℕ → Option Page) (spaces : Spaces) (p q : ℕ) → cell_in (map_with (space_with held) spaces) p q ≡ option_map (cell_of held) (spot_at spaces p q)
cell-at held spaces p q = ap (option_and_then (λ (space : Space). finite.get space q)) (get-map_with (space_with held) spaces p) ∙ by_space (finite.get spaces p)
  where
    by_space : (o : Option (List (Part Segment))) → option_and_then (λ (space : Space). finite.get space q) (option_map (space_with held) o) ≡ option_map (cell_of held) (option_and_then (λ parts. piece_at parts q) o)
    by_space None = refl
    by_space (Some parts) = get-space_with held parts q

-- what is put under a key last is there
pub insert-twice : {X : Type 0} (m : finite.FinMap nat_cmp X) (k : ℕ) (v w : X) → finite.insert (finite.insert m k v) k w ≡ finite.insert m k w
insert-twice m k v w = finite.same_map nat_cmp_total finite.nat_cmp-IsAntisymmetric _ _ (λ q. elim (cases_eq q k) [
  | inl e ↦ ap (finite.get (finite.insert (finite.insert m k v) k w)) e ∙ get-insert_here (finite.insert m k v) k w ∙ sym (get-insert_here m k w) ∙ ap (finite.get (finite.insert m k w)) (sym e)
  | inr ne ↦ get-insert_apart (finite.insert m k v) k w q ne ∙ get-insert_apart m k v q ne ∙ sym (get-insert_apart m k w q ne)
])

pub remove-inserted : {X : Type 0} (m : finite.FinMap nat_cmp X) (k : ℕ) (v : X) → finite.remove (finite.insert m k v) k ≡ finite.remove m k
remove-inserted m k v = finite.same_map nat_cmp_total finite.nat_cmp-IsAntisymmetric _ _ (λ q. elim (cases_eq q k) [
  | inl e ↦ ap (finite.get (finite.remove (finite.insert m k v) k)) e ∙ get-remove_here (finite.insert m k v) k ∙ sym (get-remove_here m k) ∙ ap (finite.get (finite.remove m k)) (sym e)
  | inr ne ↦ get-remove_apart (finite.insert m k v) k q ne ∙ get-insert_apart m k v q ne ∙ sym (get-remove_apart m k q ne)
])

-- what holds of each value holds of all of them
values-in : {X : Type 0} (P : X → Type 0) (a : ℕ) (es : List (ℕ × X)) → Above a es → ((q : ℕ) (v : X) → finite.find nat_cmp q es ≡ Some v → P v) → All P (map (λ (e : ℕ × X). e.1) es)
values-in {X} P a [] above each = All-nil P
values-in {X} P a (e ∷ es) above each = All-cons P e.1 (map (λ (e : ℕ × X). e.1) es) (each e.0 e.1 (first_found e es)) (values-in P (e.0 + 1) es above.1 (λ q v found. each q v (elim (cases_eq q e.0) [
  | inl same ↦ absurd (let none = find_below q (e.0 + 1) es (omega (arith, same)) above.1 in let z : None ≡ Some v = sym none ∙ found in cc)
  | inr ne ↦ find_rest q e es ne ∙ found
])))

pub all-values : {X : Type 0} (P : X → Type 0) (m : finite.FinMap nat_cmp X) → ((q : ℕ) (v : X) → finite.get m q ≡ Some v → P v) → All P (finite.values m)
all-values P m each = values-in P 0 (finite.entries m) (Above-entries m) (λ q v found. each q v (finite.get-entries m q ∙ found))

pub above-changed : {X Y : Type 0} (f : X → Y) (a : ℕ) (es : List (ℕ × X)) → Above a es → Above a (map (λ (e : ℕ × X). (e.0, f e.1)) es)
above-changed f a [] above = tt
above-changed f a (e ∷ es) above = (above.0, above-changed f (e.0 + 1) es above.1)
