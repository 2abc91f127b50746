-- Which zero objects are named.
use Rattle.std.proofs.Common.{◌≡◌, ℕ, ◌+◌, ◌<◌, ◌≤◌, Bool, true, false, cond, ◌||◌, List, [], ◌∷◌, ◌++◌, map, Option, Some, None, refl, sym, ap, subst, ◌∙◌, inl, inr, arith, eqb}
use Rattle.std.specs.Prelude.{◌==◌, is_some, filter_map, flat_map, option_and_then, IsTrue, IsFalse, if◌then◌else◌}
use Rattle.std.specs.Option.{option_map_or}
use Rattle.std.specs.List.{list_any, cons_option}
use Rattle.std.specs.Ordering.{nat_cmp}
use Rattle.std.specs.FinMap as finite
use Rattle.std.proofs.lemmas.Bool.{eqb-true, eq-eqb, cases_eq}
use Rattle.flat_model.specs.Flat.{Cell, Space, Flat, space_of, cell_at, zero_of, named_zeros, is_named, without_unnamed}
use Rattle.flat_model.specs.Mapping.{least_from, set_of, new_number}
use Rattle.flat_model.specs.NamedLaws.{IsNamed, NamedZeros}
use Rattle.flat_model.proofs.Ranges.{get-retain_keys, get-insert, eqb-apart as not_eq}
use Rattle.flat_model.proofs.Entries.{Above, Above-entries, find_rest, find_below, first_found, any_value, value_of_any}

-- the cell names the zero object
abbrev pub names : ℕ → Cell → Bool
names z c = option_map_or (λ y. z == y) (zero_of c) false

pub or_assoc : (a b c : Bool) → ((a || b) || c) ≡ (a || (b || c))
or_assoc true b c = refl
or_assoc false b c = refl

any-append : {X : Type 0} (t : X → Bool) (xs ys : List X) → list_any t (xs ++ ys) ≡ (list_any t xs || list_any t ys)
any-append t [] ys = refl
any-append t (x ∷ xs) ys = ap (λ b. t x || b) (any-append t xs ys) ∙ sym (or_assoc (t x) (list_any t xs) (list_any t ys))

any-flat_map : {X Y : Type 0} (t : Y → Bool) (f : X → List Y) (xs : List X) → list_any t (flat_map f xs) ≡ list_any (λ x. list_any t (f x)) xs
any-flat_map t f [] = refl
any-flat_map t f (x ∷ xs) = any-append t (f x) (flat_map f xs) ∙ ap (λ b. list_any t (f x) || b) (any-flat_map t f xs)

any-cons_option : (t : ℕ → Bool) (o : Option ℕ) (rest : List ℕ) → list_any t (cons_option o rest) ≡ (option_map_or t o false || list_any t rest)
any-cons_option t None rest = refl
any-cons_option t (Some y) rest = refl

any-filter_map : (z : ℕ) (cs : List Cell) → list_any (λ y. z == y) (filter_map zero_of cs) ≡ list_any (names z) cs
any-filter_map z [] = refl
any-filter_map z (c ∷ cs) = any-cons_option (λ y. z == y) (zero_of c) (filter_map zero_of cs) ∙ ap (λ b. names z c || b) (any-filter_map z cs)

pub any_alike : {X : Type 0} (s t : X → Bool) (xs : List X) → ((x : X) → s x ≡ t x) → list_any s xs ≡ list_any t xs
any_alike s t [] alike = refl
any_alike s t (x ∷ xs) alike = ap (λ b. b || list_any s xs) (alike x) ∙ ap (λ b. t x || b) (any_alike s t xs alike)

-- a zero object is named where a cell of some space names it
pub is_named-spaces : (F : Flat) (z : ℕ) → is_named F z ≡ list_any (λ space. list_any (names z) (finite.values space)) (finite.values F.spaces)
is_named-spaces F z =
    any-flat_map (λ y. z == y) (λ space. filter_map zero_of (finite.values space)) (finite.values F.spaces)
    ∙ any_alike (λ space. list_any (λ y. z == y) (filter_map zero_of (finite.values space))) (λ space. list_any (names z) (finite.values space)) (finite.values F.spaces) (λ space. any-filter_map z (finite.values space))

names_is : (z : ℕ) (o : Option ℕ) → o ≡ Some z → option_map_or (λ y. z == y) o false ≡ true
names_is z None is = absurd cc
names_is z (Some y) is = eq-eqb z y (let same : y ≡ z = cc in sym same)

is_names : (z : ℕ) (o : Option ℕ) → option_map_or (λ y. z == y) o false ≡ true → o ≡ Some z
is_names z None is = absurd cc
is_names z (Some y) is = ap (λ k. Some k) (sym (eqb-true z y is))

in_space : (o : Option Space) (q : ℕ) (c : Cell) → option_and_then (λ space. finite.get space q) o ≡ Some c → (space : Space) × (o ≡ Some space) × (finite.get space q ≡ Some c)
in_space None q c is = absurd cc
in_space (Some space) q c is = (space, refl, is)

pub named_zeros-from_cell : (F : Flat) (p q z : ℕ) (c : Cell) → cell_at F p q ≡ Some c → zero_of c ≡ Some z → IsTrue (is_named F z)
named_zeros-from_cell F p q z c at is =
    let s = in_space (space_of F p) q c at in
    is_named-spaces F z ∙ any_value (λ space. list_any (names z) (finite.values space)) F.spaces p s.0 s.1 (any_value (names z) s.0 q c s.2 (names_is z (zero_of c) is))

pub named_zeros-to_cell : (F : Flat) (z : ℕ) → IsTrue (is_named F z) → IsNamed F z
named_zeros-to_cell F z is =
    let s = value_of_any (λ space. list_any (names z) (finite.values space)) F.spaces (sym (is_named-spaces F z) ∙ is) in
    let c = value_of_any (names z) s.1 s.3 in
    record { process = s.0; page = c.0; cell = c.1; stands = ap (option_and_then (λ space. finite.get space c.0)) s.2 ∙ c.2; names = is_names z (zero_of c.1) c.3 }

-- what is left of the zero objects
pub get-without_unnamed : (F : Flat) (z : ℕ) → finite.get (without_unnamed F).zeros z ≡ (if is_named F z then finite.get F.zeros z else None)
get-without_unnamed F z = get-retain_keys F.zeros (is_named F) z

-- the entries of numbers in order
abbrev entries_in : List ℕ → List (ℕ × Unit {0})
entries_in numbers = finite.entries (set_of numbers)

or_some : (b : Bool) (x : Option (Unit {0})) (r : Bool) → is_some x ≡ r → is_some (cond b (Some tt) x) ≡ (b || r)
or_some true x r is = refl
or_some false x r is = is

in_set : (numbers : List ℕ) (q : ℕ) → is_some (finite.get (set_of numbers) q) ≡ list_any (λ y. q == y) numbers
in_set [] q = ap is_some (finite.get-empty nat_cmp q)
in_set (y ∷ numbers) q = ap is_some (get-insert (set_of numbers) y tt q) ∙ or_some (q == y) (finite.get (set_of numbers) q) (list_any (λ x. q == x) numbers) (in_set numbers q)

found_number : (numbers : List ℕ) (q : ℕ) → is_some (finite.find nat_cmp q (entries_in numbers)) ≡ list_any (λ y. q == y) numbers
found_number numbers q = ap is_some (sym (finite.get-entries (set_of numbers) q)) ∙ in_set numbers q

abbrev keys_in : List (ℕ × Unit {0}) → List ℕ
keys_in es = map (λ e. e.0) es

-- the number found: from k on, not among the numbers, and each from k below it is among them
record IsLeast (k r : ℕ) (es : List (ℕ × Unit {0})) : Type 0 where
  low : k ≤ r
  out : is_some (finite.find nat_cmp r es) ≡ false
  each : (j : ℕ) → k ≤ j → j < r → is_some (finite.find nat_cmp j es) ≡ true

least_is : (k : ℕ) (es : List (ℕ × Unit {0})) → Above k es → IsLeast k (least_from k (keys_in es)) es
least_is k [] above = record { low = omega arith; out = refl; each = λ j low high. absurd (omega arith) }
least_is k (e ∷ es) above = elim (cases_eq e.0 k) [
  | inl here ↦
      let rest = least_is (k + 1) es (subst (λ (n : ℕ). Above (n + 1) es) here above.1) in
      let low = rest.low in
      let same : least_from k (keys_in (e ∷ es)) ≡ least_from (k + 1) (keys_in es) = ap (λ b. cond b (least_from (k + 1) (keys_in es)) k) (eq-eqb e.0 k here) in
      rw same (record {
        low = omega arith;
        out = ap is_some (find_rest (least_from (k + 1) (keys_in es)) e es (λ is. omega arith)) ∙ rest.out;
        each = λ j from below. elim (cases_eq j e.0) [
          | inl at ↦ ap (λ n. is_some (finite.find nat_cmp n (e ∷ es))) at ∙ ap is_some (first_found e es)
          | inr apart ↦ ap is_some (find_rest j e es apart) ∙ rest.each j (omega (arith, apart)) below
        ];
      })
  | inr apart ↦
      let same : least_from k (keys_in (e ∷ es)) ≡ k = ap (λ b. cond b (least_from (k + 1) (keys_in es)) k) (not_eq e.0 k apart) in
      let start = above.0 in
      rw same (record { low = omega arith; out = ap is_some (find_below k (k + 1) (e ∷ es) (omega arith) (omega (arith, apart), above.1)); each = λ j from below. absurd (omega arith) })
]

pub new_number-new : (F : Flat) → IsFalse (is_named F (new_number F))
new_number-new F = sym (found_number (named_zeros F) (new_number F)) ∙ (least_is 0 (entries_in (named_zeros F)) (Above-entries (set_of (named_zeros F)))).out

pub new_number-least : (F : Flat) (z : ℕ) → z < new_number F → IsTrue (is_named F z)
new_number-least F z lt = sym (found_number (named_zeros F) z) ∙ (least_is 0 (entries_in (named_zeros F)) (Above-entries (set_of (named_zeros F)))).each z (omega arith) lt

pub named_zeros_law : NamedZeros
named_zeros_law = record { from_cell = named_zeros-from_cell; to_cell = named_zeros-to_cell; stays = get-without_unnamed; new = new_number-new; least = new_number-least }
