-- Slots that are left, one part after another, and the number of a new zero object.
use Rattle.flat_state.proofs.Steps.{not_le}
use Rattle.std.proofs.Common.{◌≡◌, ℕ, ◌+◌, ◌-◌, ◌<◌, ◌≤◌, Bool, true, false, cond, List, [], ◌∷◌, Option, Some, None, refl, sym, ap, subst, ◌∙◌, arith}
use Rattle.std.specs.Prelude.{if◌then◌else◌, nat_le, length, sum_by, filter, is_some, option_map}
use Rattle.std.specs.Ordering.{nat_cmp}
use Rattle.std.specs.FinMap as finite
use Rattle.std.proofs.lemmas.Bool.{le-leb, leb-true, leb-false}
use Rattle.std.proofs.lemmas.List.Sums.{sum_by-cons}
use Rattle.std.proofs.lemmas.List.Kept.{IsStrictlySortedBy-filter}
use Rattle.flat_model.specs.Flat.{Flat, Space, is_named}
use Rattle.std.specs.List.Sorted.{IsStrictlySortedBy}
use Rattle.std.specs.Map.{keys_of, values_of}
use Rattle.flat_model.specs.Words.{Page}
use Rattle.flat_state.proofs.Trees.{values_plain, plain_filter, flat_with as flat_of_spaces}
use Rattle.flat_model.specs.Mapping.{new_number}
use Rattle.flat_state.specs.Mapped.{slots_left, new_number_in}
use Rattle.flat_model.specs.Spaces.{names_zero}
use Rattle.flat_model.proofs.Named.{new_number-new, new_number-least}

left_when : (slots n : ℕ) → n ≤ slots → slots_left slots n ≡ Some (slots - n)
left_when slots n le = ap (λ b. cond b (Some (slots - n)) None) (le-leb n slots le)

left_unless : (slots n : ℕ) → slots < n → slots_left slots n ≡ None
left_unless slots n lt = ap (λ b. cond b (Some (slots - n)) None) (not_le n slots lt)

both_left : (slots n m : ℕ) → n ≤ slots → slots_left slots (n + m) ≡ slots_left (slots - n) m
both_left slots n m le = elim (nat_le m (slots - n)) as (λ b. nat_le m (slots - n) ≡ b → slots_left slots (n + m) ≡ slots_left (slots - n) m) [
  | true ↦ λ is.
      let fits = leb-true m (slots - n) is in
      left_when slots (n + m) (omega arith) ∙ ap (λ (k : ℕ). Some k) (let same : slots - (n + m) ≡ slots - n - m = omega arith in same) ∙ sym (left_when (slots - n) m fits)
  | false ↦ λ is.
      let over = leb-false m (slots - n) is in
      left_unless slots (n + m) (omega arith) ∙ sym (left_unless (slots - n) m over)
] refl

-- slots that are left after a first part, and then after the others
pub left_step : (slots n m k : ℕ) → slots_left slots n ≡ Some k → slots_left slots (n + m) ≡ slots_left k m
left_step slots n m k is = elim (nat_le n slots) as (λ b. nat_le n slots ≡ b → slots_left slots (n + m) ≡ slots_left k m) [
  | true ↦ λ le.
      let fits = leb-true n slots le in
      let same : slots - n ≡ k = let both : Some (slots - n) ≡ Some k = sym (left_when slots n fits) ∙ is in cc in
      both_left slots n m fits ∙ ap (λ (j : ℕ). slots_left j m) same
  | false ↦ λ no. absurd (let both : None ≡ Some k = sym (left_unless slots n (leb-false n slots no)) ∙ is in cc)
] refl

left_over : (slots n m : ℕ) → slots_left slots n ≡ None → slots_left slots (n + m) ≡ None
left_over slots n m is = elim (nat_le n slots) as (λ b. nat_le n slots ≡ b → slots_left slots (n + m) ≡ None) [
  | true ↦ λ le. absurd (let both : Some (slots - n) ≡ None = sym (left_when slots n (leb-true n slots le)) ∙ is in cc)
  | false ↦ λ no. let over = leb-false n slots no in left_unless slots (n + m) (omega arith)
] refl

-- nothing more is taken
pub left_all : (left : ℕ) → Some left ≡ slots_left left 0
left_all left = let same : left ≡ left - 0 = omega arith in ap (λ (k : ℕ). Some k) same ∙ sym (left_when left 0 (omega arith))

-- a list's slots, of which the first element's are taken
pub left_next : {X : Type 0} (f : X → ℕ) (left k : ℕ) (xs ys : List X) (x : X) (all : Option ℕ) → xs ≡ x ∷ ys → slots_left left (f x) ≡ Some k → slots_left left (sum_by f xs) ≡ all → slots_left k (sum_by f ys) ≡ all
left_next f left k xs ys x all is some h = sym (ap (λ l. slots_left left (sum_by f l)) is ∙ ap (slots_left left) (sum_by-cons f x ys) ∙ left_step left (f x) (sum_by f ys) k some) ∙ h

pub left_nothing : {X : Type 0} (f : X → ℕ) (left : ℕ) (xs ys : List X) (x : X) (all : Option ℕ) → xs ≡ x ∷ ys → slots_left left (f x) ≡ None → slots_left left (sum_by f xs) ≡ all → None ≡ all
left_nothing f left xs ys x all is none h = sym (ap (λ l. slots_left left (sum_by f l)) is ∙ ap (slots_left left) (sum_by-cons f x ys) ∙ left_over left (f x) (sum_by f ys) none) ∙ h

-- two parts one after another fit where they fit together
pub left_twice : (slots n m : ℕ) (first : Option ℕ) → first ≡ slots_left slots n → (first ≡ None → nat_le (n + m) slots ≡ false) × ((k : ℕ) → first ≡ Some k → is_some (slots_left k m) ≡ nat_le (n + m) slots)
left_twice slots n m first is = (
  λ none. tests_none (n + m) slots (left_over slots n m (sym is ∙ none)),
  λ k some. sym (ap is_some (left_step slots n m k (sym is ∙ some))) ∙ tests_some (nat_le (n + m) slots) (slots - (n + m)),
)
  where
    tests_some : (b : Bool) (x : ℕ) → is_some (cond b (Some x) None) ≡ b
    tests_some true x = refl
    tests_some false x = refl

    tests_none : (a b : ℕ) → slots_left b a ≡ None → nat_le a b ≡ false
    tests_none a b none = sym (tests_some (nat_le a b) (b - a)) ∙ ap is_some none

least_unnamed : (F : Flat) (z : ℕ) → is_named F z ≡ false → ((k : ℕ) → k < z → is_named F k ≡ true) → z ≡ new_number F
least_unnamed F z new below =
    let not_above : z < new_number F → ⊥ = λ lt. absurd (let both : true ≡ false = sym (new_number-least F z lt) ∙ new in cc) in
    let not_below : new_number F < z → ⊥ = λ lt. absurd (let both : true ≡ false = sym (below (new_number F) lt) ∙ new_number-new F in cc) in
    omega (arith, not_above, not_below)

-- a number that isn't named, all below which are
pub new_number_is : (spaces : finite.FinMap nat_cmp Space) (z : ℕ) → names_zero spaces z ≡ false → ((k : ℕ) → k < z → names_zero spaces k ≡ true) → z ≡ new_number_in spaces
unfolding flat_of_spaces
new_number_is spaces z new below = least_unnamed (flat_of_spaces spaces) z new below

pub is_some_mapped : {X Y : Type 0} (f : X → Y) (o : Option X) → is_some o ≡ is_some (option_map f o)
is_some_mapped f None = refl
is_some_mapped f (Some x) = refl

-- the pages of the zero objects of a tree
pub zero_sum : (es : List (ℕ × List Page)) → IsStrictlySortedBy nat_cmp (keys_of es) → sum_by length (finite.values (finite.from_entries {R = nat_cmp} es)) ≡ sum_by length (values_of es)
zero_sum es sorted = ap (sum_by length) (values_plain es sorted)

-- the pages of an entry of the zero objects, if some cell names it
abbrev pub named_size : finite.FinMap nat_cmp Space → ℕ × List Page → ℕ
named_size spaces e = if names_zero spaces e.0 then length e.1 else 0

-- a tree's entries that are named are the pages of its finite map whose keys are
pub named_sum : (spaces : finite.FinMap nat_cmp Space) (es : List (ℕ × List Page)) → IsStrictlySortedBy nat_cmp (keys_of es) → sum_by (named_size spaces) es ≡ sum_by length (finite.values (finite.retain_keys (finite.from_entries {R = nat_cmp} es) (names_zero spaces)))
named_sum spaces es sorted =
    let kept = filter (λ e. names_zero spaces e.0) es in
    let keys = subst (IsStrictlySortedBy nat_cmp) (sym (keys_kept es)) (IsStrictlySortedBy-filter nat_cmp (names_zero spaces) (keys_of es) sorted) in
    sizes es ∙ sym (zero_sum kept keys) ∙ ap (λ m. sum_by length (finite.values m)) (plain_filter (names_zero spaces) es)
  where
    keys_one : (b : Bool) (e : ℕ × List Page) (fs : List (ℕ × List Page)) → keys_of (cond b (e ∷ fs) fs) ≡ cond b (e.0 ∷ keys_of fs) (keys_of fs)
    keys_one true e fs = refl
    keys_one false e fs = refl

    keys_kept : (fs : List (ℕ × List Page)) → keys_of (filter (λ e. names_zero spaces e.0) fs) ≡ filter (names_zero spaces) (keys_of fs)
    keys_kept [] = refl
    keys_kept (e ∷ fs) = keys_one (names_zero spaces e.0) e (filter (λ d. names_zero spaces d.0) fs) ∙ ap (λ ks. cond (names_zero spaces e.0) (e.0 ∷ ks) ks) (keys_kept fs)

    one : (b : Bool) (e : ℕ × List Page) (fs : List (ℕ × List Page)) → sum_by (λ (v : List Page). length v) (values_of (cond b (e ∷ fs) fs)) ≡ (if b then length e.1 else 0) + sum_by length (values_of fs)
    one true e fs = sum_by-cons length e.1 (values_of fs)
    one false e fs = omega arith

    sizes : (fs : List (ℕ × List Page)) → sum_by (named_size spaces) fs ≡ sum_by length (values_of (filter (λ e. names_zero spaces e.0) fs))
    sizes [] = refl
    sizes (e ∷ fs) =
        sum_by-cons (named_size spaces) e fs ∙ ap (λ n. named_size spaces e + n) (sizes fs)
        ∙ sym (one (names_zero spaces e.0) e (filter (λ d. names_zero spaces d.0) fs))
