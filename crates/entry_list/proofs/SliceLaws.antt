-- Entries of a list that stand one behind another.
use Rattle.std.proofs.Common.{◌≡◌, ◌∙◌, ℕ, ◌+◌, ◌-◌, ◌<◌, ◌≤◌, List, [], ◌∷◌, length, take, drop, ap, sym, arith}
use Rattle.std.specs.Prelude.{Some, slice_get}
use Rattle.std.proofs.lemmas.List.{drop-drop, drop-take, get_or-drop, get_or-take, length-drop, length-take-le}
use Rattle.std.proofs.lemmas.Option.{get_or_from_slice_get, none-some, same_Some, slice_get-get_or}
use Rattle.entry_list.specs.vm_types.declared.call.Entry.{Entry}

module _ (es : List Entry) (first count : ℕ) (within : first + count ≤ length es) where
  -- how many there are
  pub slice_count : length (take count (drop first es)) ≡ count
  slice_count =
      let size = length-drop first es in
      length-take-le count (drop first es) (omega (arith, size, within))

  -- the one at a place
  pub slice_at : (place : ℕ) (e : Entry) → place < count → slice_get es (first + place) ≡ Some e → slice_get (take count (drop first es)) place ≡ Some e
  slice_at place e lt is =
      let size = slice_count in
      slice_get-get_or (take count (drop first es)) place e (omega (arith, size, lt))
      ∙ ap Some (get_or-take count (drop first es) place e lt ∙ (get_or-drop first es place e ∙ get_or_from_slice_get es (first + place) e e is))

-- those behind some of them
pub slice_behind : (es : List Entry) (first count n : ℕ) → n ≤ count → drop n (take count (drop first es)) ≡ take (count - n) (drop (first + n) es)
slice_behind es first count n le =
    let all : count ≡ n + (count - n) = omega (arith, le) in
    ap (λ k. drop n (take k (drop first es))) all
    ∙ (drop-take n (count - n) (drop first es) ∙ ap (λ (xs : List Entry). take (count - n) xs) (drop-drop n first es))

first_is : (es : List Entry) (e : Entry) → slice_get es 0 ≡ Some e → es ≡ e ∷ drop 1 es
first_is [] e is = absurd (none-some e is)
first_is (x ∷ es) e is = ap (λ (y : Entry). y ∷ es) (same_Some x e is)

-- the first of them, and those behind it
pub slice_first : (es : List Entry) (first count : ℕ) (e : Entry) → first + count ≤ length es → 0 < count → slice_get es first ≡ Some e
    → take count (drop first es) ≡ e ∷ take (count - 1) (drop (first + 1) es)
slice_first es first count e within some is =
    let same : first ≡ first + 0 = omega arith in
    first_is (take count (drop first es)) e (slice_at es first count within 0 e some (ap (λ k. slice_get es k) (sym same) ∙ is))
    ∙ ap (λ (xs : List Entry). e ∷ xs) (slice_behind es first count 1 (omega (arith, some)))
