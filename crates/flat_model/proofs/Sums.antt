-- Sums over the values of a finite map, and what a change of the map does to them.
use Rattle.std.proofs.Common.{◌≡◌, ℕ, zero, suc, ◌+◌, ◌-◌, ◌<◌, ◌≤◌, not, Bool, true, false, cond, List, [], ◌∷◌, map, Option, Some, None, refl, sym, ap, ◌∙◌, arith, Less, Equal, Greater, eqb}
use Rattle.std.specs.Prelude.{sum_by}
use Rattle.std.specs.Ordering.{nat_cmp, is_eq}
use Rattle.std.specs.Cmp.{nat_cmp_total, unsigned_tied}
use Rattle.std.specs.FinMap as finite
use Rattle.std.specs.FinMap.Entries.{put, by_order, where_key, is_sorted-where_key, find-where_key}
use Rattle.std.proofs.lemmas.Bool.Decides.{nat_tests}
use Rattle.std.proofs.lemmas.List.Sums.{sum_by-cons}
use Rattle.flat_model.specs.Flat.{Cell, Space}
use Rattle.flat_model.specs.Space.{is_in_range, without_range, with_cells}
use Rattle.flat_model.proofs.Ranges.{get-insert, get-remove_here, get-with_cells}

-- the sum over a map's values
abbrev pub total : {X : Type 0} → (X → ℕ) → finite.FinMap nat_cmp X → ℕ
total f m = sum_by f (finite.values m)

sum_put : {X : Type 0} (f : X → ℕ) (k : ℕ) (v : X) (es : List (ℕ × X)) → finite.find nat_cmp k es ≡ None → sum_by f (map (λ e. e.1) (put nat_cmp k v es)) ≡ f v + sum_by f (map (λ e. e.1) es)
sum_put f k v [] none = sum_by-cons f v []
sum_put f k v (e ∷ es) none =
    elim (nat_cmp k e.0) as (λ r. cond (is_eq r) (Some e.1) (finite.find nat_cmp k es) ≡ None → sum_by f (map (λ e. e.1) (by_order r ((k, v) ∷ e ∷ es) ((e.0, v) ∷ es) (e ∷ put nat_cmp k v es))) ≡ f v + sum_by f (e.1 ∷ map (λ e. e.1) es)) [
      | Less ↦ λ is. sum_by-cons f v (e.1 ∷ map (λ e. e.1) es)
      | Equal ↦ λ is. absurd cc
      | Greater ↦ λ is. omega (arith, sum_by-cons f e.1 (map (λ e. e.1) (put nat_cmp k v es)), sum_put f k v es is, sum_by-cons f e.1 (map (λ e. e.1) es))
    ] none

-- a new key adds its value's share
pub total-insert : {X : Type 0} (f : X → ℕ) (m : finite.FinMap nat_cmp X) (k : ℕ) (v : X) → finite.get m k ≡ None → total f (finite.insert m k v) ≡ f v + total f m
total-insert f m k v none = rw (finite.entries-insert nat_cmp_total) (sum_put f k v (finite.entries m) (sym (finite.get-entries m k) ∙ none))

again : {X : Type 0} (b : Bool) (x : X) (r s : Option X) → (b ≡ false → r ≡ s) → cond b (Some x) r ≡ cond b (Some x) s
again true x r s h = refl
again false x r s h = h refl

gone : {X : Type 0} (b : Bool) (r : Option X) → b ≡ false → cond b None r ≡ r
gone true r is = absurd cc
gone false r is = refl

-- a value at a key is the one that is put where the key was taken away
pub insert-remove : {X : Type 0} (m : finite.FinMap nat_cmp X) (k : ℕ) (v : X) → finite.insert (finite.remove m k) k v ≡ finite.insert m k v
insert-remove m k v = finite.same_map nat_cmp_total finite.nat_cmp-IsAntisymmetric _ _ (λ q.
    get-insert (finite.remove m k) k v q
    ∙ again (eqb q k) v (finite.get (finite.remove m k) q) (finite.get m q) (λ apart. finite.get-remove nat_cmp_total m k q ∙ ap (λ b. cond b None (finite.get m q)) (unsigned_tied q k) ∙ gone (eqb q k) (finite.get m q) apart)
    ∙ sym (get-insert m k v q))

-- a value over another one: its share comes in, and the other's goes
pub total-insert_over : {X : Type 0} (f : X → ℕ) (m : finite.FinMap nat_cmp X) (k : ℕ) (v w : X) → finite.insert m k w ≡ m → total f (finite.insert m k v) + f w ≡ f v + total f m
total-insert_over f m k v w same =
    let none = get-remove_here m k in
    let new : total f (finite.insert m k v) ≡ f v + total f (finite.remove m k) = ap (total f) (sym (insert-remove m k v)) ∙ total-insert f (finite.remove m k) k v none in
    let old : total f m ≡ f w + total f (finite.remove m k) = ap (total f) (sym same) ∙ ap (total f) (sym (insert-remove m k w)) ∙ total-insert f (finite.remove m k) k w none in
    omega arith

-- a key that goes takes its share with it
pub total-remove : {X : Type 0} (f : X → ℕ) (m : finite.FinMap nat_cmp X) (k : ℕ) (w : X) → finite.insert m k w ≡ m → f w + total f (finite.remove m k) ≡ total f m
total-remove f m k w same =
    let old : total f m ≡ f w + total f (finite.remove m k) = ap (total f) (sym same) ∙ ap (total f) (sym (insert-remove m k w)) ∙ total-insert f (finite.remove m k) k w (get-remove_here m k) in
    sym old

-- the entries whose keys pass are kept: `retain_keys` doesn't unfold, so by what it answers
pub entries-retain_keys : {X : Type 0} (m : finite.FinMap nat_cmp X) (p : ℕ → Bool) → finite.entries (finite.retain_keys m p) ≡ where_key nat_cmp p (finite.entries m)
entries-retain_keys m p =
    let sorted = is_sorted-where_key nat_cmp p (finite.entries m) (finite.entries_sorted m) in
    let alike = λ (q x : ℕ) (tied : nat_cmp q x ≡ Equal). ap p (sym (finite.nat_cmp-IsAntisymmetric q x tied)) in
    ap finite.entries (finite.same_map nat_cmp_total finite.nat_cmp-IsAntisymmetric (finite.retain_keys m p) (finite.from_sorted (where_key nat_cmp p (finite.entries m))) (λ q.
    finite.get-retain_keys m p q (alike q) ∙ ap (λ r. cond (p q) r None) (finite.get-entries m q)
    ∙ sym (finite.get-from_sorted nat_cmp (where_key nat_cmp p (finite.entries m)) q sorted ∙ find-where_key nat_cmp p q (alike q) (finite.entries m))))
    ∙ finite.entries-from_sorted nat_cmp (where_key nat_cmp p (finite.entries m)) sorted

sum_parts : {X : Type 0} (f : X → ℕ) (p : ℕ → Bool) (es : List (ℕ × X)) → sum_by f (map (λ e. e.1) (where_key nat_cmp p es)) + sum_by f (map (λ e. e.1) (where_key nat_cmp (λ k. not (p k)) es)) ≡ sum_by f (map (λ e. e.1) es)
sum_parts f p [] = refl
sum_parts f p (e ∷ es) =
    let yes = map (λ e. e.1) (where_key nat_cmp p es) in
    let no = map (λ e. e.1) (where_key nat_cmp (λ k. not (p k)) es) in
    let all = map (λ e. e.1) es in
    elim (p e.0) as (λ b. sum_by f (map (λ e. e.1) (cond b (e ∷ where_key nat_cmp p es) (where_key nat_cmp p es))) + sum_by f (map (λ e. e.1) (cond (not b) (e ∷ where_key nat_cmp (λ k. not (p k)) es) (where_key nat_cmp (λ k. not (p k)) es))) ≡ sum_by f (e.1 ∷ all)) [
      | true ↦ omega (arith, sum_by-cons f e.1 yes, sum_by-cons f e.1 all, sum_parts f p es)
      | false ↦ omega (arith, sum_by-cons f e.1 no, sum_by-cons f e.1 all, sum_parts f p es)
    ]

-- what is kept and what is taken out add up
pub total-retain_keys : {X : Type 0} (f : X → ℕ) (m : finite.FinMap nat_cmp X) (p : ℕ → Bool) → total f (finite.retain_keys m p) + total f (finite.retain_keys m (λ k. not (p k))) ≡ total f m
total-retain_keys f m p = rw (entries-retain_keys m p, entries-retain_keys m (λ k. not (p k))) (sum_parts f p (finite.entries m))

-- a range that is taken out takes its cells' shares with it
pub total-without_range : (f : Cell → ℕ) (s : Space) (first n : ℕ) → total f (finite.retain_keys s (is_in_range first n)) + total f (without_range s first n) ≡ total f s
total-without_range f s first n = total-retain_keys f s (is_in_range first n)

-- what f gives at 0 to n - 1, in all
abbrev pub sum_to : (ℕ → ℕ) → ℕ → ℕ
sum_to f zero = 0
sum_to f (suc n) = f n + sum_to f n

-- new cells on free pages add their shares
pub total-with_cells : (f : Cell → ℕ) (s : Space) (first n : ℕ) (cell : ℕ → Cell) → ((q : ℕ) → first ≤ q → q < first + n → finite.get s q ≡ None) → total f (with_cells s first n cell) ≡ sum_to (λ i. f (cell i)) n + total f s
total-with_cells f s first zero cell free = omega arith
total-with_cells f s first (suc n) cell free =
    let past : is_in_range first n (first + n) ≡ false = grind (arith, nat_tests) in
    let none : finite.get (with_cells s first n cell) (first + n) ≡ None = get-with_cells s first n cell (first + n) ∙ ap (λ b. cond b (Some (cell (first + n - first))) (finite.get s (first + n))) past ∙ free (first + n) (omega arith) (omega arith) in
    omega (arith, total-insert f (with_cells s first n cell) (first + n) (cell n) none, total-with_cells f s first n cell (λ q low high. free q low (omega arith)))

-- n times the same share
pub sum_to-same : (f : ℕ → ℕ) (k n : ℕ) → ((i : ℕ) → f i ≡ k) → (k ≡ 1 → sum_to f n ≡ n) × (k ≡ 0 → sum_to f n ≡ 0)
sum_to-same f k zero each = (λ is. refl, λ is. refl)
sum_to-same f k (suc n) each =
    let rest = sum_to-same f k n each in
    (λ is. omega (arith, each n, rest.0 is), λ is. omega (arith, each n, rest.1 is))
