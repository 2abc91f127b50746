-- Ranges of a space: what is there after cells were taken out, put in, or given another protection.
use Rattle.std.proofs.Common.{◌≡◌, ℕ, zero, suc, ◌+◌, ◌-◌, ◌<◌, ◌≤◌, Bool, true, false, cond, not, ◌&&◌, List, [], ◌∷◌, map, Option, Some, None, refl, sym, ap, ◌∙◌, inl, inr, arith, rules, eqb}
use Rattle.std.specs.Prelude.{option_map}
use Rattle.std.specs.Ordering.{nat_cmp, is_eq}
use Rattle.std.specs.Cmp.{nat_cmp_total, unsigned_tied}
use Rattle.std.specs.FinMap as finite
use Rattle.std.proofs.lemmas.Bool.{cases_eq, eqb-true, eq-eqb, le-leb, lt-ltb}
use Rattle.std.proofs.lemmas.Bool.Decides.{nat_tests}
use Rattle.vm_types.specs.declared.prot.Prot.{Prot}
use Rattle.flat_model.specs.Flat.{Cell, Space}
use Rattle.flat_model.specs.Space.{is_in_range, all_pages, without_range, with_cells, with_prot, with_prots}
use Rattle.flat_model.specs.SpaceLaws.{RangesOfCells}

-- what is found by equal keys in both is the same map
pub same_space : (s t : Space) → ((q : ℕ) → finite.get s q ≡ finite.get t q) → s ≡ t
same_space s t is = finite.same_map nat_cmp_total finite.nat_cmp-IsAntisymmetric s t is

-- get of an insert, with the test on numbers
pub get-insert : {X : Type 0} (m : finite.FinMap nat_cmp X) (k : ℕ) (v : X) (q : ℕ) → finite.get (finite.insert m k v) q ≡ cond (eqb q k) (Some v) (finite.get m q)
get-insert m k v q = finite.get-insert nat_cmp_total m k v q ∙ ap (λ b. cond b (Some v) (finite.get m q)) (unsigned_tied q k)

pub get-insert_here : {X : Type 0} (m : finite.FinMap nat_cmp X) (k : ℕ) (v : X) → finite.get (finite.insert m k v) k ≡ Some v
get-insert_here m k v = get-insert m k v k ∙ ap (λ b. cond b (Some v) (finite.get m k)) (eq-eqb k k refl)

pub eqb-apart : (q k : ℕ) → (q ≡ k → ⊥) → eqb q k ≡ false
eqb-apart q k apart = elim (eqb q k) as (λ b. eqb q k ≡ b → b ≡ false) [ true ↦ λ is. absurd (apart (eqb-true q k is)) | false ↦ λ is. refl ] refl

pub get-insert_apart : {X : Type 0} (m : finite.FinMap nat_cmp X) (k : ℕ) (v : X) (q : ℕ) → (q ≡ k → ⊥) → finite.get (finite.insert m k v) q ≡ finite.get m q
get-insert_apart m k v q apart = get-insert m k v q ∙ ap (λ b. cond b (Some v) (finite.get m q)) (eqb-apart q k apart)

pub get-remove_apart : {X : Type 0} (m : finite.FinMap nat_cmp X) (k q : ℕ) → (q ≡ k → ⊥) → finite.get (finite.remove m k) q ≡ finite.get m q
get-remove_apart m k q apart = finite.get-remove nat_cmp_total m k q ∙ ap (λ b. cond b None (finite.get m q)) (unsigned_tied q k ∙ eqb-apart q k apart)

pub get-remove_here : {X : Type 0} (m : finite.FinMap nat_cmp X) (k : ℕ) → finite.get (finite.remove m k) k ≡ None
get-remove_here m k = finite.get-remove nat_cmp_total m k k ∙ ap (λ b. cond b None (finite.get m k)) (unsigned_tied k k ∙ eq-eqb k k refl)

-- a kept key passes the test
pub get-retain_keys : {X : Type 0} (m : finite.FinMap nat_cmp X) (p : ℕ → Bool) (q : ℕ) → finite.get (finite.retain_keys m p) q ≡ cond (p q) (finite.get m q) None
get-retain_keys m p q = finite.get-retain_keys m p q (λ x tied. ap p (sym (finite.nat_cmp-IsAntisymmetric q x tied)))

pub same_value : {X : Type 0} (b : Bool) (x r : Option X) → (b ≡ true → r ≡ x) → cond b x r ≡ r
same_value true x r h = sym (h refl)
same_value false x r h = refl

-- a value that is put back changes nothing
pub insert_same : {X : Type 0} (m : finite.FinMap nat_cmp X) (k : ℕ) (v : X) → finite.get m k ≡ Some v → finite.insert m k v ≡ m
insert_same m k v is = finite.same_map nat_cmp_total finite.nat_cmp-IsAntisymmetric _ _ (λ q.
    get-insert m k v q ∙ same_value (eqb q k) (Some v) (finite.get m q) (λ tied. ap (finite.get m) (eqb-true q k tied) ∙ is))

-- the cells after a range was put in
pub get-with_cells : (s : Space) (first n : ℕ) (cell : ℕ → Cell) (q : ℕ) → finite.get (with_cells s first n cell) q ≡ cond (is_in_range first n q) (Some (cell (q - first))) (finite.get s q)
get-with_cells s first zero cell q = grind (arith, rules)
get-with_cells s first (suc n) cell q =
    rw (finite.get-insert nat_cmp_total, get-with_cells s first n cell q, unsigned_tied)
    elim (cases_eq q (first + n)) [
      | inl is ↦ let at : q - first ≡ n = omega arith in rw (at, eq-eqb q (first + n) is, le-leb first q (omega arith), lt-ltb q (first + suc n) (omega arith)) refl
      | inr apart ↦ grind (arith, nat_tests, apart)
    ]

turned : {A : Type 0} (b : Bool) (x : Option A) → cond (not b) x None ≡ cond b None x
turned true x = refl
turned false x = refl

-- the cells after a range was taken out
pub get-without_range : (s : Space) (first n q : ℕ) → finite.get (without_range s first n) q ≡ cond (is_in_range first n q) None (finite.get s q)
get-without_range s first n q = get-retain_keys s (λ x. not (is_in_range first n x)) q ∙ turned (is_in_range first n q) (finite.get s q)

pub shadowed : {A : Type 0} (b : Bool) (x y z : Option A) → cond b x (cond b y z) ≡ cond b x z
shadowed true x y z = refl
shadowed false x y z = refl

-- the cells after a range was replaced
pub get-replaced : (s : Space) (first n : ℕ) (cell : ℕ → Cell) (q : ℕ) → finite.get (with_cells (without_range s first n) first n cell) q ≡ cond (is_in_range first n q) (Some (cell (q - first))) (finite.get s q)
get-replaced s first n cell q =
    get-with_cells (without_range s first n) first n cell q ∙ ap (cond (is_in_range first n q) (Some (cell (q - first)))) (get-without_range s first n q)
    ∙ shadowed (is_in_range first n q) (Some (cell (q - first))) None (finite.get s q)

-- new cells hide those that were taken out
pub with_cells-without_range : (s : Space) (first n : ℕ) (cell : ℕ → Cell) → with_cells (without_range s first n) first n cell ≡ with_cells s first n cell
with_cells-without_range s first n cell = same_space _ _ (λ q. get-replaced s first n cell q ∙ sym (get-with_cells s first n cell q))

-- new cells that are taken out leave what was beside them
pub without_range-with_cells : (s : Space) (first n : ℕ) (cell : ℕ → Cell) → without_range (with_cells s first n cell) first n ≡ without_range s first n
without_range-with_cells s first n cell = same_space _ _ (λ q.
    get-without_range (with_cells s first n cell) first n q ∙ ap (cond (is_in_range first n q) None) (get-with_cells s first n cell q)
    ∙ shadowed (is_in_range first n q) None (Some (cell (q - first))) (finite.get s q) ∙ sym (get-without_range s first n q))

absent : (b : Bool) (x : Option Cell) → (b ≡ true → x ≡ None) → cond b None x ≡ x
absent true x h = sym (h refl)
absent false x h = refl

-- to take nothing out changes nothing
pub without_range-free : (s : Space) (first n : ℕ) → ((q : ℕ) → is_in_range first n q ≡ true → finite.get s q ≡ None) → without_range s first n ≡ s
without_range-free s first n free = same_space _ _ (λ q. get-without_range s first n q ∙ absent (is_in_range first n q) (finite.get s q) (free q))

map_cond : {X : Type 0} (b : Bool) (x : X) (y : X) (r s : Option X) → (b ≡ true → x ≡ y) → r ≡ s → cond b (Some x) r ≡ cond b (Some y) s
map_cond true x y r s h e = ap (λ z. Some z) (h refl)
map_cond false x y r s h e = e

pub option_map-cond : {X Y : Type 0} (f : X → Y) (b : Bool) (x : X) (r : Option X) → cond b (Some (f x)) (option_map f r) ≡ option_map f (cond b (Some x) r)
option_map-cond f true x r = refl
option_map-cond f false x r = refl

find_prots : (first n : ℕ) (prot : Prot) (es : List (ℕ × Cell)) (q : ℕ) → finite.find nat_cmp q (map (λ e. (e.0, with_prot first n prot e.0 e.1)) es) ≡ option_map (with_prot first n prot q) (finite.find nat_cmp q es)
find_prots first n prot [] q = refl
find_prots first n prot (e ∷ es) q =
    let here : is_eq (nat_cmp q e.0) ≡ true → with_prot first n prot e.0 e.1 ≡ with_prot first n prot q e.1 = λ is. ap (λ k. with_prot first n prot k e.1) (sym (eqb-true q e.0 (sym (unsigned_tied q e.0) ∙ is))) in
    map_cond (is_eq (nat_cmp q e.0)) (with_prot first n prot e.0 e.1) (with_prot first n prot q e.1) _ _ here (find_prots first n prot es q)
    ∙ option_map-cond (with_prot first n prot q) (is_eq (nat_cmp q e.0)) e.1 (finite.find nat_cmp q es)

-- the cells after a range was given another protection
pub get-with_prots : (s : Space) (first n : ℕ) (prot : Prot) (q : ℕ) → finite.get (with_prots s first n prot) q ≡ option_map (with_prot first n prot q) (finite.get s q)
get-with_prots s first n prot q =
    finite.get-from_entries nat_cmp_total (map (λ e. (e.0, with_prot first n prot e.0 e.1)) (finite.entries s)) q ∙ find_prots first n prot (finite.entries s) q
    ∙ ap (option_map (with_prot first n prot q)) (sym (finite.get-entries s q))

-- a page of the range, by numbers
pub in_range-is : (first n q : ℕ) → first ≤ q → q < first + n → is_in_range first n q ≡ true
in_range-is first n q low high = grind (arith, nat_tests)

pub in_range-low : (first n q : ℕ) → is_in_range first n q ≡ true → first ≤ q
in_range-low first n q is = grind (arith, nat_tests)

pub in_range-high : (first n q : ℕ) → is_in_range first n q ≡ true → q < first + n
in_range-high first n q is = grind (arith, nat_tests)

pub both_true : (a b : Bool) → (a && b) ≡ true → (a ≡ true) × (b ≡ true)
both_true true true is = (refl, refl)
both_true true false is = absurd cc
both_true false b is = absurd cc

-- each page of a range that passes as a whole passes
pub all_pages-at : (test : ℕ → Bool) (first n q : ℕ) → all_pages test first n ≡ true → first ≤ q → q < first + n → test q ≡ true
all_pages-at test first zero q all low high = absurd (omega arith)
all_pages-at test first (suc n) q all low high =
    let h = both_true (all_pages test first n) (test (first + n)) all in
    elim (cases_eq q (first + n)) [ inl is ↦ ap test is ∙ h.1 | inr apart ↦ all_pages-at test first n q h.0 low (omega (arith, apart)) ]

-- and a range of which each page passes does as a whole
pub at-all_pages : (test : ℕ → Bool) (first n : ℕ) → ((q : ℕ) → first ≤ q → q < first + n → test q ≡ true) → all_pages test first n ≡ true
at-all_pages test first zero each = refl
at-all_pages test first (suc n) each = rw (at-all_pages test first n (λ q low high. each q low (omega arith)), each (first + n) (omega arith) (omega arith)) refl

pub ranges_law : RangesOfCells
ranges_law = record { put_in = get-with_cells; taken_out = get-without_range; put_and_taken = without_range-with_cells }
