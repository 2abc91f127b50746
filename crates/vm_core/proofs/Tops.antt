-- The processes that are alive from the start.
use Rattle.std.proofs.Common.{◌≡◌, ◌≢◌, ℕ, zero, suc, ◌+◌, ◌<◌, ◌≤◌, ◌==◌, ◌||◌, Bool, true, false, cond, List, [], ◌∷◌, length, map, Option, Some, None, refl, sym, ap, ◌∙◌, inl, inr, subst, arith}
use Rattle.std.specs.Prelude.{◌⊎◌, slice_index, slice_get, if◌then◌else◌}
use Rattle.std.specs.List.{list_any}
use Rattle.std.specs.Option.{option_map_or}
use Rattle.std.specs.Ordering.{nat_cmp, eq_by_cmp}
use Rattle.std.specs.FinMap as finite
use Rattle.std.specs.FinSet as set
use Rattle.std.proofs.lemmas.Bool.{cases_eq}
use Rattle.std.proofs.lemmas.Bool.Decides.{nat_tests}
use Rattle.std.proofs.lemmas.Cmp.{nat_cmp_total}
use Rattle.fault_entry.proofs.vnode_files.FilesLemmas.{key-other}
use Rattle.fault_entry.specs.addr_space.Space.{Part}
use Rattle.fault_entry.specs.vm_world.Segments.{Spaces}
use Rattle.fault_entry.specs.vm_world.declared.segment.Segment.{Segment}
use Rattle.fault_entry.specs.vm_world.State.{is_top}
use Rattle.vm_core.specs.State.{born_of, marked_processes, top_space}

-- The spaces once the first so many processes were looked at.
pub record TopsBelow (parents : List ℕ) (n : ℕ) (spaces : Spaces) : Type 0 where
  pub below : (p : ℕ) → p ≤ n → finite.get spaces p ≡ top_space parents p
  pub above : (p : ℕ) → n < p → finite.get spaces p ≡ None

pub tops-none : (parents : List ℕ) → TopsBelow parents 0 finite.empty
tops-none parents = record {
  below = λ p le. by_place p le;
  above = λ p lt. finite.get-empty nat_cmp p;
}
  where
    by_place : (p : ℕ) → p ≤ 0 → finite.get {X = List (Part Segment)} (finite.empty {R = nat_cmp}) p ≡ top_space parents p
    by_place zero le = finite.get-empty nat_cmp 0
    by_place (suc p) le = absurd (omega (arith, le))

tops-all : (parents : List ℕ) (n p : ℕ) → length parents ≤ n → n < p → top_space parents p ≡ None
tops-all parents n zero le lt = absurd (omega (arith, lt))
tops-all parents n (suc p) le lt = ap (λ (o : Option ℕ). cond (option_map_or (λ parent. parent == 0) o false) (Some []) None) (past parents p (omega (arith, le, lt)))
  where
    past : (xs : List ℕ) (i : ℕ) → length xs ≤ i → slice_get xs i ≡ None
    past [] i le = refl
    past (x ∷ xs) zero le = absurd (omega (arith, le))
    past (x ∷ xs) (suc i) le = past xs i (omega (arith, le))

-- ALL WERE LOOKED AT.
pub tops-are : (parents : List ℕ) (spaces : Spaces) → TopsBelow parents (length parents) spaces → (p : ℕ) → finite.get spaces p ≡ top_space parents p
tops-are parents spaces t p = elim (split p (length parents)) [
  | inl le ↦ t.below p le
  | inr lt ↦ t.above p lt ∙ sym (tops-all parents (length parents) p (omega arith) lt)
]
  where
    split : (a b : ℕ) → (a ≤ b) ⊎ (b < a)
    split a b = grind arith

at-top : (parents : List ℕ) (i : ℕ) → i < length parents → is_top parents (suc i) ≡ (slice_index parents i == 0)
at-top [] i lt = absurd (omega (arith, lt))
at-top (x ∷ xs) zero lt = refl
at-top (x ∷ xs) (suc i) lt = at-top xs i (omega (arith, lt))

key-own : (p k : ℕ) → p ≡ k → eq_by_cmp nat_cmp p k ≡ true
key-own p k e = grind (arith, nat_tests)

inserted-other : (old : Spaces) (k p : ℕ) (v : List (Part Segment)) → p ≢ k → finite.get (finite.insert old k v) p ≡ finite.get old p
inserted-other old k p v ne = finite.get-insert nat_cmp_total old k v p ∙ ap (λ (b : Bool). cond b (Some v) (finite.get old p)) (key-other k p (λ e. ne (sym e)))

inserted-own : (old : Spaces) (k p : ℕ) (v : List (Part Segment)) → p ≡ k → finite.get (finite.insert old k v) p ≡ Some v
inserted-own old k p v e = finite.get-insert nat_cmp_total old k v p ∙ ap (λ (b : Bool). cond b (Some v) (finite.get old p)) (key-own p k e)

one-more : (i : ℕ) → i + 1 ≡ suc i
one-more i = omega arith

-- ONE MORE.
pub tops-more : (parents : List ℕ) (i : ℕ) (old new : Spaces) → i < length parents → TopsBelow parents i old
    → new ≡ (if slice_index parents i == 0 then finite.insert old (i + 1) [] else old) → TopsBelow parents (i + 1) new
tops-more parents i old new lt t is = by_top (slice_index parents i == 0) refl
  where
    by_top : (b : Bool) → (slice_index parents i == 0) ≡ b → TopsBelow parents (i + 1) new
    by_top true top = let made : new ≡ finite.insert old (i + 1) [] = is ∙ ap (λ (b : Bool). cond b (finite.insert old (i + 1) []) old) top in record {
      below = λ p le. elim (cases_eq p (i + 1)) [
        | inl same ↦ ap (λ (m : Spaces). finite.get m p) made ∙ inserted-own old (i + 1) p [] same ∙ sym (ap (λ (k : ℕ). top_space parents k) (same ∙ one-more i) ∙ ap (λ (b : Bool). cond b (Some []) None) (at-top parents i lt ∙ top))
        | inr ne ↦ ap (λ (m : Spaces). finite.get m p) made ∙ inserted-other old (i + 1) p [] ne ∙ t.below p (omega (arith, le, ne))
      ];
      above = λ p far. ap (λ (m : Spaces). finite.get m p) made ∙ inserted-other old (i + 1) p [] (λ e. absurd (omega (arith, far, e))) ∙ t.above p (omega (arith, far));
    }
    by_top false none = let made : new ≡ old = is ∙ ap (λ (b : Bool). cond b (finite.insert old (i + 1) []) old) none in record {
      below = λ p le. elim (cases_eq p (i + 1)) [
        | inl same ↦ ap (λ (m : Spaces). finite.get m p) made ∙ t.above p (omega (arith, same))
            ∙ sym (ap (λ (k : ℕ). top_space parents k) (same ∙ one-more i) ∙ ap (λ (b : Bool). cond b (Some []) None) (at-top parents i lt ∙ none))
        | inr ne ↦ ap (λ (m : Spaces). finite.get m p) made ∙ t.below p (omega (arith, le, ne))
      ];
      above = λ p far. ap (λ (m : Spaces). finite.get m p) made ∙ t.above p (omega (arith, far));
    }

-- Who was ever alive at the start: who has no parent.
pub any-below : (marks : List Bool) (k p : ℕ) → p < k → list_any (λ (y : ℕ). y == p) (marked_processes k marks) ≡ false
any-below [] k p lt = refl
any-below (true ∷ marks) k p lt = ap (λ (b : Bool). b || list_any (λ (y : ℕ). y == p) (marked_processes (suc k) marks)) (let e : (k == p) ≡ false = grind (arith, nat_tests) in e) ∙ any-below marks (suc k) p (omega (arith, lt))
any-below (false ∷ marks) k p lt = any-below marks (suc k) p (omega (arith, lt))

any-top : (parents : List ℕ) (k j : ℕ) → list_any (λ (y : ℕ). y == (k + j)) (marked_processes k (map (λ (n : ℕ). n == 0) parents)) ≡ option_map_or (λ (n : ℕ). n == 0) (slice_get parents j) false
any-top [] k j = refl
any-top (x ∷ xs) k zero = by_mark (x == 0)
  where
    by_mark : (b : Bool) → list_any (λ (y : ℕ). y == (k + 0)) (marked_processes k (b ∷ map (λ (n : ℕ). n == 0) xs)) ≡ b
    by_mark true = ap (λ (b : Bool). b || list_any (λ (y : ℕ). y == (k + 0)) (marked_processes (suc k) (map (λ (n : ℕ). n == 0) xs))) (let e : (k == (k + 0)) ≡ true = grind (arith, nat_tests) in e)
    by_mark false = any-below (map (λ (n : ℕ). n == 0) xs) (suc k) (k + 0) (omega arith)
any-top (x ∷ xs) k (suc j) = by_mark (x == 0) (subst (λ (m : ℕ). list_any (λ (y : ℕ). y == m) (marked_processes (suc k) (map (λ (n : ℕ). n == 0) xs)) ≡ option_map_or (λ (n : ℕ). n == 0) (slice_get xs j) false) (later k j) (any-top xs (suc k) j))
  where
    later : (k j : ℕ) → suc k + j ≡ k + suc j
    later k j = omega arith

    by_mark : (b : Bool) → list_any (λ (y : ℕ). y == (k + suc j)) (marked_processes (suc k) (map (λ (n : ℕ). n == 0) xs)) ≡ option_map_or (λ (n : ℕ). n == 0) (slice_get xs j) false
        → list_any (λ (y : ℕ). y == (k + suc j)) (marked_processes k (b ∷ map (λ (n : ℕ). n == 0) xs)) ≡ option_map_or (λ (n : ℕ). n == 0) (slice_get xs j) false
    by_mark true further = ap (λ (b : Bool). b || list_any (λ (y : ℕ). y == (k + suc j)) (marked_processes (suc k) (map (λ (n : ℕ). n == 0) xs))) (let e : (k == (k + suc j)) ≡ false = grind (arith, nat_tests) in e) ∙ further
    by_mark false further = further

pub born-tops : (parents : List ℕ) (p : ℕ) → set.contains (born_of (map (λ (n : ℕ). n == 0) parents)) p ≡ is_top parents p
born-tops parents zero = set.contains-from_list_nat (marked_processes 1 (map (λ (n : ℕ). n == 0) parents)) 0 ∙ any-below (map (λ (n : ℕ). n == 0) parents) 1 0 (omega arith)
born-tops parents (suc p) = set.contains-from_list_nat (marked_processes 1 (map (λ (n : ℕ). n == 0) parents)) (suc p)
    ∙ subst (λ (m : ℕ). list_any (λ (y : ℕ). y == m) (marked_processes 1 (map (λ (n : ℕ). n == 0) parents)) ≡ option_map_or (λ (n : ℕ). n == 0) (slice_get parents p) false) (let e : 1 + p ≡ suc p = omega arith in e) (any-top parents 1 p)
