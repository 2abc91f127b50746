-- Ranges of which each page passes a test, and cells that are given a protection one after another.
use Rattle.std.proofs.Common.{◌≡◌, ℕ, suc, ◌+◌, ◌<◌, Bool, true, false, ◌||◌, cond, Option, Some, None, refl, sym, ap, ◌∙◌, arith}
use Rattle.std.specs.Prelude.{◌==◌, option_map, is_some}
use Rattle.std.specs.FinMap as finite
use Rattle.std.proofs.lemmas.Bool.Decides.{nat_tests}
use Rattle.flat_model.specs.vm_types.declared.prot.Prot.{Prot}
use Rattle.flat_model.specs.Flat.{Cell, Space}
use Rattle.flat_model.specs.Space.{is_in_range, all_pages, with_prot, with_prots}
use Rattle.flat_state.specs.Cells.{cell_with_prot}
use Rattle.flat_model.proofs.Ranges.{same_space, get-insert, get-with_prots, all_pages-at}

-- a range of which some page fails the test
pub not_all : (test : ℕ → Bool) (first n i : ℕ) → i < n → test (first + i) ≡ false → false ≡ all_pages test first n
not_all test first n i lt fails = elim (all_pages test first n) as (λ b. all_pages test first n ≡ b → false ≡ b) [
  | true ↦ λ all. absurd (let both : true ≡ false = sym (all_pages-at test first n (first + i) all (omega arith) (omega arith)) ∙ fails in cc)
  | false ↦ λ none. refl
] refl

-- one page more
pub all_next : (test : ℕ → Bool) (first n : ℕ) → all_pages test first n ≡ true → test (first + n) ≡ true → all_pages test first (n + 1) ≡ true
all_next test first n all passes =
    let at : n + 1 ≡ suc n = omega arith in
    ap (λ (k : ℕ). all_pages test first k) at ∙ rw (all, passes) refl

range_next : (first i q : ℕ) → is_in_range first (i + 1) q ≡ (is_in_range (first + i) 1 q || is_in_range first i q)
range_next first i q = grind (arith, nat_tests)

prot_next : (a b d : Bool) (prot : Prot) (o : Option Cell) → d ≡ (a || b) → option_map (λ c. cond a (cell_with_prot c prot) c) (option_map (λ c. cond b (cell_with_prot c prot) c) o) ≡ option_map (λ c. cond d (cell_with_prot c prot) c) o
prot_next a b d prot None is = refl
prot_next true true d prot (Some c) is = ap (λ t. Some (cond t (cell_with_prot c prot) c)) (sym is)
prot_next true false d prot (Some c) is = ap (λ t. Some (cond t (cell_with_prot c prot) c)) (sym is)
prot_next false true d prot (Some c) is = ap (λ t. Some (cond t (cell_with_prot c prot) c)) (sym is)
prot_next false false d prot (Some c) is = ap (λ t. Some (cond t (cell_with_prot c prot) c)) (sym is)

-- one cell more has the protection
pub with_prots_next : (s : Space) (first i : ℕ) (prot : Prot) → with_prots (with_prots s first i prot) (first + i) 1 prot ≡ with_prots s first (i + 1) prot
with_prots_next s first i prot = same_space _ _ (λ q.
    get-with_prots (with_prots s first i prot) (first + i) 1 prot q ∙ ap (option_map (with_prot (first + i) 1 prot q)) (get-with_prots s first i prot q)
    ∙ prot_next (is_in_range (first + i) 1 q) (is_in_range first i q) (is_in_range first (i + 1) q) prot (finite.get s q) (range_next first i q)
    ∙ sym (get-with_prots s first (i + 1) prot q))

no_prots : (first q : ℕ) (prot : Prot) (o : Option Cell) → is_in_range first 0 q ≡ false → option_map (with_prot first 0 prot q) o ≡ o
no_prots first q prot None is = refl
no_prots first q prot (Some c) is = ap (λ t. Some (cond t (cell_with_prot c prot) c)) is

-- no cell has another protection yet
pub with_prots_none : (s : Space) (first : ℕ) (prot : Prot) → s ≡ with_prots s first 0 prot
with_prots_none s first prot = same_space _ _ (λ q. sym (get-with_prots s first 0 prot q ∙ no_prots first q prot (finite.get s q) (let out : is_in_range first 0 q ≡ false = grind (arith, nat_tests) in out)))

absent : (page q : ℕ) (prot : Prot) (b : Bool) (o : Option Cell) → (b ≡ true → o ≡ None) → option_map (λ c. cond b (cell_with_prot c prot) c) o ≡ o
absent page q prot true None is = refl
absent page q prot true (Some c) is = absurd (let both : Some c ≡ None = is refl in cc)
absent page q prot false None is = refl
absent page q prot false (Some c) is = refl

here_is : (page q : ℕ) → is_in_range page 1 q ≡ true → q ≡ page
here_is page q is = grind (arith, nat_tests)

-- a page without a cell gets none
pub prot_absent : (s : Space) (page : ℕ) (prot : Prot) → is_some (finite.get s page) ≡ false → s ≡ with_prots s page 1 prot
prot_absent s page prot none = same_space _ _ (λ q. sym (get-with_prots s page 1 prot q ∙ absent page q prot (is_in_range page 1 q) (finite.get s q) (λ here. ap (finite.get s) (here_is page q here) ∙ nothing (finite.get s page) none)))
  where
    nothing : (o : Option Cell) → is_some o ≡ false → o ≡ None
    nothing None is = refl
    nothing (Some c) is = absurd cc

there : (b : Bool) (o : Option Cell) (c : Cell) (prot : Prot) → (b ≡ true → o ≡ Some c) → cond b (Some (cell_with_prot c prot)) o ≡ option_map (λ x. cond b (cell_with_prot x prot) x) o
there true o c prot is = sym (ap (option_map (λ x. cell_with_prot x prot)) (is refl))
there false None c prot is = refl
there false (Some x) c prot is = refl

-- a page with a cell
pub prot_there : (s : Space) (page : ℕ) (c : Cell) (prot : Prot) → finite.get s page ≡ Some c → finite.insert s page (cell_with_prot c prot) ≡ with_prots s page 1 prot
prot_there s page c prot at = same_space _ _ (λ q.
    get-insert s page (cell_with_prot c prot) q ∙ ap (λ b. cond b (Some (cell_with_prot c prot)) (finite.get s q)) (same_page page q)
    ∙ there (is_in_range page 1 q) (finite.get s q) c prot (λ here. ap (finite.get s) (here_is page q here) ∙ at) ∙ sym (get-with_prots s page 1 prot q))
  where
    same_page : (k q : ℕ) → (q == k) ≡ is_in_range k 1 q
    same_page k q = grind (arith, nat_tests)
