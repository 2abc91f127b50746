-- A translation that has a place is found by its page.
use Rattle.std.proofs.Common.{◌≡◌, ℕ, zero, suc, Bool, true, false, cond, List, [], ◌∷◌, Option, Some, None, refl, sym, ap, ◌∙◌, inl, inr}
use Rattle.std.specs.Prelude.{option_and_then, find, slice_index_or}
use Rattle.std.proofs.lemmas.Bool.{cases_Bool, eq-eqb}
use Rattle.hat_layer.specs.Pool as pool
use Rattle.hat_layer.specs.declared.translation.Translation.{Translation}

not-held : (o : Option Translation) (space q : ℕ) → pool.holds space q o ≡ true → o ≡ None → ⊥
not-held None space q h e = let z : false ≡ true = h in cc
not-held (Some u) space q h e = cc

pub holds-own : (t : Translation) → pool.holds t.space t.page (Some t) ≡ true
holds-own t = rw (eq-eqb t.space t.space refl, eq-eqb t.page t.page refl) refl

at-found-here : (o : Option Translation) (os : List (Option Translation)) (space q : ℕ) (b : Bool) → pool.holds space q o ≡ b → pool.translation_at (o ∷ os) space q ≡ cond b o (pool.translation_at os space q)
at-found-here o os space q b e = ap (λ (b : Bool). option_and_then (λ (x : Option Translation). x) (cond b (Some o) (find (λ x. pool.holds space q x) os))) e ∙ by_test b
  where
    by_test : (b : Bool) → option_and_then (λ (x : Option Translation). x) (cond b (Some o) (find (λ x. pool.holds space q x) os)) ≡ cond b o (pool.translation_at os space q)
    by_test true = refl
    by_test false = refl

pub loaded-at : (places : List (Option Translation)) (k : ℕ) (t : Translation) → slice_index_or places k None ≡ Some t → pool.translation_at places t.space t.page ≡ None → ⊥
loaded-at [] k t is none = let z : None ≡ Some t = is in cc
loaded-at (o ∷ os) zero t is none =
    let h : pool.holds t.space t.page o ≡ true = ap (pool.holds t.space t.page) is ∙ holds-own t in
    not-held o t.space t.page h (sym (at-found-here o os t.space t.page true h) ∙ none)
loaded-at (o ∷ os) (suc k) t is none = elim (cases_Bool (pool.holds t.space t.page o)) [
  | inl h ↦ not-held o t.space t.page h (sym (at-found-here o os t.space t.page true h) ∙ none)
  | inr f ↦ loaded-at os k t is (sym (at-found-here o os t.space t.page false f) ∙ none)
]
