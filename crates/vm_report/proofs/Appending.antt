-- Texts that are made piece by piece.
use Rattle.std.proofs.Common.{◌≡◌, ℕ, ◌<◌, ◌+◌, List, [], ◌∷◌, ◌++◌, length, take, sym, ap, ◌∙◌, get_or, append_assoc}
use Rattle.std.specs.List.{flat_map}
use Rattle.std.proofs.lemmas.List.{flat_map_more, take_more}

-- one piece behind another
pub joins : (first next last text more : List ℕ) → next ≡ first ++ text → last ≡ next ++ more → last ≡ first ++ (text ++ more)
joins first next last text more e f = f ∙ (ap (λ o. o ++ more) e ∙ append_assoc first text more)

-- the pieces together are a text
pub reads : (first last pieces text : List ℕ) → last ≡ first ++ pieces → pieces ≡ text → last ≡ first ++ text
reads first last pieces text e f = e ∙ ap (λ t. first ++ t) f

-- the text of one more element of a list
pub flat_more : {X : Type 0} (f : X → List ℕ) (start out next : List ℕ) (xs : List X) (i : ℕ) (x : X) → i < length xs → x ≡ get_or xs i x
    → out ≡ start ++ flat_map f (take i xs) → next ≡ out ++ f x → next ≡ start ++ flat_map f (take (i + 1) xs)
flat_more f start out next xs i x lt is before more =
    more ∙ (ap (λ ys. ys ++ f x) before ∙ (flat_map_more f start (take i xs) x
    ∙ ap (λ ys. start ++ flat_map f ys) (ap (λ y. take i xs ++ y ∷ []) is ∙ sym (take_more xs i x lt))))
