-- Texts of some pieces, one behind another.
use Rattle.std.proofs.Common.{◌≡◌, ◌∙◌, ℕ, List, ◌++◌, ap, append_assoc}

-- three pieces stand behind what was there
pub three-pieces : (out one two last a b c : List ℕ) → one ≡ out ++ a → two ≡ one ++ b → last ≡ two ++ c → last ≡ out ++ (a ++ (b ++ c))
three-pieces out one two last a b c e f g = g ∙ (ap (λ o. o ++ c) (f ∙ ap (λ o. o ++ b) e) ∙ (append_assoc (out ++ a) b c ∙ append_assoc out a (b ++ c)))
