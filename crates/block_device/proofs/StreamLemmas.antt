-- Pieces of texts.
use Rattle.std.proofs.Common.{◌≡◌, ℕ, ◌+◌, ◌-◌, ◌≤◌, length, length-append, length-drop, arith, List, ◌++◌, take, drop, Option, Some, None, refl, ap, sym, ◌∙◌, append_assoc}
use Rattle.std.specs.Prelude.{option_map, Result, Ok, Err, OnErr}
use Rattle.std.proofs.Math.Seq.{take-add, take-length}
use Rattle.std.proofs.lemmas.List.{length-take}
use Rattle.block_device.specs.StreamSeen.{Came, TookSome, text_with_more}

-- One piece and the next are one piece.
pub came_on : (x y z : Option (List ℕ)) (a b : List ℕ) → Came x a y → Came y b z → Came x (a ++ b) z
came_on x y None a b one two = one ∙ ap (option_map (λ rest. a ++ rest)) two
came_on x y (Some z) a b one two = one ∙ ap (option_map (λ rest. a ++ rest)) two ∙ ap (λ t. Some t) (sym (append_assoc a b z))

pub text_with_more-text_with_more : (text : Option (List ℕ)) (a b : List ℕ) → text_with_more (text_with_more text a) b ≡ text_with_more text (a ++ b)
text_with_more-text_with_more None a b = refl
text_with_more-text_with_more (Some t) a b = ap (λ x. Some x) (append_assoc t a b)

-- A longer front was written.
pub front_goes_on : (x y z : Option (List ℕ)) (text : List ℕ) (i n : ℕ) → y ≡ text_with_more x (take i text) → z ≡ text_with_more y (take n (drop i text)) → z ≡ text_with_more x (take (i + n) text)
front_goes_on x y z text i n h k =
    k ∙ ap (λ t. text_with_more t (take n (drop i text))) h ∙ text_with_more-text_with_more x (take i text) (take n (drop i text)) ∙ ap (text_with_more x) (sym (take-add i n text))

-- the rest of a slice
pub tail-is : (text : List ℕ) (done : ℕ) → take (length text - done) (drop done text) ≡ drop done text
tail-is text done = ap (λ n. take n (drop done text)) (sym (length-drop done text)) ∙ take-length (drop done text)

pub on_err : {T E : Type 0} (r : Result T E) (P : Type 0) → P → OnErr r P
on_err (Ok _) P p = tt
on_err (Err _) P p = p

-- What had come and the next piece were taken, and are no more than the limit.
pub took_some : (x y z : Option (List ℕ)) (all piece : List ℕ) (count most limit : ℕ) → Came x all y → Came y (take count piece) z → count ≤ most → length all + most ≤ limit → TookSome x z limit
took_some x y z all piece count most limit one two few fits =
    (all ++ take count piece, omega (arith, length-append all (take count piece), length-take count piece, few, fits), came_on x y z all (take count piece) one two)
