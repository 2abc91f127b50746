-- What holds of all in a list, and lists that come to nothing.
use Rattle.std.proofs.Common.{◌≡◌, ℕ, List, [], ◌∷◌, ◌++◌, map, refl, ap, ◌∙◌, arith}
use Rattle.std.specs.Prelude.{sum_by, flat_map, All}
use Rattle.std.proofs.lemmas.List.Elements.{All-nil, All-cons, All-head, All-tail}
use Rattle.std.proofs.lemmas.List.Sums.{sum_by-cons}

pub all-turn : {X : Type 0} (P Q : X → Type 0) (xs : List X) → ((x : X) → P x → Q x) → All P xs → All Q xs
all-turn P Q [] turn each = All-nil Q
all-turn P Q (x ∷ xs) turn each = All-cons Q x xs (turn x (All-head P x xs each)) (all-turn P Q xs turn (All-tail P x xs each))

pub all-map : {X Y : Type 0} (P : X → Type 0) (Q : Y → Type 0) (f : X → Y) (xs : List X) → ((x : X) → P x → Q (f x)) → All P xs → All Q (map f xs)
all-map P Q f [] turn each = All-nil Q
all-map P Q f (x ∷ xs) turn each = All-cons Q (f x) (map f xs) (turn x (All-head P x xs each)) (all-map P Q f xs turn (All-tail P x xs each))

pub all-append : {X : Type 0} (P : X → Type 0) (xs ys : List X) → All P xs → All P ys → All P (xs ++ ys)
all-append P [] ys a b = b
all-append P (x ∷ xs) ys a b = All-cons P x (xs ++ ys) (All-head P x xs a) (all-append P xs ys (All-tail P x xs a) b)

pub all-flat_map : {X Y : Type 0} (P : X → Type 0) (Q : Y → Type 0) (f : X → List Y) (xs : List X) → ((x : X) → P x → All Q (f x)) → All P xs → All Q (flat_map f xs)
all-flat_map P Q f [] turn each = All-nil Q
all-flat_map P Q f (x ∷ xs) turn each = all-append Q (f x) (flat_map f xs) (turn x (All-head P x xs each)) (all-flat_map P Q f xs turn (All-tail P x xs each))

pub sum-zero : {X : Type 0} (f : X → ℕ) (xs : List X) → All (λ x. f x ≡ 0) xs → sum_by f xs ≡ 0
sum-zero f [] each = refl
sum-zero f (x ∷ xs) each =
    let here = All-head (λ x. f x ≡ 0) x xs each in
    let more = sum-zero f xs (All-tail (λ x. f x ≡ 0) x xs each) in
    let step = sum_by-cons f x xs in
    omega (arith, here, more, step)

pub no-lists : {X Y : Type 0} (f : X → List Y) (xs : List X) → All (λ x. f x ≡ []) xs → flat_map f xs ≡ []
no-lists f [] each = refl
no-lists f (x ∷ xs) each = ap (λ ys. ys ++ flat_map f xs) (All-head (λ x. f x ≡ []) x xs each) ∙ no-lists f xs (All-tail (λ x. f x ≡ []) x xs each)
