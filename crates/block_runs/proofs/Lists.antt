-- Lists, and rows of callers cut in two.
use Rattle.std.proofs.Common.{◌≡◌, ℕ, ◌+◌, ◌||◌, Bool, true, List, [], ◌∷◌, ◌++◌, length, refl, ap, ◌∙◌, subst, length-append, arith}
use Rattle.std.specs.List.{list_any, AllByRecursion}
use Rattle.std.proofs.lemmas.List.Folds.{list_any-append}
use mathlib.Core.List.{IsPrefix}
use Rattle.vm_kernel.specs.Callers.{KernelSeen, CallerSeen}
use Rattle.block_runs.specs.Rows.{AreNumbered}
pub use Rattle.kernel_lock.proofs.Begun.{prefix_self as prefix_refl}

pub prefix_none : {A : Type 0} (xs ys : List A) → xs ≡ [] → IsPrefix xs ys
prefix_none xs ys is = (ys, ap (λ zs. zs ++ ys) is)

-- an element that passes a test is in what begins with the list, too
pub any_longer : {A : Type 0} (f : A → Bool) (xs ys : List A) → IsPrefix xs ys → list_any f xs ≡ true → list_any f ys ≡ true
any_longer f xs ys le any = subst (λ zs. list_any f zs ≡ true) le.1 (list_any-append f xs le.0 ∙ ap (λ b. b || list_any f le.0) any)

pub each_append : {A : Type 0} (P : A → Type 0) (xs ys : List A) → AllByRecursion P xs → AllByRecursion P ys → AllByRecursion P (xs ++ ys)
each_append P [] ys a b = b
each_append P (x ∷ xs) ys a b = (a.0, each_append P xs ys a.1 b)

pub each_front : {A : Type 0} (P : A → Type 0) (xs ys : List A) → AllByRecursion P (xs ++ ys) → AllByRecursion P xs
each_front P [] ys a = tt
each_front P (x ∷ xs) ys a = (a.0, each_front P xs ys a.1)

pub each_back : {A : Type 0} (P : A → Type 0) (xs ys : List A) → AllByRecursion P (xs ++ ys) → AllByRecursion P ys
each_back P [] ys a = a
each_back P (x ∷ xs) ys a = each_back P xs ys a.1

pub each_weaker : {A : Type 0} (P Q : A → Type 0) (xs : List A) → ((x : A) → P x → Q x) → AllByRecursion P xs → AllByRecursion Q xs
each_weaker P Q [] f a = tt
each_weaker P Q (x ∷ xs) f a = (f x a.0, each_weaker P Q xs f a.1)

pub same_parts : {A : Type 0} (xs ys cs ds : List A) → length xs ≡ length ys → xs ++ cs ≡ ys ++ ds → (xs ≡ ys) × (cs ≡ ds)
same_parts [] [] cs ds long is = (refl, is)
same_parts [] (y ∷ ys) cs ds long is = absurd (omega (arith, long))
same_parts (x ∷ xs) [] cs ds long is = absurd (omega (arith, long))
same_parts (x ∷ xs) (y ∷ ys) cs ds long is =
    let head : x ≡ y = cc is in
    let tail : xs ++ cs ≡ ys ++ ds = cc is in
    let rest = same_parts xs ys cs ds (omega (arith, long)) tail in
    (ap (λ z. z ∷ xs) head ∙ ap (λ zs. y ∷ zs) rest.0, rest.1)

pub same_front : {A : Type 0} (xs ys zs : List A) → xs ++ zs ≡ ys ++ zs → xs ≡ ys
same_front {A} xs ys zs is = (same_parts xs ys zs zs (let e : length (xs ++ zs) ≡ length (ys ++ zs) = ap (λ (z : List A). length z) is in omega (arith, e, length-append xs zs, length-append ys zs)) is).0

pub numbered_append : (kernel : KernelSeen) (n k : ℕ) (xs ys : List CallerSeen) → n + length xs ≡ k → AreNumbered kernel n xs → AreNumbered kernel k ys → AreNumbered kernel n (xs ++ ys)
numbered_append kernel n k [] ys long a b = subst (λ i. AreNumbered kernel i ys) (omega (arith, long)) b
numbered_append kernel n k (x ∷ xs) ys long a b = (a.0, numbered_append kernel (n + 1) k xs ys (omega (arith, long)) a.1 b)

pub numbered_front : (kernel : KernelSeen) (n : ℕ) (xs ys : List CallerSeen) → AreNumbered kernel n (xs ++ ys) → AreNumbered kernel n xs
numbered_front kernel n [] ys a = tt
numbered_front kernel n (x ∷ xs) ys a = (a.0, numbered_front kernel (n + 1) xs ys a.1)

pub numbered_back : (kernel : KernelSeen) (n k : ℕ) (xs ys : List CallerSeen) → n + length xs ≡ k → AreNumbered kernel n (xs ++ ys) → AreNumbered kernel k ys
numbered_back kernel n k [] ys long a = subst (λ i. AreNumbered kernel i ys) (omega (arith, long)) a
numbered_back kernel n k (x ∷ xs) ys long a = numbered_back kernel (n + 1) k xs ys (omega (arith, long)) a.1
