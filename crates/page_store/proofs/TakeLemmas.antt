-- The first of the lists is taken.
use Rattle.std.proofs.Common.{◌≡◌, ◌≢◌, ℕ, ◌⊎◌, inl, inr, List, [], ◌∷◌, Some, sym, ◌∙◌, subst}
use Rattle.std.specs.Prelude.{◌↔◌, Contains}
use Rattle.page_lists.specs.ListsSeen.{IsOnce, AreApart, first_listed}
use Rattle.page_lists.proofs.ListLemmas.{Contains-none, Contains-first, Contains-rest, Contains-cases}
use Rattle.page_store.specs.Steps.{rest_free, rest_cached}

-- the frame that is taken was on one of the lists
pub first-listed : (free cached : List ℕ) (f : ℕ) → first_listed free cached ≡ Some f → Contains free f ⊎ Contains cached f
first-listed [] [] f h = absurd (cc)
first-listed [] (x ∷ xs) f h = inr (Contains-first x f xs (cc))
first-listed (x ∷ xs) cached f h = inl (Contains-first x f xs (cc))

-- every other frame is on the lists as before
pub rest-free : (free cached : List ℕ) (f : ℕ) → first_listed free cached ≡ Some f → (k : ℕ) → k ≢ f → Contains (rest_free free) k ↔ Contains free k
rest-free [] cached f h k ne = (λ a. a, λ a. a)
rest-free (x ∷ xs) cached f h k ne = let q : x ≡ f = cc in (λ a. Contains-rest x k xs a, λ a. elim (Contains-cases x k xs a) [ inl e ↦ absurd (ne (sym e ∙ q)) | inr b ↦ b ])

pub rest-cached : (free cached : List ℕ) (f : ℕ) → first_listed free cached ≡ Some f → (k : ℕ) → k ≢ f → Contains (rest_cached free cached) k ↔ Contains cached k
rest-cached [] [] f h k ne = (λ a. a, λ a. a)
rest-cached [] (x ∷ xs) f h k ne = let q : x ≡ f = cc in (λ a. Contains-rest x k xs a, λ a. elim (Contains-cases x k xs a) [ inl e ↦ absurd (ne (sym e ∙ q)) | inr b ↦ b ])
rest-cached (x ∷ xs) cached f h k ne = (λ a. a, λ a. a)

-- the frame that is taken is on neither
pub gone-free : (free cached : List ℕ) (f : ℕ) → first_listed free cached ≡ Some f → IsOnce free → Contains (rest_free free) f → ⊥
gone-free [] cached f h once a = Contains-none f a
gone-free (x ∷ xs) cached f h once a = let q : x ≡ f = cc in once.0 (subst (λ (k : ℕ). Contains xs k) (sym q) a)

pub gone-cached : (free cached : List ℕ) (f : ℕ) → first_listed free cached ≡ Some f → IsOnce cached → ((k : ℕ) → Contains free k → Contains cached k → ⊥) → Contains (rest_cached free cached) f → ⊥
gone-cached [] [] f h once apart a = Contains-none f a
gone-cached [] (x ∷ xs) f h once apart a = let q : x ≡ f = cc in once.0 (subst (λ (k : ℕ). Contains xs k) (sym q) a)
gone-cached (x ∷ xs) cached f h once apart a = let q : x ≡ f = cc in apart f (Contains-first x f xs q) a

-- and the lists are apart as before
once_free : (free : List ℕ) → IsOnce free → IsOnce (rest_free free)
once_free [] o = tt
once_free (x ∷ xs) o = o.1

once_cached : (free cached : List ℕ) → IsOnce cached → IsOnce (rest_cached free cached)
once_cached [] [] o = tt
once_cached [] (x ∷ xs) o = o.1
once_cached (x ∷ xs) cached o = o

has_free : (free : List ℕ) (k : ℕ) → Contains (rest_free free) k → Contains free k
has_free [] k h = h
has_free (x ∷ xs) k h = Contains-rest x k xs h

has_cached : (free cached : List ℕ) (k : ℕ) → Contains (rest_cached free cached) k → Contains cached k
has_cached [] [] k h = h
has_cached [] (x ∷ xs) k h = Contains-rest x k xs h
has_cached (x ∷ xs) cached k h = h

pub rest-apart : (frames : ℕ) (free cached : List ℕ) → AreApart (record { frames = frames; free = free; cached = cached })
    → AreApart (record { frames = frames; free = rest_free free; cached = rest_cached free cached })
rest-apart frames free cached apart = record {
  once_free = once_free free apart.once_free;
  once_cached = once_cached free cached apart.once_cached;
  one_list = λ k a b. apart.one_list k (has_free free k a) (has_cached free cached k b);
  below_free = λ k a. apart.below_free k (has_free free k a);
  below_cached = λ k b. apart.below_cached k (has_cached free cached k b);
}
