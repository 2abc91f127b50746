-- Lists of frames without a repeat.
use Rattle.std.proofs.Common.{◌≡◌, ◌≢◌, ℕ, ◌+◌, ◌<◌, ◌≤◌, ◌⊎◌, inl, inr, List, [], ◌∷◌, ◌++◌, length, get_or, zero, suc, refl, sym, ◌∙◌, ap, subst, arith, Contains}
use Rattle.std.specs.List.{range_with_len}
use Rattle.std.proofs.lemmas.Bool.{cases_eq, eq-eqb, ne_eqb}
use Rattle.std.proofs.lemmas.List.Elements.{Contains-append_right, Contains-push_cases}
use Rattle.page_lists.specs.ListsSeen.{IsOnce, without_frame}

-- what a list has, by its first element and the rest
pub Contains-none : (f : ℕ) → Contains [] f → ⊥
Contains-none f h = let lt = h.1 in absurd (omega arith)

pub Contains-first : (x f : ℕ) (xs : List ℕ) → x ≡ f → Contains (x ∷ xs) f
Contains-first x f xs e = (0, omega arith, e)

pub Contains-rest : (x f : ℕ) (xs : List ℕ) → Contains xs f → Contains (x ∷ xs) f
Contains-rest x f xs h = Contains-append_right (x ∷ []) xs f h

pub Contains-cases : (x f : ℕ) (xs : List ℕ) → Contains (x ∷ xs) f → (x ≡ f) ⊎ Contains xs f
Contains-cases x f xs h = by h.0 h.1 h.2
  where
    by : (k : ℕ) → k < length (x ∷ xs) → get_or (x ∷ xs) k f ≡ f → (x ≡ f) ⊎ Contains xs f
    by zero lt e = inl e
    by (suc k) lt e = inr (k, omega arith, e)

-- one more at the end
pub once-more : (xs : List ℕ) (y : ℕ) → IsOnce xs → (Contains xs y → ⊥) → IsOnce (xs ++ y ∷ [])
once-more [] y o n = (Contains-none y, tt)
once-more (x ∷ xs) y o n = ((λ h. elim (Contains-push_cases xs y x h) [ inl a ↦ o.0 a | inr e ↦ n (Contains-first x y xs (sym e)) ]), once-more xs y o.1 (λ h. n (Contains-rest x y xs h)))

-- one taken off
pub without_frame-same : (x : ℕ) (xs : List ℕ) (f : ℕ) → x ≡ f → without_frame (x ∷ xs) f ≡ without_frame xs f
without_frame-same x xs f e = rw (eq-eqb x f e) refl

pub without_frame-other : (x : ℕ) (xs : List ℕ) (f : ℕ) → x ≢ f → without_frame (x ∷ xs) f ≡ x ∷ without_frame xs f
without_frame-other x xs f ne = rw (ne_eqb x f ne) refl

pub without_frame-absent : (xs : List ℕ) (f : ℕ) → (Contains xs f → ⊥) → without_frame xs f ≡ xs
without_frame-absent [] f n = refl
without_frame-absent (x ∷ xs) f n = without_frame-other x xs f (λ e. n (Contains-first x f xs e)) ∙ ap (λ (l : List ℕ). x ∷ l) (without_frame-absent xs f (λ h. n (Contains-rest x f xs h)))

pub Contains-from_without_frame : (xs : List ℕ) (f g : ℕ) → Contains (without_frame xs f) g → Contains xs g × (g ≢ f)
Contains-from_without_frame [] f g h = absurd (Contains-none g h)
Contains-from_without_frame (x ∷ xs) f g h = elim (cases_eq x f) [
  | inl e ↦ let r = Contains-from_without_frame xs f g (subst (λ (l : List ℕ). Contains l g) (without_frame-same x xs f e) h) in (Contains-rest x g xs r.0, r.1)
  | inr ne ↦ let z : Contains (x ∷ without_frame xs f) g = subst (λ (l : List ℕ). Contains l g) (without_frame-other x xs f ne) h in
      elim (Contains-cases x g (without_frame xs f) z) [
        | inl q ↦ (Contains-first x g xs q, λ e. ne (q ∙ e))
        | inr i ↦ let r = Contains-from_without_frame xs f g i in (Contains-rest x g xs r.0, r.1)
      ]
]

pub Contains-without_frame : (xs : List ℕ) (f g : ℕ) → Contains xs g → g ≢ f → Contains (without_frame xs f) g
Contains-without_frame [] f g h ne = absurd (Contains-none g h)
Contains-without_frame (x ∷ xs) f g h ne = elim (cases_eq x f) [
  | inl e ↦ subst (λ (l : List ℕ). Contains l g) (sym (without_frame-same x xs f e)) (elim (Contains-cases x g xs h) [ inl q ↦ absurd (ne (sym q ∙ e)) | inr i ↦ Contains-without_frame xs f g i ne ])
  | inr apart ↦ subst (λ (l : List ℕ). Contains l g) (sym (without_frame-other x xs f apart))
      (elim (Contains-cases x g xs h) [ inl q ↦ Contains-first x g (without_frame xs f) q | inr i ↦ Contains-rest x g (without_frame xs f) (Contains-without_frame xs f g i ne) ])
]

pub once-without_frame : (xs : List ℕ) (f : ℕ) → IsOnce xs → IsOnce (without_frame xs f)
once-without_frame [] f o = tt
once-without_frame (x ∷ xs) f o = elim (cases_eq x f) [
  | inl e ↦ subst (λ (l : List ℕ). IsOnce l) (sym (without_frame-same x xs f e)) (once-without_frame xs f o.1)
  | inr ne ↦ subst (λ (l : List ℕ). IsOnce l) (sym (without_frame-other x xs f ne)) ((λ h. let r = Contains-from_without_frame xs f x h in o.0 r.0), once-without_frame xs f o.1)
]

length-without_frame : (xs : List ℕ) (f : ℕ) → IsOnce xs → length xs ≤ length (without_frame xs f) + 1
length-without_frame [] f o = omega arith
length-without_frame (x ∷ xs) f o = elim (cases_eq x f) [
  | inl e ↦
      let gone : without_frame (x ∷ xs) f ≡ xs = without_frame-same x xs f e ∙ without_frame-absent xs f (λ h. o.0 (subst (λ (k : ℕ). Contains xs k) (sym e) h)) in
      let n : length (without_frame (x ∷ xs) f) ≡ length xs = ap (λ (l : List ℕ). length l) gone in
      omega arith
  | inr ne ↦
      let n : length (without_frame (x ∷ xs) f) ≡ suc (length (without_frame xs f)) = ap (λ (l : List ℕ). length l) (without_frame-other x xs f ne) in
      let r = length-without_frame xs f o.1 in
      omega arith
]

-- numbers below a bound, none twice, are no more than the bound
pub once-short : (n : ℕ) (xs : List ℕ) → IsOnce xs → ((g : ℕ) → Contains xs g → g < n) → length xs ≤ n
once-short zero [] o low = omega arith
once-short zero (x ∷ xs) o low = absurd (let a = low x (Contains-first x x xs refl) in omega arith)
once-short (suc n) xs o low =
    let rest : length (without_frame xs n) ≤ n = once-short n (without_frame xs n) (once-without_frame xs n o)
    (λ g h. let r = Contains-from_without_frame xs n g h in let a : g < suc n = low g r.0 in let b : g ≢ n = r.1 in omega arith) in
    let more : length xs ≤ length (without_frame xs n) + 1 = length-without_frame xs n o in
    omega arith

-- the numbers from one on
pub Contains-from_range : (a n g : ℕ) → Contains (range_with_len a n) g → (a ≤ g) × (g < a + n)
Contains-from_range a zero g h = absurd (Contains-none g h)
Contains-from_range a (suc n) g h = elim (Contains-cases a g (range_with_len (a + 1) n) h) [
  | inl e ↦ ((omega arith), (omega arith))
  | inr r ↦ let s = Contains-from_range (a + 1) n g r in let l : a + 1 ≤ g = s.0 in let u : g < a + 1 + n = s.1 in ((omega arith), (omega arith))
]

pub once-range : (a n : ℕ) → IsOnce (range_with_len a n)
once-range a zero = tt
once-range a (suc n) = ((λ h. let s = Contains-from_range (a + 1) n a h in let l : a + 1 ≤ a = s.0 in omega arith), once-range (a + 1) n)

pub range-more : (a n : ℕ) → range_with_len a (suc n) ≡ range_with_len a n ++ (a + n) ∷ []
range-more a zero = let e : a ≡ a + 0 = omega arith in ap (λ (k : ℕ). k ∷ []) e
range-more a (suc n) =
    let e : a + 1 + n ≡ a + suc n = omega arith in
    ap (λ (l : List ℕ). a ∷ l) (range-more (a + 1) n ∙ ap (λ (k : ℕ). range_with_len (a + 1) n ++ k ∷ []) e)
