-- Chains of steps forth and back.
use Rattle.std.proofs.Common.{◌≡◌, ◌≢◌, ℕ, ◌≤◌, ◌⊎◌, inl, inr, Option, Some, None, List, [], ◌∷◌, ◌++◌, length, zero, suc, refl, sym, ◌∙◌, ap, subst, arith, Contains}
use Rattle.std.proofs.lemmas.Bool.{cases_eq}
use Rattle.page_lists.specs.ListsSeen.{IsOnce, without_frame}
use Rattle.page_lists.specs.Ring.{Chain, follow, walk}
use Rattle.page_lists.proofs.ListLemmas.{Contains-none, Contains-first, Contains-rest, Contains-cases, without_frame-same, without_frame-other, without_frame-absent}

module _ (forth back : Option ℕ → Option ℕ) where
  -- a step forth and one back lead to where they began
  forth_returns : (from : Option ℕ) (xs : List ℕ) → Chain forth back from xs → back (forth from) ≡ from
  forth_returns from [] c = ap back c.0 ∙ c.1
  forth_returns from (x ∷ xs) c = ap back c.0 ∙ c.1

  pub back-forth : (from : Option ℕ) (xs : List ℕ) (x : ℕ) → Chain forth back from xs → Contains xs x → back (forth (Some x)) ≡ Some x
  back-forth from [] x c h = absurd (Contains-none x h)
  back-forth from (y ∷ ys) x c h = elim (Contains-cases y x ys h) [
    | inl e ↦ subst (λ (k : ℕ). back (forth (Some k)) ≡ Some k) e (forth_returns (Some y) ys c.2)
    | inr r ↦ back-forth (Some y) ys x c.2 r
  ]

  pub forth-back : (from : Option ℕ) (xs : List ℕ) (x : ℕ) → Chain forth back from xs → Contains xs x → forth (back (Some x)) ≡ Some x
  forth-back from [] x c h = absurd (Contains-none x h)
  forth-back from (y ∷ ys) x c h = elim (Contains-cases y x ys h) [
    | inl e ↦ subst (λ (k : ℕ). forth (back (Some k)) ≡ Some k) e (ap forth c.1 ∙ c.0)
    | inr r ↦ forth-back (Some y) ys x c.2 r
  ]

  pub forth-last : (from : Option ℕ) (xs : List ℕ) → Chain forth back from xs → forth (back None) ≡ None
  forth-last from [] c = ap forth c.1 ∙ c.0
  forth-last from (x ∷ xs) c = forth-last (Some x) xs c.2

  -- steps lead to frames of the chain
  first_in : (from : Option ℕ) (xs : List ℕ) (g : ℕ) → Chain forth back from xs → forth from ≡ Some g → Contains xs g
  first_in from [] g c h = let z : None ≡ Some g = sym c.0 ∙ h in cc
  first_in from (x ∷ xs) g c h = let z : Some x ≡ Some g = sym c.0 ∙ h in let e : x ≡ g = cc in Contains-first x g xs e

  pub forth-in : (from : Option ℕ) (xs : List ℕ) (x g : ℕ) → Chain forth back from xs → Contains xs x → forth (Some x) ≡ Some g → Contains xs g
  forth-in from [] x g c h e = absurd (Contains-none x h)
  forth-in from (y ∷ ys) x g c h e = elim (Contains-cases y x ys h) [
    | inl q ↦ Contains-rest y g ys (first_in (Some y) ys g c.2 (ap (λ (k : ℕ). forth (Some k)) q ∙ e))
    | inr r ↦ Contains-rest y g ys (forth-in (Some y) ys x g c.2 r e)
  ]

  pub back-in : (from : Option ℕ) (xs : List ℕ) (x g : ℕ) → Chain forth back from xs → Contains xs x → back (Some x) ≡ Some g → (from ≡ Some g) ⊎ Contains xs g
  back-in from [] x g c h e = absurd (Contains-none x h)
  back-in from (y ∷ ys) x g c h e = elim (Contains-cases y x ys h) [
    | inl q ↦ inl (sym c.1 ∙ ap (λ (k : ℕ). back (Some k)) q ∙ e)
    | inr r ↦ elim (back-in (Some y) ys x g c.2 r e) [
      | inl z ↦ let s : y ≡ g = cc in inr (Contains-first y g ys s)
      | inr i ↦ inr (Contains-rest y g ys i)
    ]
  ]

  pub last-in : (from : Option ℕ) (xs : List ℕ) (g : ℕ) → Chain forth back from xs → back None ≡ Some g → (from ≡ Some g) ⊎ Contains xs g
  last-in from [] g c e = inl (sym c.1 ∙ e)
  last-in from (x ∷ xs) g c e = elim (last-in (Some x) xs g c.2 e) [
    | inl z ↦ let s : x ≡ g = cc in inr (Contains-first x g xs s)
    | inr i ↦ inr (Contains-rest x g xs i)
  ]

-- the steps once links lead elsewhere
module _ (forth back forth_new back_new : Option ℕ → Option ℕ) where
  -- where the steps along it are the same, a chain is kept
  chain-kept : (from : Option ℕ) (xs : List ℕ) → Chain forth back from xs → forth_new from ≡ forth from
      → ((g : ℕ) → Contains xs g → forth_new (Some g) ≡ forth (Some g)) → ((g : ℕ) → Contains xs g → back_new (Some g) ≡ back (Some g)) → back_new None ≡ back None → Chain forth_new back_new from xs
  chain-kept from [] c p q r e = (p ∙ c.0, e ∙ c.1)
  chain-kept from (x ∷ xs) c p q r e = (
    p ∙ c.0,
    r x (Contains-first x x xs refl) ∙ c.1,
    chain-kept (Some x) xs c.2 (q x (Contains-first x x xs refl))
        (λ g h. q g (Contains-rest x g xs h)) (λ g h. r g (Contains-rest x g xs h)) e,
  )

  -- a frame goes to the end
  pub chain-appended : (from : Option ℕ) (xs : List ℕ) (y : ℕ) → Chain forth back from xs → (Contains xs y → ⊥) → (from ≡ Some y → ⊥) →
      forth_new (Some y) ≡ None → forth_new (back None) ≡ Some y → ((q : Option ℕ) → q ≢ back None → q ≢ Some y → forth_new q ≡ forth q) →
      back_new (Some y) ≡ back None → back_new None ≡ Some y → ((q : Option ℕ) → q ≢ None → q ≢ Some y → back_new q ≡ back q) →
      Chain forth_new back_new from (xs ++ y ∷ [])
  chain-appended from [] y c absent out end into kept before last still = (ap forth_new (sym c.1) ∙ into, before ∙ c.1, (end, last))
  chain-appended from (x ∷ xs) y c absent out end into kept before last still =
      let not_last : from ≢ back None = λ (q : from ≡ back None). let z : Some x ≡ None = sym c.0 ∙ ap forth q ∙ forth-last forth back from (x ∷ xs) c in cc in
      let apart : Some x ≢ Some y = λ (q : Some x ≡ Some y). let e : x ≡ y = cc in absent (Contains-first x y xs e) in (
        kept from not_last out ∙ c.0,
        still (Some x) (λ q. cc) apart ∙ c.1,
        chain-appended (Some x) xs y c.2 (λ h. absent (Contains-rest x y xs h)) apart end into kept before last still,
      )

  -- the first frame goes out
  first_removed : (from : Option ℕ) (x : ℕ) (xs : List ℕ) → Chain forth back (Some x) xs → IsOnce xs → ((g : ℕ) → Contains xs g → from ≡ Some g → ⊥) →
      forth_new from ≡ forth (Some x) → ((q : Option ℕ) → q ≢ from → forth_new q ≡ forth q) →
      back_new (forth (Some x)) ≡ from → ((q : Option ℕ) → q ≢ forth (Some x) → back_new q ≡ back q) →
      Chain forth_new back_new from xs
  first_removed from x [] c once out into kept before still = (into ∙ c.0, ap back_new (sym c.0) ∙ before)
  first_removed from x (z ∷ zs) c once out into kept before still = (
    into ∙ c.0,
    ap back_new (sym c.0) ∙ before,
    chain-kept (Some z) zs c.2
        (kept (Some z) (λ q. out z (Contains-first z z zs refl) (sym q)))
        (λ g h. kept (Some g) (λ q. out g (Contains-rest z g zs h) (sym q)))
        (λ g h. still (Some g) (λ q. let w : Some g ≡ Some z = q ∙ c.0 in let e : g ≡ z = cc in once.0 (subst (λ (k : ℕ). Contains zs k) e h)))
        (still None (λ q. let w : None ≡ Some z = q ∙ c.0 in cc)),
  )

  -- a frame goes out, wherever it is
  pub chain-removed : (from : Option ℕ) (xs : List ℕ) (y : ℕ) → Chain forth back from xs → IsOnce xs → Contains xs y → ((g : ℕ) → Contains xs g → from ≡ Some g → ⊥) →
      forth_new (back (Some y)) ≡ forth (Some y) → ((q : Option ℕ) → q ≢ back (Some y) → forth_new q ≡ forth q) →
      back_new (forth (Some y)) ≡ back (Some y) → ((q : Option ℕ) → q ≢ forth (Some y) → back_new q ≡ back q) →
      Chain forth_new back_new from (without_frame xs y)
  chain-removed from [] y c once h out into kept before still = absurd (Contains-none y h)
  chain-removed from (x ∷ xs) y c once h out into kept before still = elim (cases_eq x y) [
    | inl e ↦
        let gone : without_frame (x ∷ xs) y ≡ xs = without_frame-same x xs y e ∙ without_frame-absent xs y (λ i. once.0 (subst (λ (k : ℕ). Contains xs k) (sym e) i)) in
        let here : back (Some y) ≡ from = ap (λ (k : ℕ). back (Some k)) (sym e) ∙ c.1 in
        let ahead : forth (Some y) ≡ forth (Some x) = ap (λ (k : ℕ). forth (Some k)) (sym e) in
        subst (λ (l : List ℕ). Chain forth_new back_new from l) (sym gone)
        (first_removed from x xs c.2 once.1 (λ g i. out g (Contains-rest x g xs i))
        (ap forth_new (sym here) ∙ into ∙ ahead) (λ q ne. kept q (λ r. ne (r ∙ here)))
        (ap back_new (sym ahead) ∙ before ∙ here) (λ q ne. still q (λ r. ne (r ∙ ahead))))
    | inr ne ↦
        let inside : Contains xs y = elim (Contains-cases x y xs h) [ inl e ↦ absurd (ne e) | inr i ↦ i ] in
        let not_before : from ≢ back (Some y) = λ (q : from ≡ back (Some y)). let z : Some x ≡ Some y = sym c.0 ∙ ap forth q
        ∙ forth-back forth back from (x ∷ xs) y c h in let e : x ≡ y = cc in ne e in
        let not_after : Some x ≢ forth (Some y) = λ (q : Some x ≡ forth (Some y)). out y (Contains-rest x y xs inside) (sym c.1 ∙ ap back q ∙ back-forth forth back from (x ∷ xs) y c h) in
        subst (λ (l : List ℕ). Chain forth_new back_new from l) (sym (without_frame-other x xs y ne)) (
          kept from not_before ∙ c.0,
          still (Some x) not_after ∙ c.1,
          chain-removed (Some x) xs y c.2 once.1 inside (λ g i q. let e : x ≡ g = cc in once.0 (subst (λ (k : ℕ). Contains xs k) (sym e) i)) into kept before still,
        )
  ]

-- a walk along the links gives the chain
pub walk-chain : (first : Option ℕ) (next : List (Option ℕ)) (back : Option ℕ → Option ℕ) (from : Option ℕ) (xs : List ℕ) (n : ℕ)
    → Chain (follow first next) back from xs → length xs ≤ n → walk next n (follow first next from) ≡ xs
walk-chain first next back from [] zero c le = refl
walk-chain first next back from [] (suc n) c le = ap (λ (o : Option ℕ). walk next (suc n) o) c.0
walk-chain first next back from (x ∷ xs) zero c le = absurd (omega arith)
walk-chain first next back from (x ∷ xs) (suc n) c le = ap (λ (o : Option ℕ). walk next (suc n) o) c.0 ∙ ap (λ (l : List ℕ). x ∷ l) (walk-chain first next back (Some x) xs n c.2 (omega arith))

-- what comes first, and what is left behind it
pub chain-first : (forth back : Option ℕ → Option ℕ) (xs : List ℕ) (f : ℕ) → Chain forth back None xs → IsOnce xs → forth None ≡ Some f → xs ≡ f ∷ without_frame xs f
chain-first forth back [] f c once e = let z : None ≡ Some f = sym c.0 ∙ e in cc
chain-first forth back (x ∷ xs) f c once e =
    let z : Some x ≡ Some f = sym c.0 ∙ e in
    let q : x ≡ f = cc in
    ap (λ (k : ℕ). k ∷ xs) q ∙ ap (λ (l : List ℕ). f ∷ l) (sym (without_frame-same x xs f q ∙ without_frame-absent xs f (λ h. once.0 (subst (λ (k : ℕ). Contains xs k) (sym q) h))))
