-- The first round of a new clock.
use Rattle.std.proofs.Common.{◌≡◌, ℕ, ◌+◌, ◌-◌, ◌*◌, ◌%◌, ◌<◌, ◌≤◌, ◌⊎◌, inl, inr, zero, suc, true, false, arith, refl, sym, ◌∙◌, ap}
use Rattle.std.proofs.Math.Nat.{mod-eq_of_lt, mod-eq-sub-mod}
use Rattle.std.proofs.lemmas.Bool.{cases_lt}
use Rattle.page_clock.specs.Seen.{ClockSeen}
use Rattle.page_clock.specs.Clock.{next_clock, next_pick, fresh_clock, clock_after}
use Rattle.page_clock.specs.declared.Pick.TheVariants.{Front, Back}

-- after an even number of steps the front hand is next
pub after-even : (F D m : ℕ) → m < F → clock_after (2 * m) (fresh_clock F D) ≡ record { frames = F; distance = D; front = m; back_next = false }
after-even F D zero lt = refl
after-even F D (suc m) lt =
    let two : 2 * suc m ≡ suc (suc (2 * m)) = omega arith in
    let next : (m + 1) % F ≡ suc m = let n : m + 1 ≡ suc m = omega arith in mod-eq_of_lt (omega arith) ∙ n in
    ap (λ (k : ℕ). clock_after k (fresh_clock F D)) two
    ∙ ap (λ (c : ClockSeen). next_clock (next_clock c)) (after-even F D m (omega arith))
    ∙ ap (λ (f : ℕ). record { frames = F; distance = D; front = f; back_next = false }) next

-- after an odd number of steps the back hand is next
pub after-odd : (F D m : ℕ) → m < F → clock_after (2 * m + 1) (fresh_clock F D) ≡ record { frames = F; distance = D; front = m; back_next = true }
after-odd F D m lt =
    let one : 2 * m + 1 ≡ suc (2 * m) = omega arith in
    ap (λ (k : ℕ). clock_after k (fresh_clock F D)) one ∙ ap next_clock (after-even F D m lt)

-- a number is even or odd
even-or-odd : (n : ℕ) → (m : ℕ) × ((n ≡ 2 * m) ⊎ (n ≡ 2 * m + 1))
even-or-odd zero = (0, inl refl)
even-or-odd (suc n) = let half = even-or-odd n in elim half.1 [ inl e ↦ (half.0, inr (omega arith)) | inr e ↦ (half.0 + 1, inl (omega arith)) ]

-- the pick of each step of the first round
pub first-round : (F D n : ℕ) → n < 2 * F → (m : ℕ) × (m < F)
    × (((n ≡ 2 * m) × (next_pick (clock_after n (fresh_clock F D)) ≡ Front m)) ⊎ ((n ≡ 2 * m + 1) × (next_pick (clock_after n (fresh_clock F D)) ≡ Back ((m + F - D) % F))))
first-round F D n within =
    let half = even-or-odd n in
    let pick = λ (k : ℕ). next_pick (clock_after k (fresh_clock F D)) in
    elim half.1 [
      | inl e ↦ let lt : half.0 < F = omega arith in (half.0, lt, inl (e, ap pick e ∙ ap next_pick (after-even F D half.0 lt)))
      | inr e ↦ let lt : half.0 < F = omega arith in (half.0, lt, inr (e, ap pick e ∙ ap next_pick (after-odd F D half.0 lt)))
    ]

-- where the back hand is, for a front hand at m
pub back-at : (F D m : ℕ) → D < F → m < F → ((m < D) × ((m + F - D) % F ≡ m + F - D)) ⊎ ((D ≤ m) × ((m + F - D) % F ≡ m - D))
back-at F D m d lt = elim (cases_lt m D) [
  | inl low ↦ inl (low, mod-eq_of_lt (omega arith))
  | inr high ↦
      let down : m + F - D - F ≡ m - D = omega arith in
      inr (high, mod-eq-sub-mod (omega arith) ∙ ap (λ (n : ℕ). n % F) down ∙ mod-eq_of_lt (omega arith))
]

-- the front hand's place at which the back hand is at a frame
pub record IsAhead (F D frame m : ℕ) : Type 0 where
  pub near : frame + D < F → m ≡ frame + D
  pub round : F ≤ frame + D → m + F ≡ frame + D

pub ahead-below : (F D frame m : ℕ) → D < F → frame < F → IsAhead F D frame m → m < F
ahead-below F D frame m d lt ahead = elim (cases_lt (frame + D) F) [
  | inl low ↦ let e = ahead.near low in omega arith
  | inr high ↦ let e = ahead.round high in omega arith
]

pub ahead-back : (F D frame m : ℕ) → D < F → frame < F → IsAhead F D frame m → (m + F - D) % F ≡ frame
ahead-back F D frame m d lt ahead =
    elim (back-at F D m d (ahead-below F D frame m d lt ahead)) [
      | inl b ↦ elim (cases_lt (frame + D) F) [
        | inl low ↦ let e = ahead.near low in let l = b.0 in absurd (omega arith)
        | inr high ↦ let e = ahead.round high in let s : m + F - D ≡ frame = omega arith in b.1 ∙ s
      ]
      | inr b ↦ elim (cases_lt (frame + D) F) [
        | inl low ↦ let e = ahead.near low in let s : m - D ≡ frame = omega arith in b.1 ∙ s
        | inr high ↦ let e = ahead.round high in let l = b.0 in absurd (omega arith)
      ]
    ]

pub back-ahead : (F D frame m n : ℕ) → D < F → frame < F → n < F → IsAhead F D frame m → (n + F - D) % F ≡ frame → n ≡ m
back-ahead F D frame m n d lt within ahead at =
    elim (back-at F D n d within) [
      | inl b ↦
          let s : n + F - D ≡ frame = sym b.1 ∙ at in
          let l = b.0 in
          let e = ahead.round (omega arith) in omega arith
      | inr b ↦
          let s : n - D ≡ frame = sym b.1 ∙ at in
          let l = b.0 in
          let e = ahead.near (omega arith) in omega arith
    ]
