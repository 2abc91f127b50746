-- How many questions are left.
use Rattle.std.proofs.Common.{◌≡◌, ℕ, zero, suc, ◌+◌, ◌-◌, ◌<◌, ◌≤◌, ◌&&◌, Bool, true, false, cond}
use Rattle.std.proofs.Common.{List, [], ◌∷◌, ◌++◌, length, filter, refl, ap, ap₂, subst, ◌∙◌, arith}
use Rattle.std.proofs.Common.{add-zero, length-append}
use Rattle.std.specs.Prelude.{◌==◌, slice_index_or}
use Rattle.std.proofs.lemmas.Bool.{eq-eqb}
use Rattle.std.proofs.lemmas.List.Elements.{filter-append}
use Rattle.shm_model.specs.declared.acts.ShmEntry.{ShmEntry}
use Rattle.sysv_shm.specs.Shm.{is_spent, spent_by, line_room, questions_left_from, questions_left}

spends : ℕ → ShmEntry → Bool
spends p e = (e.process == p) && is_spent e.act

one_if : (t : ShmEntry → Bool) (e : ShmEntry) → length (filter t (e ∷ [])) ≡ cond (t e) 1 0
one_if t e = by_test (t e)
  where
    by_test : (b : Bool) → length (cond b (e ∷ []) []) ≡ cond b 1 0
    by_test true = refl
    by_test false = refl

spent-more : (p : ℕ) (S : List ShmEntry) (e : ShmEntry) → spent_by p (S ++ e ∷ [])
    ≡ spent_by p S + cond ((e.process == p) && is_spent e.act) 1 0
spent-more p S e =
    ap length (filter-append (λ d. (d.process == p) && is_spent d.act) S (e ∷ []))
    ∙ length-append (filter (λ d. (d.process == p) && is_spent d.act) S)
    (filter (λ d. (d.process == p) && is_spent d.act) (e ∷ []))
    ∙ ap (λ n. spent_by p S + n) (one_if (λ d. (d.process == p) && is_spent d.act) e)

spent-no_less : (p : ℕ) (S : List ShmEntry) (e : ShmEntry) → spent_by p S ≤ spent_by p (S ++ e ∷ [])
spent-no_less p S e = let more = spent-more p S e in omega (arith, more)

pub left-no_more : (p : ℕ) (lines : List ℕ) (S : List ShmEntry) (e : ShmEntry)
    → questions_left_from p lines (S ++ e ∷ []) ≤ questions_left_from p lines S
left-no_more p [] S e = omega arith
left-no_more p (most ∷ lines) S e =
    let head = spent-no_less p S e in
    let rest = left-no_more (suc p) lines S e in
    let a : questions_left_from p (most ∷ lines) (S ++ e ∷ [])
    ≡ (most - spent_by p (S ++ e ∷ [])) + questions_left_from (suc p) lines (S ++ e ∷ []) =
    refl in
    let b : questions_left_from p (most ∷ lines) S
    ≡ (most - spent_by p S) + questions_left_from (suc p) lines S = refl in
    omega (arith, head, rest, a, b)

pub left-falls : (p : ℕ) (lines : List ℕ) (S : List ShmEntry) (e : ShmEntry) (j : ℕ) → e.process
    ≡ p + j → is_spent e.act ≡ true → spent_by e.process S < slice_index_or lines j 0
    → questions_left_from p lines (S ++ e ∷ []) + 1 ≤ questions_left_from p lines S
left-falls p [] S e j whose spent may = absurd (omega (arith, may))
left-falls p (most ∷ lines) S e zero whose spent may =
    let same : e.process ≡ p = whose ∙ add-zero p in
    let more = spent-more p S e in
    let here : ◌≡◌ {A = ℕ} (cond ((e.process == p) && is_spent e.act) 1 0) 1 =
    ap₂ (λ s t. cond {A = ℕ} (s && t) 1 0) (eq-eqb e.process p same) spent in
    let may_here : spent_by p S < most = subst (λ q. spent_by q S < most) same may in
    let rest = left-no_more (suc p) lines S e in
    let a : questions_left_from p (most ∷ lines) (S ++ e ∷ [])
    ≡ (most - spent_by p (S ++ e ∷ [])) + questions_left_from (suc p) lines (S ++ e ∷ []) =
    refl in
    let b : questions_left_from p (most ∷ lines) S
    ≡ (most - spent_by p S) + questions_left_from (suc p) lines S = refl in
    omega (arith, more, here, may_here, rest, a, b)
left-falls p (most ∷ lines) S e (suc j) whose spent may =
    let rest = left-falls (suc p) lines S e j (let w = whose in omega (arith, w)) spent may in
    let head = spent-no_less p S e in
    let a : questions_left_from p (most ∷ lines) (S ++ e ∷ [])
    ≡ (most - spent_by p (S ++ e ∷ [])) + questions_left_from (suc p) lines (S ++ e ∷ []) =
    refl in
    let b : questions_left_from p (most ∷ lines) S
    ≡ (most - spent_by p S) + questions_left_from (suc p) lines S = refl in
    omega (arith, rest, head, a, b)

-- a process that may ask
pub one-left : (lines : List ℕ) (S : List ShmEntry) (e : ShmEntry) → is_spent e.act ≡ true
    → spent_by e.process S < line_room lines e.process
    → questions_left lines (S ++ e ∷ []) + 1 ≤ questions_left lines S
one-left lines S e spent may = by_process e.process refl
  where
    by_process : (p : ℕ) → e.process ≡ p
        → questions_left lines (S ++ e ∷ []) + 1 ≤ questions_left lines S
    by_process zero is = let none : spent_by e.process S < line_room lines zero =
        subst (λ q. spent_by e.process S < line_room lines q) is may in absurd (omega (arith, none))
    by_process (suc j) is = left-falls 1 lines S e j (is ∙ suc-add-one j) spent
        (subst (λ q. spent_by e.process S < line_room lines q) is may)
      where
        suc-add-one : (n : ℕ) → suc n ≡ 1 + n
        suc-add-one n = omega arith

inside : (lines : List ℕ) (j : ℕ) → 1 ≤ slice_index_or lines j 0 → j < length lines
inside [] j some = absurd (omega (arith, some))
inside (n ∷ lines) zero some = omega arith
inside (n ∷ lines) (suc j) some = let r = inside lines j some in omega (arith, r)

pub asker-low : (lines : List ℕ) (p n : ℕ) → n < line_room lines p → p ≤ length lines
asker-low lines zero n may = absurd (omega (arith, may))
asker-low lines (suc j) n may = let r = inside lines j (omega (arith, may)) in omega (arith, r)
