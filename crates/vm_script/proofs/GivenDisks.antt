-- Which disks are given, by their numbers.
use Rattle.std.proofs.Common.{◌≡◌, ℕ, zero, suc, ◌<◌, Bool, true, false, not, ◌||◌, List, [], ◌∷◌, refl, sym, ap, ap₂, ◌∙◌, arith, rules, tests, ⊎_elim}
use Rattle.std.specs.Prelude.{slice_index_or, nat_lt}
use Rattle.std.specs.List.{list_any}
use Rattle.std.proofs.lemmas.Bool.{false≢true, cases_Bool}
use Rattle.std.proofs.lemmas.Bool.Decides.{nat_tests}
use Rattle.vm_script.specs.declared.plan.SetupAct.{SetupAct}
use Rattle.vm_script.specs.declared.plan.SetupAct.TheVariants as given
use Rattle.vm_script.specs.declared.plan.SetupLine.{SetupLine}
use Rattle.vm_script.specs.Rules.{gives_disk, is_right_disk, gives_again, has_wrong_disk, lacks_disk}
use Rattle.vm_script.specs.GivenDisks.{lacks_given_disk}

pub eight : (P : ℕ → Bool) (b0 b1 b2 b3 b4 b5 b6 b7 : Bool) → b0 ≡ P 0 → b1 ≡ P 1 → b2 ≡ P 2 → b3 ≡ P 3 → b4 ≡ P 4 → b5 ≡ P 5 → b6 ≡ P 6 → b7 ≡ P 7
    → (d : ℕ) → d < 8 → slice_index_or (b0 ∷ b1 ∷ b2 ∷ b3 ∷ b4 ∷ b5 ∷ b6 ∷ b7 ∷ []) d false ≡ P d
eight P b0 b1 b2 b3 b4 b5 b6 b7 e0 e1 e2 e3 e4 e5 e6 e7 zero lt = e0
eight P b0 b1 b2 b3 b4 b5 b6 b7 e0 e1 e2 e3 e4 e5 e6 e7 (suc zero) lt = e1
eight P b0 b1 b2 b3 b4 b5 b6 b7 e0 e1 e2 e3 e4 e5 e6 e7 (suc (suc zero)) lt = e2
eight P b0 b1 b2 b3 b4 b5 b6 b7 e0 e1 e2 e3 e4 e5 e6 e7 (suc (suc (suc zero))) lt = e3
eight P b0 b1 b2 b3 b4 b5 b6 b7 e0 e1 e2 e3 e4 e5 e6 e7 (suc (suc (suc (suc zero)))) lt = e4
eight P b0 b1 b2 b3 b4 b5 b6 b7 e0 e1 e2 e3 e4 e5 e6 e7 (suc (suc (suc (suc (suc zero))))) lt = e5
eight P b0 b1 b2 b3 b4 b5 b6 b7 e0 e1 e2 e3 e4 e5 e6 e7 (suc (suc (suc (suc (suc (suc zero)))))) lt = e6
eight P b0 b1 b2 b3 b4 b5 b6 b7 e0 e1 e2 e3 e4 e5 e6 e7 (suc (suc (suc (suc (suc (suc (suc zero))))))) lt = e7
eight P b0 b1 b2 b3 b4 b5 b6 b7 e0 e1 e2 e3 e4 e5 e6 e7 (suc (suc (suc (suc (suc (suc (suc (suc d)))))))) lt = absurd (omega (arith, lt))

or_left : (a b c : Bool) → (a || b || c) ≡ false → a ≡ false
or_left true b c e = absurd (false≢true (sym e))
or_left false b c e = refl

or_right : (a b c : Bool) → (a || b || c) ≡ false → c ≡ false
or_right true b c e = absurd (false≢true (sym e))
or_right false true c e = absurd (false≢true (sym e))
or_right false false c e = e

pub not_false : (a : Bool) → not a ≡ false → a ≡ true
not_false true e = refl
not_false false e = absurd (false≢true (sym e))

-- a right disk line doesn't give a number above 7
right_low : (a : SetupAct) (d : ℕ) → is_right_disk a ≡ true → nat_lt 7 d ≡ true → gives_disk d a ≡ false
right_low (given.Frames n) d right high = refl
right_low (given.Swap n) d right high = refl
right_low (given.Translations n) d right high = refl
right_low (given.Blank disk blocks) d right high = grind (rules, tests, arith, nat_tests, right, high)
right_low (given.Path disk path) d right high = grind (rules, tests, arith, nat_tests, right, high)
right_low (given.Join disk other mirror) d right high = refl
right_low (given.File name writable disk pages bytes) d right high = refl

-- where the disks are right, none has a number above 7
none_high : (setup : List SetupLine) (d : ℕ) → has_wrong_disk setup ≡ false → nat_lt 7 d ≡ true → list_any (λ l. gives_disk d l.act) setup ≡ false
none_high [] d right high = refl
none_high (l ∷ setup) d right high =
    let own = right_low l.act d (not_false (is_right_disk l.act) (or_left (not (is_right_disk l.act)) (gives_again l.act setup) (has_wrong_disk setup) right)) high in
    ap (λ b. b || list_any (λ l. gives_disk d l.act) setup) own ∙ none_high setup d (or_right (not (is_right_disk l.act)) (gives_again l.act setup) (has_wrong_disk setup) right) high

low : (d : ℕ) → nat_lt 7 d ≡ false → d < 8
low d non = grind (rules, tests, arith, nat_tests, non)

lacks_same : (setup : List SetupLine) (disks : List Bool) → ((d : ℕ) → d < 8 → slice_index_or disks d false ≡ list_any (λ l. gives_disk d l.act) setup) → has_wrong_disk setup ≡ false
    → (a : SetupAct) → lacks_given_disk disks a ≡ lacks_disk setup a
lacks_same setup disks is right (given.Frames n) = refl
lacks_same setup disks is right (given.Swap n) = refl
lacks_same setup disks is right (given.Translations n) = refl
lacks_same setup disks is right (given.Blank disk blocks) = refl
lacks_same setup disks is right (given.Path disk path) = refl
lacks_same setup disks is right (given.Join disk other mirror) = refl
lacks_same setup disks is right (given.File name writable disk pages bytes) =
    ⊎_elim
    (λ yes. ap (λ b. b || not (slice_index_or disks disk false)) yes ∙ ap not (sym (none_high setup disk right yes)))
    (λ non. ap (λ b. b || not (slice_index_or disks disk false)) non ∙ ap not (is disk (low disk non)))
    (cases_Bool (nat_lt 7 disk))

any_same : (p q : SetupLine → Bool) → ((l : SetupLine) → p l ≡ q l) → (xs : List SetupLine) → list_any p xs ≡ list_any q xs
any_same p q same [] = refl
any_same p q same (x ∷ xs) = ap₂ (λ a b. a || b) (same x) (any_same p q same xs)

pub lack_same : (setup : List SetupLine) (disks : List Bool) → ((d : ℕ) → d < 8 → slice_index_or disks d false ≡ list_any (λ l. gives_disk d l.act) setup) → has_wrong_disk setup ≡ false
    → list_any (λ l. lacks_given_disk disks l.act) setup ≡ list_any (λ l. lacks_disk setup l.act) setup
lack_same setup disks is right = any_same (λ l. lacks_given_disk disks l.act) (λ l. lacks_disk setup l.act) (λ l. lacks_same setup disks is right l.act) setup
