-- A plan of one block.
use Rattle.std.proofs.Common.{◌≡◌, ℕ, zero, suc, true, false, ◌==◌, List, [], ◌∷◌, refl, sym, ap, ◌∙◌, subst, cond, ⊎_elim, eq-eqb}
use Rattle.std.specs.Prelude.{All}
use Rattle.std.proofs.lemmas.Bool.{false≢true, cases_Bool, cases_eq, eqb-true}
use Rattle.std.proofs.lemmas.List.Elements.{All-nil, All-cons, All-head, All-tail}
use Rattle.flat_model.specs.vm_types.declared.call.Entry.{Entry}
use Rattle.flat_model.specs.Told.{entries_of, ToldAlone}
use Rattle.vm_script.specs.PlanSeen.{PlanSeen}
use Rattle.vm_script.specs.Told.{Told, parent_of, is_born, is_born_of, own_calls, own_lines, Spell, IsOneBlock}
use Rattle.vm_script.proofs.Tellings.{behind_first}

born_one : (plan : PlanSeen) (H : List Entry) → plan.parents ≡ 0 ∷ [] → is_born plan H 1 ≡ true
born_one plan H one = ap (λ ps. is_born_of (parent_of ps 1) 1 H) one

unborn_else : (plan : PlanSeen) (H : List Entry) (p : ℕ) → plan.parents ≡ 0 ∷ [] → (p ≡ 1 → ⊥) → is_born plan H p ≡ false
unborn_else plan H zero one else = refl
unborn_else plan H (suc zero) one else = absurd (else refl)
unborn_else plan H (suc (suc p)) one else = ap (λ ps. is_born_of (parent_of ps (suc (suc p))) (suc (suc p)) H) one

-- where no other process has an entry, all are p's
all_of : (p : ℕ) (H : List Entry) → ((q : ℕ) → (q ≡ p → ⊥) → entries_of H q ≡ []) → All (λ e. e.process ≡ p) H
all_of p [] none = All-nil (λ e. e.process ≡ p)
all_of p (e ∷ H) none = All-cons (λ x. x.process ≡ p) e H
    (⊎_elim (λ yes. eqb-true e.process p yes)
    (λ not. absurd
    (false≢true
    (sym (behind_first e H e.process (none e.process (λ is. false≢true (sym not ∙ eq-eqb e.process p is)))).0
    ∙ eq-eqb e.process e.process refl)))
    (cases_Bool (e.process == p)))
    (all_of p H (λ q else. (behind_first e H q (none q else)).1))

none_of : (p q : ℕ) (H : List Entry) → (q ≡ p → ⊥) → All (λ e. e.process ≡ p) H → entries_of H q ≡ []
none_of p q [] else all = refl
none_of p q (e ∷ H) else all =
    let is = All-head (λ x. x.process ≡ p) e H all in
    let rest = none_of p q H else (All-tail (λ x. x.process ≡ p) e H all) in
    ⊎_elim (λ yes. absurd (else (sym (eqb-true e.process q yes) ∙ is)))
    (λ not. ap (λ b. cond b (e ∷ entries_of H q) (entries_of H q)) not ∙ rest)
    (cases_Bool (e.process == q))

pub alone : (plan : PlanSeen) (H : List Entry) → IsOneBlock plan → Told plan H → ToldAlone 1 (own_calls plan 1) H
alone plan H one t = record { own = t.own 1 (born_one plan H one.one); alone = all_of 1 H (λ q else. t.others q (unborn_else plan H q one.one else)) }

pub told : (plan : PlanSeen) (H : List Entry) → IsOneBlock plan → ToldAlone 1 (own_calls plan 1) H → Told plan H
told plan H one t =
    let is_one : (p : ℕ) → is_born plan H p ≡ true → p ≡ 1 = λ p born. ⊎_elim (λ e. e) (λ else. absurd (false≢true (sym (unborn_else plan H p one.one else) ∙ born))) (cases_eq p 1) in
    record {
      own = λ p born. subst (λ q. Spell (own_lines plan q) (entries_of H q)) (sym (is_one p born)) t.own;
      others = λ p not. none_of 1 p H (λ e. false≢true (sym not ∙ (ap (is_born plan H) e ∙ born_one plan H one.one))) t.alone;
      waits = λ p born before after wait is w. absurd (one.no_wait before after wait (ap (own_lines plan) (sym (is_one p born)) ∙ is) w);
    }
