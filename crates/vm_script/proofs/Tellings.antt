-- Blocks that have ended are told by the whole history.
use Rattle.std.proofs.Common.{◌≡◌, ℕ, suc, true, false, ◌==◌, List, [], ◌∷◌, ◌++◌, Some, refl, sym, ap, ◌∙◌, subst, append_assoc, cond, ◌||◌, ⊎_elim, eq-eqb, append-nil}
use Rattle.std.specs.List.{list_any}
use Rattle.std.proofs.lemmas.Bool.{false≢true, cases_Bool}
use mathlib.Core.List.{IsPrefix}
use Rattle.flat_model.specs.vm_types.declared.call.Entry.{Entry}
use Rattle.flat_model.specs.Told.{entries_of}
use Rattle.std.proofs.lemmas.Option.{same_Some}
use Rattle.flat_model.proofs.Replays.{entries_of-append}
use Rattle.vm_script.specs.declared.plan.PlanLine.{PlanLine}
use Rattle.vm_script.specs.PlanSeen.{PlanSeen}
use Rattle.vm_script.specs.Told.{Spell, own_lines, parent_of, is_born, is_born_of, is_birth, Under, itself, child, HasWaited, Tells, ToldFront}
use Rattle.vm_script.specs.Ended.{KeepsTree, Met, AllEnded}

pub prefix_trans : {A : Type 0} (xs ys zs : List A) → IsPrefix xs ys → IsPrefix ys zs → IsPrefix xs zs
prefix_trans xs ys zs p q = (p.0 ++ q.0, sym (append_assoc xs p.0 q.0) ∙ (ap (λ w. w ++ q.0) p.1 ∙ q.1))

none_behind : {A : Type 0} (xs ys : List A) → xs ≡ xs ++ ys → ys ≡ []
none_behind [] ys e = sym e
none_behind (x ∷ xs) ys e = none_behind xs ys (tail_of e)
  where
    tail_of : x ∷ xs ≡ x ∷ (xs ++ ys) → xs ≡ xs ++ ys
    tail_of e = cc e

second_none : {A : Type 0} (xs ys : List A) → xs ++ ys ≡ [] → ys ≡ []
second_none [] ys e = e
second_none (x ∷ xs) ys e = absurd (cc e)

-- what had all of q's entries before the cut leaves none behind it
pub none_after : (T S rest H : List Entry) (q : ℕ) → IsPrefix T S → S ++ rest ≡ H → entries_of T q ≡ entries_of H q → entries_of rest q ≡ []
none_after T S rest H q le is all =
    let a = le.0 in
    let whole : entries_of H q ≡ entries_of T q ++ (entries_of a q ++ entries_of rest q) =
    ap (λ h. entries_of h q) (sym is ∙ (ap (λ s. s ++ rest) (sym le.1) ∙ append_assoc T a rest))
    ∙ (entries_of-append T (a ++ rest) q ∙ ap (λ es. entries_of T q ++ es) (entries_of-append a rest q)) in
    second_none (entries_of a q) (entries_of rest q) (none_behind (entries_of T q) (entries_of a q ++ entries_of rest q) (all ∙ whole))

none_within : (S rest H : List Entry) (q : ℕ) → S ++ rest ≡ H → entries_of H q ≡ [] → entries_of rest q ≡ []
none_within S rest H q is none = second_none (entries_of S q) (entries_of rest q) (sym (entries_of-append S rest q) ∙ (ap (λ h. entries_of h q) is ∙ none))

cons_none : {A : Type 0} (x : A) (xs : List A) → x ∷ xs ≡ [] → ⊥
cons_none x xs e = cc e

-- the first entry is not r's, where r has none
pub behind_first : (e : Entry) (H : List Entry) (r : ℕ) → entries_of (e ∷ H) r ≡ [] → ((e.process == r) ≡ false) × (entries_of H r ≡ [])
behind_first e H r none = elim (e.process == r) as (λ b. (e.process == r) ≡ b → cond b (e ∷ entries_of H r) (entries_of H r) ≡ [] → ((e.process == r) ≡ false) × (entries_of H r ≡ [])) [
  | true ↦ λ is h. absurd (cons_none e (entries_of H r) h)
  | false ↦ λ is h. (is, h)
] refl none

-- who made a block has an entry
maker : (plan : PlanSeen) (H : List Entry) (q r : ℕ) → KeepsTree plan H → parent_of plan.parents q ≡ Some r → list_any (is_birth q) H ≡ true → entries_of H r ≡ [] → ⊥
maker plan [] q r tree is any none = false≢true any
maker plan (e ∷ H) q r tree is any none =
    let first = behind_first e H r none in
    ⊎_elim
    (λ yes. let same = same_Some e.process r (sym (tree.0 q yes) ∙ is) in false≢true (sym first.0 ∙ eq-eqb e.process r same))
    (λ not. maker plan H q r tree.1 is (sym (ap (λ b. b || list_any (is_birth q) H) not) ∙ any) first.1)
    (cases_Bool (is_birth q e))

-- a block's parent was born before it
pub parent_born : (plan : PlanSeen) (H : List Entry) (seen : ℕ → List Entry) (lines_of : ℕ → List PlanLine) (q r : ℕ)
    → AllEnded plan H seen lines_of → parent_of plan.parents q ≡ Some (suc r) → is_born plan H q ≡ true → is_born plan H (suc r) ≡ true
parent_born plan H seen lines_of q r all is born =
    ⊎_elim (λ yes. yes)
    (λ not. absurd (maker plan H q (suc r) all.tree is (sym (ap (λ o. is_born_of o q H) is) ∙ born) (all.silent (suc r) not)))
    (cases_Bool (is_born plan H (suc r)))

-- what a descendant's caller has seen, the block's caller has seen
pub under_seen : (plan : PlanSeen) (H : List Entry) (seen : ℕ → List Entry) (lines_of : ℕ → List PlanLine) (c q : ℕ)
    → AllEnded plan H seen lines_of → Under plan.parents c q → is_born plan H q ≡ true
    → (is_born plan H c ≡ true) × IsPrefix (seen q) (seen c)
under_seen plan H seen lines_of c q all itself born = (born, ([], append-nil (seen c)))
under_seen plan H seen lines_of c q all (child _ r is under) born =
    let up = parent_born plan H seen lines_of q r all is born in
    let more = under_seen plan H seen lines_of c (suc r) all under up in
    (more.0, prefix_trans (seen q) (seen (suc r)) (seen c) ((all.ended (suc r) up).joined q is born) more.1)

-- a wait by which the children were met is a wait of the whole history
pub met_waits : (plan : PlanSeen) (H : List Entry) (seen : ℕ → List Entry) (lines_of : ℕ → List PlanLine) (p : ℕ) (lines : List PlanLine)
    → AllEnded plan H seen lines_of → IsPrefix (seen p) H → Met plan H seen p lines → HasWaited plan H p lines
met_waits plan H seen lines_of p lines all begun met =
    let whole = prefix_trans met.cut (seen p) H met.begun begun in
    record {
      cut = met.cut;
      rest = whole.0;
      is = whole.1;
      own = met.own;
      ended = λ c q forks under. ⊎_elim
          (λ born.
          let up = under_seen plan H seen lines_of c q all under born in
          none_after (seen q) met.cut whole.0 H q (prefix_trans (seen q) (seen c) met.cut up.1 (met.children c forks up.0)) whole.1 (all.known q born).own)
          (λ not. none_within met.cut whole.0 H q whole.1 (all.silent q not))
          (cases_Bool (is_born plan H q));
    }

pub tells : (plan : PlanSeen) (H : List Entry) (seen : ℕ → List Entry) (lines_of : ℕ → List PlanLine) → AllEnded plan H seen lines_of → Tells plan H lines_of
tells plan H seen lines_of all = record {
  own = λ p born. subst (Spell (lines_of p)) (all.known p born).own (all.ended p born).own;
  others = all.silent;
  waits = λ p born before after wait is w. met_waits plan H seen lines_of p before all (all.known p born).begun ((all.ended p born).waits before after wait is w);
}

pub front : (plan : PlanSeen) (H : List Entry) (seen : ℕ → List Entry) (lines_of : ℕ → List PlanLine) → AllEnded plan H seen lines_of
    → ((p : ℕ) → is_born plan H p ≡ true → IsPrefix (lines_of p) (own_lines plan p)) → ToldFront plan H
front plan H seen lines_of all fronts = record { lines_of = lines_of; front = fronts; tells = tells plan H seen lines_of all }
