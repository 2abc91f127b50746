-- What the history of a front of the lines tells of the plan.
use Rattle.std.proofs.Common.{◌≡◌, ℕ, zero, suc, ◌<◌, ◌==◌, Bool, true, false, cond, List, [], ◌∷◌, ◌++◌, length, refl, sym, ap, ◌∙◌, inl, inr, subst, arith, eq-eqb, length-append}
use Rattle.std.specs.Prelude.{All, IsTrue, filter}
use Rattle.std.proofs.lemmas.List.{get_or_at}
use Rattle.std.proofs.lemmas.List.Elements.{All-head, All-tail, filter-append}
use mathlib.Core.List.{IsPrefix}
use Rattle.volume_files.specs.vm_types.declared.call.Entry.{Entry}
use Rattle.volume_files.specs.flat_model.Told.{entries_of}
use Rattle.volume_files.specs.vm_script.declared.plan.PlanLine.{PlanLine}
use Rattle.volume_files.specs.vm_script.PlanSeen.{PlanSeen}
use Rattle.volume_files.specs.vm_script.Told.{Told, ToldFront, Spell, IsOneBlock, own_lines, is_born, is_born_of, parent_of}
use Rattle.volume_files.proofs.vm_script.OneBlock.{told}
use Rattle.run_input.specs.Alone.{is_plain_act}
use Rattle.plan_runs.specs.Lines.{AreOfOne}
use Rattle.plan_runs.proofs.BlockLines.{ArePlain, PlaysOne}
use Rattle.plan_runs.proofs.Histories.{all-front}

-- all pass
pub all-pass : {X : Type 0} (f : X → Bool) (xs : List X) → All (λ (x : X). f x ≡ true) xs → filter f xs ≡ xs
all-pass f [] all = refl
all-pass {X} f (x ∷ xs) all =
    ap (λ (b : Bool). cond b (x ∷ filter f xs) (filter f xs)) (All-head (λ (y : X). f y ≡ true) x xs all)
    ∙ ap (λ (ys : List X). x ∷ ys) (all-pass f xs (All-tail (λ (y : X). f y ≡ true) x xs all))

-- all entries are the one process's
pub of-one : (H : List Entry) → AreOfOne H → entries_of H 1 ≡ H
of-one H alone = all-pass (λ (e : Entry). e.process == 1) H (λ i d lt. eq-eqb _ 1 (alone i d lt))

-- the plan with these lines alone
abbrev cut_plan : PlanSeen → List PlanLine → PlanSeen
cut_plan plan lines = record plan { lines = lines }

one-block : (plan : PlanSeen) → plan.parents ≡ 0 ∷ [] → ArePlain plan.lines → All (λ (l : PlanLine). l.process ≡ 1) plan.lines → IsOneBlock plan
one-block plan one plain own = record {
  one = one;
  no_wait = λ before after wait is waits.
      let all : ArePlain (before ++ wait ∷ after) = subst ArePlain (sym (own-all plan own) ∙ is) plain in
      let inside : length before < length (before ++ wait ∷ after) = let e = length-append before (wait ∷ after) in omega (arith, e) in
      let here : is_plain_act wait.act ≡ true = subst (λ (l : PlanLine). is_plain_act l.act ≡ true) (get_or_at before wait after wait (length before) refl) (all (length before) wait inside) in
      let z : false ≡ true = sym (ap is_plain_act waits) ∙ here in cc;
}
  where
    own-all : (p : PlanSeen) → All (λ (l : PlanLine). l.process ≡ 1) p.lines → own_lines p 1 ≡ p.lines
    own-all p all = all-pass (λ (l : PlanLine). l.process == 1) p.lines (λ i d lt. eq-eqb _ 1 (all i d lt))

-- A FRONT of the lines that was made, as the plan of that front tells it
told-cut : (plan : PlanSeen) (H : List Entry) → plan.parents ≡ 0 ∷ [] → ArePlain plan.lines → All (λ (l : PlanLine). l.process ≡ 1) plan.lines
    → Spell plan.lines H → AreOfOne H → Told plan H
told-cut plan H one plain own made mine =
    let lines_are = all-pass (λ (l : PlanLine). l.process == 1) plan.lines (λ i d lt. eq-eqb _ 1 (own i d lt)) in
    told plan H (one-block plan one plain own) (record {
      own = subst (λ (ls : List PlanLine). Spell ls (entries_of H 1)) (sym lines_are) (subst (Spell plan.lines) (sym (of-one H mine)) made);
      alone = mine;
    })

-- of a plan without blocks
told-nothing : (plan : PlanSeen) (H : List Entry) → plan.parents ≡ [] → H ≡ [] → Told plan H
told-nothing plan H none empty = record {
  own = λ p born. absurd (let z : false ≡ true = sym (unborn p) ∙ born in cc);
  others = λ p not. ap (λ (K : List Entry). entries_of K p) empty;
  waits = λ p born before after wait is waits. absurd (let z : false ≡ true = sym (unborn p) ∙ born in cc);
}
  where
    unborn : (p : ℕ) → is_born plan H p ≡ false
    unborn p = ap (λ (ps : List ℕ). is_born_of (parent_of ps p) p H) none ∙ by_number p
      where
        by_number : (q : ℕ) → is_born_of (parent_of [] q) q H ≡ false
        by_number zero = refl
        by_number (suc q) = refl

-- a front of a plan tells it as far as it goes
front-of : (plan : PlanSeen) (made rest : List PlanLine) (H : List Entry) → made ++ rest ≡ plan.lines → Told (cut_plan plan made) H → ToldFront plan H
front-of plan made rest H cut t = record {
  lines_of = own_lines (cut_plan plan made);
  front = λ p born. (
    filter (λ (l : PlanLine). l.process == p) rest,
    sym (filter-append (λ (l : PlanLine). l.process == p) made rest) ∙ ap (filter (λ (l : PlanLine). l.process == p)) cut,
  );
  tells = record {
    own = t.own;
    others = t.others;
    waits = λ p born before after wait is waits. let w = t.waits p born before after wait is waits in record { cut = w.cut; rest = w.rest; is = w.is; own = w.own; ended = w.ended };
  };
}

lines-own : (plan : PlanSeen) → PlaysOne plan → own_lines plan 1 ≡ plan.lines
lines-own plan plays = all-pass (λ (l : PlanLine). l.process == 1) plan.lines (λ i d lt. eq-eqb _ 1 (plays.own i d lt))

no-front : (made rest : List PlanLine) → made ++ rest ≡ [] → made ≡ []
no-front [] rest is = refl
no-front (l ∷ made) rest is = absurd (cc is)

-- THE FRONT IS TOLD.
pub front-told : (plan : PlanSeen) (made : List PlanLine) (H : List Entry) → PlaysOne plan → IsPrefix made (own_lines plan 1) → Spell made (entries_of H 1) → AreOfOne H → ToldFront plan H
front-told plan made H plays front spells mine =
    let rest = front.0 in
    let cut : made ++ rest ≡ plan.lines = front.1 ∙ lines-own plan plays in
    let spelled : Spell made H = subst (Spell made) (of-one H mine) spells in
    elim plays.blocks [
      | inl none ↦
          let empty : H ≡ [] = subst (λ (ls : List PlanLine). Spell ls H) (no-front made rest (cut ∙ none.1)) spelled in
          front-of plan made rest H cut (told-nothing (cut_plan plan made) H none.0 empty)
      | inr one ↦
          front-of plan made rest H cut (told-cut (cut_plan plan made) H one.0
          (all-front (λ (l : PlanLine). IsTrue (is_plain_act l.act)) made rest (subst ArePlain (sym cut) plays.plain))
          (all-front (λ (l : PlanLine). l.process ≡ 1) made rest (subst (All (λ (l : PlanLine). l.process ≡ 1)) (sym cut) plays.own)) spelled mine)
    ]

-- AND SO IS THE WHOLE.
pub whole-told : (plan : PlanSeen) (H : List Entry) → PlaysOne plan → Spell (own_lines plan 1) (entries_of H 1) → AreOfOne H → Told plan H
whole-told plan H plays spells mine =
    let spelled : Spell plan.lines H = subst (Spell plan.lines) (of-one H mine) (subst (λ (ls : List PlanLine). Spell ls (entries_of H 1)) (lines-own plan plays) spells) in
    elim plays.blocks [
      | inl none ↦ told-nothing plan H none.0 (subst (λ (ls : List PlanLine). Spell ls H) none.1 spelled)
      | inr one ↦ told-cut plan H one.0 plays.plain plays.own spelled mine
    ]
