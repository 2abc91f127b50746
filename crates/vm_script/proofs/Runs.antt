-- A block's lines run one after another.
use Rattle.std.proofs.Common.{◌≡◌, ℕ, true, List, [], ◌∷◌, ◌++◌, refl, sym, ap, ◌∙◌, subst, append_assoc, append-nil, ⊎_elim, ◌⊎◌, inl, inr}
use Rattle.std.specs.List.{flat_map}
use mathlib.Core.List.{IsPrefix}
use Rattle.flat_model.specs.vm_types.declared.call.Entry.{Entry}
use Rattle.flat_model.specs.Told.{entries_of, SpellsAll}
use Rattle.flat_model.proofs.Spellings.{SpellsAll-join}
use Rattle.vm_script.specs.declared.plan.PlanAct.TheVariants as act
use Rattle.vm_script.specs.declared.plan.PlanLine.{PlanLine}
use Rattle.vm_script.specs.PlanSeen.{PlanSeen}
use Rattle.vm_script.specs.Told.{Spell, calls_of, is_born, Forks}
use Rattle.vm_script.specs.Ended.{Met, SoFar}
use Rattle.vm_script.proofs.Tellings.{prefix_trans}

pub flat_map_append : (xs ys : List PlanLine) → flat_map (λ l. calls_of l.act) (xs ++ ys) ≡ flat_map (λ l. calls_of l.act) xs ++ flat_map (λ l. calls_of l.act) ys
flat_map_append [] ys = refl
flat_map_append (x ∷ xs) ys = ap (λ h. calls_of x.act ++ h) (flat_map_append xs ys) ∙ sym (append_assoc (calls_of x.act) (flat_map (λ l. calls_of l.act) xs) (flat_map (λ l. calls_of l.act) ys))

pub Spell-append : (xs ys : List PlanLine) (es fs : List Entry) → Spell xs es → Spell ys fs → Spell (xs ++ ys) (es ++ fs)
Spell-append xs ys es fs a b = subst (λ ls. SpellsAll ls (es ++ fs)) (sym (flat_map_append xs ys)) (SpellsAll-join _ _ es fs a b)

not_none : (xs : List PlanLine) (y : PlanLine) (ys : List PlanLine) → [] ≡ xs ++ y ∷ ys → ⊥
not_none [] y ys e = cc e
not_none (x ∷ xs) y ys e = cc e

-- where a line is behind lines, a place in them all is in the lines, or is that line
last_place : (lines before after : List PlanLine) (l wait : PlanLine) → lines ++ l ∷ [] ≡ before ++ wait ∷ after
    → ((more : List PlanLine) × (lines ≡ before ++ wait ∷ more)) ⊎ ((before ≡ lines) × (wait ≡ l))
last_place [] [] after l wait e = inr (refl, cc e)
last_place [] (b ∷ before) after l wait e = absurd (not_none before wait after (cc e))
last_place (x ∷ lines) [] after l wait e = inl (lines, cc e)
last_place (x ∷ lines) (b ∷ before) after l wait e =
    let tails : lines ++ l ∷ [] ≡ before ++ wait ∷ after = cc e in
    let heads : x ≡ b = cc e in
    ⊎_elim (λ h. inl (h.0, ap (λ z. x ∷ z) h.1 ∙ ap (λ z. z ∷ (before ++ wait ∷ h.0)) heads))
    (λ h. inr (ap (λ z. b ∷ z) h.0 ∙ ap (λ z. z ∷ lines) (sym heads), h.1)) (last_place lines before after l wait tails)

-- the block made one line more, which isn't a wait
pub line_made : (plan : PlanSeen) (H : List Entry) (seen : ℕ → List Entry) (p : ℕ) (S T : List Entry) (met lines : List PlanLine) (l : PlanLine) (es : List Entry) → SoFar plan H seen p S met lines
    → IsPrefix S T → IsPrefix T (seen p) → entries_of T p ≡ entries_of S p ++ es → Spell (l ∷ []) es → (l.act ≡ act.Wait → ⊥) → SoFar plan H seen p T met (lines ++ l ∷ [])
line_made plan H seen p S T met lines l es so le begun grew spells plain = record {
  begun = begun;
  own = subst (Spell (lines ++ l ∷ [])) (sym grew) (Spell-append lines (l ∷ []) (entries_of S p) es so.own spells);
  waits = λ before after wait is w. ⊎_elim (λ h. so.waits before h.0 wait h.1 w) (λ h. absurd (plain (sym (ap (λ x. x.act) h.1) ∙ w))) (last_place lines before after l wait is);
  children = λ c forks born. prefix_trans (seen c) S T (so.children c forks born) le;
}

-- the block has waited: it has met each child that its lines forked
pub wait_made : (plan : PlanSeen) (H : List Entry) (seen : ℕ → List Entry) (p : ℕ) (S T : List Entry) (met lines : List PlanLine) (l : PlanLine) → SoFar plan H seen p S met lines
    → IsPrefix S T → IsPrefix T (seen p) → entries_of T p ≡ entries_of S p → l.act ≡ act.Wait
    → ((c : ℕ) → Forks lines c → is_born plan H c ≡ true → IsPrefix (seen c) T) → SoFar plan H seen p T lines (lines ++ l ∷ [])
wait_made plan H seen p S T met lines l so le begun same is_wait joined =
    let mine : Spell lines (entries_of T p) = subst (Spell lines) (sym same) so.own in
    record {
      begun = begun;
      own = subst (Spell (lines ++ l ∷ [])) (append-nil (entries_of T p)) (Spell-append lines (l ∷ []) (entries_of T p) [] mine (nothing l is_wait));
      waits =
          λ before after wait is w. ⊎_elim (λ h. so.waits before h.0 wait h.1 w)
          (λ h. subst (Met plan H seen p) (sym h.0) record { cut = T; begun = begun; own = mine; children = joined })
          (last_place lines before after l wait is);
      children = joined;
    }
  where
    nothing : (l : PlanLine) → l.act ≡ act.Wait → Spell (l ∷ []) []
    nothing l is = subst (λ a. SpellsAll (calls_of a ++ []) []) (sym is) refl
