use Rattle.std.proofs.Common.{◌≡◌, ◌∙◌, ℕ, zero, suc, ap, refl, sym, true, false, List, [], ◌∷◌, Some, inl, inr}
use Rattle.std.specs.Prelude.{◌==◌, Bool, slice_get}
use Rattle.std.proofs.lemmas.Bool.{eq-eqb, false≢true}
use Rattle.std.proofs.lemmas.Option.{same_Some}
use Rattle.flat_model.specs.vm_types.declared.call.Entry.{Entry}
use Rattle.flat_model.specs.Told.{entries_of}
use Rattle.vm_script.specs.declared.plan.PlanLine.{PlanLine}
use Rattle.vm_script.specs.PlanSeen.{PlanSeen}
use Rattle.vm_script.specs.Told.{Tells, is_born}
use Rattle.vm_script.proofs.Places.{some_none}
use Rattle.vm_script.proofs.Tellings.{behind_first}
use Rattle.vm_script.proofs.told_laws.told_entries_law.Goals as goal

-- an entry is one of its process's
own-entry : (K : List Entry) (i : ℕ) (e : Entry) → slice_get K i ≡ Some e → entries_of K e.process ≡ [] → ⊥
own-entry [] i e at none = some_none e at
own-entry (x ∷ K) (suc i) e at none = own-entry K i e at (behind_first x K e.process none).1
own-entry (x ∷ K) zero e at none =
    let other = (behind_first x K e.process none).0 in
    let same : (e.process == e.process) ≡ false = ap (λ (y : Entry). y.process == e.process) (sym (same_Some x e at)) ∙ other in
    false≢true (sym same ∙ eq-eqb e.process e.process refl)

born : (plan : PlanSeen) (H : List Entry) (lines_of : ℕ → List PlanLine) (i : ℕ) (e : Entry) → Tells plan H lines_of → slice_get H i ≡ Some e → is_born plan H e.process ≡ true
born plan H lines_of i e told at = by (is_born plan H e.process) refl
  where
    by : (b : Bool) → is_born plan H e.process ≡ b → is_born plan H e.process ≡ true
    by true is = is
    by false is = absurd (own-entry H i e at (told.others e.process is))

pub returns : goal.returns
returns c = record { born = born }
