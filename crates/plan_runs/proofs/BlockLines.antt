-- The lines of a plan of one block at most, which neither forks nor waits.
use Rattle.std.proofs.Common.{◌≡◌, ℕ, zero, suc, ◌+◌, ◌≤◌, true, false, List, [], ◌∷◌, ◌++◌, length, Option, Some, None, refl, sym, ap, ◌∙◌, ◌⊎◌, inl, inr, subst, arith, ⊎_elim}
use Rattle.std.specs.Prelude.{All, IsTrue, nat_le}
use Rattle.std.specs.List.{list_all}
use Rattle.std.proofs.lemmas.Bool.{and_parts}
use Rattle.std.proofs.lemmas.Bool.Decides.{nat_tests}
use Rattle.std.proofs.lemmas.List.{append-nil}
use Rattle.std.proofs.lemmas.List.Elements.{All-nil, All-weaker}
use Rattle.std.proofs.lemmas.List.Sums.{AllPass-from_list_all}
use Rattle.volume_files.specs.vm_types.declared.call.Call.TheVariants as call
use Rattle.volume_files.specs.vm_script.declared.plan.PlanAct.{PlanAct}
use Rattle.volume_files.specs.vm_script.declared.plan.PlanAct.TheVariants as act
use Rattle.volume_files.specs.vm_script.declared.plan.PlanLine.{PlanLine}
use Rattle.volume_files.specs.vm_script.Blocks.{IsProcessBlock, IsWithin, AreProcessBlocks, over, block}
use Rattle.volume_files.specs.vm_script.PlanSeen.{PlanSeen}
use Rattle.volume_files.specs.vm_script.Told.{parent_of}
use Rattle.volume_files.proofs.vm_script.Ranges.{within}
use Rattle.block_runs.specs.Lines.{IsCallLine}
use Rattle.block_runs.proofs.NextLines.{tops_up}
use Rattle.run_input.specs.Alone.{is_alone, is_plain_act}
use Rattle.run_input.specs.Reading.{IsPlayable}

-- A LINE that neither forks nor waits
plain-line : (a : PlanAct) → IsTrue (is_plain_act a) → IsCallLine a
plain-line (act.Call (call.Load a n)) is = tt
plain-line (act.Call (call.Store a n v)) is = tt
plain-line (act.Call (call.Map place len prot kind o offset)) is = tt
plain-line (act.Call (call.Unmap a len)) is = tt
plain-line (act.Call (call.Protect a len prot)) is = tt
plain-line (act.Call (call.Sync a len)) is = tt
plain-line (act.Call (call.Read file offset len)) is = tt
plain-line (act.Call (call.Write file offset line rest)) is = tt
plain-line (act.Call (call.Truncate file len)) is = tt
plain-line (act.Call (call.Fork child)) is = absurd (let z : false ≡ true = is in cc)
plain-line (act.Call call.Exit) is = tt
plain-line (act.Named name c) is = tt
plain-line (act.Write name file offset bytes) is = tt
plain-line act.Wait is = absurd (let z : false ≡ true = is in cc)

abbrev pub ArePlain : List PlanLine → Type 0
ArePlain lines = All (λ (l : PlanLine). IsTrue (is_plain_act l.act)) lines

-- THE ONE BLOCK
no-parent : (n : ℕ) (top : ℕ) → parent_of [] n ≡ Some top → ⊥
no-parent zero top is = cc
no-parent (suc i) top is = let z : ◌≡◌ {A = Option ℕ} None (Some top) = is in cc

no-second : (q n : ℕ) (top : ℕ) → 2 ≤ n → parent_of (q ∷ []) n ≡ Some top → ⊥
no-second q zero top le is = omega (arith, le)
no-second q (suc zero) top le is = omega (arith, le)
no-second q (suc (suc i)) top le is = let z : ◌≡◌ {A = Option ℕ} None (Some top) = is in cc

-- no block is there
no-blocks : (n m : ℕ) (lines : List PlanLine) → AreProcessBlocks [] n lines m → lines ≡ []
no-blocks n m lines (over _) = refl
no-blocks n m lines (block _ k _ own rest top body after) = absurd (no-parent n 0 top)

-- no block is there behind the first
no-more : (q n m : ℕ) (lines : List PlanLine) → 2 ≤ n → AreProcessBlocks (q ∷ []) n lines m → lines ≡ []
no-more q n m lines le (over _) = refl
no-more q n m lines le (block _ k _ own rest top body after) = absurd (no-second q n 0 le top)

-- The only block is a top block, and has all lines.
record IsOneRun (q : ℕ) (lines : List PlanLine) : Type 0 where
  top : q ≡ 0
  whole : IsProcessBlock (q ∷ []) 1 2 lines 2

one-run : (q n m : ℕ) (lines : List PlanLine) → n ≡ 1 → m ≡ 2 → AreProcessBlocks (q ∷ []) n lines m → IsOneRun q lines
one-run q n m lines first last (over _) = absurd (omega (arith, first, last))
one-run q n m lines first last (block _ k _ own rest top body after) =
    let low = (within (q ∷ []) n (n + 1) k own body).up in
    let high = tops_up (q ∷ []) k m rest after in
    let none : rest ≡ [] = no-more q k m rest (omega (arith, low, first)) after in
    let same : own ≡ own ++ rest = sym (ap (λ (ys : List PlanLine). own ++ ys) none ∙ append-nil own) in
    let two : k ≡ 2 = omega (arith, low, high, first, last) in
    let next : n + 1 ≡ 2 = omega (arith, first) in
    record {
      top = let z : ◌≡◌ {A = Option ℕ} (Some q) (Some 0) = sym (ap (parent_of (q ∷ [])) first) ∙ top in cc;
      whole = subst (λ (ls : List PlanLine). IsProcessBlock (q ∷ []) 1 2 ls 2) same
          (subst (λ (i : ℕ). IsProcessBlock (q ∷ []) 1 2 own i) two
          (subst (λ (i : ℕ). IsProcessBlock (q ∷ []) 1 i own k) next
          (subst (λ (p : ℕ). IsProcessBlock (q ∷ []) p (n + 1) own k) first body)));
    }

-- A PLAN THAT MAY BE PLAYED: no block and no lines, or one top block.
pub record PlaysOne (plan : PlanSeen) : Type 0 where
  pub plain : ArePlain plan.lines
  pub calls : All (λ (l : PlanLine). IsCallLine l.act) plan.lines
  pub own : All (λ (l : PlanLine). l.process ≡ 1) plan.lines
  pub blocks : ((plan.parents ≡ []) × (plan.lines ≡ [])) ⊎ ((plan.parents ≡ 0 ∷ []) × IsProcessBlock plan.parents 1 2 plan.lines 2)

pub plays-one : (plan : PlanSeen) → IsPlayable plan → is_alone plan ≡ true → PlaysOne plan
plays-one plan may alone = by_parents plan.parents refl
  where
    parts-of : (nat_le (length plan.parents) 1 ≡ true) × (list_all (λ (l : PlanLine). is_plain_act l.act) plan.lines ≡ true)
    parts-of = and_parts (nat_le (length plan.parents) 1) (list_all (λ (l : PlanLine). is_plain_act l.act) plan.lines) alone

    plain : ArePlain plan.lines
    plain = AllPass-from_list_all (λ (l : PlanLine). is_plain_act l.act) plan.lines parts-of.1

    calls : All (λ (l : PlanLine). IsCallLine l.act) plan.lines
    calls = All-weaker (λ (l : PlanLine). IsTrue (is_plain_act l.act)) (λ (l : PlanLine). IsCallLine l.act) (λ l is. plain-line l.act is) plan.lines plain

    by_parents : (parents : List ℕ) → plan.parents ≡ parents → PlaysOne plan
    by_parents [] is =
        let none = no-blocks 1 1 plan.lines (subst (λ (ps : List ℕ). AreProcessBlocks ps 1 plan.lines (length ps + 1)) is may.sound.nests) in
        record {
          plain = plain;
          calls = calls;
          own = subst (All (λ (l : PlanLine). l.process ≡ 1)) (sym none) (All-nil (λ (l : PlanLine). l.process ≡ 1));
          blocks = inl (is, none);
        }
    by_parents (q ∷ []) is =
        let run = one-run q 1 2 plan.lines refl refl (subst (λ (ps : List ℕ). AreProcessBlocks ps 1 plan.lines (length ps + 1)) is may.sound.nests) in
        record {
          plain = plain;
          calls = calls;
          own = All-weaker (IsWithin 1 2 2) (λ (l : PlanLine). l.process ≡ 1) (λ l h. ⊎_elim (λ own. own) (λ r. let a = r.0 in let b = r.1 in absurd (omega (arith, a, b))) h) plan.lines
              (within (q ∷ []) 1 2 2 plan.lines run.whole).all;
          blocks = inr (is ∙ ap (λ (p : ℕ). p ∷ []) run.top, subst (λ (ps : List ℕ). IsProcessBlock ps 1 2 plan.lines 2) (sym is) run.whole);
        }
    by_parents (q ∷ r ∷ ps) is =
        let low : length plan.parents ≤ 1 = grind (arith, nat_tests, parts-of.0) in
        let long : length plan.parents ≡ suc (suc (length ps)) = ap (λ (xs : List ℕ). length xs) is in
        absurd (omega (arith, low, long))
