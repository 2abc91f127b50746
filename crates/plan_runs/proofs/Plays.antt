-- What the processes left whose lines were made.
use Rattle.std.proofs.Common.{◌≡◌, ◌⊎◌, ℕ, suc, Bool, true, false, List, [], ◌∷◌, length, Option, None, refl, sym, ap, ◌∙◌, inl, inr, subst, arith, length-append}
use Rattle.std.specs.Prelude.{All, IsTrue}
use Rattle.std.proofs.lemmas.List.Elements.{All-nil}
use mathlib.Core.List.{IsPrefix}
use Rattle.volume_files.specs.block_device.DiskSeen.{DiskSeen}
use Rattle.volume_files.specs.vm_types.declared.call.Entry.{Entry}
use Rattle.volume_files.specs.vm_types.WellFormed.{IsWellFormed}
use Rattle.volume_files.specs.vnode_files.Files.{FilesSeen}
use Rattle.volume_files.specs.flat_model.Flat.{Flat}
use Rattle.volume_files.specs.flat_model.Told.{entries_of}
use Rattle.volume_files.specs.vm_script.Blocks.{IsProcessBlock}
use Rattle.volume_files.specs.vm_script.declared.plan.PlanLine.{PlanLine}
use Rattle.volume_files.specs.vm_script.PlanSeen.{PlanSeen}
use Rattle.volume_files.specs.vm_script.Told.{Spell, ToldFront, own_lines, parent_of}
use Rattle.vm_core.specs.vm_world.Events.{IsEvent, IsSince}
use Rattle.vm_core.proofs.vm_world.Told.{event_law}
use Rattle.vm_core.proofs.vm_world.StateSteps.{same-seats}
use Rattle.vm_core.specs.vm_world.Opening.{no_seats}
use Rattle.vm_core.specs.vm_world.State.{KernelState}
use Rattle.block_runs.specs.Conditions.{AreFit}
use Rattle.block_runs.specs.Rows.{IsOnWay}
use Rattle.block_runs.proofs.Goings.{top_begins}
use Rattle.run_input.specs.Alone.{is_alone}
use Rattle.plan_runs.specs.Lines.{AreOfOne, alone_caller, alone_kernel}
use Rattle.run_kernel.specs.Played.{HasPlayed, IsStarted}
use Rattle.run_input.specs.Reading.{IsPlayable}
use Rattle.plan_runs.proofs.Alone.{alone-is}
use Rattle.plan_runs.proofs.BlockLines.{plays-one}
use Rattle.plan_runs.proofs.FitLines.{fit-all}
use Rattle.plan_runs.proofs.KernelRows.{played-since}
use Rattle.plan_runs.proofs.ToldLines.{front-told, whole-told}

-- THE ONE BLOCK may be run
pub alone-ready : (plan : PlanSeen) (F : Flat) (disks : List (ℕ × DiskSeen)) (swap : Option DiskSeen) (files : FilesSeen) (s : KernelState) → IsPlayable plan → is_alone plan ≡ true
    → IsStarted plan F disks swap files s → (plan.lines ≡ []) ⊎ IsOnWay (alone_kernel s) plan.lines (alone_caller s []) [] 2
alone-ready plan F disks swap files s may alone st = elim (plays-one plan may alone).blocks [
  | inl none ↦ inl none.1
  | inr one ↦
      let fit : AreFit (alone_kernel s) plan.lines = record { room = st.rooms.each; acts = fit-all plan.lines may.sound.acts } in
      inr (record {
        caller = alone-is s [];
        numbered = tt;
        fresh = tt;
        block = subst (λ (ps : List ℕ). IsProcessBlock ps 1 2 plan.lines 2) (sym st.parents) one.1;
        few = omega arith;
        below = omega arith;
        fit = fit;
        may = top_begins (alone_kernel s) 1 [] 2 plan.lines (ap (λ (ps : List ℕ). parent_of ps 1) (st.parents ∙ one.0)) refl fit;
      })
]

-- nothing was told yet
nothing-told : (plan : PlanSeen) → ToldFront plan []
nothing-told plan = record {
  lines_of = λ p. [];
  front = λ p born. (own_lines plan p, refl);
  tells = record {
    own = λ p born. refl;
    others = λ p unborn. refl;
    waits = λ p born before after wait is waits.
        let long = ap (λ (ls : List PlanLine). length ls) is in
        let both = length-append before (wait ∷ after) in
        absurd (let n : length (wait ∷ after) ≡ suc (length after) = refl in omega (arith, long, both, n));
  };
}

-- WHAT THE PROCESSES LEFT: where none ran
pub played-none : (plan : PlanSeen) (F : Flat) (disks : List (ℕ × DiskSeen)) (swap : Option DiskSeen) (files : FilesSeen) (s : KernelState) → IsStarted plan F disks swap files s
    → HasPlayed plan s s false
played-none plan F disks swap files s st = record {
  since = event_law.opens s (F, st.fits);
  told = λ whole. absurd (let z : false ≡ true = whole in cc);
  front = subst (ToldFront plan) (sym st.opening.history) (nothing-told plan);
  formed = subst (All (λ (e : Entry). IsWellFormed e.call)) (sym st.opening.history) (All-nil (λ (e : Entry). IsWellFormed e.call));
  few = let none = ap (λ (H : List Entry). length H) st.opening.history in omega (arith, none);
}

-- where the one block ran
pub played-alone : (plan : PlanSeen) (F : Flat) (disks : List (ℕ × DiskSeen)) (swap : Option DiskSeen) (files : FilesSeen) (s t : KernelState) (whole : Bool) → IsPlayable plan → is_alone plan ≡ true
    → IsStarted plan F disks swap files s → IsEvent 0 s None t None → AreOfOne t.history → (made : List PlanLine) × IsPrefix made (own_lines plan 1) × Spell made (entries_of t.history 1)
    → (IsTrue whole → Spell (own_lines plan 1) (entries_of t.history 1)) → HasPlayed plan s t whole
played-alone plan F disks swap files s t whole may alone st event mine front all =
    let one = plays-one plan may alone in
    played-since plan F disks swap files s t whole st may
    (subst (IsSince s t) (same-seats no_seats 0 None refl) (event_law.since s s t no_seats 0 None None (event_law.opens s (F, st.fits)) refl event))
    (λ is. whole-told plan t.history one (all is) mine)
    (front-told plan front.0 t.history one front.1 front.2 mine)
