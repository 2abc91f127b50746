use Rattle.std.proofs.Common.{◌≡◌, ◌⊎◌, true, false, List, [], refl, sym, ◌∙◌, subst}
use Rattle.std.specs.Prelude.{All, OnErr, Result, Ok, Err, is_ok}
use mathlib.Core.List.{IsPrefix}
use Rattle.volume_files.specs.flat_model.Told.{entries_of}
use Rattle.volume_files.specs.vm_script.declared.plan.PlanLine.{PlanLine}
use Rattle.volume_files.specs.vm_script.Told.{Spell}
use Rattle.vm_core.proofs.kernel_close.Finishes.{ok-then}
use Rattle.vm_core.specs.vm_world.Opening.{no_seats}
use Rattle.block_runs.specs.Lines.{IsCallLine, own_of}
use Rattle.block_runs.specs.Rows.{IsOnWay, StopsForMemory}
use Rattle.plan_runs.specs.Lines.{alone_caller, alone_kernel}
use Rattle.plan_runs.proofs.BlockLines.{plays-one}
use Rattle.plan_runs.proofs.Plays.{alone-ready, played-alone}
use Rattle.plan_runs.proofs.playing.play_alone.Goals as goal

pub make_lines-requires-clause-still : goal.make_lines-requires-clause-still
make_lines-requires-clause-still g c = let st = c.requires.started in (st.0, no_seats, st.4.fits, λ seat. refl)

pub make_lines-requires-clause-none : goal.make_lines-requires-clause-none
make_lines-requires-clause-none g c = c.requires.started.4.opening.history

pub make_lines-requires-clause-plain : goal.make_lines-requires-clause-plain
make_lines-requires-clause-plain g c = subst (All (λ (l : PlanLine). IsCallLine l.act)) (sym c.lines.ensures) (plays-one c.args.plan.now c.requires.playable c.requires.alone).calls

pub make_lines-requires-clause-ready : goal.make_lines-requires-clause-ready
make_lines-requires-clause-ready g c =
    let st = c.requires.started in
    subst (λ (ls : List PlanLine). (ls ≡ []) ⊎ IsOnWay (alone_kernel c.args.state) ls (alone_caller c.args.state []) [] 2) (sym c.lines.ensures)
    (alone-ready c.args.plan.now st.0 st.1 st.2 st.3 c.args.state c.requires.playable c.requires.alone st.4)

pub returns-clause-played : goal.returns-clause-played
returns-clause-played g c =
    let st = c.requires.started in
    let e = c.make_lines.ensures in
    let t = c.make_lines.new.state in
    played-alone c.args.plan.now st.0 st.1 st.2 st.3 c.args.state t c.is_ok-is_whole.result c.requires.playable c.requires.alone st.4 e.event e.alone
    (subst (λ (ls : List PlanLine). (made : List PlanLine) × IsPrefix made (own_of 1 ls) × Spell made (entries_of t.history 1)) c.lines.ensures e.front)
    (λ all. subst (λ (ls : List PlanLine). Spell (own_of 1 ls) (entries_of t.history 1)) c.lines.ensures (ok-then c.make_lines.result _ e.all (sym c.is_ok-is_whole.ensures.value ∙ all)))

-- an error that wasn't no error
on-err : {A E : Type 0} (r : Result A E) (P : Type 0) → OnErr r P → is_ok r ≡ false → P
on-err (Ok x) P p none = absurd (let z : true ≡ false = none in cc (z))
on-err (Err e) P p none = p

pub returns-clause-stopped : goal.returns-clause-stopped
returns-clause-stopped g c none =
    let t = c.make_lines.new.state in
    subst (λ (ls : List PlanLine). StopsForMemory (own_of 1 ls) (entries_of t.history 1)) c.lines.ensures
    (on-err c.make_lines.result _ c.make_lines.ensures.stopped (sym c.is_ok-is_whole.ensures.value ∙ none))
