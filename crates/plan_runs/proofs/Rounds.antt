-- A CALL THAT IS ALONE ENDS: each transfer that it needs leaves less to come of it.
use Rattle.std.proofs.Common.{◌≡◌, ℕ, ◌+◌, ◌≤◌, false, true, length, Some, None, ap, ◌∙◌, inl, inr, subst, arith}
use Rattle.std.specs.Prelude.{is_some}
use Rattle.volume_files.specs.vm_types.declared.call.Call.{Call}
use Rattle.vm_core.specs.Calls.{IsNeeded}
use Rattle.vm_core.specs.kernel_close.Finish.{FitsStill}
use Rattle.vm_core.specs.Flights.{error_at_end}
use Rattle.vm_core.specs.page_store.declared.plan.Plan.{Plan}
use Rattle.vm_core.specs.vm_world.Events.{IsEvent}
use Rattle.vm_core.specs.vm_world.Opening.{no_seats}
use Rattle.vm_core.specs.vm_world.State.{Fixed, KernelState, Seats}
use Rattle.vm_core.specs.vm_world.StateFits.{StateFits}
use Rattle.lane_driver.proofs.Rounds.{Comes, new-comes, round-falls}
use Rattle.plan_runs.specs.Lines.{MadeNothing}
use Rattle.plan_runs.specs.Transfers.{MakesTransfer}
use Rattle.plan_runs.proofs.GoingOn.{stays-still}
use Rattle.plan_runs.proofs.Trips.{nothing-yet}

-- the frames are as many
pub frames-still : (s t : KernelState) (frames : ℕ) → IsEvent 0 s None t None → length s.memory.world.store.frames ≡ frames → length t.memory.world.store.frames ≡ frames
frames-still s t frames event count = ap (λ (x : Fixed). x.frames) event.fixed ∙ count

-- after so many rounds nothing was made of the call, and what is still to come of it is so much less
pub record GoesOn (s t : KernelState) (call : Call) (frames rounds : ℕ) : Type 0 where
  pub none : MadeNothing s t
  pub most : ℕ
  pub comes : Comes t.memory 1 call most
  pub few : most + rounds ≤ frames + 2

pub goes-from : (s : KernelState) (call : Call) (frames : ℕ) → length s.memory.world.store.frames ≡ frames → GoesOn s s call frames 0
goes-from s call frames count = record {
  none = nothing-yet s;
  most = frames + 2;
  comes = new-comes frames s.memory 1 call count;
  few = omega arith;
}

-- no seat has anything outside
at-rest : (s : KernelState) (still : FitsStill s) → StateFits still.0 s no_seats
at-rest s still = subst (λ (x : Seats). StateFits still.0 s x) (λ j seat. still.3 seat j) still.2

-- A ROUND: a transfer was needed, and didn't fail.
pub one-round : (s t u v : KernelState) (call : Call) (plan : Plan) (frames rounds : ℕ) → FitsStill s → GoesOn s t call frames rounds → IsEvent 0 t None u None → IsNeeded t u 0 1 call plan
    → MakesTransfer u v plan (Some (1, call)) None → MadeNothing s v → GoesOn s v call frames (rounds + 1)
one-round s t u v call plan frames rounds still goes event needs makes none =
    let before = stays-still s t goes.none.event still in
    let then-still = stays-still t u event before in
    let few = goes.few in
    elim (round-falls then-still.0 t u 0 call plan (at-rest u then-still) before.2.memory.frames.sound needs makes.mid v makes.flight makes.sends makes.lands.comes goes.most goes.comes) [
      | inl lost ↦ absurd (let z : false ≡ true = ap is_some (makes.lands.tells ∙ ap (error_at_end makes.lands.comes.back) lost) in cc)
      | inr less ↦ (let fewer = less.2 in record { none = none; most = less.0; comes = less.1; few = omega (arith, few, fewer) })
    ]

-- there is no round more than so many
pub no-more : (s t : KernelState) (call : Call) (frames rounds : ℕ) → GoesOn s t call frames rounds → frames + 3 ≤ rounds → ⊥
no-more s t call frames rounds goes past = let few = goes.few in omega (arith, few, past)
