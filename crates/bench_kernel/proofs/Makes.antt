-- A CALL of one process, where nothing is outside.
use Rattle.std.proofs.Common.{◌≡◌, ℕ, ◌+◌, None, subst, sym, ap, add-one}
use Rattle.std.specs.Prelude.{replicate, Result, Ok, Err, IfOk, OnErr}
use Rattle.vm_types.specs.declared.call.Call.{Call}
use Rattle.vm_types.specs.declared.call.Call.TheVariants.{Fork}
use Rattle.seg_vn.specs.declared.attempt.Attempt.{Attempt}
use Rattle.vm_core.specs.Calls.{AnswersCall, IsOnOwnSpace}
use Rattle.vm_core.specs.vm_world.Events.{CanTry, IsEvent, MayBear}
use Rattle.vm_core.specs.vm_world.State.{KernelState, seat_of}
use Rattle.test_acts.specs.Trials.{IsTrialState, LiesInOneLine}
use Rattle.lane_driver.proofs.MayGo.{bears-none}
use Rattle.test_acts.proofs.TrialLemmas.{idle, trial-answered}
use Rattle.bench_kernel.specs.Ready.{MayMake}

pub own-bears : (s : KernelState) (p : ℕ) (call : Call) → IsOnOwnSpace call → MayBear s p call
own-bears s p call own = bears-none s p call (λ child is. absurd (subst IsOnOwnSpace is own))

pub can-try : (s : KernelState) (seats seat : ℕ) (call : Call) → IsTrialState s (replicate seats None) → MayMake s seat call → MayBear s (seat + 1) call → CanTry s seat (seat + 1) call
can-try s seats seat call trial may bears = record {
  own = ap seat_of (add-one seat);
  alive = may.alive;
  room = may.room;
  follows = λ reply cleared. trial.follows (record { process = seat + 1; call = call; reply = reply; cleared = cleared });
  bears = bears;
}

pub after-call : {E : Type 0} (s t : KernelState) (seats seat : ℕ) (call : Call) (result : Result Attempt E) → IsTrialState s (replicate seats None) → LiesInOneLine call → IsEvent seat s None t None
    → IfOk result (AnswersCall s t seat (seat + 1) call) → OnErr result (t ≡ s) → IsTrialState t (replicate seats None)
after-call s t seats seat call (Ok attempt) trial part event answers same = trial-answered s t (replicate seats None) seat (seat + 1) call attempt trial (idle seats seat) part event answers
after-call s t seats seat call (Err e) trial part event answers same = subst (λ (u : KernelState). IsTrialState u (replicate seats None)) (sym same) trial
