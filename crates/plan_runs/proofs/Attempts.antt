-- What an attempt at a call made of the history.
use Rattle.std.proofs.Common.{◌≡◌, Option, Some, None, sym, ◌∙◌, subst}
use Rattle.vm_core.specs.page_store.declared.plan.Hold.{Hold}
use Rattle.vm_core.specs.page_store.declared.plan.Plan.{Plan}
use Rattle.volume_files.specs.vm_types.declared.call.Call.{Call}
use Rattle.volume_files.specs.vm_types.declared.call.Reply.{Reply}
use Rattle.vm_core.specs.Calls.{IsBusy, IsNeeded}
use Rattle.vm_core.specs.kernel_close.Finish.{FitsStill}
use Rattle.vm_core.specs.vm_world.Events.{IsEvent}
use Rattle.vm_core.specs.vm_world.State.{KernelState}
use Rattle.plan_runs.specs.Lines.{AreOfOne, GrowsWith, HasOneMore, MadeNothing}
use Rattle.plan_runs.proofs.GoingOn.{never-waits, stays-still}
use Rattle.plan_runs.proofs.Trips.{one-more-as, then-too}

-- a transfer is needed, which then failed, or didn't
pub need-none : (s t u : KernelState) (call : Call) (plan : Plan) → MadeNothing s t → IsEvent 0 t None u None → IsNeeded t u 0 1 call plan → MadeNothing s u
need-none s t u call plan none event need = record { event = then-too s t u none.event event; same = need.began.none.history ∙ none.same }

pub failed-made : (s t u : KernelState) (call : Call) (answer : Option Reply) (reply : Reply) → MadeNothing s t → answer ≡ Some reply → GrowsWith (Some (1, call)) answer t u → HasOneMore s u 1 call reply
failed-made s t u call answer reply none is grows =
    one-more-as s t u 1 call reply none.same (subst (λ (o : Option Reply). GrowsWith (Some (1, call)) o t u) is grows)

pub made-nothing : (s t u : KernelState) (call : Call) (answer : Option Reply) → MadeNothing s t → IsEvent 0 t None u None → answer ≡ None
    → GrowsWith (Some (1, call)) answer t u → MadeNothing s u
made-nothing s t u call answer none event is grows = record {
  event = then-too s t u none.event event;
  same = subst (λ (o : Option Reply). GrowsWith (Some (1, call)) o t u) is grows ∙ none.same;
}

-- IT NEVER HAS TO WAIT.
pub no-busy : (s t u : KernelState) (call : Call) (h : Hold) → FitsStill s → AreOfOne s.history → MadeNothing s t → IsEvent 0 t None u None → IsBusy t u 0 1 call h → ⊥
no-busy s t u call h still alone none event busy =
    never-waits u call h (stays-still t u event (stays-still s t none.event still)) (subst AreOfOne (sym (busy.began.none.history ∙ none.same)) alone) busy.holds
