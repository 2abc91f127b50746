-- A transfer from its begin to its end, and what a call made.
use Rattle.std.proofs.Common.{◌≡◌, ℕ, ◌++◌, List, [], ◌∷◌, Option, Some, None, refl, ap, ◌∙◌}
use Rattle.volume_files.specs.vm_types.declared.call.Call.{Call}
use Rattle.volume_files.specs.vm_types.declared.call.Entry.{Entry}
use Rattle.volume_files.specs.vm_types.declared.call.Reply.{Reply}
use Rattle.vm_core.specs.kernel_close.Finish.{FitsStill}
use Rattle.vm_core.specs.Fits.{FitsAt}
use Rattle.vm_core.specs.page_store.declared.plan.Plan.{Plan}
use Rattle.vm_core.specs.Flights.{EndsWith, IsKeptFor}
use Rattle.vm_core.specs.vm_world.Events.{IsEvent}
use Rattle.vm_core.specs.vm_world.State.{KernelState, KeptPlan, Caller, Sent, with_sent}
use Rattle.vm_core.proofs.vm_world.Told.{event_law}
use Rattle.plan_runs.specs.Lines.{HasOneMore, GrowsWith, MadeNothing}

-- what a seat has outside once its flight left
pub sent-fits : (s t : KernelState) (sent : Sent) → IsEvent 0 s None t (Some sent) → FitsStill s → FitsAt t 0 (Some sent)
sent-fits s t sent event still = (still.0, with_sent still.1 0 (Some sent), event.fits still.0 still.1 (still.3 0) still.2, refl)

pub there-and-back : (s t u : KernelState) (sent : Sent) → IsEvent 0 s None t (Some sent) → IsEvent 0 t (Some sent) u None → IsEvent 0 s None u None
there-and-back s t u sent out back = event_law.joined 0 s t u None (Some sent) None out back

pub then-too : (s t u : KernelState) → IsEvent 0 s None t None → IsEvent 0 t None u None → IsEvent 0 s None u None
then-too s t u first second = event_law.joined 0 s t u None None None first second

pub nothing-yet : (s : KernelState) → MadeNothing s s
nothing-yet s = record { event = event_law.rests 0 s None; same = refl }

-- the history once a transfer ended
pub grows-as : (of : Option Caller) (answer : Option Reply) (s t u : KernelState) → t.history ≡ s.history → EndsWith t u of answer → GrowsWith of answer s u
grows-as None None s t u same ends = ends.none.history ∙ same
grows-as None (Some reply) s t u same ends = absurd ends
grows-as (Some of) None s t u same ends = ends.none.history ∙ same
grows-as (Some of) (Some reply) s t u same ends = (t.pending, ends.history ∙ ap (λ (H : List Entry). H ++ record { process = of.0; call = of.1; reply = reply; cleared = t.pending } ∷ []) same)

-- an entry more, behind what made none
pub one-more-as : (s t u : KernelState) (p : ℕ) (call : Call) (reply : Reply) → t.history ≡ s.history → HasOneMore t u p call reply → HasOneMore s u p call reply
one-more-as s t u p call reply same more = (more.0, more.1 ∙ ap (λ (H : List Entry). H ++ record { process = p; call = call; reply = reply; cleared = more.0 } ∷ []) same)

-- the plan of seat 0 that is kept for this process and call
abbrev pub kept_for : Plan → Option Caller → KeptPlan
kept_for plan of = record { seat = 0; plan = plan; of = of }

pub kept-here : (s : KernelState) (plan : Plan) (of : Option Caller) → s.plan ≡ Some (kept_for plan of) → IsKeptFor s 0 plan (kept_for plan of)
kept-here s plan of is = record { is = is; mine = refl; same = refl }
