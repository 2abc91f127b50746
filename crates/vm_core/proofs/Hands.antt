-- A move of a hand, as an event.
use Rattle.std.proofs.Common.{◌≡◌, ◌<◌, ℕ, length, ◌||◌, Bool, true, false, Option, Some, None, refl, sym, subst}
use Rattle.std.specs.Prelude.{IfSome, option_map}
use Rattle.fault_entry.specs.flat_model.Step.{is_bit_set}
use Rattle.fault_entry.specs.page_store.declared.plan.Plan.{Plan}
use Rattle.fault_entry.specs.vm_world.Words.{KeepsPages}
use Rattle.fault_entry.specs.vm_world.Events.{IsEvent}
use Rattle.fault_entry.specs.vm_world.Plans.{CanRunPlan}
use Rattle.fault_entry.specs.vm_world.State.{KernelState, KeptPlan, Caller}
use Rattle.fault_entry.specs.vm_world.StateSteps.{PendsTails}
use Rattle.fault_entry.specs.vm_world.World.{World}
use Rattle.fault_entry.proofs.vm_world.StateSteps.{state_rule}
use Rattle.clock_hands.specs.Clock.{after_hand, kept_of_clock}

no-tails : (w : World) (pending : ℕ) → PendsTails w (λ name. false) pending pending
no-tails w pending = record { bits = λ g lt. or-false (is_bit_set pending g); below = λ h. h }
  where
    or-false : (b : Bool) → b ≡ (b || false)
    or-false true = refl
    or-false false = refl

-- THE EVENT.
pub hand-event : (s : KernelState) (new : World) (seat : ℕ) (answer : Option Plan) → seat < length s.syncs → KeepsPages s.memory.world new s.memory.spaces → IfSome answer (CanRunPlan (record s.memory { world = new }) None)
    → IsEvent seat s None (after_hand s new (option_map (kept_of_clock seat) answer)) None
hand-event s new seat None seated keeps runs = state_rule.calm s new (λ name. false) s.pending seat None keeps (no-tails s.memory.world s.pending)
hand-event s new seat (Some p) seated keeps runs =
    state_rule.plans s new (λ name. false) s.pending (kept_of_clock seat p) keeps (no-tails s.memory.world s.pending) runs seated (λ of e. absurd (let z : ◌≡◌ {A = Option Caller} None (Some of) = e in cc))

pub hand-event-as : (s t : KernelState) (new : World) (seat : ℕ) (answer : Option Plan) (kept : Option KeptPlan) (pending : ℕ) → s ≡ t → seat < length t.syncs → kept ≡ option_map (kept_of_clock seat) answer → pending ≡ s.pending → KeepsPages s.memory.world new s.memory.spaces
    → IfSome answer (CanRunPlan (record s.memory { world = new }) None) → IsEvent seat t None (record (after_hand s new kept) { pending = pending }) None
hand-event-as s t new seat answer kept pending same seated is tails keeps runs =
    subst (λ (x : KernelState). IsEvent seat x None (record (after_hand s new kept) { pending = pending }) None) same
    (subst (λ (k : Option KeptPlan). IsEvent seat s None (record (after_hand s new k) { pending = pending }) None) (sym is)
    (subst (λ (n : ℕ). IsEvent seat s None (record (after_hand s new (option_map (kept_of_clock seat) answer)) { pending = n }) None) (sym tails) (hand-event s new seat answer (subst (λ (x : KernelState). seat < length x.syncs) (sym same) seated) keeps runs)))
