-- Loads and stores that are tried.
use Rattle.std.proofs.Common.{◌≡◌, ◌≢◌, ℕ, Option, Some, None, refl, subst}
use Rattle.std.specs.Prelude.{IfSome, IfNone}
use Rattle.vm_core.specs.Answered.{MarksAfterCall}
use Rattle.vm_core.specs.Calls.{AnswersCall, IsShownAfterCall, SlotsAfterCall, IsHitAfterCall}
use Rattle.vm_core.specs.SeatSteps.{AfterTry, AnswersTry}
use Rattle.vm_core.specs.fault_entry.Answers.{attempt_of, IsHitAnswer}
use Rattle.vm_core.specs.fault_entry.declared.answers.Answer.{Answer}
use Rattle.vm_core.specs.fault_entry.declared.answers.Answer.TheVariants.{Word, Stored, Signal, Need, Busy}
use Rattle.vm_core.specs.fault_entry.seg_vn.declared.attempt.Attempt.{Attempt}
use Rattle.vm_core.specs.page_store.declared.plan.Plan.{Plan}
use Rattle.vm_core.specs.vm_types.declared.call.Call.{Call}
use Rattle.vm_core.specs.vm_types.declared.call.Call.TheVariants.{Load, Store}
use Rattle.vm_core.specs.vm_world.Events.{IsEvent}
use Rattle.vm_core.specs.vm_world.State.{KernelState}
use Rattle.vm_kernel.specs.Steps.{TriesAccess, tried_by, tried_of}

-- What a load or a store comes to is what its attempt comes to.
pub tried-as : (a : Answer) → tried_of a ≡ tried_by (attempt_of a)
tried-as (Word w) = refl
tried-as Stored = refl
tried-as (Signal s) = refl
tried-as (Need plan) = refl
tried-as (Busy h) = refl

-- What one leaves that needs no transfer.
pub tried-access : (old new : KernelState) (seat p : ℕ) (call : Call) (a : Answer) → AnswersTry old new seat p call (attempt_of a) → ((plan : Plan) → a ≢ Need plan) → TriesAccess old new seat p call None a
tried-access old new seat p call a tries other = (attempt_of a, None, tried-as a, refl, record { mid = new; tries = tries; goes = ends a other })
  where
    ends : (x : Answer) → ((plan : Plan) → x ≢ Need plan) → AfterTry new new seat (attempt_of x) None
    ends (Word w) never = (refl, refl)
    ends Stored never = (refl, refl)
    ends (Signal s) never = (refl, refl)
    ends (Need plan) never = absurd (never plan refl)
    ends (Busy h) never = (refl, refl)

-- A hit needs no transfer.
pub hit-plan : (call : Call) (a : Answer) → IsHitAnswer call a → (plan : Plan) → a ≢ Need plan
hit-plan (Load addr size) (Word w) h plan is = let z : Word w ≡ Need plan = is in cc
hit-plan (Store addr size v) Stored h plan is = let z : Stored ≡ Need plan = is in cc
hit-plan call a h plan is = absurd h

-- What one leaves that was looked for.
pub tried-hit : (old new : KernelState) (seat p : ℕ) (call : Call) (r : Option Answer) → IfSome r (λ a. AnswersTry old new seat p call (attempt_of a)) → IfSome r (IsHitAnswer call) → IfSome r (TriesAccess old new seat p call None)
tried-hit old new seat p call (Some a) tries kind = tried-access old new seat p call a tries (hit-plan call a kind)
tried-hit old new seat p call None tries kind = tt

-- It is a try: what each clause says of it.
pub hit-tries : (old new : KernelState) (seat p : ℕ) (call : Call) (r : Option Answer) → IfSome r (λ a. AnswersCall old new seat p call (attempt_of a)) → IfSome r (λ a. IsShownAfterCall new.memory p call (attempt_of a))
    → IfSome r (λ a. SlotsAfterCall old.memory new.memory.world p call (attempt_of a)) → IfSome r (λ a. IsHitAfterCall old.memory new.memory.world p call (attempt_of a)) → IfSome r (λ _a. IsEvent seat old None new None)
    → IfSome r (λ a. MarksAfterCall old new p call (attempt_of a)) → IfSome r (λ a. AnswersTry old new seat p call (attempt_of a))
hit-tries old new seat p call (Some a) answers shown slots hit event marks = record { answers = answers; shown = shown; slots = slots; hit = hit; event = event; marks = marks }
hit-tries old new seat p call None answers shown slots hit event marks = tt

-- A try, by what it came to.
pub tries-as : (old new : KernelState) (seat p : ℕ) (call : Call) (x a : Attempt) → x ≡ a → AnswersCall old new seat p call x → IsShownAfterCall new.memory p call x → SlotsAfterCall old.memory new.memory.world p call x
    → IsHitAfterCall old.memory new.memory.world p call x → IsEvent seat old None new None → MarksAfterCall old new p call x → AnswersTry old new seat p call a
tries-as old new seat p call x a is answers shown slots hit event marks =
    subst (AnswersTry old new seat p call) is (record { answers = answers; shown = shown; slots = slots; hit = hit; event = event; marks = marks })

pub none-then : (r : Option Answer) (P Q : Type 0) → (P → Q) → IfNone r P → IfNone r Q
none-then (Some a) P Q f h = h
none-then None P Q f h = f h
