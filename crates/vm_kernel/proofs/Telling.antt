-- WHAT A STEP TELLS of the history, of whom the note is for, and of the disk.
use Rattle.std.proofs.Common.{◌≡◌, ℕ, Bool, true, false, ◌++◌, ◌∷◌, [], Option, Some, None, Result, Ok, Err, refl, sym, ap, ◌∙◌, subst}
use Rattle.std.specs.Prelude.{IsFalse}
use Rattle.vm_core.specs.block_device.Counts.{HasRisen}
use Rattle.vm_core.specs.block_device.DiskSeen.{DiskSeen}
use Rattle.vm_core.specs.clock_hands.Clock.{after_hand}
use Rattle.vm_core.specs.fault_entry.seg_vn.declared.attempt.Attempt.{Attempt}
use Rattle.vm_core.specs.fault_entry.seg_vn.declared.attempt.Attempt.TheVariants as attempt
use Rattle.vm_core.specs.flat_model.History.{is_io}
use Rattle.vm_core.specs.page_store.Bays.{bay_at, home}
use Rattle.vm_core.specs.page_store.Flight.{FlightSeen, IsPerformed, IsRead, IsWritten, Progress, fresh, done, failed}
use Rattle.vm_core.specs.page_store.declared.plan.Plan.{Plan}
use Rattle.vm_core.specs.vm_types.declared.call.Call.{Call}
use Rattle.vm_core.specs.vm_types.declared.call.Reply.{Reply}
use Rattle.vm_core.specs.vm_types.declared.call.Reply.TheVariants.{Io}
use Rattle.vm_core.specs.Calls.{AnswersCall, TakesMemory}
use Rattle.vm_core.specs.Flights.{EndsWith, answer_at_end, error_at_end}
use Rattle.vm_core.specs.SeatSteps.{AfterMove, AfterTry, LandsFlight, sent_along}
use Rattle.vm_core.specs.vm_world.ServingLaws.{done_entry}
use Rattle.vm_core.specs.vm_world.State.{KernelState, Sent, Caller}
use Rattle.vm_core.specs.vm_world.Wants.{MayHold}
use Rattle.vm_kernel.specs.Steps.{EndsFlight, IsForNone, IsNoteFor, MovesHand, SendsOut, TriesCall, note_along, tried_by}
use Rattle.vm_kernel.specs.declared.steps.Tried.{Tried}
use Rattle.vm_kernel.specs.declared.steps.Tried.TheVariants.{Done, Out, Busy}

-- one entry more, of this process and call, with this reply
abbrev pub AddsCall : KernelState → KernelState → ℕ → Call → Reply → Type 0
AddsCall old new p call reply = (cleared : ℕ) × (new.history ≡ old.history ++ done_entry p call reply cleared ∷ [])

-- A TRY
abbrev pub TryTells : {E : Type 0} → KernelState → KernelState → ℕ → Call → Option Sent → Result Tried E → Type 0
TryTells old new p call note (Ok (Done reply)) = AddsCall old new p call reply × IsFalse (is_io reply) × (note ≡ None)
TryTells old new p call note (Ok Out) = (new.history ≡ old.history) × IsNoteFor p call note
TryTells old new p call note (Ok (Busy hold)) = (new.history ≡ old.history) × MayHold new.memory new.calls p call hold × (note ≡ None)
TryTells old new p call note (Err e) = (new.history ≡ old.history) × TakesMemory call × (note ≡ None)

answer-tells : (E : Type 0) (old mid new : KernelState) (seat p : ℕ) (call : Call) (note : Option Sent) (a : Attempt) (flight : Option FlightSeen) → note ≡ note_along (Some (p, call)) flight → AnswersCall old mid seat p call a → AfterTry mid new seat a flight
    → TryTells {E = E} old new p call note (Ok (tried_by a))
answer-tells E old mid new seat p call note (attempt.Done reply) flight out answers goes =
    ((answers.cleared, ap (λ (x : KernelState). x.history) goes.0 ∙ answers.adds.history), answers.no_error, out ∙ ap (note_along (Some (p, call))) goes.1)
answer-tells E old mid new seat p call note (attempt.Need plan) flight out answers goes = (
  ap (λ (x : KernelState). x.history) goes.2.rest ∙ answers.began.none.history,
  subst (IsNoteFor p call) (sym (out ∙ ap (note_along (Some (p, call))) goes.1)) refl,
)
answer-tells E old mid new seat p call note (attempt.Busy h) flight out answers goes = (
  ap (λ (x : KernelState). x.history) goes.0 ∙ answers.began.none.history,
  subst (λ (x : KernelState). MayHold x.memory x.calls p call h) (sym goes.0) answers.holds,
  out ∙ ap (note_along (Some (p, call))) goes.1,
)

pub try-tells : {E : Type 0} (old new : KernelState) (seat p : ℕ) (call : Call) (note : Option Sent) (r : Result Tried E) → TriesCall old new seat p call note r → TryTells old new p call note r
try-tells {E} old new seat p call note (Ok tried) (a, flight, is, out, next) =
    subst (λ (x : Tried). TryTells {E = E} old new p call note (Ok x)) (sym is) (answer-tells E old next.mid new seat p call note a flight out next.tries.answers next.goes)
try-tells old new seat p call note (Err e) (same, takes, none) = (ap (λ (x : KernelState). x.history) same, takes, none)

-- A TRANSFER THAT GOES OUT
pub sent-for-none-out : (s t : KernelState) (seat : ℕ) (plan : Plan) (note : Option Sent) → SendsOut s t seat plan None note → IsForNone note
sent-for-none-out s t seat plan note (f, is, sends) = subst IsForNone (sym is) refl

-- A MOVE OF A HAND
moved-same : (mid t : KernelState) (seat : ℕ) (answer : Option Plan) (flight : Option FlightSeen) → AfterMove mid t seat answer flight → t.history ≡ mid.history
moved-same mid t seat None flight goes = ap (λ (x : KernelState). x.history) goes.0
moved-same mid t seat (Some plan) flight goes = ap (λ (x : KernelState). x.history) goes.2.rest

pub hand-same : (s t : KernelState) (seat : ℕ) (note : Option Sent) → MovesHand s t seat note → t.history ≡ s.history
hand-same s t seat note (flight, out, turns) = moved-same turns.mid t seat turns.answer flight turns.goes ∙ ap (λ (x : KernelState). x.history) turns.rest

-- A device error has the counts round the transfer of this note, and its disk is home with the last of them.
pub record IsErrorOf (new : KernelState) (note : Sent) (disk before after : ℕ) : Type 0 where
  pub number : note.note.number ≡ disk
  pub counted : note.note.disk.faults ≡ before
  pub risen : HasRisen before after
  pub seen : DiskSeen
  pub home : bay_at new.memory.world.store.bays disk ≡ home seen
  pub count : seen.faults ≡ after

-- A transfer that went well: its disk is home as it came back.
pub record HasGoneWell (new : KernelState) (note : Sent) : Type 0 where
  pub back : FlightSeen
  pub performed : IsPerformed note.note back
  pub well : back.outcome ≡ done
  pub home : bay_at new.memory.world.store.bays back.number ≡ home back.disk

-- THE END OF A TRANSFER
abbrev pub EndTells : KernelState → KernelState → Sent → Option Reply → Type 0
EndTells old new note None = new.history ≡ old.history
EndTells old new note (Some reply) =
    (of : Caller) × (note.of ≡ Some of) × AddsCall old new of.0 of.1 reply
    × (disk : ℕ) × (before : ℕ) × (after : ℕ) × (reply ≡ Io disk before after) × IsErrorOf new note disk before after

told-end : (old new : KernelState) (note : Sent) (f : FlightSeen) (of : Option Caller) (r : Option Reply) → IsPerformed note.note f → note.of ≡ of → r ≡ answer_at_end f of → EndsWith old new of r
    → bay_at new.memory.world.store.bays f.number ≡ home f.disk → EndTells old new note r
told-end old new note f None None back same is ends at = ends.none.history
told-end old new note f None (Some r) back same is ends at = absurd ends
told-end old new note f (Some of) None back same is ends at = ends.none.history
told-end old new note f (Some of) (Some r) back same is ends at = by_outcome f.outcome refl is
  where
    by_outcome : (p : Progress) → f.outcome ≡ p → Some r ≡ error_at_end f p → EndTells old new note (Some r)
    by_outcome fresh e q = absurd (cc (q))
    by_outcome done e q = absurd (cc (q))
    by_outcome failed e q =
        let same' : r ≡ Io f.number f.before f.disk.faults = cc (q) in (
          of,
          same,
          (old.pending, ends.history),
          f.number,
          f.before,
          f.disk.faults,
          same',
          record {
            number = sym back.number;
            counted = sym back.before;
            risen = subst (λ (b : ℕ). HasRisen b f.disk.faults) (sym back.before) (back.risen e);
            seen = f.disk;
            home = at;
            count = refl;
          },
        )

pub end-tells : (old new : KernelState) (seat : ℕ) (note : Sent) (r : Option Reply) → EndsFlight old new seat note r → EndTells old new note r
end-tells old new seat note r lands = told-end old new note lands.comes.back note.of r lands.comes.performed refl lands.tells lands.entry lands.comes.disk

-- where nothing is answered to a call, its transfer went well
pub well-then : (old new : KernelState) (seat : ℕ) (note : Sent) (of : Caller) → note.of ≡ Some of → EndsFlight old new seat note None → HasGoneWell new note
well-then old new seat note of for' lands = record {
  back = lands.comes.back;
  performed = lands.comes.performed;
  well = by_outcome lands.comes.back.outcome refl;
  home = lands.comes.disk;
}
  where
    unmade : (b : Bool) → note.note.writes ≡ b → lands.comes.back.outcome ≡ fresh → ⊥
    unmade true is e = subst (IsWritten note.note lands.comes.back) e (lands.comes.performed.written is)
    unmade false is e = subst (IsRead note.note lands.comes.back) e (lands.comes.performed.read is)

    by_outcome : (p : Progress) → lands.comes.back.outcome ≡ p → p ≡ done
    by_outcome fresh e = absurd (unmade note.note.writes refl e)
    by_outcome done e = refl
    by_outcome failed e = absurd (
        let z : ◌≡◌ {A = Option Reply} None (Some (Io lands.comes.back.number lands.comes.back.before lands.comes.back.disk.faults)) =
        lands.tells ∙ ap (answer_at_end lands.comes.back) for' ∙ ap (error_at_end lands.comes.back) e in cc (z))
