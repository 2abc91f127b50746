use Rattle.std.proofs.Common.{◌≡◌, ℕ, length, None, sym, ap, ◌∙◌, subst}
use Rattle.std.specs.Prelude.{IsSome}
use Rattle.std.specs.FinMap as finite
use Rattle.fault_entry.proofs.flat_model.Maps.{on_err_any}
use Rattle.fault_entry.specs.page_store.declared.plan.Hold.TheVariants.{File}
use Rattle.fault_entry.specs.seg_vn.declared.attempt.Attempt.{Attempt}
use Rattle.fault_entry.specs.seg_vn.declared.attempt.Attempt.TheVariants.{Busy}
use Rattle.fault_entry.specs.vm_types.Parts.{file_of_call}
use Rattle.fault_entry.specs.vm_types.declared.call.Call.{Call}
use Rattle.fault_entry.specs.vm_types.declared.call.Call.TheVariants.{Fork, Sync, Truncate}
use Rattle.fault_entry.specs.vm_types.declared.call.Call.{Call}
use Rattle.fault_entry.specs.vm_world.CallSteps.{StaysAlive}
use Rattle.fault_entry.specs.vm_world.Events.{IsEvent}
use Rattle.fault_entry.specs.vm_world.Segments.{Spaces}
use Rattle.fault_entry.specs.vm_world.State.{KernelState}
use Rattle.fault_entry.proofs.vm_world.Told.{event_law}
use Rattle.file_calls.specs.Locks.{IsAnothers}
use Rattle.vm_core.specs.Answered.{MarksAfterCall}
use Rattle.vm_core.specs.Calls.{IsOnOwnSpace, IsShownAfterCall, IsHitAfterCall, TakesMemory, after_answer}
use Rattle.vm_core.specs.SeatSteps.{AnswersTry}
use Rattle.vm_core.proofs.Served.{WasServed, after-file, concerns-mappings, file-kind, none-waits, not-load, not-store, ok-always, own-mappings, plain-marks, served-is, tries-file, tries-own}
use Rattle.vm_core.proofs.state.VmState.try_other.Given.{Over}
use Rattle.vm_core.proofs.state.VmState.try_other.Goals.{After-conclude, After-conclude-2}
use Rattle.vm_core.proofs.state.VmState.try_other.Goals as goal

-- A Fork.
pub returns-in-Fork : goal.returns-in-Fork
returns-in-Fork g c =
    let e = c.fork.ensures in
    record {
      answers = e.answers;
      waits = ok-always (λ a. (t : ℕ) → IsAnothers c.args.self.now.calls c.args.seat c.args.call.now t → a ≡ Busy (File t)) c.fork.result
          (λ a t another. absurd (none-waits c.args.self.now.calls c.args.seat t c.args.call.now (ap file_of_call c.in-Fork.is) another));
      shown = ok-always (λ a. IsShownAfterCall c.fork.new.self.memory c.args.process c.args.call.now a) c.fork.result (λ a. subst (λ (x : Call). IsShownAfterCall c.fork.new.self.memory c.args.process x a) (sym c.in-Fork.is) tt);
      slots = e.slots;
      hit = ok-always (λ a. IsHitAfterCall c.args.self.now.memory c.fork.new.self.memory.world c.args.process c.args.call.now a) c.fork.result
          (λ a. subst (λ (x : Call). IsHitAfterCall c.args.self.now.memory c.fork.new.self.memory.world c.args.process x a) (sym c.in-Fork.is) tt);
      event = e.event;
      marks = ok-always (MarksAfterCall c.args.self.now c.fork.new.self c.args.process c.args.call.now) c.fork.result
          (λ a. plain-marks c.args.self.now.memory c.fork.new.self.memory c.args.process c.args.call.now a (length c.args.self.now.history) c.args.self.now.marks c.fork.new.self.marks
          (λ addr len x. let z : Fork c.in-Fork.child ≡ Sync addr len = sym c.in-Fork.is ∙ x in cc) (λ f len x. let z : Fork c.in-Fork.child ≡ Truncate f len = sym c.in-Fork.is ∙ x in cc) e.marks);
      memory = on_err_any c.fork.result (TakesMemory c.args.call.now) (subst TakesMemory (sym c.in-Fork.is) tt);
      err = e.err;
    }

-- A call on a file.
filed : (g : Over) (c : After-conclude g) → AnswersTry c.args.self.now c.conclude.new.self c.args.seat c.args.process c.args.call.now c.conclude.result
filed g c =
    let e = c.serve_file_marked-attempt.ensures in
    let mid = c.serve_file_marked-attempt.new.self in
    let a = c.serve_file_marked-attempt.result in
    let of = file-kind c.args.call.now c.in-Read.is in
    let left = after-file c.args.self.now.memory mid.memory c.args.process c.args.call.now a of e.slots in
    let alive : StaysAlive mid.memory c.args.process c.args.call.now = λ other. subst (λ (spaces : Spaces). IsSome (finite.get spaces c.args.process)) (sym e.spaces) c.requires.may.alive in
    subst (λ (b : Attempt). AnswersTry c.args.self.now c.conclude.new.self c.args.seat c.args.process c.args.call.now b) (sym c.conclude.ensures.same)
    (tries-file c.args.seat c.args.process c.args.self.now mid c.conclude.new.self c.args.call.now a c.requires.fits of c.requires.may c.requires.formed
    (record { serves = e.serves; shown = left.shown; slots = left.slots; hit = left.hit; own = e.own; alive = alive; marks = e.marks }) e.waits e.places e.rest
    (c.conclude.ensures.new ∙ ap (λ (b : Attempt). after_answer mid c.args.seat c.args.process c.args.call.now b) c.conclude.ensures.same) c.conclude.ensures.seated)

pub returns-in-Read : goal.returns-in-Read
returns-in-Read g c =
    let t = filed g c in
    record {
      answers = t.answers;
      waits = λ k another. c.conclude.ensures.same ∙ (c.serve_file_marked-attempt.ensures.waits k).1 another;
      shown = t.shown;
      slots = t.slots;
      hit = t.hit;
      event = t.event;
      marks = t.marks;
      memory = tt;
      err = tt;
    }

-- A mapping or an exit.
pub serve-requires-clause-served : goal.serve-requires-clause-served
serve-requires-clause-served g c =
    concerns-mappings c.args.call.now (not-load c.args.call.now c.requires.formed c.requires.other) (not-store c.args.call.now c.requires.formed c.requires.other) c.in_default.not-Fork c.in_default-call.not-Read c.in_default-call.not-Write c.in_default-call.not-Truncate

own-space : (g : Over) (c : After-conclude-2 g) → IsOnOwnSpace c.args.call.now
own-space g c =
    own-mappings c.args.call.now
    (concerns-mappings c.args.call.now (not-load c.args.call.now c.requires.formed c.requires.other) (not-store c.args.call.now c.requires.formed c.requires.other) c.in_default.not-Fork c.in_default-call.not-Read c.in_default-call.not-Write c.in_default-call.not-Truncate)

served : (g : Over) (c : After-conclude-2 g) → AnswersTry c.args.self.now c.conclude-2.new.self c.args.seat c.args.process c.args.call.now c.conclude-2.result
served g c =
    let e = c.in_ok-attempt.ensures in
    tries-own c.args.seat c.args.process c.args.self.now c.serve.new.self c.conclude-2.new.self c.args.call.now c.conclude-2.result c.requires.fits (own-space g c) c.requires.may c.requires.formed
    (subst (λ (a : Attempt). WasServed c.args.self.now c.serve.new.self c.args.process c.args.call.now a) (sym c.conclude-2.ensures.same)
    (record { serves = e.serves; shown = e.shown; slots = e.slots; hit = e.hit; own = e.own; alive = e.alive; marks = e.marks })) e.rest c.conclude-2.ensures.new c.conclude-2.ensures.seated

pub returns : goal.returns
returns g c =
    let t = served g c in
    record {
      answers = t.answers;
      waits = λ k another. absurd (none-waits c.args.self.now.calls c.args.seat k c.args.call.now (served-is c.args.call.now (own-space g c)).file another);
      shown = t.shown;
      slots = t.slots;
      hit = t.hit;
      event = t.event;
      marks = t.marks;
      memory = tt;
      err = tt;
    }

pub returns-in_err-attempt-clause-event : goal.returns-in_err-attempt-clause-event
returns-in_err-attempt-clause-event g c =
    subst (λ (t : KernelState). IsEvent c.args.seat c.args.self.now None t None) (sym c.in_err-attempt.ensures.err) (event_law.rests c.args.seat c.args.self.now None)
