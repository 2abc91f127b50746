use Rattle.std.proofs.Common.{None, sym, ap, ◌∙◌, subst}
use Rattle.fault_entry.specs.vm_world.Events.{IsEvent, MayBear}
use Rattle.fault_entry.specs.vm_world.State.{KernelState}
use Rattle.fault_entry.proofs.vm_world.Told.{event_law}
use Rattle.vm_core.proofs.Forked.{ForkTold, StaysByFork, child-absent, fork-told, room-kept, stays-by}
use Rattle.vm_core.proofs.MarksKept.{answered-marks}
use Rattle.vm_core.proofs.state.VmState.fork.Given.{Over}
use Rattle.vm_core.proofs.state.VmState.fork.Goals.{After-conclude}
use Rattle.vm_core.proofs.state.VmState.fork.Goals as goal

pub bear-requires : goal.bear-requires
bear-requires g c =
    let b = c.requires.fits in
    let bears = subst (MayBear c.args.self.now c.args.process) c.requires.fork c.requires.may.bears in
    record { fits = b.2.memory; alive = c.requires.may.alive; absent = child-absent b.0 c.args.self.now b.1 c.args.process c.args.child b.2 bears; number = bears.0 }

pub conclude-requires-clause-room : goal.conclude-requires-clause-room
conclude-requires-clause-room g c =
    room-kept c.args.self.now c.bear.new.self c.args.process
    (subst (StaysByFork c.args.self.now) (sym c.in_ok-reply.ensures.rest) (stays-by c.args.self.now c.bear.new.self.memory c.args.child c.in_ok-reply.reply)) c.requires.may.room

told : (g : Over) (c : After-conclude g) → ForkTold c.args.self.now c.conclude.new.self c.args.seat c.args.process c.args.call.now c.conclude.result
told g c =
    let e = c.in_ok-reply.ensures in
    fork-told c.args.self.now c.bear.new.self c.conclude.new.self c.args.seat c.args.process c.args.child c.args.call.now c.conclude.result c.in_ok-reply.reply c.requires.fork c.requires.fits c.requires.may c.requires.formed
    c.conclude.ensures.same e.rest c.conclude.ensures.new e.done e.counted c.bear.ensures.modified c.bear.ensures.placed c.conclude.ensures.seated

pub returns : goal.returns
returns g c =
    let t = told g c in
    record {
      answers = t.answers;
      slots = t.slots;
      event = t.event;
      marks = ap (λ (s : KernelState). s.marks) c.conclude.ensures.new ∙ answered-marks c.bear.new.self c.args.seat c.args.process c.args.call.now c.conclude.result
          ∙ ap (λ (s : KernelState). s.marks) c.in_ok-reply.ensures.rest;
      err = tt;
    }

pub returns-in_err-reply-clause-event : goal.returns-in_err-reply-clause-event
returns-in_err-reply-clause-event g c =
    subst (λ (t : KernelState). IsEvent c.args.seat c.args.self.now None t None) (sym c.in_err-reply.ensures.err) (event_law.rests c.args.seat c.args.self.now None)
