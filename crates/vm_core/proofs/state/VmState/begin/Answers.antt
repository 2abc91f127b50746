use Rattle.std.proofs.Common.{length, ap, ◌∙◌}
use Rattle.fault_entry.specs.page_hash.Names.{is_name}
use Rattle.fault_entry.specs.page_store.Steps.{next_name}
use Rattle.fault_entry.specs.vm_world.State.{KernelState}
use Rattle.vm_core.specs.Marks.{marks_departed}
use Rattle.vm_core.proofs.Departures.{kept-leaves, leaving}
use Rattle.vm_core.proofs.state.VmState.begin.Goals as goal

pub returns-clause-event : goal.returns-clause-event
returns-clause-event g c kept k =
    let b = c.requires.fits in
    let s = c.args.self.now in
    let t = c.depart-flight.new.self in
    let f = c.depart-flight.result in
    leaving s c.keep_push.new.self t.memory.world (is_name (next_name s.memory.world.store)) t.pending c.args.seat c.args.plan kept f c.depart-flight.ensures.step c.depart-flight.ensures.pends k
    (kept-leaves b.0 s b.1 c.args.seat c.args.plan kept b.2 k) c.depart-flight.ensures.flight
    (c.keep_push.ensures ∙ ap (λ (x : KernelState). record x { marks = marks_departed x.marks c.args.seat f (length x.history) }) c.depart-flight.ensures.rest)
