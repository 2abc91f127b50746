use Rattle.std.proofs.Common.{sym, ap, subst}
use Rattle.fault_entry.specs.vm_world.MemoryFits.{MemoryFits}
use Rattle.fault_entry.specs.vm_world.State.{KernelState}
use Rattle.fault_entry.specs.vm_world.World.{world_seen}
use Rattle.vm_core.proofs.Hands.{hand-event-as}
use Rattle.vm_core.proofs.state.VmState.clock.Goals as goal

pub turn_hand-plan-requires-clause-fits : goal.turn_hand-plan-requires-clause-fits
turn_hand-plan-requires-clause-fits g c = (c.self.inside.spaces.spaces, subst (λ (s : KernelState). MemoryFits s.memory) (sym c.self.view_is) c.requires.fits.2.memory)

pub returns-clause-event : goal.returns-clause-event
returns-clause-event g c =
    let fits = subst (λ (s : KernelState). MemoryFits s.memory) (sym c.self.view_is) c.requires.fits.2.memory in
    hand-event-as _ c.args.self.now (world_seen c.turn_hand-plan.new.world) c.args.seat c.turn_hand-plan.result _ _ c.self.view_is c.requires.seat c.keep.ensures (ap (λ w. w.pending) c.turn_hand-plan.ensures.rest)
    (c.turn_hand-plan.ensures.keeps c.self.inside.spaces.spaces fits) (c.turn_hand-plan.ensures.runs c.self.inside.spaces.spaces fits)
