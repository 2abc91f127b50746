use Rattle.std.proofs.Common.{sym, subst}
use Rattle.fault_entry.specs.page_hash.Names.{is_name}
use Rattle.fault_entry.specs.page_store.Flight.{note_of}
use Rattle.fault_entry.specs.page_store.Steps.{next_name}
use Rattle.fault_entry.specs.vm_world.MemoryFits.{MemoryFits}
use Rattle.fault_entry.specs.vm_world.NotesFit.{NotesFit}
use Rattle.fault_entry.specs.vm_world.State.{KernelState, notes_of}
use Rattle.fault_entry.specs.vm_world.World.{world_seen}
use Rattle.fault_entry.specs.vm_world.WorldSteps.{WorldStep, leaves}
use Rattle.vm_core.specs.Flights.{CanLeave}
use Rattle.vm_core.proofs.Departures.{kept-leaves, kept-left}
use Rattle.vm_core.proofs.state.VmState.depart.Goals as goal

pub leave-requires-clause-can : goal.leave-requires-clause-can
leave-requires-clause-can g c =
    let b = c.requires.fits in
    let k = c.requires.kept in
    subst (λ (s : KernelState). CanLeave s.memory.world c.args.plan) (sym c.self.view_is) (kept-leaves b.0 c.args.self.now b.1 c.args.seat c.args.plan k.0 b.2 k.1)

pub leave-requires-clause-fits : goal.leave-requires-clause-fits
leave-requires-clause-fits g c = (c.self.inside.spaces.spaces, subst (λ (s : KernelState). MemoryFits s.memory) (sym c.self.view_is) c.requires.fits.2.memory)

pub invariant_of-self : goal.invariant_of-self
invariant_of-self g c = (
  let b = c.requires.fits in
      kept-left (world_seen c.self.inside.world) (world_seen c.leave.new.world) c.self.inside.world.zeros c.leave.new.world.zeros _ _ _ c.args.seat c.leave.result (is_name (next_name c.self.inside.world.store)) c.self.invariant.0 c.leave.ensures.zeros
      (c.leave.ensures.step c.self.inside.spaces.spaces (notes_of b.1) (subst (λ (s : KernelState). MemoryFits s.memory) (sym c.self.view_is) b.2.memory)
      (subst (λ (s : KernelState). NotesFit s.memory.world (notes_of b.1)) (sym c.self.view_is) b.2.notes)),
  c.self.invariant.1,
)

pub returns-clause-step : goal.returns-clause-step
returns-clause-step g c =
    let b = c.requires.fits in
    let new = world_seen c.leave.new.world in
    let f = c.leave.result in
    subst (λ (s : KernelState). WorldStep s.memory.world new s.memory.spaces (leaves c.args.seat (note_of f)) (is_name (next_name s.memory.world.store))) c.self.view_is
    (c.leave.ensures.step c.self.inside.spaces.spaces (notes_of b.1) (subst (λ (s : KernelState). MemoryFits s.memory) (sym c.self.view_is) b.2.memory)
    (subst (λ (s : KernelState). NotesFit s.memory.world (notes_of b.1)) (sym c.self.view_is) b.2.notes))
