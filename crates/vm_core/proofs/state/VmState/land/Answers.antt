use Rattle.std.proofs.Common.{◌≡◌, false, Some, sym, ap, subst}
use Rattle.fault_entry.specs.page_store.Flight.{IsPerformed}
use Rattle.fault_entry.specs.page_store.Notes.{Note, Notes}
use Rattle.fault_entry.specs.page_store.Out.{IsFlightOf}
use Rattle.fault_entry.specs.page_store.Transfers.{EndsTransfer}
use Rattle.fault_entry.specs.vm_world.MemoryFits.{MemoryFits}
use Rattle.fault_entry.specs.vm_world.NotesFit.{NotesFit}
use Rattle.fault_entry.specs.vm_world.State.{KernelState}
use Rattle.fault_entry.specs.vm_world.World.{world_seen}
use Rattle.fault_entry.specs.vm_world.WorldSteps.{WorldStep, returns}
use Rattle.vm_core.proofs.Landings.{kept-ended}
use Rattle.vm_core.proofs.state.VmState.land.Goals as goal

pub invariant_of-self : goal.invariant_of-self
invariant_of-self g c = (
  kept-ended _ _ c.args.flight c.self.inside.world.zeros c.end_flight.new.world.zeros _ _ _ c.self.invariant.0 (ap (λ w. w.zeros) c.end_flight.ensures.rest) (subst (λ (s : KernelState). IsFlightOf s.memory.world.store c.args.flight) (sym c.self.view_is) c.requires.out) c.end_flight.ensures.store c.end_flight.ensures.ends,
  c.self.invariant.1,
)

pub returns-clause-step : goal.returns-clause-step
returns-clause-step g c =
    subst (λ (s : KernelState). (notes : Notes) (note : Note) → MemoryFits s.memory → NotesFit s.memory.world notes → notes c.args.flight.seat ≡ Some note → IsPerformed note c.args.flight
    → WorldStep s.memory.world (world_seen c.end_flight.new.world) s.memory.spaces (returns c.args.flight.seat note) (λ name. false))
    c.self.view_is (λ notes note. c.end_flight.ensures.step c.self.inside.spaces.spaces notes note)

pub returns-clause-ends : goal.returns-clause-ends
returns-clause-ends g c =
    subst (λ (s : KernelState). EndsTransfer s.memory.world.store (world_seen c.end_flight.new.world).store c.args.flight) c.self.view_is c.end_flight.ensures.ends
