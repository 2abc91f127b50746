use Rattle.std.proofs.Common.{sym, subst}
use Rattle.fault_entry.specs.vm_world.MemoryFits.{MemoryFits}
use Rattle.fault_entry.specs.vm_world.State.{KernelState}
use Rattle.vm_core.proofs.Rising.{synced-raises}
use Rattle.vm_core.proofs.state.VmState.raise_synced.Goals as goal

pub raise_range-requires : goal.raise_range-requires
raise_range-requires g c = record {
  fits = (
    c.self.inside.spaces.spaces,
    c.args.process,
    record { memory = subst (λ (s : KernelState). MemoryFits s.memory) (sym c.self.view_is) c.requires.fits; here = sym c.in-Some.ensures },
  );
}
