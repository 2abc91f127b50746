use Rattle.std.proofs.Common.{◌≤◌, [], sym, subst, ℕ, length}
use Rattle.fault_entry.specs.anon_slots.Slots.{count_at}
use Rattle.fault_entry.specs.seg_vn.Serves.{Serves}
use Rattle.fault_entry.specs.vm_world.MemoryFits.{MemoryFits}
use Rattle.fault_entry.specs.vm_world.State.{KernelState}
use Rattle.fault_entry.specs.vm_world.World.{world_seen}
use Rattle.vm_core.specs.State.{EachHasPlaces}
use Rattle.vm_core.proofs.Served.{exited-own, kept-served}
use Rattle.vm_core.proofs.state.VmState.exit.Goals as goal

pub attempt-requires-clause-fits : goal.attempt-requires-clause-fits
attempt-requires-clause-fits g c = subst (λ (s : KernelState). MemoryFits s.memory) (sym c.self.view_is) c.requires.fits

pub invariant_of-self : goal.invariant_of-self
invariant_of-self g c = (
  kept-served (record { world = world_seen c.self.inside.world; spaces = c.self.inside.spaces.spaces }) (record { world = world_seen c.attempt.new.world; spaces = c.attempt.new.spaces.spaces }) c.self.inside.world.zeros c.attempt.new.world.zeros _ _ [] _ _ _ _ _ c.self.invariant.0 c.attempt.ensures.zeros (c.in-Ok.ensures.done []),
  subst (λ (n : ℕ). EachHasPlaces c.self.inside.parents.items n (length c.self.inside.born.items) (length c.self.inside.syncs)) (sym c.attempt.ensures.processes) c.self.invariant.1,
)

pub returns-clause-serves : goal.returns-clause-serves
returns-clause-serves g c =
    subst (λ (s : KernelState). Serves s.memory (record { world = world_seen c.attempt.new.world; spaces = c.attempt.new.spaces.spaces }) s.pending c.attempt.new.world.pending s.calls c.args.process c.args.call.now c.in-Ok.attempt)
    c.self.view_is (c.in-Ok.ensures.done c.self.inside.calls)

pub returns-clause-own : goal.returns-clause-own
returns-clause-own g c = exited-own c.args.self.now c.args.process c.args.call.now c.in-Ok.attempt c.in-Ok.ensures.answer

pub returns-clause-fall : goal.returns-clause-fall
returns-clause-fall g c slot = subst (λ (s : KernelState). count_at c.attempt.new.world.anon slot ≤ count_at s.memory.world.anon slot) c.self.view_is (c.attempt.ensures.fall slot)
