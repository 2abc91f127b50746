use Rattle.std.proofs.Common.{ℕ, List, length, Option, [], sym, ap, ◌∙◌, subst}
use Rattle.fault_entry.specs.vm_types.declared.call.Call.TheVariants.{Sync}
use Rattle.fault_entry.specs.vm_world.FlatMemory.{Memory}
use Rattle.fault_entry.specs.vm_world.MemoryFits.{MemoryFits}
use Rattle.fault_entry.specs.vm_world.State.{KernelState}
use Rattle.fault_entry.specs.vm_world.SyncSteps.{start_of}
use Rattle.fault_entry.specs.vm_world.World.{world_seen}
use Rattle.fault_entry.specs.vm_world.ZeroObjects.{KnowsZeros}
use Rattle.fault_entry.specs.seg_vn.Serves.{Serves}
use Rattle.fault_entry.specs.vm_world.declared.sync_start.SyncStart.{SyncStart}
use Rattle.vm_core.specs.State.{EachHasPlaces, IsSoundKernel}
use Rattle.vm_core.proofs.Served.{kept-served, synced-own, synced-rest}
use Rattle.vm_core.proofs.state.VmState.clean.Goals as goal

pub sync-attempt-requires-clause-fits : goal.sync-attempt-requires-clause-fits
sync-attempt-requires-clause-fits g c = subst (λ (s : KernelState). MemoryFits s.memory) (sym c.self.view_is) c.requires.fits

pub invariant_of-self : goal.invariant_of-self
invariant_of-self g c =
    let before : Memory = record { world = world_seen c.self.inside.world; spaces = c.self.inside.spaces.spaces } in
    let after : Memory = record { world = world_seen c.sync-attempt.new.world; spaces = c.self.inside.spaces.spaces } in
    let zeros = ap (λ w. w.zeros) {y = record c.self.inside.world { store = c.sync-attempt.new.world.store; hat = c.sync-attempt.new.world.hat }} c.sync-attempt.ensures.makes.rest in
    let seats = sym (ap (λ (l : List (Option SyncStart)). length l) c.look_next.ensures) in (
      subst (λ (n : ℕ). IsSoundKernel c.sync-attempt.new.world.store c.sync-attempt.new.world.zeros c.self.inside.spaces.spaces c.self.inside.ledger.entries n) seats
          (kept-served before after c.self.inside.world.zeros c.sync-attempt.new.world.zeros _ _ [] _ _ _ _ _ c.self.invariant.0 (subst (λ (zs : List (Option ℕ)). KnowsZeros zs c.self.inside.spaces.spaces) (sym zeros) c.self.invariant.0.known) (c.sync-attempt.ensures.serves [])),
      subst (λ (n : ℕ). EachHasPlaces c.self.inside.parents.items c.self.inside.spaces.processes (length c.self.inside.born.items) n) seats c.self.invariant.1,
    )

pub returns-clause-serves : goal.returns-clause-serves
returns-clause-serves g c =
    let after : Memory = record { world = world_seen c.sync-attempt.new.world; spaces = c.self.inside.spaces.spaces } in
    subst (λ (s : KernelState). Serves s.memory after s.pending c.sync-attempt.new.world.pending s.calls c.args.process (Sync c.args.addr c.args.bytes) c.sync-attempt.result) c.self.view_is (c.sync-attempt.ensures.serves c.self.inside.calls)

pub returns-clause-own : goal.returns-clause-own
returns-clause-own g c = synced-own c.args.self.now c.args.process c.sync_start-from.result (Sync c.args.addr c.args.bytes) c.sync-attempt.result (c.sync_start-from.ensures ∙ ap (λ (k : ℕ). start_of c.args.self.now k (Sync c.args.addr c.args.bytes)) (sym c.requires.own)) c.sync-attempt.ensures.answer

pub returns-clause-slots : goal.returns-clause-slots
returns-clause-slots g c = ap (λ w. w.anon) {y = record c.self.inside.world { store = c.sync-attempt.new.world.store; hat = c.sync-attempt.new.world.hat }} c.sync-attempt.ensures.makes.rest ∙ ap (λ (s : KernelState). s.memory.world.anon) c.self.view_is

pub returns-clause-spaces : goal.returns-clause-spaces
returns-clause-spaces g c = ap (λ (s : KernelState). s.memory.spaces) c.self.view_is

pub returns-clause-rest : goal.returns-clause-rest
returns-clause-rest g c =
    let after : Memory = record { world = world_seen c.sync-attempt.new.world; spaces = c.self.inside.spaces.spaces } in
    synced-rest _ c.args.self.now after c.sync-attempt.new.world.pending c.look_next.new.self c.self.view_is c.look_next.ensures
