use Rattle.std.proofs.Common.{◌≡◌, ℕ, List, length, Option, sym, ap, ◌∙◌, subst}
use Rattle.std.specs.Prelude.{◌↔◌}
use Rattle.fault_entry.specs.page_store.declared.plan.Hold.TheVariants.{File}
use Rattle.fault_entry.specs.seg_vn.Serves.{Serves}
use Rattle.fault_entry.specs.seg_vn.declared.attempt.Attempt.{Attempt}
use Rattle.fault_entry.specs.seg_vn.declared.attempt.Attempt.TheVariants.{Busy}
use Rattle.fault_entry.specs.vm_types.declared.call.Call.{Call}
use Rattle.fault_entry.specs.vm_world.FlatMemory.{Memory}
use Rattle.fault_entry.specs.vm_world.MemoryFits.{MemoryFits}
use Rattle.fault_entry.specs.vm_world.NotesFit.{NotesFit}
use Rattle.fault_entry.specs.vm_world.State.{KernelState}
use Rattle.fault_entry.specs.vm_world.World.{world_seen, world_table}
use Rattle.fault_entry.specs.vm_world.ZeroObjects.{KnowsZeros}
use Rattle.file_calls.specs.Locks.{IsAnothers, locks_answered}
use Rattle.vm_core.specs.Calls.{with_served}
use Rattle.vm_core.proofs.Served.{file-answered, home-frame, kept-served}
use Rattle.vm_core.proofs.state.VmState.serve_file.Given.{Over}
use Rattle.vm_core.proofs.state.VmState.serve_file.Goals.{After-attempt}
use Rattle.vm_core.proofs.state.VmState.serve_file.Goals as goal

pub attempt-requires-clause-home : goal.attempt-requires-clause-home
attempt-requires-clause-home g c =
    let n = c.requires.noted in
    home-frame c.self.inside.world.store c.self.inside.world.zeros _ _ _ n.0 (world_table (world_seen c.self.inside.world)) c.self.invariant.0
    (subst (λ (s : KernelState). MemoryFits s.memory) (sym c.self.view_is) c.requires.fits).frames.sound
    (subst (λ (s : KernelState). NotesFit s.memory.world n.0) (sym c.self.view_is) n.1).stored

pub attempt-requires-clause-fits : goal.attempt-requires-clause-fits
attempt-requires-clause-fits g c = (c.self.inside.spaces.spaces, subst (λ (s : KernelState). MemoryFits s.memory) (sym c.self.view_is) c.requires.fits)

pub attempt-requires-clause-noted : goal.attempt-requires-clause-noted
attempt-requires-clause-noted g c = let n = c.requires.noted in (n.0, subst (λ (s : KernelState). NotesFit s.memory.world n.0) (sym c.self.view_is) n.1)

-- what a call on a file leaves of the state
rest-is : (v s : KernelState) (m : Memory) (pending seat : ℕ) (call : Call) (a : Attempt) (calls : List (Option ℕ)) → v ≡ s → calls ≡ locks_answered seat call a v.calls → with_served v m pending calls ≡ with_served s m pending (locks_answered seat call a s.calls)
rest-is v s m pending seat call a calls same locks = ap (with_served v m pending) locks ∙ ap (λ (x : KernelState). with_served x m pending (locks_answered seat call a x.calls)) same

abbrev after : (g : Over) (c : After-attempt g) → Memory
after g c = record { world = world_seen c.attempt.new.world; spaces = c.self.inside.spaces.spaces }

-- what is answered, over the state as it was
serves-is : (g : Over) (c : After-attempt g) → Serves (record { world = world_seen c.self.inside.world; spaces = c.self.inside.spaces.spaces }) (after g c) c.self.inside.world.pending c.attempt.new.world.pending c.self.inside.calls c.args.process c.args.call.now c.attempt.result
serves-is g c = c.attempt.ensures.serves c.self.inside.spaces.spaces c.args.process (subst (λ (s : KernelState). MemoryFits s.memory) (sym c.self.view_is) c.requires.fits)

pub invariant_of-self : goal.invariant_of-self
invariant_of-self g c = (
  kept-served (record { world = world_seen c.self.inside.world; spaces = c.self.inside.spaces.spaces }) (after g c) c.self.inside.world.zeros c.attempt.new.world.zeros _ _ c.self.inside.calls _ _ _ _ _ c.self.invariant.0
      (subst (λ (zeros : List (Option ℕ)). KnowsZeros zeros c.self.inside.spaces.spaces) (sym (ap (λ w. w.zeros) c.attempt.ensures.rest)) c.self.invariant.0.known) (serves-is g c),
  c.self.invariant.1,
)

pub returns-clause-serves : goal.returns-clause-serves
returns-clause-serves g c = subst (λ (s : KernelState). Serves s.memory (after g c) s.pending c.attempt.new.world.pending s.calls c.args.process c.args.call.now c.attempt.result) c.self.view_is (serves-is g c)

pub returns-clause-waits : goal.returns-clause-waits
returns-clause-waits g c = λ t. subst (λ (s : KernelState). (c.attempt.result ≡ Busy (File t)) ↔ IsAnothers s.calls c.args.seat c.args.call.now t) c.self.view_is (c.attempt.ensures.waits t)

pub returns-clause-own : goal.returns-clause-own
returns-clause-own g c = file-answered c.args.self.now c.args.process c.args.call.now c.attempt.result c.attempt.ensures.own

pub returns-clause-places : goal.returns-clause-places
returns-clause-places g c = subst (λ (s : KernelState). length s.calls ≡ 64) c.self.view_is c.attempt.ensures.places

pub returns-clause-slots : goal.returns-clause-slots
returns-clause-slots g c = ap (λ w. w.anon) c.attempt.ensures.rest ∙ ap (λ (s : KernelState). s.memory.world.anon) c.self.view_is

pub returns-clause-spaces : goal.returns-clause-spaces
returns-clause-spaces g c = ap (λ (s : KernelState). s.memory.spaces) c.self.view_is

pub returns-clause-rest : goal.returns-clause-rest
returns-clause-rest g c =
    let pending = c.attempt.new.world.pending in
    rest-is _ c.args.self.now (after g c) pending c.args.seat c.args.call.now c.attempt.result c.attempt.new.locks c.self.view_is c.attempt.ensures.locks
