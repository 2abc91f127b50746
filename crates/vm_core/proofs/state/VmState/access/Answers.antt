use Rattle.std.proofs.Common.{ℕ, List, [], Option, sym, subst, length}
use Rattle.fault_entry.specs.Answers.{attempt_of}
use Rattle.fault_entry.specs.vm_world.MemoryFits.{MemoryFits}
use Rattle.fault_entry.specs.vm_world.NotesFit.{NotesFit}
use Rattle.fault_entry.specs.vm_world.State.{KernelState}
use Rattle.fault_entry.specs.vm_world.World.{world_table, world_seen}
use Rattle.fault_entry.specs.vm_world.ZeroObjects.{KnowsZeros}
use Rattle.fault_entry.specs.seg_vn.Serves.{Serves}
use Rattle.fault_entry.specs.seg_vn.Spaces.{SpacesSeen}
use Rattle.vm_core.specs.Calls.{IsShownAfterCall, SlotsAfterCall, IsHitAfterCall}
use Rattle.vm_core.specs.State.{EachHasPlaces}
use Rattle.vm_core.proofs.Served.{access-hit, access-shown, access-slots, home-frame, kept-served, own-reply}
use Rattle.vm_core.proofs.state.VmState.access.Given.{Over}
use Rattle.vm_core.proofs.state.VmState.access.Goals.{After-answer}
use Rattle.vm_core.proofs.state.VmState.access.Goals as goal

pub answer-requires-clause-home : goal.answer-requires-clause-home
answer-requires-clause-home g c =
    let n = c.requires.noted in
    home-frame c.self.inside.world.store c.self.inside.world.zeros _ _ _ n.0 (world_table (world_seen c.self.inside.world)) c.self.invariant.0
    (subst (λ (s : KernelState). MemoryFits s.memory) (sym c.self.view_is) c.requires.fits).frames.sound
    (subst (λ (s : KernelState). NotesFit s.memory.world n.0) (sym c.self.view_is) n.1).stored

-- what is answered, over the state as it was
serves-is : (g : Over) (c : After-answer g) (calls : List (Option ℕ)) → Serves (record { world = world_seen c.self.inside.world; spaces = c.self.inside.spaces.spaces }) (record { world = world_seen c.answer.new.world; spaces = c.answer.new.spaces.spaces })
    c.self.inside.world.pending c.answer.new.world.pending calls c.args.process c.args.call.now (attempt_of c.answer.result)
serves-is g c calls =
    subst (λ (spaces : SpacesSeen). Serves (record { world = world_seen c.self.inside.world; spaces = c.self.inside.spaces.spaces }) (record { world = world_seen c.answer.new.world; spaces = spaces.spaces })
    c.self.inside.world.pending c.answer.new.world.pending calls c.args.process c.args.call.now (attempt_of c.answer.result)) (sym c.answer.ensures.spaces) (c.answer.ensures.serves calls)

pub invariant_of-self : goal.invariant_of-self
invariant_of-self g c = (
  kept-served (record { world = world_seen c.self.inside.world; spaces = c.self.inside.spaces.spaces }) (record { world = world_seen c.answer.new.world; spaces = c.answer.new.spaces.spaces }) c.self.inside.world.zeros c.answer.new.world.zeros _ _ [] _ _ _ _ _ c.self.invariant.0
      (subst (λ (spaces : SpacesSeen). KnowsZeros c.answer.new.world.zeros spaces.spaces) (sym c.answer.ensures.spaces) (subst (λ (zeros : List (Option ℕ)). KnowsZeros zeros c.self.inside.spaces.spaces) (sym c.answer.ensures.zeros) c.self.invariant.0.known)) (serves-is g c []),
  subst (λ (s : SpacesSeen). EachHasPlaces c.self.inside.parents.items s.processes (length c.self.inside.born.items) (length c.self.inside.syncs)) (sym c.answer.ensures.spaces) c.self.invariant.1,
)

pub returns-clause-serves : goal.returns-clause-serves
returns-clause-serves g c =
    subst (λ (s : KernelState). Serves s.memory (record { world = world_seen c.answer.new.world; spaces = c.answer.new.spaces.spaces }) s.pending c.answer.new.world.pending s.calls c.args.process c.args.call.now (attempt_of c.answer.result))
    c.self.view_is (serves-is g c c.self.inside.calls)

pub returns-clause-own : goal.returns-clause-own
returns-clause-own g c = own-reply c.args.self.now (record { world = world_seen c.answer.new.world; spaces = c.self.inside.spaces.spaces }) c.args.process c.args.call.now (attempt_of c.answer.result) c.answer.ensures.due

pub returns-clause-shown : goal.returns-clause-shown
returns-clause-shown g c =
    subst (λ (spaces : SpacesSeen). IsShownAfterCall (record { world = world_seen c.answer.new.world; spaces = spaces.spaces }) c.args.process c.args.call.now (attempt_of c.answer.result)) (sym c.answer.ensures.spaces)
    (access-shown (record { world = world_seen c.answer.new.world; spaces = c.self.inside.spaces.spaces }) c.args.process c.args.call.now (attempt_of c.answer.result) c.answer.ensures.shown)

pub returns-clause-slots : goal.returns-clause-slots
returns-clause-slots g c =
    subst (λ (s : KernelState). SlotsAfterCall s.memory (world_seen c.answer.new.world) c.args.process c.args.call.now (attempt_of c.answer.result)) c.self.view_is
    (access-slots (record { world = world_seen c.self.inside.world; spaces = c.self.inside.spaces.spaces }) (world_seen c.answer.new.world) c.args.process c.args.call.now (attempt_of c.answer.result) c.requires.access c.answer.ensures.slots)

pub returns-clause-hit : goal.returns-clause-hit
returns-clause-hit g c =
    subst (λ (s : KernelState). IsHitAfterCall s.memory (world_seen c.answer.new.world) c.args.process c.args.call.now (attempt_of c.answer.result)) c.self.view_is
    (access-hit (record { world = world_seen c.self.inside.world; spaces = c.self.inside.spaces.spaces }) (world_seen c.answer.new.world) c.args.process c.args.call.now (attempt_of c.answer.result) c.requires.access c.answer.ensures.hit)
