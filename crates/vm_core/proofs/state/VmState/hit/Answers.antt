use Rattle.std.proofs.Common.{ℕ, List, Option, sym, subst, length}
use Rattle.std.proofs.lemmas.Option.{IfSome_then}
use Rattle.fault_entry.specs.Answers.{attempt_of}
use Rattle.fault_entry.specs.vm_world.State.{KernelState}
use Rattle.fault_entry.specs.vm_world.World.{world_seen}
use Rattle.fault_entry.specs.vm_world.ZeroObjects.{KnowsZeros}
use Rattle.fault_entry.specs.seg_vn.Serves.{Serves}
use Rattle.vm_core.specs.Calls.{IsShownAfterCall, SlotsAfterCall, IsHitAfterCall}
use Rattle.vm_core.proofs.Served.{access-hit, access-shown, access-slots, kept-hit, own-reply}
use Rattle.vm_core.proofs.state.VmState.hit.Goals as goal

pub invariant_of-self : goal.invariant_of-self
invariant_of-self g c = (
  kept-hit c.self.inside.world c.answer_hit.new.world c.self.inside.spaces.spaces c.args.process c.args.call.now c.answer_hit.result _ _ c.self.invariant.0
      (subst (λ (zeros : List (Option ℕ)). KnowsZeros zeros c.self.inside.spaces.spaces) (sym c.answer_hit.ensures.zeros) c.self.invariant.0.known) c.answer_hit.ensures.serves c.answer_hit.ensures.none,
  c.self.invariant.1,
)

pub returns-clause-serves : goal.returns-clause-serves
returns-clause-serves g c = IfSome_then c.answer_hit.result c.answer_hit.ensures.serves (λ a h.
    subst (λ (s : KernelState). Serves s.memory (record { world = world_seen c.answer_hit.new.world; spaces = c.self.inside.spaces.spaces }) s.pending c.answer_hit.new.world.pending s.calls c.args.process c.args.call.now (attempt_of a))
    c.self.view_is (h c.self.inside.calls))

pub returns-clause-own : goal.returns-clause-own
returns-clause-own g c = IfSome_then c.answer_hit.result c.answer_hit.ensures.due (λ a h.
    own-reply c.args.self.now (record { world = world_seen c.answer_hit.new.world; spaces = c.self.inside.spaces.spaces }) c.args.process c.args.call.now (attempt_of a) h.1)

pub returns-clause-kind : goal.returns-clause-kind
returns-clause-kind g c = IfSome_then c.answer_hit.result c.answer_hit.ensures.due (λ a h. h.0)

pub returns-clause-shown : goal.returns-clause-shown
returns-clause-shown g c = IfSome_then c.answer_hit.result c.answer_hit.ensures.shown (λ a h.
    access-shown (record { world = world_seen c.answer_hit.new.world; spaces = c.self.inside.spaces.spaces }) c.args.process c.args.call.now (attempt_of a) h)

pub returns-clause-slots : goal.returns-clause-slots
returns-clause-slots g c = IfSome_then c.answer_hit.result c.answer_hit.ensures.slots (λ a h.
    subst (λ (s : KernelState). SlotsAfterCall s.memory (world_seen c.answer_hit.new.world) c.args.process c.args.call.now (attempt_of a)) c.self.view_is
    (access-slots (record { world = world_seen c.self.inside.world; spaces = c.self.inside.spaces.spaces }) (world_seen c.answer_hit.new.world) c.args.process c.args.call.now (attempt_of a) c.requires.access h))

pub returns-clause-hit : goal.returns-clause-hit
returns-clause-hit g c = IfSome_then c.answer_hit.result c.answer_hit.ensures.hit (λ a h.
    subst (λ (s : KernelState). IsHitAfterCall s.memory (world_seen c.answer_hit.new.world) c.args.process c.args.call.now (attempt_of a)) c.self.view_is
    (access-hit (record { world = world_seen c.self.inside.world; spaces = c.self.inside.spaces.spaces }) (world_seen c.answer_hit.new.world) c.args.process c.args.call.now (attempt_of a) c.requires.access h))
