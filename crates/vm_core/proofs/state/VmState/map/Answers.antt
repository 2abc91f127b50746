use Rattle.std.proofs.Common.{ℕ, [], sym, ap, subst, ◌∙◌, length}
use Rattle.std.specs.Prelude.{IfOk}
use Rattle.fault_entry.proofs.flat_model.Maps.{on_err_any}
use Rattle.fault_entry.specs.seg_vn.Serves.{Serves}
use Rattle.fault_entry.specs.vm_world.CallSteps.{StaysAlive}
use Rattle.fault_entry.specs.vm_world.FlatMemory.{Memory}
use Rattle.fault_entry.specs.vm_world.MemoryFits.{MemoryFits}
use Rattle.fault_entry.specs.vm_world.Segments.{Spaces}
use Rattle.fault_entry.specs.vm_world.State.{KernelState}
use Rattle.fault_entry.specs.vm_world.World.{world_seen}
use Rattle.vm_core.specs.Calls.{IsOwnReply, TakesMemory}
use Rattle.vm_core.specs.State.{EachHasPlaces}
use Rattle.vm_core.proofs.Served.{AfterMapping, after-mapping, changing-is, mapping-memory, mapped-own, ok-then, ok-always, err-then, kept-result, same-again}
use Rattle.vm_core.proofs.state.VmState.map.Given.{Over}
use Rattle.vm_core.proofs.state.VmState.map.Goals.{After-attempt}
use Rattle.vm_core.proofs.state.VmState.map.Goals as goal

pub attempt-requires-clause-fits : goal.attempt-requires-clause-fits
attempt-requires-clause-fits g c = subst (λ (s : KernelState). MemoryFits s.memory) (sym c.self.view_is) c.requires.fits

pub attempt-requires-clause-served : goal.attempt-requires-clause-served
attempt-requires-clause-served g c = changing-is c.args.call.now c.requires.served

abbrev before : (g : Over) (c : After-attempt g) → Memory
before g c = record { world = world_seen c.self.inside.world; spaces = c.self.inside.spaces.spaces }

abbrev after : (g : Over) (c : After-attempt g) → Memory
after g c = record { world = world_seen c.attempt.new.world; spaces = c.attempt.new.spaces.spaces }

pub invariant_of-self : goal.invariant_of-self
invariant_of-self g c = (
  kept-result (before g c) (after g c) c.self.inside.world.zeros c.attempt.new.world.zeros c.self.inside.world.pending c.attempt.new.world.pending [] c.args.process c.args.call.now c.attempt.result _ _ c.self.invariant.0 c.attempt.ensures.zeros (ok-then _ _ c.attempt.result (λ a serves. serves []) c.attempt.ensures.done)
      (err-then _ _ c.attempt.result (λ e. ap (λ w. record { world = world_seen w; spaces = c.attempt.new.spaces.spaces }) e.0 ∙ ap (λ (x : Spaces). record { world = world_seen c.self.inside.world; spaces = x }) e.1) c.attempt.ensures.err),
  subst (λ (n : ℕ). EachHasPlaces c.self.inside.parents.items n (length c.self.inside.born.items) (length c.self.inside.syncs)) (sym c.attempt.ensures.processes) c.self.invariant.1,
)

pub returns-clause-serves : goal.returns-clause-serves
returns-clause-serves g c =
    subst (λ (s : KernelState). IfOk c.attempt.result (λ a. Serves s.memory (after g c) s.pending c.attempt.new.world.pending s.calls c.args.process c.args.call.now a)) c.self.view_is (ok-then _ _ c.attempt.result (λ a serves. serves c.self.inside.calls) c.attempt.ensures.done)

-- what a mapping call leaves beside its answer
left : (g : Over) (c : After-attempt g) → IfOk c.attempt.result (AfterMapping c.args.self.now.memory (after g c) c.args.process c.args.call.now)
left g c =
    subst (λ (s : KernelState). IfOk c.attempt.result (AfterMapping s.memory (after g c) c.args.process c.args.call.now)) c.self.view_is
    (ok-then _ _ c.attempt.result (λ a fall. after-mapping (before g c) (after g c) c.args.process c.args.call.now a c.requires.served fall) c.attempt.ensures.fall)

pub returns-clause-shown : goal.returns-clause-shown
returns-clause-shown g c = ok-then _ _ c.attempt.result (λ a l. l.shown) (left g (goal.at.returns-clause-shown g c).After-attempt)

pub returns-clause-slots : goal.returns-clause-slots
returns-clause-slots g c = ok-then _ _ c.attempt.result (λ a l. l.slots) (left g (goal.at.returns-clause-slots g c).After-attempt)

pub returns-clause-hit : goal.returns-clause-hit
returns-clause-hit g c = ok-then _ _ c.attempt.result (λ a l. l.hit) (left g (goal.at.returns-clause-hit g c).After-attempt)

pub returns-clause-memory : goal.returns-clause-memory
returns-clause-memory g c = on_err_any c.attempt.result (TakesMemory c.args.call.now) (mapping-memory c.args.call.now c.requires.served)

pub returns-clause-own : goal.returns-clause-own
returns-clause-own g c = ok-then _ (IsOwnReply c.args.self.now c.args.process c.args.call.now) c.attempt.result (λ a answer. mapped-own c.args.self.now c.args.process _ c.args.call.now a c.requires.served answer) c.attempt.ensures.answer

pub returns-clause-alive : goal.returns-clause-alive
returns-clause-alive g c = ok-always (λ a. StaysAlive (after g c) c.args.process c.args.call.now) c.attempt.result (λ a other. c.attempt.ensures.alive)

pub returns-clause-err : goal.returns-clause-err
returns-clause-err g c =
    err-then _ _ c.attempt.result
    (λ e. same-again _ c.args.self.now (after g c) c.attempt.new.world.pending c.self.view_is
    (ap (λ w. record { world = world_seen w; spaces = c.attempt.new.spaces.spaces }) e.0 ∙ ap (λ (x : Spaces). record { world = world_seen c.self.inside.world; spaces = x }) e.1)
    (ap (λ w. w.pending) e.0)) c.attempt.ensures.err
