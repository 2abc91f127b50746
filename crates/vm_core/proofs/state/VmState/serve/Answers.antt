use Rattle.std.proofs.Common.{◌≡◌, ℕ, length, ap, sym, ◌∙◌, subst, arith}
use Rattle.std.specs.Prelude.{IsSome}
use Rattle.std.specs.FinMap as finite
use Rattle.fault_entry.specs.anon_slots.Slots.{AnonSlotsSeen, count_at}
use Rattle.fault_entry.specs.vm_types.declared.call.Call.{Call}
use Rattle.fault_entry.specs.vm_types.declared.call.Call.TheVariants.{Exit, Sync, Truncate}
use Rattle.fault_entry.specs.vm_world.Segments.{Spaces}
use Rattle.fault_entry.specs.seg_vn.Serves.{Serves}
use Rattle.fault_entry.specs.vm_world.State.{KernelState}
use Rattle.vm_core.specs.Answered.{MarksAfterCall}
use Rattle.vm_core.specs.Calls.{ConcernsMappings, IsShownAfterCall, SlotsAfterCall, IsHitAfterCall}
use Rattle.vm_core.proofs.Served.{no-exit, ok-always, plain-marks, same-marks}
use Rattle.vm_core.proofs.state.VmState.serve.Goals as goal

-- An Exit leaves no translation to be told, and lets slots fall alone.
pub returns-in-Exit-clause-shown : goal.returns-in-Exit-clause-shown
returns-in-Exit-clause-shown g c = subst (λ (x : Call). IsShownAfterCall c.exit.new.self.memory c.args.process x c.exit.result) (sym c.in-Exit.is) tt

pub returns-in-Exit-clause-slots : goal.returns-in-Exit-clause-slots
returns-in-Exit-clause-slots g c =
    subst (λ (x : Call). SlotsAfterCall c.args.self.now.memory c.exit.new.self.memory.world c.args.process x c.exit.result) (sym c.in-Exit.is) c.exit.ensures.fall

pub returns-in-Exit-clause-hit : goal.returns-in-Exit-clause-hit
returns-in-Exit-clause-hit g c = subst (λ (x : Call). IsHitAfterCall c.args.self.now.memory c.exit.new.self.memory.world c.args.process x c.exit.result) (sym c.in-Exit.is) tt

pub returns-in-Exit-clause-marks : goal.returns-in-Exit-clause-marks
returns-in-Exit-clause-marks g c =
    plain-marks c.args.self.now.memory c.exit.new.self.memory c.args.process c.args.call.now c.exit.result (length c.args.self.now.history) c.args.self.now.marks c.exit.new.self.marks
    (λ addr len x. let z : Exit ≡ Sync addr len = sym c.in-Exit.is ∙ x in cc) (λ f len x. let z : Exit ≡ Truncate f len = sym c.in-Exit.is ∙ x in cc) (ap (λ (s : KernelState). s.marks) c.exit.ensures.rest)

pub returns-in-Exit-clause-rest : goal.returns-in-Exit-clause-rest
returns-in-Exit-clause-rest g c = same-marks c.args.self.now c.exit.new.self c.exit.ensures.rest

-- A Sync leaves no translation to be told, makes no slot, and its process goes on.
pub returns-in-Sync-clause-serves : goal.returns-in-Sync-clause-serves
returns-in-Sync-clause-serves g c =
    subst (λ (x : Call). Serves c.args.self.now.memory c.sync.new.self.memory c.args.self.now.pending c.sync.new.self.pending c.args.self.now.calls c.args.process x c.sync.result) (sym c.in-Sync.is) c.sync.ensures.serves

pub returns-in-Sync-clause-shown : goal.returns-in-Sync-clause-shown
returns-in-Sync-clause-shown g c = subst (λ (x : Call). IsShownAfterCall c.sync.new.self.memory c.args.process x c.sync.result) (sym c.in-Sync.is) tt

pub returns-in-Sync-clause-slots : goal.returns-in-Sync-clause-slots
returns-in-Sync-clause-slots g c =
    subst (λ (x : Call). SlotsAfterCall c.args.self.now.memory c.sync.new.self.memory.world c.args.process x c.sync.result) (sym c.in-Sync.is)
    (λ slot. let same = ap (λ (a : AnonSlotsSeen). count_at a slot) c.sync.ensures.slots in omega (arith, same))

pub returns-in-Sync-clause-hit : goal.returns-in-Sync-clause-hit
returns-in-Sync-clause-hit g c = subst (λ (x : Call). IsHitAfterCall c.args.self.now.memory c.sync.new.self.memory.world c.args.process x c.sync.result) (sym c.in-Sync.is) tt

pub returns-in-Sync-clause-alive : goal.returns-in-Sync-clause-alive
returns-in-Sync-clause-alive g c = λ other. subst (λ (spaces : Spaces). IsSome (finite.get spaces c.args.process)) (sym c.sync.ensures.spaces) c.requires.alive

pub returns-in-Sync-clause-marks : goal.returns-in-Sync-clause-marks
returns-in-Sync-clause-marks g c = subst (λ (x : Call). MarksAfterCall c.args.self.now c.sync.new.self c.args.process x c.sync.result) (sym c.in-Sync.is) c.sync.ensures.marks

-- Else it is a call of a process that goes on.
pub map-requires-clause-served : goal.map-requires-clause-served
map-requires-clause-served g c = no-exit c.args.call.now c.requires.served c.in_default.not-Exit c.in_default.not-Sync

pub returns-in_default-clause-marks : goal.returns-in_default-clause-marks
returns-in_default-clause-marks g c = ok-always (MarksAfterCall c.args.self.now c.map.new.self c.args.process c.args.call.now) c.map.result
    (λ a. plain-marks c.args.self.now.memory c.map.new.self.memory c.args.process c.args.call.now a (length c.args.self.now.history) c.args.self.now.marks c.map.new.self.marks c.in_default.not-Sync (λ f len x. subst ConcernsMappings x c.requires.served)
    (ap (λ (s : KernelState). s.marks) c.map.ensures.rest))

pub returns-in_default-clause-rest : goal.returns-in_default-clause-rest
returns-in_default-clause-rest g c = same-marks c.args.self.now c.map.new.self c.map.ensures.rest
