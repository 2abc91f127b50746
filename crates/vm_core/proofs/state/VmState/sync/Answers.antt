use Rattle.std.proofs.Common.{◌≡◌, ℕ, length, sym, ap, ◌∙◌, subst}
use Rattle.std.specs.Prelude.{IsSome}
use Rattle.std.specs.FinMap as finite
use Rattle.fault_entry.specs.seg_vn.Serves.{Serves}
use Rattle.fault_entry.specs.seg_vn.declared.attempt.Attempt.{Attempt}
use Rattle.fault_entry.specs.vm_types.declared.call.Call.TheVariants.{Sync}
use Rattle.fault_entry.specs.vm_world.Marks.{MarksSeen}
use Rattle.fault_entry.specs.vm_world.Segments.{Spaces}
use Rattle.fault_entry.specs.vm_world.State.{KernelState}
use Rattle.vm_core.specs.Answered.{MarksAfterAnswer}
use Rattle.vm_core.proofs.Served.{marked-rest}
use Rattle.vm_core.proofs.state.VmState.sync.Goals as goal

pub raise_answered-requires-clause-alive : goal.raise_answered-requires-clause-alive
raise_answered-requires-clause-alive g c = subst (λ (spaces : Spaces). IsSome (finite.get spaces c.args.process)) (sym c.clean-attempt.ensures.spaces) c.requires.alive

pub raise_answered-requires-clause-fits : goal.raise_answered-requires-clause-fits
raise_answered-requires-clause-fits g c from is =
    ((subst (λ (a : Attempt). Serves c.args.self.now.memory c.clean-attempt.new.self.memory c.args.self.now.pending c.clean-attempt.new.self.pending c.args.self.now.calls c.args.process (Sync c.args.addr c.args.bytes) a) is c.clean-attempt.ensures.serves).acts 0).memory

pub returns-clause-serves : goal.returns-clause-serves
returns-clause-serves g c =
    subst (λ (x : KernelState). Serves c.args.self.now.memory x.memory c.args.self.now.pending x.pending c.args.self.now.calls c.args.process (Sync c.args.addr c.args.bytes) c.clean-attempt.result)
    (sym c.raise_answered.ensures.rest) c.clean-attempt.ensures.serves

pub returns-clause-marks : goal.returns-clause-marks
returns-clause-marks g c =
    let s = c.args.self.now in
    let t = c.clean-attempt.new.self in
    let u = c.raise_answered.new.self in
    let history : length t.history ≡ length s.history = ap (λ (x : KernelState). length x.history) c.clean-attempt.ensures.rest in
    let marks : t.marks ≡ s.marks = ap (λ (x : KernelState). x.marks) c.clean-attempt.ensures.rest in
    subst (λ (x : ℕ × MarksSeen). MarksAfterAnswer s.memory u.memory c.args.process (Sync c.args.addr c.args.bytes) c.clean-attempt.result x.0 x.1 u.marks) {x = (length t.history, t.marks)} {y = (length s.history, s.marks)} (λ i. (history i, marks i))
    (c.raise_answered.ensures.marks s.memory)

pub returns-clause-slots : goal.returns-clause-slots
returns-clause-slots g c = ap (λ (x : KernelState). x.memory.world.anon) c.raise_answered.ensures.rest ∙ c.clean-attempt.ensures.slots

pub returns-clause-spaces : goal.returns-clause-spaces
returns-clause-spaces g c = ap (λ (x : KernelState). x.memory.spaces) c.raise_answered.ensures.rest ∙ c.clean-attempt.ensures.spaces

pub returns-clause-rest : goal.returns-clause-rest
returns-clause-rest g c = marked-rest c.args.self.now c.clean-attempt.new.self c.raise_answered.new.self c.clean-attempt.ensures.rest c.raise_answered.ensures.rest
