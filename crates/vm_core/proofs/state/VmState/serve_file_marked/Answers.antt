use Rattle.std.proofs.Common.{◌≡◌, ℕ, suc, ◌<◌, length, sym, ap, ◌∙◌, subst}
use Rattle.fault_entry.specs.flat_model.Told.{entries_of}
use Rattle.fault_entry.specs.seg_vn.Serves.{Serves}
use Rattle.fault_entry.specs.vm_world.FlatMemory.{Memory}
use Rattle.fault_entry.specs.vm_world.Marks.{MarksSeen}
use Rattle.fault_entry.specs.vm_world.State.{KernelState, room_of}
use Rattle.file_calls.specs.Locks.{locks_answered}
use Rattle.vm_core.specs.Answered.{MarksAfterAnswer, marks_cut_from}
use Rattle.vm_core.proofs.AnsweredMarks.{cut-due, had-pages}
use Rattle.vm_core.proofs.Served.{marked-served}
use Rattle.vm_core.proofs.state.VmState.serve_file_marked.Goals as goal

pub cut_answered-requires-clause-room : goal.cut_answered-requires-clause-room
cut_answered-requires-clause-room g c =
    subst (λ (x : KernelState). length (entries_of x.history c.args.process) < room_of x.entries c.args.process) (sym c.serve_file-attempt.ensures.rest) c.requires.room

pub cut_answered-requires-clause-cut : goal.cut_answered-requires-clause-cut
cut_answered-requires-clause-cut g c =
    let s = c.args.self.now in
    let t = c.serve_file-attempt.new.self in
    had-pages s.memory t.memory s.pending t.pending s.calls c.args.process c.args.call.now c.serve_file-attempt.result c.length_before-before.result c.requires.fits.files c.serve_file-attempt.ensures.serves c.length_before-before.ensures

pub returns-clause-serves : goal.returns-clause-serves
returns-clause-serves g c =
    let s = c.args.self.now in
    subst (λ (x : KernelState). Serves s.memory x.memory s.pending x.pending s.calls c.args.process c.args.call.now c.serve_file-attempt.result) (sym c.cut_answered.ensures) c.serve_file-attempt.ensures.serves

pub returns-clause-marks : goal.returns-clause-marks
returns-clause-marks g c =
    let s = c.args.self.now in
    let t = c.serve_file-attempt.new.self in
    let u = c.cut_answered.new.self in
    let a = c.serve_file-attempt.result in
    let before = c.length_before-before.result in
    let memory : u.memory ≡ t.memory = ap (λ (x : KernelState). x.memory) c.cut_answered.ensures in
    let left : u.marks ≡ marks_cut_from t.memory.world.files c.args.call.now a before (suc (length t.history)) t.marks = ap (λ (x : KernelState). x.marks) c.cut_answered.ensures in
    let marks : u.marks ≡ marks_cut_from t.memory.world.files c.args.call.now a before (suc (length s.history)) s.marks =
    left ∙ ap (λ (x : KernelState). marks_cut_from t.memory.world.files c.args.call.now a before (suc (length x.history)) x.marks) c.serve_file-attempt.ensures.rest in
    subst (λ (x : Memory × MarksSeen). MarksAfterAnswer s.memory x.0 c.args.process c.args.call.now a (length s.history) s.marks x.1)
    {x = (t.memory, marks_cut_from t.memory.world.files c.args.call.now a before (suc (length s.history)) s.marks)} {y = (u.memory, u.marks)} (λ i. (sym memory i, sym marks i))
    (cut-due s.memory t.memory s.pending t.pending s.calls c.args.process c.args.call.now a before (length s.history) s.marks c.requires.file c.requires.fits.files c.serve_file-attempt.ensures.serves c.length_before-before.ensures)

pub returns-clause-slots : goal.returns-clause-slots
returns-clause-slots g c = ap (λ (x : KernelState). x.memory.world.anon) c.cut_answered.ensures ∙ c.serve_file-attempt.ensures.slots

pub returns-clause-spaces : goal.returns-clause-spaces
returns-clause-spaces g c = ap (λ (x : KernelState). x.memory.spaces) c.cut_answered.ensures ∙ c.serve_file-attempt.ensures.spaces

pub returns-clause-rest : goal.returns-clause-rest
returns-clause-rest g c =
    let s = c.args.self.now in
    let t = c.serve_file-attempt.new.self in
    let u = c.cut_answered.new.self in
    marked-served s t u (locks_answered c.args.seat c.args.call.now c.serve_file-attempt.result s.calls) c.serve_file-attempt.ensures.rest
    (c.cut_answered.ensures ∙ ap (λ (m : MarksSeen). record t { marks = m }) (sym (ap (λ (x : KernelState). x.marks) c.cut_answered.ensures)))
