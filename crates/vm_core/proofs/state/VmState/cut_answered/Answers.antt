use Rattle.std.proofs.Common.{rules, ◌≡◌}
use Rattle.fault_entry.specs.seg_vn.declared.attempt.Attempt.TheVariants.{Done}
use Rattle.fault_entry.specs.vm_types.declared.call.Reply.TheVariants as reply
use Rattle.vm_core.proofs.AnsweredMarks.{cut-done}
use Rattle.vm_core.proofs.state.VmState.cut_answered.Goals as goal

pub returns-then-length-before : goal.returns-then-length-before
returns-then-length-before g c =
    let done : c.args.attempt.now ≡ Done reply.Done = search rules in
    cut-done _ c.args.self.now c.cut_marks.new.marks c.args.call.now c.args.attempt.now c.in-Truncate.file c.in-Truncate.length c.args.before c.next-entries.result c.self.view_is c.in-Truncate.is done
    c.if-length-before.true c.next-entries.ensures c.cut_marks.ensures
