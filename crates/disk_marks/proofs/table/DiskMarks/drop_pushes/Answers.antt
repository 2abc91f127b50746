use Rattle.std.proofs.Common.{◌≡◌, ◌<◌, length, ap, ◌∙◌, arith, rules}
use Rattle.std.specs.Prelude.{slice_set}
use Rattle.disk_marks.specs.Changes.{push_dropped}
use Rattle.disk_marks.proofs.Loops.{one_more}
use Rattle.disk_marks.proofs.table.DiskMarks.drop_pushes.Goals as goal

pub loop-push-preserved : goal.loop-push-preserved
loop-push-preserved c =
    let below : c.loop-push.push-index < length c.loop-push.push-items = first_of (omega arith, search rules) in
    ap (slice_set c.loop-push.push-items c.loop-push.push-index) c.dropped.ensures
    ∙ one_more (push_dropped c.args.file c.args.page) c.deref_mut-push-items.result.now c.loop-push.push-items c.loop-push.push-index _ below c.loop-push.invariant
