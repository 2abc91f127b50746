use Rattle.std.proofs.Common.{◌<◌, ◌∙◌, ap, length, arith, rules}
use Rattle.std.specs.Prelude.{slice_set}
use Rattle.vm_script.proofs.FileLines.{over_more}
use Rattle.vm_script.proofs.plan.Plan.set_files.Goals as goal

pub loop-line-preserved : goal.loop-line-preserved
loop-line-preserved c =
    let below : c.loop-line.line-index < length c.loop-line.line-items = first_of (omega arith, search rules) in
    ap (slice_set c.loop-line.line-items c.loop-line.line-index) c.set_line_file.ensures
    ∙ over_more c.args.names.now c.deref_mut-line-items.result.now c.loop-line.line-items c.loop-line.line-index c.line-item.result below c.loop-line.invariant
