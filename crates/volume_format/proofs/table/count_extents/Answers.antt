use Rattle.std.proofs.Common.{List, length, ap, arith}
use Rattle.vnode_files.specs.declared.extent.Extent.{Extent}
use Rattle.volume_format.proofs.TableLemmas.{counts}
use Rattle.volume_format.proofs.table.count_extents.Goals as goal

pub overflow_add-count : goal.overflow_add-count
overflow_add-count c =
    let n = counts c.args.entries.now c.loop-entry.entry-index c.entry-item.result c.loop-entry-test.true c.entry-item.is in
    let listed = ap (λ (es : List Extent). length es) c.list.ensures in
    omega (arith, n.within, listed, c.loop-entry.invariant)
