use Rattle.std.proofs.Common.{sym, ◌∙◌, below_more}
use Rattle.kernel_close.proofs.Fills.{number-seen}
use Rattle.kernel_close.proofs.blanks.place_of.Goals as goal

pub loop-at-preserved : goal.loop-at-preserved
loop-at-preserved g c =
    below_more _ _ c.loop-at.invariant
    (λ e. c.if-disks-at.false (sym (number-seen g.D.Disk.seen c.args.disks.now c.loop-at.at c.index-disks-at.result c.loop-at-test.true) ∙ e))
