use Rattle.std.proofs.Common.{ℕ, subst, arith}
use Rattle.vm_core.specs.Marks.{AreMarkedTo}
use Rattle.vm_core.proofs.MarkRows.{none-marked, all-marked}
use Rattle.vm_core.proofs.marks.opening_marks.Goals as goal

pub loop-file-init : goal.loop-file-init
loop-file-init c = record {
  marked = none-marked c.args.files.now c.disk_sizes.result c.args.seats c.disk_sizes.ensures.eight c.disk_sizes.ensures.sizes c.requires.numbers c.in_ok-marks.marks c.in_ok-marks.ensures;
}

pub loop-file-preserved : goal.loop-file-preserved
loop-file-preserved c = record { marked = c.mark_file.ensures c.args.seats c.loop-file.invariant.marked }

pub returns : goal.returns
returns c =
    all-marked c.args.files.now c.args.seats c.loop-file.marks
    (subst (λ (n : ℕ). AreMarkedTo c.args.files.now c.args.seats c.loop-file.marks n 0)
    (let past = c.loop-file-test.false in let end = c.loop-file.auto.file-end in let count = c.count-file-end.ensures.count in omega (arith, past, end, count))
    c.loop-file.invariant.marked)
