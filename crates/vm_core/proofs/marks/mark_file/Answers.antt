use Rattle.std.proofs.Common.{ℕ, sym, subst, arith}
use Rattle.vm_core.specs.Marks.{AreMarkedTo}
use Rattle.vm_core.proofs.MarkRows.{file-marked}
use Rattle.vm_core.proofs.marks.mark_file.Goals as goal

pub loop-page-preserved : goal.loop-page-preserved
loop-page-preserved c = record {
  marked = λ seats was. c.mark_page.ensures seats (c.loop-page.invariant.marked seats was);
}

pub returns : goal.returns
returns c seats was =
    file-marked c.args.files.now seats c.loop-page.marks c.args.file
    (subst (λ (n : ℕ). AreMarkedTo c.args.files.now seats c.loop-page.marks c.args.file n)
    (let past = c.loop-page-test.false in let end = c.loop-page.auto.page-end in let kept = c.kept-page-end.ensures in omega (arith, past, end, kept))
    (c.loop-page.invariant.marked seats was))
