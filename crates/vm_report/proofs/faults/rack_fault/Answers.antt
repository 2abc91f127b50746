use Rattle.std.proofs.Common.{append_assoc}
use Rattle.std.proofs.lemmas.Result.{on_ok_weaker}
use Rattle.vm_report.proofs.Appending.{joins, reads}
use Rattle.vm_report.proofs.faults.rack_fault.Goals as goal

pub returns : goal.returns
returns c =
    record {
      new = on_ok_weaker c.end_line.result
          (λ last. reads c.args.out.now.items _ _ _
          (joins c.args.out.now.items _ _ _ _ (joins c.args.out.now.items _ _ _ _ c.in_ok-push_text.ensures c.in_ok-push_number.ensures) last)
          (simp append_assoc))
          c.end_line.ensures;
    }
