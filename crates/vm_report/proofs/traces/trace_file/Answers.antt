use Rattle.std.proofs.Common.{append_assoc}
use Rattle.std.proofs.lemmas.Result.{on_ok_weaker}
use Rattle.vm_report.proofs.Appending.{joins, reads}
use Rattle.vm_report.proofs.traces.trace_file.Goals as goal

pub returns : goal.returns
returns c =
    record {
      new = on_ok_weaker c.end_line.result
          (λ last. reads c.args.out.now.items _ _ _
          (joins c.args.out.now.items _ _ _ _
          (joins c.args.out.now.items _ _ _ _
          (joins c.args.out.now.items _ _ _ _
          (joins c.args.out.now.items _ _ _ _
          (joins c.args.out.now.items _ _ _ _
          (joins c.args.out.now.items _ _ _ _
          (joins c.args.out.now.items _ _ _ _
          (joins c.args.out.now.items _ _ _ _
          (joins c.args.out.now.items _ _ _ _ c.in_ok-push_text.ensures c.in_ok-push_number.ensures)
          c.in_ok-push_space.ensures)
          c.in_ok-push_text-2.ensures)
          c.in_ok-push_mode.ensures)
          c.in_ok-push_argument.ensures)
          c.in_ok-push_argument-2.ensures)
          c.in_ok-push_space-2.ensures)
          c.in_ok-push_extents.ensures)
          last)
          (simp append_assoc))
          c.end_line.ensures;
    }
