use Rattle.std.proofs.Common.{rules, ◌++◌, sym, ap, ◌∙◌, append-nil, arith}
use Rattle.vm_report.specs.Report.{file_line}
use Rattle.vm_report.proofs.FileLines.{file_lines_more, file_lines_step, no_lines}
use Rattle.vm_report.proofs.files.piece_lines.Goals as goal

pub loop-left-preserved : goal.loop-left-preserved
loop-left-preserved c = record {
  so_far =
      file_lines_more file_line c.loop-left.at c.loop-left.left.now c.split_at.result.0.now c.split_at.result.1.now c.loop-left.out.items _ _
      c.min-count.result (file_lines_step c.loop-left.at c.loop-left.left.now c.min-count.result (grind arith) (grind arith)) c.split_at.ensures.front c.split_at.ensures.back c.in_ok-file_line.ensures.new
      c.loop-left.invariant.so_far;
  place = search rules;
}

pub returns-then-are_zeros : goal.returns-then-are_zeros
returns-then-are_zeros c = record {
  new =
      sym (append-nil c.args.out.now.items)
      ∙ ap (λ lines. c.args.out.now.items ++ lines) (sym (no_lines c.args.offset c.args.piece.now (sym c.are_zeros.ensures ∙ c.if-are_zeros.true)));
}
