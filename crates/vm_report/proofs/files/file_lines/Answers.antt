use Rattle.std.proofs.Common.{rules, arith}
use Rattle.vm_report.specs.Report.{file_lines}
use Rattle.vm_report.proofs.FileLines.{file_lines_more, file_lines_piece}
use Rattle.vm_report.proofs.files.file_lines.Goals as goal

pub loop-left-preserved : goal.loop-left-preserved
loop-left-preserved c = record {
  so_far =
      file_lines_more file_lines c.loop-left.at c.loop-left.left.now c.split_at.result.0.now c.split_at.result.1.now c.loop-left.out.items _ _
      c.min-count.result (file_lines_piece c.loop-left.at c.loop-left.left.now c.min-count.result (grind arith)) c.split_at.ensures.front
      c.split_at.ensures.back c.in_ok-piece_lines.ensures.new c.loop-left.invariant.so_far;
  place = search rules;
}
