use Rattle.std.specs.Prelude.{ℕ, Ok}
use Rattle.std.specs.Ordering.{nat_cmp}
use Rattle.std.specs.FinMap as finite
use Rattle.std.proofs.Common.{◌∙◌, subst}
use Rattle.volume_format.specs.vnode_files.Files.{block_count}
use Rattle.volume_files.specs.Opened.{with_line_file, with_line_files}
use Rattle.volume_files.specs.Placing.{Gave}
use Rattle.volume_files.proofs.FileLineLemmas.{gave-step}
use Rattle.volume_files.proofs.file_lines.add_lines.Goals as goal

pub loop-line-preserved : goal.loop-line-preserved
loop-line-preserved c = record {
  disks = c.add_line.ensures.disks ∙ c.loop-line.invariant.disks;
  lie = c.add_line.ensures.lie;
  placed = λ before opened.
      let sizes = block_count c.args.files.now.disks in
      let p = c.loop-line.invariant.placed before opened in
      let gave : Gave c.add_line.new.files (with_line_file sizes p.0 c.line-item.result.act) =
      subst (λ (m : finite.FinMap nat_cmp ℕ). Gave c.add_line.new.files (with_line_file (block_count m) p.0 c.line-item.result.act))
      c.loop-line.invariant.disks (c.in_ok-add_line.ensures.placed p.0 p.1) in
      gave-step sizes c.add_line.new.files p.0 c.args.setup.now c.loop-line.line-index c.line-item.result (with_line_files sizes (Ok before) c.args.setup.now)
      c.loop-line-test.true c.line-item.is gave p.2;
}
