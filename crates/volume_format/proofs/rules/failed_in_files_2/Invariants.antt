use Rattle.std.proofs.Common.{◌≡◌, ◌≢◌, ◌<◌, ◌≤◌, ◌-◌, ◌++◌}
use Rattle.std.specs.List.{flat_map, range_with_len}
use Rattle.volume_format.specs.Layout.{file_count, first_extent, extent_count}
use Rattle.volume_format.specs.Rules.{first_failed, entry_tests_2, end_tests_2, extents_before}
use Rattle.volume_format.proofs.rules.failed_in_files_2.Given as goal

abbrev pub invariant-loop-i : goal.invariant-loop-i
invariant-loop-i l = record {
  before : l.before ≡ extents_before l.block l.i;
  few : l.before ≤ extent_count l.block;
  earlier : l.i ≢ 0 → first_extent l.block (l.i - 1) < 252;
  rest : first_failed (flat_map (entry_tests_2 l.block l.blocks) (range_with_len 0 (file_count l.block)) ++ end_tests_2 l.block)
      ≡ first_failed (flat_map (entry_tests_2 l.block l.blocks) (range_with_len l.i (file_count l.block - l.i)) ++ end_tests_2 l.block);
}
