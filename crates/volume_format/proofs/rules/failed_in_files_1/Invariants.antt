use Rattle.std.proofs.Common.{◌≡◌, ◌-◌, ◌++◌}
use Rattle.std.specs.List.{flat_map, range_with_len}
use Rattle.volume_format.specs.Layout.{file_count}
use Rattle.volume_format.specs.Rules.{first_failed, entry_tests_1, end_tests_1}
use Rattle.volume_format.proofs.rules.failed_in_files_1.Given as goal

abbrev pub invariant-loop-i : goal.invariant-loop-i
invariant-loop-i l =
    first_failed (flat_map (entry_tests_1 l.block l.blocks) (range_with_len 0 (file_count l.block)) ++ end_tests_1 l.block)
    ≡ first_failed (flat_map (entry_tests_1 l.block l.blocks) (range_with_len l.i (file_count l.block - l.i)) ++ end_tests_1 l.block)
