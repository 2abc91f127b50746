use Rattle.std.proofs.Common.{◌≡◌, length}
use Rattle.test_files.proofs.tests.new_disk.Given as goal

abbrev pub invariant-loop-n : goal.invariant-loop-n
invariant-loop-n l = length l.blocks.items ≡ 16
