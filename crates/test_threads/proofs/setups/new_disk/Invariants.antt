use Rattle.std.proofs.Common.{◌≡◌, length}
use Rattle.test_threads.proofs.setups.new_disk.Given as goal

abbrev pub invariant-loop-n : goal.invariant-loop-n
invariant-loop-n l = length l.blocks.items ≡ 16
