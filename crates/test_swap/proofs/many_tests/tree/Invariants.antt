use Rattle.std.proofs.Common.{◌≡◌, length}
use Rattle.test_swap.proofs.many_tests.tree.Given as goal

abbrev pub invariant-loop-place : goal.invariant-loop-place
invariant-loop-place l = length l.parents.items ≡ l.place
