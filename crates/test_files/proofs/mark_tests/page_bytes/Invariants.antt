use Rattle.std.proofs.Common.{◌≡◌, length}
use Rattle.test_files.proofs.mark_tests.page_bytes.Given as goal

abbrev pub invariant-loop-place : goal.invariant-loop-place
invariant-loop-place l = length l.bytes.items ≡ l.count
