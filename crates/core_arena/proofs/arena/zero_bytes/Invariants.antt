use Rattle.std.proofs.Common.{◌≡◌, ◌-◌, ◌≤◌, length, replicate, vec_len}
use Rattle.core_arena.proofs.arena.zero_bytes.Given as goal

abbrev pub invariant-loop-bytes : goal.invariant-loop-bytes
invariant-loop-bytes l = (l.bytes.items ≡ replicate (length l.bytes.items) 0) × (length l.bytes.items ≤ l.fn.size)

abbrev pub decreases-loop-bytes : goal.decreases-loop-bytes
decreases-loop-bytes l = l.fn.size - vec_len l.bytes
