use Rattle.std.proofs.Common.{◌≡◌, ◌≤◌, ◌-◌, vec_len}
use Rattle.block_device.specs.StreamSeen.{Came}
use Rattle.block_device.proofs.reading.read_to_limit.Given as goal

abbrev pub invariant-loop-piece : goal.invariant-loop-piece
invariant-loop-piece g l = record {
  came : Came (g.S.Source.seen l.fn.source).rest l.all.items (g.S.Source.seen l.source).rest;
  within : vec_len l.all ≤ l.limit;
  steady : (g.S.Source.seen l.source).faults ≡ (g.S.Source.seen l.fn.source).faults;
}

abbrev pub decreases-loop-piece : goal.decreases-loop-piece
decreases-loop-piece g l = l.limit - vec_len l.all
