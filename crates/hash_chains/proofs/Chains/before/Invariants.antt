use Rattle.std.proofs.Common.{length}
use Rattle.hash_chains.specs.Order.{chain_at, rest_from}
use Rattle.hash_chains.proofs.WalkLaws.{Seeks}
use Rattle.hash_chains.proofs.Chains.before.Given as goal

abbrev pub invariant-loop-at : goal.invariant-loop-at
invariant-loop-at l = Seeks (chain_at l.self.order l.chain) l.place l.before l.at

abbrev pub decreases-loop-at : goal.decreases-loop-at
decreases-loop-at l = length (rest_from l.at (chain_at l.self.order l.chain))
