use Rattle.std.proofs.Common.{length}
use Rattle.hash_chains.specs.Order.{chain_at, rest_from}
use Rattle.hash_chains.proofs.WalkLaws.{Hunts}
use Rattle.page_hash.specs.Names.{name_at, is_name}
use Rattle.page_hash.proofs.PageHash.holder.Given as goal

abbrev pub invariant-loop-at : goal.invariant-loop-at
invariant-loop-at l = Hunts (chain_at l.self-inside.chains.order l.slot) (λ k. is_name (name_at l.self-inside.names.items k) l.name) l.at

abbrev pub decreases-loop-at : goal.decreases-loop-at
decreases-loop-at l = length (rest_from l.at (chain_at l.self-inside.chains.order l.slot))
