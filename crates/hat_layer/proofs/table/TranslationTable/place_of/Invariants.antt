use Rattle.std.proofs.Common.{length, get_or, None}
use Rattle.hash_chains.specs.Order.{chain_at, rest_from}
use Rattle.hash_chains.proofs.WalkLaws.{Hunts}
use Rattle.hat_layer.specs.Pool.{holds}
use Rattle.hat_layer.proofs.table.TranslationTable.place_of.Given as goal

abbrev pub invariant-loop-at : goal.invariant-loop-at
invariant-loop-at l = Hunts (chain_at l.self-inside.by_page.order l.slot) (λ k. holds l.space l.page (get_or l.self-inside.cells.items k None)) l.at

abbrev pub decreases-loop-at : goal.decreases-loop-at
decreases-loop-at l = length (rest_from l.at (chain_at l.self-inside.by_page.order l.slot))
