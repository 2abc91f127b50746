use Rattle.std.proofs.Common.{◌≡◌, length}
use Rattle.std.specs.Prelude.{◌||◌}
use Rattle.std.specs.List.{list_any}
use Rattle.hat_layer.specs.Pool.{change_frame, with_clear_bits, has_bit}
use Rattle.hash_chains.specs.Order.{chain_at, rest_from}
use Rattle.hat_layer.proofs.FrameLemmas.{Clears}
use Rattle.hat_layer.proofs.table.clear_all.Given as goal

abbrev pub invariant-loop-at : goal.invariant-loop-at
invariant-loop-at l = record {
  clears : Clears l.cells.items (chain_at l.by_frame.order l.frame) l.frame l.at;
  rest : change_frame l.frame with_clear_bits l.cells.items ≡ change_frame l.frame with_clear_bits l.initial.cells.items;
  bits_r : (l.referenced || list_any (has_bit (λ t. t.referenced) l.frame) l.cells.items) ≡ list_any (has_bit (λ t. t.referenced) l.frame) l.initial.cells.items;
  bits_m : (l.modified || list_any (has_bit (λ t. t.modified) l.frame) l.cells.items) ≡ list_any (has_bit (λ t. t.modified) l.frame) l.initial.cells.items;
}

abbrev pub decreases-loop-at : goal.decreases-loop-at
decreases-loop-at l = length (rest_from l.at (chain_at l.by_frame.order l.frame))
