use Rattle.std.proofs.Common.{◌≡◌, length}
use Rattle.std.specs.Prelude.{◌||◌, vec_capacity}
use Rattle.std.specs.List.{list_any, count_by}
use Rattle.hat_layer.specs.Pool.{IsSingleValued, leads, drop_frame, has_bit}
use Rattle.hat_layer.specs.Table.{LeadsToFrame}
use Rattle.hat_layer.specs.Free.{IsSoundHat}
use Rattle.hat_layer.proofs.hat.unload_all.Given as goal

abbrev pub invariant-loop-at : goal.invariant-loop-at
invariant-loop-at l = record {
  fits : IsSoundHat l.table.places l.free.items (vec_capacity l.free) l.hand;
  frames : l.table.frames ≡ l.initial.table.frames;
  size : length l.table.places ≡ length l.initial.table.places;
  distinct : IsSingleValued l.table.places;
  leads_to : LeadsToFrame l.table.places l.frame l.at;
  rest : drop_frame l.frame l.table.places ≡ drop_frame l.frame l.initial.table.places;
  bits_r : (l.referenced || list_any (has_bit (λ t. t.referenced) l.frame) l.table.places) ≡ list_any (has_bit (λ t. t.referenced) l.frame) l.initial.table.places;
  bits_m : (l.modified || list_any (has_bit (λ t. t.modified) l.frame) l.table.places) ≡ list_any (has_bit (λ t. t.modified) l.frame) l.initial.table.places;
}

abbrev pub decreases-loop-at : goal.decreases-loop-at
decreases-loop-at l = count_by (leads l.frame) l.table.places
