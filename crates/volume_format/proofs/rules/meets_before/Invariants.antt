use Rattle.std.proofs.Common.{◌≡◌, ◌-◌}
use Rattle.std.specs.List.{list_any, range_with_len}
use Rattle.volume_format.specs.Layout.{table_extent}
use Rattle.volume_format.specs.Rules.{do_meet}
use Rattle.volume_format.proofs.rules.meets_before.Given as goal

abbrev pub invariant-loop-k : goal.invariant-loop-k
invariant-loop-k l =
    list_any (λ k. do_meet (table_extent l.block k) (table_extent l.block l.j)) (range_with_len 0 l.j)
    ≡ list_any (λ k. do_meet (table_extent l.block k) (table_extent l.block l.j)) (range_with_len l.k (l.j - l.k))
