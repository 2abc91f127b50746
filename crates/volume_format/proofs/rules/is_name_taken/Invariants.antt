use Rattle.std.proofs.Common.{◌≡◌, ◌-◌}
use Rattle.std.specs.List.{list_any, range_with_len}
use Rattle.volume_format.specs.Layout.{are_same, name_of_file}
use Rattle.volume_format.proofs.rules.is_name_taken.Given as goal

abbrev pub invariant-loop-k : goal.invariant-loop-k
invariant-loop-k l =
    list_any (λ k. are_same (name_of_file l.block k) (name_of_file l.block l.i)) (range_with_len 0 l.i)
    ≡ list_any (λ k. are_same (name_of_file l.block k) (name_of_file l.block l.i)) (range_with_len l.k (l.i - l.k))
