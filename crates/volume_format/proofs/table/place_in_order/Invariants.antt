use Rattle.std.proofs.Common.{◌≡◌, ◌+◌, drop, ltb}
use Rattle.std.specs.List.{prefix_len}
use Rattle.volume_format.specs.Table.{front_block}
use Rattle.volume_format.proofs.table.place_in_order.Given as goal

abbrev pub invariant-loop-i : goal.invariant-loop-i
invariant-loop-i l =
    prefix_len (λ f. ltb (front_block f.extents) l.start) l.entries
    ≡ l.i + prefix_len (λ f. ltb (front_block f.extents) l.start) (drop l.i l.entries)
