use Rattle.std.proofs.Common.{◌≡◌, ◌≤◌, ◌-◌, ◌++◌, None, length, replicate, vec_len, vec_capacity}
use Rattle.sunvm.proofs.blank_disk.fill.Given as goal

abbrev pub invariant-loop : goal.invariant-loop
invariant-loop l = (vec_len l.places ≡ l.counter) × (vec_len l.initial.places ≤ l.counter) × (vec_capacity l.places ≡ vec_capacity l.initial.places)
    × (l.places.items ≡ l.initial.places.items ++ replicate (l.counter - length l.initial.places.items) None)
    × (l.counter - length l.initial.places.items ≤ l.count - length l.initial.places.items)
