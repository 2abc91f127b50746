use Rattle.std.proofs.Common.{◌≡◌, ◌≤◌, length, map, ℕ}
use Rattle.std.specs.Prelude.{vec_capacity}
use Rattle.run_outcome.proofs.numbers.without_numbers.Given as goal

abbrev pub invariant-loop-disk : goal.invariant-loop-disk
invariant-loop-disk g l = record {
  made : l.back.items ≡ map (λ (d : ℕ × _). d.1) l.yielded;
  room : length l.fn.disks.items ≤ vec_capacity l.back;
}
