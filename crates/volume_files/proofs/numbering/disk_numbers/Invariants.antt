use Rattle.std.proofs.Common.{◌≡◌}
use Rattle.std.specs.List.{flat_map}
use Rattle.volume_files.specs.Mounting.{specs_below}
use Rattle.volume_files.specs.Numbers.{both_numbers}
use Rattle.volume_files.proofs.numbering.disk_numbers.Given as goal

abbrev pub invariant-loop-number : goal.invariant-loop-number
invariant-loop-number l = l.numbers.items ≡ flat_map both_numbers (specs_below l.setup l.number)
