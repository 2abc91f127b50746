use Rattle.std.proofs.Common.{◌≡◌, take}
use Rattle.std.specs.List.{list_all}
use Rattle.vm_script.specs.Fields.{is_hex_digit}
use Rattle.vm_script.proofs.number.are_hexadecimal.Given as goal

abbrev pub invariant-loop-b : goal.invariant-loop-b
invariant-loop-b l = record { so_far : l.right ≡ list_all is_hex_digit (take l.b-index l.field) }
