use Rattle.std.proofs.Common.{◌≡◌, ◌<◌, ◌^◌, take, true}
use Rattle.std.specs.List.{list_all}
use Rattle.vm_report.specs.vm_script.Fields.{value_of_digits, is_hex_digit}
use Rattle.trace_text.proofs.numbers.mask_in.Given as goal

abbrev pub invariant-loop-b : goal.invariant-loop-b
invariant-loop-b l = record { so_far : l.value ≡ value_of_digits 16 (take l.b-index l.word); below : l.value < 16 ^ l.b-index; right : list_all is_hex_digit (take l.b-index l.word) ≡ true }
