use Rattle.std.proofs.Common.{◌≡◌, ◌<◌, ◌^◌, take, true}
use Rattle.std.specs.List.{list_all}
use Rattle.vm_report.specs.vm_script.Fields.{value_of_digits, is_digit}
use Rattle.trace_text.proofs.numbers.long_number_in.Given as goal

abbrev pub invariant-loop-b : goal.invariant-loop-b
invariant-loop-b l = record { so_far : l.value ≡ value_of_digits 10 (take l.b-index l.word); below : l.value < 10 ^ l.b-index; right : list_all is_digit (take l.b-index l.word) ≡ true }
