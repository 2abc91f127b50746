use Rattle.std.proofs.Common.{◌≡◌, ◌≤◌, ◌<◌, ◌^◌, ◌-◌, length, take, true}
use Rattle.std.specs.List.{list_all}
use Rattle.vm_script.specs.Fields.{value_of_digits, is_hex_digit}
use Rattle.vm_script.proofs.quick.hexadecimal_in_front.Given as goal

abbrev pub invariant-loop-count : goal.invariant-loop-count
invariant-loop-count l = record {
  within : l.count ≤ l.most;
  fits : l.most ≤ length l.text;
  few : l.most ≤ 8;
  so_far : l.value ≡ value_of_digits 16 (take l.count l.text);
  below : l.value < 16 ^ l.count;
  right : list_all is_hex_digit (take l.count l.text) ≡ true;
}

abbrev pub decreases-loop-count : goal.decreases-loop-count
decreases-loop-count l = l.most - l.count
