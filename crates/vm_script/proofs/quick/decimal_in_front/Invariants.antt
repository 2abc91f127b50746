use Rattle.std.proofs.Common.{◌≡◌, ◌≤◌, ◌<◌, ◌^◌, ◌-◌, length, take, true}
use Rattle.std.specs.List.{list_all}
use Rattle.vm_script.specs.Fields.{value_of_digits, is_digit}
use Rattle.vm_script.proofs.quick.decimal_in_front.Given as goal

abbrev pub invariant-loop-count : goal.invariant-loop-count
invariant-loop-count l = record {
  within : l.count ≤ l.most;
  fits : l.most ≤ length l.text;
  few : l.most ≤ 10;
  so_far : l.value ≡ value_of_digits 10 (take l.count l.text);
  below : l.value < 10 ^ l.count;
  right : list_all is_digit (take l.count l.text) ≡ true;
}

abbrev pub decreases-loop-count : goal.decreases-loop-count
decreases-loop-count l = l.most - l.count
