use Rattle.std.proofs.Common.{◌≡◌, ◌≤◌, ◌*◌, ◌+◌, ◌++◌, length, take, IsTrue}
use Rattle.std.specs.List.{list_all}
use Rattle.vm_report.specs.vm_script.Fields.{hex_bytes, is_hex_digit}
use Rattle.trace_text.proofs.numbers.pairs_in.Given as goal

abbrev pub invariant-loop-left : goal.invariant-loop-left
invariant-loop-left l = record {
  so_far : take l.count l.bytes ++ hex_bytes l.left ≡ hex_bytes l.digits;
  room : 2 * l.count + length l.left ≤ 128;
  digits : IsTrue (list_all is_hex_digit l.left);
  size : length l.bytes ≡ 64;
}

abbrev pub decreases-loop-left : goal.decreases-loop-left
decreases-loop-left l = length l.left
