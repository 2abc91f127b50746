use Rattle.std.proofs.Common.{◌≡◌, ◌*◌, length, take}
use Rattle.vm_script.specs.Texts.{hex_text}
use Rattle.vm_report.proofs.text.digits_of.Given as goal

abbrev pub invariant-loop-i : goal.invariant-loop-i
invariant-loop-i l = record {
  size : length l.digits ≡ 64;
  so_far : take (2 * l.i) l.digits ≡ hex_text (take l.i l.bytes);
}
