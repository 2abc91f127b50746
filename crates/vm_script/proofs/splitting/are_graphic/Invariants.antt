use Rattle.std.proofs.Common.{◌≡◌, take}
use Rattle.std.specs.List.{list_all}
use Rattle.vm_script.specs.Lines.{is_graphic}
use Rattle.vm_script.proofs.splitting.are_graphic.Given as goal

abbrev pub invariant-loop-b : goal.invariant-loop-b
invariant-loop-b l = record { so_far : l.right ≡ list_all is_graphic (take l.b-index l.bytes) }
