use Rattle.std.proofs.Common.{◌≡◌, ◌++◌, take}
use Rattle.std.specs.List.{flat_map}
use Rattle.vm_report.specs.Trace.{disk_text}
use Rattle.vm_report.proofs.traces.push_disks.Given as goal

abbrev pub invariant-loop-disk : goal.invariant-loop-disk
invariant-loop-disk l = l.out.items ≡ l.initial.out.items ++ flat_map disk_text (take l.disk-index l.disks)
