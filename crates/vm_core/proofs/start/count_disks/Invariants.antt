use Rattle.std.proofs.Common.{take}
use Rattle.fault_entry.specs.page_store.Bays.{pairs_seen}
use Rattle.vm_core.specs.Setup.{HaveCounted}
use Rattle.vm_core.proofs.start.count_disks.Given as goal

abbrev pub invariant-loop-disk : goal.invariant-loop-disk
invariant-loop-disk g l = record {
  all : HaveCounted (pairs_seen g.D.Disk.seen (take l.disk-index l.disks));
}
