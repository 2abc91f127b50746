use Rattle.std.proofs.Common.{ℕ, List, sym, subst}
use Rattle.block_device.specs.MemDiskLook.{look}
use Rattle.block_device.specs.MemSeen.{disk_of}
use Rattle.seg_ops.specs.page_store.Bays.{pairs_seen}
use Rattle.block_device.specs.declared.mem_disk.MemDisk.{MemDisk}
use Rattle.vnode_files.specs.Files.{FilesSeen, no_files}
use Rattle.vm_core.specs.Setup.{FilesOnDisks}
use Rattle.test_acts.proofs.TrialFiles.{none-on-disks}
use Rattle.test_acts.proofs.TrialLemmas.{trial-starts}
use Rattle.test_swap.proofs.swap_tests.started.Goals as goal

pub start-requires-clause-files : goal.start-requires-clause-files
start-requires-clause-files c =
    subst (λ (files : FilesSeen). FilesOnDisks files (pairs_seen (λ d. disk_of (look d)) c.new.result.items)) (sym c.new-2.ensures) (subst (λ (l : List (ℕ × MemDisk)). FilesOnDisks no_files (pairs_seen (λ d. disk_of (look d)) l)) (sym c.new.ensures.items) none-on-disks)

pub new-requires-in-Ok : goal.new-requires-in-Ok
new-requires-in-Ok c = trial-starts c.in-Ok.state _ _ c.in-Ok.ensures.fits c.in-Ok.ensures.opening.history c.in-Ok.ensures.made.seats
