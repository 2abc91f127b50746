use Rattle.std.proofs.Common.{ℕ, List, sym, subst, ◌∙◌}
use Rattle.block_device.specs.MemDiskLook.{look}
use Rattle.block_device.specs.MemSeen.{disk_of}
use Rattle.vm_core.specs.page_store.Bays.{pairs_seen}
use Rattle.block_device.specs.declared.mem_disk.MemDisk.{MemDisk}
use Rattle.vnode_files.specs.Files.{FilesSeen, no_files}
use Rattle.vm_core.specs.Setup.{FilesOnDisks}
use Rattle.test_acts.proofs.TrialFiles.{none-on-disks}
use Rattle.bench_kernel.proofs.setup.new_state.Goals as goal

pub start-requires-clause-files : goal.start-requires-clause-files
start-requires-clause-files c =
    subst (λ (files : FilesSeen). FilesOnDisks files (pairs_seen (λ d. disk_of (look d)) c.new.result.items)) (sym c.new-2.ensures) (subst (λ (l : List (ℕ × MemDisk)). FilesOnDisks no_files (pairs_seen (λ d. disk_of (look d)) l)) (sym c.new.ensures.items) none-on-disks)

pub returns-in-Ok : goal.returns-in-Ok
returns-in-Ok c = record {
  fits = (_, c.in-Ok.ensures.fits);
  parents = c.in-Ok.ensures.made.parents ∙ c.in_ok-vec.ensures.items_if_clones_equal (λ y same. same);
  entries = c.in-Ok.ensures.made.entries ∙ c.in_ok-vec-2.ensures.items_if_clones_equal (λ y same. same);
  seats = c.in-Ok.ensures.made.seats;
  empty = c.in-Ok.ensures.opening.history;
}
