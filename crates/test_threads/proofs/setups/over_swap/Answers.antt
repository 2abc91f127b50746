use Rattle.std.proofs.Common.{ℕ, List, sym, subst}
use Rattle.vm_core.specs.page_store.Bays.{pairs_seen}
use Rattle.vnode_files.specs.Files.{FilesSeen, no_files}
use Rattle.vm_core.specs.Setup.{FilesOnDisks}
use Rattle.test_acts.proofs.TrialFiles.{none-on-disks}
use Rattle.test_threads.proofs.setups.over_swap.Goals as goal

pub start-requires-clause-files : goal.start-requires-clause-files
start-requires-clause-files g c =
    subst (λ (files : FilesSeen). FilesOnDisks files (pairs_seen g.D.Disk.seen c.new.result.items)) (sym c.new-2.ensures) (subst (λ (l : List (ℕ × _)). FilesOnDisks no_files (pairs_seen g.D.Disk.seen l)) (sym c.new.ensures.items) none-on-disks)
