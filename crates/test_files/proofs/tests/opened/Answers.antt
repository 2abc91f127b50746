use Rattle.std.proofs.Common.{◌≡◌, ℕ, List, [], ◌∷◌, ◌++◌, ◌∙◌, sym, ap, subst}
use Rattle.block_device.specs.MemDiskLook.{look}
use Rattle.block_device.specs.MemSeen.{disk_of}
use Rattle.block_device.specs.declared.mem_disk.MemDisk.{MemDisk}
use Rattle.seg_ops.specs.page_store.Bays.{pairs_seen}
use Rattle.vnode_files.specs.Files.{FilesSeen}
use Rattle.vm_core.specs.Setup.{FilesOnDisks}
use Rattle.test_acts.proofs.TrialFiles.{on-disks}
use Rattle.test_files.proofs.tests.opened.Goals as goal

pub start-requires-clause-files : goal.start-requires-clause-files
start-requires-clause-files c =
    let first : MemDisk = c.in_ok-new_disk.field-0 in
    let second : MemDisk = c.in_ok-new_disk-2.field-0 in
    let items : c.push_reserved-2.new.self.items ≡ (0, first) ∷ (1, second) ∷ [] =
    c.push_reserved-2.ensures.items ∙ ap (λ (l : List (ℕ × MemDisk)). l ++ (1, second) ∷ []) (c.push_reserved.ensures.items ∙ ap (λ (l : List (ℕ × MemDisk)). l ++ (0, first) ∷ []) c.in_ok-disks.ensures.items) in
    let f = c.in_ok-new_files.ensures in
    subst (λ (files : FilesSeen). FilesOnDisks files (pairs_seen (λ d. disk_of (look d)) c.push_reserved-2.new.self.items)) (sym f.2)
    (on-disks f.0 f.1 (λ d. disk_of (look d)) c.push_reserved-2.new.self.items first second items c.in_ok-new_disk.ensures c.in_ok-new_disk-2.ensures)

pub returns-in-Ok : goal.returns-in-Ok
returns-in-Ok c = record { opening = c.in-Ok.ensures.opening; fits = c.in-Ok.ensures.fits; seated = c.in-Ok.ensures.made.seats }
