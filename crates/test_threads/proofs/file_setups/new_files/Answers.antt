use Rattle.std.proofs.Common.{ap, ◌∙◌}
use Rattle.vnode_files.specs.Files.{FilesSeen, with_disk}
use Rattle.vnode_files.specs.declared.vnode.FileInfo.{FileInfo}
use Rattle.test_acts.proofs.TrialFiles.{is-set, first-set, second-set}
use Rattle.test_threads.proofs.file_setups.new_files.Goals as goal

pub add-requires-clause-disk : goal.add-requires-clause-disk
add-requires-clause-disk c =
    is-set c.set_disk-2.new.self c.in_ok-new_file.field-0.disk 0
    (ap (λ (f : FilesSeen). f.disks) (c.in_ok-set_disk-2.ensures.new ∙ ap (λ (f : FilesSeen). with_disk f 1 16) (c.in_ok-set_disk.ensures.new ∙ ap (λ (f : FilesSeen). with_disk f 0 16) c.new-files.ensures)))
    (ap (λ (i : FileInfo). i.disk) c.in_ok-new_file.ensures) first-set

pub add-requires-2-clause-disk : goal.add-requires-2-clause-disk
add-requires-2-clause-disk c =
    is-set c.add.new.self c.in_ok-new_file-2.field-0.disk 1
    (ap (λ (f : FilesSeen). f.disks) (c.in_ok-add.ensures.new) ∙ ap (λ (f : FilesSeen). f.disks) (c.in_ok-set_disk-2.ensures.new ∙ ap (λ (f : FilesSeen). with_disk f 1 16) (c.in_ok-set_disk.ensures.new ∙ ap (λ (f : FilesSeen). with_disk f 0 16) c.new-files.ensures)))
    (ap (λ (i : FileInfo). i.disk) c.in_ok-new_file-2.ensures) second-set
