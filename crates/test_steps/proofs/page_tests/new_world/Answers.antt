use Rattle.std.proofs.Common.{◌≡◌, ℕ, List, [], ◌∷◌, ◌++◌, length, Option, None, sym, ap, ◌∙◌, subst}
use Rattle.block_device.specs.DiskSeen.{DiskSeen}
use Rattle.block_device.specs.MemDiskLook.{look}
use Rattle.block_device.specs.MemSeen.{disk_of}
use Rattle.block_device.specs.declared.mem_disk.MemDisk.{MemDisk}
use Rattle.seg_ops.specs.page_store.Bays.{pairs_seen}
use Rattle.seg_ops.specs.page_store.New.{IsNew}
use Rattle.vnode_files.specs.Files.{FilesSeen, with_disk, vnode_at}
use Rattle.vnode_files.specs.Vnode.{IsSoundVnode}
use Rattle.seg_ops.specs.vm_world.FramesFit.{FilesFit, DisksFit}
use Rattle.test_steps.proofs.PageTrialLemmas.{trial_files, trial_vnode, trial-disk-set, trial-files-are, trial-files, trial-store, trial-disks, trial-hat, trial-fits}
use Rattle.test_steps.proofs.page_tests.new_world.Goals as goal

pub add-requires-clause-disk : goal.add-requires-clause-disk
add-requires-clause-disk c = trial-disk-set c.set_disk.new.self c.in_ok-new_info.field-0.disk (c.in_ok-set_disk.ensures.new ∙ ap (λ (f : FilesSeen). with_disk f 0 4) c.new-files.ensures) c.in_ok-new_info.ensures.disk

pub returns : goal.returns
returns c =
    let d : DiskSeen = disk_of (look c.in_ok-new_disk.field-0) in
    let items : c.push_reserved.new.self.items ≡ (0, c.in_ok-new_disk.field-0) ∷ [] = c.push_reserved.ensures.items ∙ ap (λ (l : List (ℕ × MemDisk)). l ++ (0, c.in_ok-new_disk.field-0) ∷ []) c.in_ok-disks.ensures.items in
    let new : IsNew c.in-Ok.store 2 ((0, d) ∷ []) None = subst (λ (l : List (ℕ × MemDisk)). IsNew c.in-Ok.store 2 (pairs_seen (λ x. disk_of (look x)) l) None) items c.in-Ok.ensures.store in
    let info = c.in_ok-new_info.field-0 in
    let files : c.set_blank-2.new.self ≡ trial_files (trial_vnode info) =
    trial-files-are c.set_disk.new.self c.add.new.self c.set_blank.new.self c.set_blank-2.new.self info (c.in_ok-set_disk.ensures.new ∙ ap (λ (f : FilesSeen). with_disk f 0 4) c.new-files.ensures)
    c.in_ok-add.ensures.new c.set_blank.ensures.new c.set_blank-2.ensures.new in
    trial-fits _ (record {
      store = trial-store c.in-Ok.store d new c.in-Ok.ensures.sound c.in-Ok.ensures.still c.in_ok-new_disk.ensures.faults;
      anon = c.in_ok-anon.ensures.new;
      slots = c.in_ok-anon.ensures.sound;
      maps = c.new-4.ensures;
      leads = c.in_ok-hat.ensures.frames ∙ sym (ap (λ (fs : List (Option (List ℕ))). length fs) new.frames);
      hat = trial-hat c.in_ok-hat.hat.places c.in_ok-hat.ensures.places;
      files = subst FilesFit (sym files) (trial-files (trial_vnode info) c.in_ok-new_info.ensures (subst (λ (f : FilesSeen). IsSoundVnode (vnode_at f 0)) files c.info.ensures.sound));
      one = ap (λ (f : FilesSeen). length f.files) files;
      disks = subst (λ (f : FilesSeen). DisksFit c.in-Ok.store.bays f.disks 0) (sym files) (trial-disks c.in-Ok.store d new c.in_ok-new_disk.ensures.size);
    })
