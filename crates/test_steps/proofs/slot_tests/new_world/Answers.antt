use Rattle.std.proofs.Common.{ℕ, List, Some, true, subst}
use Rattle.block_device.specs.MemDiskLook.{look}
use Rattle.block_device.specs.MemSeen.{disk_of}
use Rattle.block_device.specs.declared.mem_disk.MemDisk.{MemDisk}
use Rattle.seg_ops.specs.page_store.Bays.{pairs_seen}
use Rattle.seg_ops.specs.page_store.New.{IsNew}
use Rattle.test_steps.proofs.SlotTrialLemmas.{holding-trial}
use Rattle.test_steps.proofs.slot_tests.new_world.Goals as goal

pub returns-clause-fits : goal.returns-clause-fits
returns-clause-fits c =
    let d = disk_of (look c.in_ok-swap.swap) in
    holding-trial 2 true _ (record {
      disk = d;
      store = subst (λ (l : List (ℕ × MemDisk)). IsNew c.in-Ok.store 2 (pairs_seen (λ x. disk_of (look x)) l) (Some d)) c.new-disks.ensures.items c.in-Ok.ensures.store;
      sound = c.in-Ok.ensures.sound;
      still = c.in-Ok.ensures.still;
      size = c.in_ok-swap.ensures;
      anon = c.in_ok-anon.ensures;
      maps = c.in_ok-maps.ensures;
      leads = c.in_ok-hat.ensures.frames;
      places = 2;
      hat = c.in_ok-hat.ensures.places;
      files = c.new-3.ensures;
    })
