use Rattle.std.proofs.Common.{◌≡◌, ℕ, List, [], ◌∷◌, ◌++◌, None, ◌∙◌, ap, subst}
use Rattle.block_device.specs.MemDiskLook.{look}
use Rattle.block_device.specs.MemSeen.{disk_of}
use Rattle.block_device.specs.declared.mem_disk.MemDisk.{MemDisk}
use Rattle.page_store.specs.Bays.{pairs_seen}
use Rattle.page_store.specs.New.{IsNew}
use Rattle.test_pages.proofs.TripLemmas.{ready-new}
use Rattle.test_pages.proofs.transfer_tests.new_machine.Goals as goal

pub invariant_of-result : goal.invariant_of-result
invariant_of-result c =
    let first : MemDisk = c.in-Ok.first in
    let second : MemDisk = c.in-Ok-filled_disk.second in
    let items : c.push_reserved-2.new.self.items ≡ (0, first) ∷ (1, second) ∷ [] =
    c.push_reserved-2.ensures.items ∙ ap (λ (l : List (ℕ × MemDisk)). l ++ (1, second) ∷ []) (c.push_reserved.ensures.items
    ∙ ap (λ (l : List (ℕ × MemDisk)). l ++ (0, first) ∷ []) c.in-Ok-with_capacity.ensures.items) in
    record {
      ready = ready-new c.in-Ok-new.store c.args.frames (disk_of (look first)) (disk_of (look second))
          (subst (λ (l : List (ℕ × MemDisk)). IsNew c.in-Ok-new.store c.args.frames (pairs_seen (λ d. disk_of (look d)) l) None) items c.in-Ok-new.ensures.store)
          c.in-Ok.ensures c.in-Ok-filled_disk.ensures;
    }
