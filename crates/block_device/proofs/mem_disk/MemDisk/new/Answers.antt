use Rattle.std.proofs.Common.{◌≡◌, replicate, ap, ◌∙◌}
use Rattle.block_device.specs.MemDiskLook.{blocks_seen}
use Rattle.block_device.specs.MemSeen.{fresh_disk}
use Rattle.block_device.proofs.MemLemmas.{map-replicate}
use Rattle.block_device.proofs.mem_disk.MemDisk.new.Goals as goal

pub returns : goal.returns
returns c =
    let items : c.in_ok-blocks.blocks.items ≡ replicate c.args.blocks c.zeros.result = c.in_ok-blocks.ensures.items_if_clones_equal (λ y same. same) in
    c.from_blocks.ensures
    ∙ ap (λ blocks. fresh_disk blocks c.args.fail_at.items) (ap blocks_seen items ∙ map-replicate (λ b. b.bytes) c.args.blocks c.zeros.result ∙ ap (replicate c.args.blocks) c.zeros.ensures)
