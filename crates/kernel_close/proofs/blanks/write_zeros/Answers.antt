use Rattle.std.proofs.Common.{ℕ, ◌<◌, sym, ap, ◌∙◌, subst, slice_index_or, slice_set}
use Rattle.seg_ops.specs.block_device.DiskSeen.{DiskSeen, Writes}
use Rattle.seg_ops.specs.block_device.Faults.{IsFaultOf}
use Rattle.seg_ops.specs.block_device.declared.disk_fault.DiskFault.{DiskFault}
use Rattle.seg_ops.specs.core_arena.Bytes.{zeros}
use Rattle.seg_ops.specs.page_store.Bays.{pairs_seen}
use Rattle.kernel_close.proofs.Fills.{number-seen, disk-seen, length-seen, pairs-set, last-fault, err-then}
use Rattle.kernel_close.proofs.blanks.write_zeros.Goals as goal

pub write_block-requires-clause-block : goal.write_block-requires-clause-block
write_block-requires-clause-block g c =
    subst (λ (d : DiskSeen). c.args.block < d.size) (disk-seen g.D.Disk.seen c.args.disks.now c.place_of-at.result c.index-disks-at.result c.place_of-at.ensures.within)
    (c.requires.block c.place_of-at.result c.place_of-at.ensures.within c.place_of-at.ensures.number)

pub returns-clause-writes : goal.returns-clause-writes
returns-clause-writes g c =
    let seen = g.D.Disk.seen in
    let xs = c.args.disks.now in
    let at = c.place_of-at.result in
    let element = slice_index_or xs at c.index-disks-at.result in
    let lt = c.place_of-at.ensures.within in
    record {
      at = at;
      within = subst (λ (n : ℕ). at < n) (sym (length-seen seen xs)) lt;
      on_disk = c.place_of-at.ensures.number;
      disk = seen c.write_block.new.disk;
      new = pairs-set seen xs at (element.0, c.write_block.new.disk)
          ∙ ap (λ (n : ℕ). slice_set (pairs_seen seen xs) at (n, seen c.write_block.new.disk)) (sym (number-seen seen xs at c.index-disks-at.result lt) ∙ c.place_of-at.ensures.number);
      writes = subst (λ (d : DiskSeen). Writes d (seen c.write_block.new.disk) c.args.block zeros c.write_block.result) (sym (disk-seen seen xs at c.index-disks-at.result lt)) c.write_block.ensures.writes;
    }

pub returns-clause-fault : goal.returns-clause-fault
unfolding returns-clause-writes
returns-clause-fault g c =
    let seen = g.D.Disk.seen in
    let xs = c.args.disks.now in
    let at = c.place_of-at.result in
    let w = returns-clause-writes g c in
    err-then c.write_block.result _ _
    (λ (fault : DiskFault) (f : IsFaultOf c.args.number _ (seen c.write_block.new.disk) fault). (
      f.disk,
      last-fault (pairs_seen seen xs) _ at c.args.number (seen c.write_block.new.disk) fault w.within w.on_disk w.new
          (subst (λ (d : DiskSeen). IsFaultOf c.args.number d (seen c.write_block.new.disk) fault) (sym (disk-seen seen xs at c.index-disks-at.result c.place_of-at.ensures.within)) f),
    ))
    c.write_block.ensures.fault
