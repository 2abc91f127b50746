use Rattle.std.proofs.Common.{ap, refl, arith, Some, true, false, ◌∙◌, List, ℕ}
use Rattle.block_device.specs.MemDiskLook.{look}
use Rattle.block_device.specs.MemSeen.{torn_block}
use Rattle.block_device.proofs.BlockLemmas.{blocks_seen-set, spoils, size_kept, bytes_at, written_as}
use Rattle.block_device.proofs.CallLemmas.{calls_risen, faults_risen, faults_later, faults_same}
use Rattle.block_device.proofs.mem_disk.MemDiskDisk.write.Goals as goal

pub returns-then-fails-clause-writes : goal.returns-then-fails-clause-writes
returns-then-fails-clause-writes c = record {
  written = tt;
  spoiled = spoils c.args.self.now.blocks.items c.args.block c.write_half.new.self;
  size = size_kept c.args.self.now.blocks.items c.args.block c.write_half.new.self;
  kind = refl;
  steady = tt;
  calls = calls_risen c.args.self.now.calls c.count.new.self c.is_next_listed-fails.result c.count.ensures;
  cause = record {
    later = faults_later c.args.self.now.calls c.count.new.self c.is_next_listed-fails.result c.count.ensures c.if-fails.true;
    failed = faults_risen c.args.self.now.calls c.count.new.self c.is_next_listed-fails.result c.count.ensures c.if-fails.true;
  };
}

pub returns-then-fails-clause-new : goal.returns-then-fails-clause-new
returns-then-fails-clause-new c =
    written_as (look c.args.self.now) true c.is_next_listed-fails.result c.args.block c.args.from.now c.write_half.new.self.bytes _ c.count.new.self c.one_more-self.result
    (blocks_seen-set c.args.self.now.blocks.items c.args.block c.write_half.new.self c.write_half.new.self.bytes refl)
    (c.write_half.ensures ∙ ap (λ (old : List ℕ). torn_block old c.args.from.now)
    (bytes_at c.args.self.now.blocks.items c.args.block c.index_mut.result.now c.requires.block c.index_mut.ensures.value))
    c.count.ensures c.if-fails.true c.one_more-self.ensures

pub returns-clause-writes : goal.returns-clause-writes
returns-clause-writes c = record {
  written = ap (λ all. Some all) (blocks_seen-set c.args.self.now.blocks.items c.args.block c.write.new.self c.args.from.now c.write.ensures);
  spoiled = tt;
  size = size_kept c.args.self.now.blocks.items c.args.block c.write.new.self;
  kind = refl;
  steady = faults_same c.args.self.now.calls c.count.new.self c.is_next_listed-fails.result c.count.ensures c.if-fails.false;
  calls = calls_risen c.args.self.now.calls c.count.new.self c.is_next_listed-fails.result c.count.ensures;
  cause = record { later = omega (arith, faults_same c.args.self.now.calls c.count.new.self c.is_next_listed-fails.result c.count.ensures c.if-fails.false); failed = tt };
}

pub returns-clause-new : goal.returns-clause-new
returns-clause-new c =
    written_as (look c.args.self.now) false c.is_next_listed-fails.result c.args.block c.args.from.now c.write.new.self.bytes _ c.count.new.self c.one_more-self.result
    (blocks_seen-set c.args.self.now.blocks.items c.args.block c.write.new.self c.write.new.self.bytes refl)
    c.write.ensures
    c.count.ensures c.if-fails.false c.one_more-self.ensures
