use Rattle.seg_ops.specs.vm_world.World.{world_seen}
use Rattle.seg_vn.proofs.CutSegments.{still-may-be-cut, still-cut, numbers-then}
use Rattle.seg_vn.proofs.segment.VnSeg.cut.Goals as goal

pub cut_into-requires-clause-may : goal.cut_into-requires-clause-may
cut_into-requires-clause-may g c = still-may-be-cut c.args.world.now.maps c.reserve.new.self _ c.args.self.now c.in_ok-reserve.ensures.new c.requires.may

pub returns-clause-cut : goal.returns-clause-cut
returns-clause-cut g c =
    let cut = c.cut_into.ensures.cut in
    let w = world_seen c.args.world.now in
    record {
      first = cut.first;
      later = cut.later;
      changes = λ spaces p page part.
          numbers-then w spaces p page c.args.at c.args.self.now part _ c.reserve.new.self c.in_ok-reserve.ensures.new _
          (cut.changes spaces p page (still-cut w spaces p page c.args.at c.args.self.now part _ c.reserve.new.self c.in_ok-reserve.ensures.new));
    }
