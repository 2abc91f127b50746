use Rattle.std.proofs.Common.{◌≡◌, ℕ, sym, ap, ◌∙◌}
use Rattle.seg_ops.specs.vm_world.ProtectSteps.{with_segment_prot}
use Rattle.seg_ops.specs.vm_world.World.{world_seen}
use Rattle.seg_vn.proofs.LeftSegments.{part-within}
use Rattle.seg_vn.proofs.LimitedSegments.{prot-changes}
use Rattle.seg_vn.proofs.segment.VnSeg.set_prot.Goals as goal

pub limit-requires-clause-within : goal.limit-requires-clause-within
limit-requires-clause-within g c = let r = c.requires.part in part-within (world_seen c.args.world.now) r.0 c.args.space c.args.first c.args.self.now r.1

pub returns-clause-changes : goal.returns-clause-changes
returns-clause-changes g c = λ spaces part knows.
    prot-changes (world_seen c.args.world.now) (world_seen c.limit.new.world) c.args.world.now.zeros spaces c.args.space c.args.first c.args.self.now _ c.args.prot part c.requires.within (c.limit.ensures.keeps spaces part.memory) c.limit.ensures.limited
    (ap (with_segment_prot c.args.prot) (c.self.view_is ∙ c.limit.ensures.segment)) knows
