use Rattle.std.proofs.Common.{◌≡◌, ℕ, true, sym, ◌∙◌}
use Rattle.seg_vn.proofs.LimitedSegments.{limited-none, limited-read}
use Rattle.seg_vn.proofs.segment.VnSeg.limit.Goals as goal

pub returns-then-can_read-clause-limited : goal.returns-then-can_read-clause-limited
returns-then-can_read-clause-limited g c = limited-read c.hold_writes.new.world.hat.places c.args.space c.args.first c.args.self.now.pages c.args.prot (sym c.can_read.ensures ∙ c.if-can_read.true) c.hold_writes.ensures.none

pub returns-clause-limited : goal.returns-clause-limited
returns-clause-limited g c = limited-none c.unmap.new.world.hat.places c.args.space c.args.first c.args.self.now.pages c.args.prot c.unmap.ensures.unloaded
