use Rattle.std.proofs.Common.{sym, ◌∙◌}
use Rattle.seg_ops.specs.vm_world.World.{world_seen}
use Rattle.seg_vn.proofs.FaultPlaces.{own-there}
use Rattle.seg_vn.proofs.segment.VnSeg.own_slot.Goals as goal

pub get-requires-clause-there : goal.get-requires-clause-there
get-requires-clause-there g c = let o = c.requires.fits in (own-there (world_seen c.args.world.now) o.0 o.1 o.2 (c.args.self.now, c.args.at) o.3 o.4 c.in-Some.map (sym c.own.ensures ∙ c.in-Some.is)).0

pub get-requires-clause-within : goal.get-requires-clause-within
get-requires-clause-within g c = let o = c.requires.fits in (own-there (world_seen c.args.world.now) o.0 o.1 o.2 (c.args.self.now, c.args.at) o.3 o.4 c.in-Some.map (sym c.own.ensures ∙ c.in-Some.is)).1
