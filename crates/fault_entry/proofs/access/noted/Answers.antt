use Rattle.seg_vn.specs.vm_world.World.{world_seen}
use Rattle.fault_entry.proofs.Reached.{goes-there}
use Rattle.fault_entry.proofs.access.noted.Goals as goal

pub unreachable-requires : goal.unreachable-requires
unreachable-requires g c = goes-there (world_seen c.args.world.now) c.args.space c.args.page c.args.write c.frame_for.result c.requires.lets c.frame_for.ensures.frame c.in-None.is
