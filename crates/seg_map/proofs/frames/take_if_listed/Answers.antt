use Rattle.seg_ops.specs.vm_world.World.{world_seen}
use Rattle.seg_ops.proofs.Shows.{home-within}
use Rattle.seg_map.proofs.frames.take_if_listed.Goals as goal

pub listed-requires : goal.listed-requires
listed-requires g c = home-within (world_seen c.args.world.now) c.requires.fits.0 c.args.name c.args.frame c.requires.fits.1 c.requires.home
