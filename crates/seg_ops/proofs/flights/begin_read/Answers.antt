use Rattle.vm_world.specs.World.{world_seen}
use Rattle.seg_ops.proofs.Fills.{next-listed}
use Rattle.seg_ops.proofs.FrameDrops.{listed-unloaded}
use Rattle.seg_ops.proofs.flights.begin_read.Goals as goal

pub send-requires-clause-unloaded : goal.send-requires-clause-unloaded
send-requires-clause-unloaded g c = λ frame next. listed-unloaded (world_seen c.args.world.now) c.requires.fits.0 frame c.requires.fits.1 (next-listed c.args.world.now.store frame next)
