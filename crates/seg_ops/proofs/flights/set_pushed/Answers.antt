use Rattle.vm_world.specs.World.{world_seen}
use Rattle.seg_ops.proofs.Pushed.{slot-within, file-within}
use Rattle.seg_ops.proofs.flights.set_pushed.Goals as goal

pub set_swapped-requires : goal.set_swapped-requires
set_swapped-requires g c = slot-within (world_seen c.args.world.now) c.args.name c.requires.fits.1.files c.requires.exists c.if-name-eq-SWAP_OBJECT.true

pub set_blank-requires-clause-file : goal.set_blank-requires-clause-file
set_blank-requires-clause-file g c = (file-within (world_seen c.args.world.now) c.args.name c.requires.fits.1.files c.requires.exists c.if-name-eq-SWAP_OBJECT.false).0

pub set_blank-requires-clause-page : goal.set_blank-requires-clause-page
set_blank-requires-clause-page g c = (file-within (world_seen c.args.world.now) c.args.name c.requires.fits.1.files c.requires.exists c.if-name-eq-SWAP_OBJECT.false).1
