use Rattle.seg_vn.specs.vm_world.World.{world_seen}
use Rattle.fault_entry.proofs.Served.{load-reached}
use Rattle.fault_entry.proofs.entry.load_hit.Goals as goal

pub read-requires-clause-fits : goal.read-requires-clause-fits
read-requires-clause-fits g c = (c.requires.fits.0, (c.in-Some.ensures.serves c.requires.fits.0 c.requires.fits.1 c.requires.fits.2).acts.memory)

pub returns-clause-serves : goal.returns-clause-serves
returns-clause-serves g c = λ spaces fits get.
    let s = c.in-Some.ensures.serves spaces fits get in
    load-reached (world_seen c.args.world.now) (world_seen c.reach_hit.new.world) spaces c.args.world.now.pending c.reach_hit.new.world.pending c.args.process c.args.addr c.args.size c.in-Some.frame c.read.result s
    (c.read.ensures spaces c.args.process s.acts.memory s.means.noted)
