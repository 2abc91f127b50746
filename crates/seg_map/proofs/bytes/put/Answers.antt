use Rattle.seg_ops.specs.vm_world.World.{world_seen, file_name}
use Rattle.seg_map.proofs.Puts.{put-changes, put-ready, put-modifies}
use Rattle.seg_map.proofs.bytes.put.Goals as goal

pub returns-clause-puts : goal.returns-clause-puts
returns-clause-puts g c = λ spaces fits.
    put-changes (world_seen c.args.world.now) spaces c.poke_frame.new.self c.args.file c.args.page c.args.frame c.args.at c.args.bytes.now fits c.requires.file c.requires.home c.requires.unlisted
    c.poke_frame.ensures.new (c.poke_frame.ensures.laws (file_name c.args.file c.args.page) c.requires.home) c.requires.within c.requires.octets

pub returns-clause-ready : goal.returns-clause-ready
returns-clause-ready g c =
    put-ready (world_seen c.args.world.now) c.requires.fits.0 c.poke_frame.new.self c.args.file c.args.page c.args.frame c.args.at c.args.bytes.now c.requires.fits.1 c.requires.file c.requires.home c.requires.unlisted
    c.poke_frame.ensures.new (c.poke_frame.ensures.laws (file_name c.args.file c.args.page) c.requires.home) c.requires.within c.requires.octets

pub returns-clause-modified : goal.returns-clause-modified
returns-clause-modified g c =
    put-modifies (world_seen c.args.world.now) c.requires.fits.0 c.poke_frame.new.self c.args.file c.args.page c.args.frame c.args.at c.args.bytes.now c.requires.fits.1 c.requires.file c.requires.home c.requires.unlisted
    c.poke_frame.ensures.new (c.poke_frame.ensures.laws (file_name c.args.file c.args.page) c.requires.home) c.requires.within c.requires.octets
