use Rattle.vm_world.specs.World.{world_seen}
use Rattle.seg_ops.proofs.Shows.{reclaim-keeps, reclaim-unlisted, reclaim-names, reclaim-modifies}
use Rattle.seg_ops.proofs.installs.take_back.Goals as goal

pub returns-clause-unlisted : goal.returns-clause-unlisted
returns-clause-unlisted g c = λ frame home. reclaim-unlisted (world_seen c.args.world.now) c.reclaim.new.self c.args.page frame home c.reclaim.ensures.unlisted

pub returns-clause-frames : goal.returns-clause-frames
returns-clause-frames g c = (reclaim-names c.args.world.now.store c.reclaim.new.self c.args.page c.reclaim.ensures.new).1

pub returns-clause-names : goal.returns-clause-names
returns-clause-names g c = (reclaim-names c.args.world.now.store c.reclaim.new.self c.args.page c.reclaim.ensures.new).0

pub returns-clause-modified : goal.returns-clause-modified
returns-clause-modified g c = reclaim-modifies (world_seen c.args.world.now) c.reclaim.new.self c.args.page c.reclaim.ensures.new c.reclaim.ensures.laws.residence

pub returns-clause-keeps : goal.returns-clause-keeps
returns-clause-keeps g c = λ spaces fits.
    let w = world_seen c.args.world.now in
    let home = c.requires.home in
    let unlisted = reclaim-unlisted w c.reclaim.new.self c.args.page home.0 home.1 c.reclaim.ensures.unlisted in
    reclaim-keeps w spaces c.reclaim.new.self c.args.page home.0 fits home.1 c.reclaim.ensures.new unlisted c.reclaim.ensures.laws
