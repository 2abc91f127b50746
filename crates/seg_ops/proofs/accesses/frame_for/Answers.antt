use Rattle.vm_world.specs.World.{world_seen}
use Rattle.seg_ops.proofs.Hits.{note-keeps}
use Rattle.seg_ops.proofs.NewlyModified.{noted-modifies}
use Rattle.seg_ops.proofs.accesses.frame_for.Goals as goal

pub returns-clause-modified : goal.returns-clause-modified
returns-clause-modified g c =
    noted-modifies (world_seen c.args.world.now) c.frame_for.new.self c.args.space c.args.page c.args.write c.frame_for.result c.frame_for.ensures.places c.frame_for.ensures.noted c.frame_for.ensures.distinct

pub returns-clause-keeps : goal.returns-clause-keeps
returns-clause-keeps g c = λ spaces fits.
    note-keeps (world_seen c.args.world.now) spaces c.frame_for.new.self c.args.space c.args.page c.args.write c.frame_for.result fits c.frame_for.ensures.places c.frame_for.ensures.none c.frame_for.ensures.frames c.frame_for.ensures.distinct
