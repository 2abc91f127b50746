use Rattle.seg_ops.proofs.Composed.{keeps-then}
use Rattle.seg_ops.specs.vm_world.World.{world_seen}
use Rattle.clock_hands.proofs.Looks.{hand-keeps}
use Rattle.clock_hands.proofs.clock.turn_hand.Goals as goal

pub clear_use-requires-clause-fits : goal.clear_use-requires-clause-fits
clear_use-requires-clause-fits g c =
    (c.requires.fits.0, (hand-keeps (world_seen c.args.world.now) c.requires.fits.0 c.clock_turn.new.self c.requires.fits.1 c.clock_turn.ensures.new c.clock_turn.ensures.laws).memory)

pub look-requires-clause-fits : goal.look-requires-clause-fits
look-requires-clause-fits g c =
    (c.requires.fits.0, (hand-keeps (world_seen c.args.world.now) c.requires.fits.0 c.clock_turn.new.self c.requires.fits.1 c.clock_turn.ensures.new c.clock_turn.ensures.laws).memory)

pub look-requires-clause-noted : goal.look-requires-clause-noted
look-requires-clause-noted g c =
    (c.requires.noted.0, (hand-keeps (world_seen c.args.world.now) c.requires.fits.0 c.clock_turn.new.self c.requires.fits.1 c.clock_turn.ensures.new c.clock_turn.ensures.laws).notes c.requires.noted.0 tt c.requires.noted.1)

pub returns-in-Front-clause-keeps : goal.returns-in-Front-clause-keeps
returns-in-Front-clause-keeps g c spaces fits =
    let k = hand-keeps (world_seen c.args.world.now) spaces c.clock_turn.new.self fits c.clock_turn.ensures.new c.clock_turn.ensures.laws in
    keeps-then (world_seen c.args.world.now) _ (world_seen c.clear_use.new.world) spaces fits k (c.clear_use.ensures.keeps spaces k.memory)

pub returns-in-Back-clause-runs : goal.returns-in-Back-clause-runs
returns-in-Back-clause-runs g c spaces fits =
    c.look.ensures.runs spaces (hand-keeps (world_seen c.args.world.now) spaces c.clock_turn.new.self fits c.clock_turn.ensures.new c.clock_turn.ensures.laws).memory

pub returns-in-Back-clause-keeps : goal.returns-in-Back-clause-keeps
returns-in-Back-clause-keeps g c spaces fits =
    let k = hand-keeps (world_seen c.args.world.now) spaces c.clock_turn.new.self fits c.clock_turn.ensures.new c.clock_turn.ensures.laws in
    keeps-then (world_seen c.args.world.now) _ (world_seen c.look.new.world) spaces fits k (c.look.ensures.keeps spaces k.memory)
