use Rattle.vm_world.specs.World.{world_seen}
use Rattle.seg_ops.proofs.Lands.{lands}
use Rattle.seg_ops.proofs.LandsPages.{lands-step}
use Rattle.seg_ops.proofs.landings.end_flight.Goals as goal

pub returns-clause-step : goal.returns-clause-step
returns-clause-step g c = λ spaces notes note fits nf mine performed.
    let w = world_seen c.args.world.now in
    lands-step w spaces c.end.new.self c.args.flight notes note fits
    (lands w.store c.end.new.self c.args.flight fits.frames.sound c.requires.out performed.whole performed.bytes c.end.ensures.new c.end.ensures.laws)
    (record { fit = nf; mine = mine; performed = performed }) c.requires.performed
