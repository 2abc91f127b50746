use Rattle.std.proofs.Common.{ap, refl}
use Rattle.seg_vn.specs.vm_world.World.{world_seen}
use Rattle.seg_vn.specs.vm_world.declared.world.World.{World}
use Rattle.proc_calls.proofs.Ended.{only-exit, call-serves}
use Rattle.proc_calls.proofs.exits.attempt.Goals as goal

pub unreachable-requires : goal.unreachable-requires
unreachable-requires g c = only-exit c.args.call.now c.requires.served c.in_default.not-Exit

pub returns : goal.returns
returns g c = record {
  ok = refl;
  done = λ calls. call-serves (record { world = world_seen c.args.world.now; spaces = c.args.spaces.now.spaces }) (record { world = world_seen c.exit.new.world; spaces = c.exit.new.spaces.spaces }) c.exit.new.world.zeros
      c.args.world.now.pending c.exit.new.world.pending c.args.process c.args.call.now c.in-Exit.is (ap (λ (w : World g.row.D.Denot). w.pending) c.exit.ensures.rest) c.requires.fits c.exit.ensures.changes c.exit.ensures.modified;
  answer = tt;
  zeros = c.exit.ensures.changes.known;
  fall = c.exit.ensures.fall;
  processes = c.exit.ensures.processes;
}
