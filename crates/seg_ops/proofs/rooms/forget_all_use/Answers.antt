use Rattle.std.proofs.Common.{◌≡◌, List, Option, ℕ, length, refl, ap, ◌∙◌, arith}
use Rattle.seg_ops.proofs.RoomMade.{lists-both, room-same, room-then}
use Rattle.seg_ops.proofs.rooms.forget_all_use.Goals as goal

pub loop-frame-init : goal.loop-frame-init
loop-frame-init g c = record { lists = (refl, refl); makes = room-same c.args.world.now }

pub loop-frame-preserved : goal.loop-frame-preserved
loop-frame-preserved g c = record {
  lists = lists-both c.args.world.now.store c.loop-frame.world.store c.forget_use.new.world.store c.loop-frame.invariant.lists c.forget_use.ensures.lists;
  makes = room-then c.args.world.now c.loop-frame.world c.forget_use.new.world c.loop-frame.invariant.makes c.forget_use.ensures.makes;
}

pub forget_use-requires-clause-fits : goal.forget_use-requires-clause-fits
forget_use-requires-clause-fits g c = (c.requires.fits.0, (c.loop-frame.invariant.makes.keeps c.requires.fits.0 c.requires.fits.1).memory)
