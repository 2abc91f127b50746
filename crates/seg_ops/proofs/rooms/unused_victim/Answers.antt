use Rattle.std.proofs.Common.{◌≡◌, true, List, Option, ℕ, length, refl, sym, ap, ◌∙◌, subst, arith}
use Rattle.vm_world.specs.Words.{IsFit}
use Rattle.seg_ops.specs.Rooms.{MakesRoom, SameLists}
use Rattle.seg_ops.proofs.RoomMade.{lists-both, room-same, room-then}
use Rattle.seg_ops.proofs.rooms.unused_victim.Given.{Over}
use Rattle.seg_ops.proofs.rooms.unused_victim.Goals.{After-is_unused_victim}
use Rattle.seg_ops.proofs.rooms.unused_victim.Goals as goal

pub loop-distance-init : goal.loop-distance-init
loop-distance-init g c = record { lists = (refl, refl); makes = room-same c.args.world.now }

pub is_unused_victim-requires : goal.is_unused_victim-requires
is_unused_victim-requires g c = record {
  frame = c.frame_behind-frame.ensures;
  fits = (c.requires.fits.0, (c.loop-distance.invariant.makes.keeps c.requires.fits.0 c.requires.fits.1).memory);
}

-- what holds once a frame was looked at
module _ (g : Over) (c : After-is_unused_victim g) where
  pub looked-lists : SameLists c.args.world.now.store c.is_unused_victim.new.world.store
  looked-lists = lists-both c.args.world.now.store c.loop-distance.world.store c.is_unused_victim.new.world.store c.loop-distance.invariant.lists c.is_unused_victim.ensures.lists

  pub looked-makes : MakesRoom c.args.world.now c.is_unused_victim.new.world
  looked-makes = room-then c.args.world.now c.loop-distance.world c.is_unused_victim.new.world c.loop-distance.invariant.makes c.is_unused_victim.ensures.makes

pub loop-distance-preserved : goal.loop-distance-preserved
loop-distance-preserved g c = let d = (goal.at.loop-distance-preserved g c).After-is_unused_victim in record { lists = looked-lists g d; makes = looked-makes g d }

pub returns-then-is_unused_victim-clause-lists : goal.returns-then-is_unused_victim-clause-lists
returns-then-is_unused_victim-clause-lists g c = looked-lists g (goal.at.returns-then-is_unused_victim-clause-lists g c).After-is_unused_victim

pub returns-then-is_unused_victim-clause-makes : goal.returns-then-is_unused_victim-clause-makes
returns-then-is_unused_victim-clause-makes g c = looked-makes g (goal.at.returns-then-is_unused_victim-clause-makes g c).After-is_unused_victim
