use Rattle.std.proofs.Common.{◌≡◌, true, false, inl, inr, ◌∙◌}
use Rattle.page_store.specs.page_lock.Rows.{row_at}
use Rattle.vm_world.specs.World.{world_seen}
use Rattle.seg_ops.specs.Rooms.{MakesRoom}
use Rattle.seg_ops.specs.Steps.{IsUnwritten}
use Rattle.seg_ops.proofs.RoomMade.{room-then}
use Rattle.seg_ops.proofs.SparedPages.{disk-then, next-evicted, same-listed, still-clean}
use Rattle.seg_ops.proofs.sources.make_room_for_copy.Given.{Over}
use Rattle.seg_ops.proofs.sources.make_room_for_copy.Goals.{After-make_room_beside, After-evict}
use Rattle.seg_ops.proofs.sources.make_room_for_copy.Goals as goal

pub make_room_beside-requires-clause-fits : goal.make_room_beside-requires-clause-fits
make_room_beside-requires-clause-fits g c = (c.requires.fits.0, (c.can_be_spared-spared.ensures.makes.keeps c.requires.fits.0 c.requires.fits.1).memory)

pub make_room_beside-requires-clause-noted : goal.make_room_beside-requires-clause-noted
make_room_beside-requires-clause-noted g c = (c.requires.noted.0, (c.can_be_spared-spared.ensures.makes.keeps c.requires.fits.0 c.requires.fits.1).notes c.requires.noted.0 tt c.requires.noted.1)

pub returns-in_default-clause-known : goal.returns-in_default-clause-known
returns-in_default-clause-known g c = λ none. inl (λ l. c.requires.unlisted (same-listed c.args.world.now.store c.can_be_spared-spared.new.world.store c.args.frame c.can_be_spared-spared.ensures.lists (c.make_room_beside.ensures.unlisted l)))

-- what holds once room was looked for
module _ (g : Over) (c : After-make_room_beside g) where
  pub looked : MakesRoom c.args.world.now c.make_room_beside.new.world
  looked = room-then c.args.world.now c.can_be_spared-spared.new.world c.make_room_beside.new.world c.can_be_spared-spared.ensures.makes c.make_room_beside.ensures.makes

  pub still : c.can_be_spared-spared.result ≡ true → ((row_at c.make_room_beside.new.world.store.rows c.args.frame).modified ≡ false) × IsUnwritten c.make_room_beside.new.world.hat.places c.args.frame
  still spared = still-clean (world_seen c.can_be_spared-spared.new.world) (world_seen c.make_room_beside.new.world) c.args.name c.args.frame (looked.stay c.args.name ∙ c.requires.source) c.make_room_beside.ensures.makes.modified
      (c.can_be_spared-spared.ensures.clean spared) c.can_be_spared-spared.ensures.unwritten

pub returns-in_default-clause-makes : goal.returns-in_default-clause-makes
returns-in_default-clause-makes g c = looked g (goal.at.returns-in_default-clause-makes g c).After-make_room_beside

pub returns-then-not-spared-clause-makes : goal.returns-then-not-spared-clause-makes
returns-then-not-spared-clause-makes g c = looked g (goal.at.returns-then-not-spared-clause-makes g c).After-make_room_beside

pub evict-requires-clause-clean : goal.evict-requires-clause-clean
evict-requires-clause-clean g c = (still g (goal.at.evict-requires-clause-clean g c).After-make_room_beside c.if-not-spared.false).0

pub evict-requires-clause-unwritten : goal.evict-requires-clause-unwritten
evict-requires-clause-unwritten g c = (still g (goal.at.evict-requires-clause-unwritten g c).After-make_room_beside c.if-not-spared.false).1

pub evict-requires-clause-fits : goal.evict-requires-clause-fits
evict-requires-clause-fits g c = (c.requires.fits.0, ((looked g (goal.at.evict-requires-clause-fits g c).After-make_room_beside).keeps c.requires.fits.0 c.requires.fits.1).memory)

pub evict-requires-clause-noted : goal.evict-requires-clause-noted
evict-requires-clause-noted g c = (c.requires.noted.0, ((looked g (goal.at.evict-requires-clause-noted g c).After-make_room_beside).keeps c.requires.fits.0 c.requires.fits.1).notes c.requires.noted.0 tt c.requires.noted.1)

-- what holds once the page gave up its frame
given : (g : Over) (c : After-evict g) → MakesRoom c.args.world.now c.evict.new.world
given g c = room-then c.args.world.now c.make_room_beside.new.world c.evict.new.world (room-then c.args.world.now c.can_be_spared-spared.new.world c.make_room_beside.new.world c.can_be_spared-spared.ensures.makes c.make_room_beside.ensures.makes) c.evict.ensures.makes

pub returns-clause-makes : goal.returns-clause-makes
returns-clause-makes g c = given g (goal.at.returns-clause-makes g c).After-evict

pub returns-clause-known : goal.returns-clause-known
returns-clause-known g c = λ none. inr (
  next-evicted c.make_room_beside.new.world.store c.evict.new.world.store c.args.frame c.in-Some.ensures.room.0 c.evict.ensures.store,
  (disk-then c.args.world.now c.evict.new.world c.requires.fits.0 c.args.name c.requires.fits.1 (given g (goal.at.returns-clause-known g c).After-evict)).0
      (c.can_be_spared-spared.ensures.spared.0 c.if-not-spared.false).disk,
)
