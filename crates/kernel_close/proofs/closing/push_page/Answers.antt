use Rattle.std.proofs.Common.{ap}
use Rattle.seg_ops.specs.vm_world.World.{world_seen}
use Rattle.kernel_close.proofs.Finishes.{ready-to-push}
use Rattle.kernel_close.proofs.OnePush.{IsPush, push-pushes, push-stores, push-goes, push-fails}
use Rattle.kernel_close.proofs.closing.push_page.Goals as goal
use Rattle.kernel_close.proofs.closing.push_page.Given.{Over}
use Rattle.kernel_close.proofs.closing.push_page.Goals.{After-end_flight}

is : (g : Over) (c : After-end_flight g) → IsPush (world_seen c.args.world.now) (world_seen c.begin_push-flight.new.world) (world_seen c.end_flight.new.world) c.args.name c.begin_push-flight.result c.perform-result.new.self
is g c = record {
  begins = c.begin_push-flight.ensures.flight;
  cut = _;
  leaves = c.begin_push-flight.ensures.pages;
  files = c.begin_push-flight.ensures.files;
  performed = c.perform-result.ensures.performed;
  returns = c.end_flight.ensures.step;
  rest = ap (λ w. w.files) c.end_flight.ensures.rest;
  disk = c.end_flight.ensures.disk;
}

pub begin_push-flight-requires-clause-ready : goal.begin_push-flight-requires-clause-ready
begin_push-flight-requires-clause-ready g c = ready-to-push (world_seen c.args.world.now) c.requires.fits.0 c.args.name c.requires.fits.1 c.requires.noted c.requires.dirty

pub returns-in-Ok-clause-stored : goal.returns-in-Ok-clause-stored
returns-in-Ok-clause-stored g c =
    push-stores (world_seen c.args.world.now) (world_seen c.begin_push-flight.new.world) (world_seen c.end_flight.new.world) c.requires.fits.0 c.args.name c.begin_push-flight.result c.perform-result.new.self
    c.requires.fits.1 c.requires.noted c.requires.page (is g (goal.at.returns-in-Ok-clause-stored g c).After-end_flight) c.in-Ok.ensures.outcome c.requires.dirty.frame c.requires.dirty.home

pub returns-in-Ok-clause-goes : goal.returns-in-Ok-clause-goes
returns-in-Ok-clause-goes g c =
    push-goes (world_seen c.args.world.now) (world_seen c.begin_push-flight.new.world) (world_seen c.end_flight.new.world) c.requires.fits.0 c.args.name c.begin_push-flight.result c.perform-result.new.self
    c.requires.fits.1 c.requires.noted c.requires.page (is g (goal.at.returns-in-Ok-clause-goes g c).After-end_flight) c.in-Ok.ensures.outcome c.requires.dirty.frame c.requires.dirty.home

pub returns-in-Ok-clause-pushes : goal.returns-in-Ok-clause-pushes
returns-in-Ok-clause-pushes g c = λ spaces fits.
    push-pushes (world_seen c.args.world.now) (world_seen c.begin_push-flight.new.world) (world_seen c.end_flight.new.world) spaces c.args.name c.begin_push-flight.result c.perform-result.new.self
    fits c.requires.noted c.requires.page (is g (goal.at.returns-in-Ok-clause-pushes g c).After-end_flight)

pub returns-in-Err-clause-fault : goal.returns-in-Err-clause-fault
returns-in-Err-clause-fault g c =
    push-fails (world_seen c.args.world.now) (world_seen c.begin_push-flight.new.world) (world_seen c.end_flight.new.world) c.requires.fits.0 c.args.name c.begin_push-flight.result c.perform-result.new.self
    c.requires.fits.1 c.requires.noted c.requires.page (is g (goal.at.returns-in-Err-clause-fault g c).After-end_flight) _ c.counts-disk.ensures.number c.counts-disk.ensures.before c.counts-disk.ensures.after

pub returns-in-Err-clause-pushes : goal.returns-in-Err-clause-pushes
returns-in-Err-clause-pushes g c = λ spaces fits.
    push-pushes (world_seen c.args.world.now) (world_seen c.begin_push-flight.new.world) (world_seen c.end_flight.new.world) spaces c.args.name c.begin_push-flight.result c.perform-result.new.self
    fits c.requires.noted c.requires.page (is g (goal.at.returns-in-Err-clause-pushes g c).After-end_flight)
