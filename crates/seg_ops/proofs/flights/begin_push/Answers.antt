use Rattle.std.proofs.Common.{Option, ap, ◌∙◌, subst}
use Rattle.page_store.specs.page_hash.Names.{is_name}
use Rattle.page_store.specs.page_hash.declared.PageName.{PageName}
use Rattle.page_store.specs.Flight.{note_of}
use Rattle.page_store.specs.Seen.{StoreSeen}
use Rattle.page_store.specs.Steps.{next_name}
use Rattle.page_store.specs.Transfers.{BeginsTransfer, after_begin}
use Rattle.page_store.specs.declared.plan.Plan.TheVariants.{Push}
use Rattle.vm_world.specs.World.{world_seen, world_table}
use Rattle.vm_world.specs.WorldSteps.{WorldStep, leaves}
use Rattle.vm_world.proofs.FrameRule.{frame_law}
use Rattle.seg_ops.specs.Flights.{store_synced}
use Rattle.seg_ops.proofs.Prepared.{Prepared, synced, same-spot, prepared-ready, prepared-flight, prepared-pends, prepared-took, prepared-unloaded}
use Rattle.seg_ops.proofs.flights.begin_push.Given.{Over}
use Rattle.seg_ops.proofs.flights.begin_push.Goals.{After-prepare_push, After-send}
use Rattle.seg_ops.proofs.flights.begin_push.Goals as goal

is : (g : Over) (c : After-prepare_push g) → Prepared (world_seen c.args.world.now) (world_seen c.prepare_push.new.world) c.args.name
is g c = record {
  dirty = c.requires.dirty;
  store = c.prepare_push.ensures.store;
  files = c.prepare_push.ensures.files;
  anon = c.prepare_push.ensures.anon;
  tables = (c.prepare_push.ensures.keeps c.requires.fits.0 c.requires.fits.1).tables;
}

pub send-requires-clause-ready : goal.send-requires-clause-ready
send-requires-clause-ready g c =
    let i = is g (goal.at.send-requires-clause-ready g c).After-prepare_push in
    prepared-ready (world_seen c.args.world.now) (world_seen c.prepare_push.new.world) c.requires.fits.0 c.args.name c.requires.fits.1 (c.prepare_push.ensures.keeps c.requires.fits.0 c.requires.fits.1).memory i c.prepare_push.ensures.ready.0 c.requires.ready

pub send-requires-clause-unloaded : goal.send-requires-clause-unloaded
send-requires-clause-unloaded g c =
    let i = is g (goal.at.send-requires-clause-unloaded g c).After-prepare_push in
    prepared-unloaded (world_seen c.args.world.now) (world_seen c.prepare_push.new.world) c.requires.fits.0 c.args.name c.requires.fits.1 i c.prepare_push.ensures.places

pub send-requires-clause-fits : goal.send-requires-clause-fits
send-requires-clause-fits g c = (c.requires.fits.0, (c.prepare_push.ensures.keeps c.requires.fits.0 c.requires.fits.1).memory)

pub returns-clause-flight : goal.returns-clause-flight
returns-clause-flight g c =
    let i = is g (goal.at.returns-clause-flight g c).After-prepare_push in
    prepared-flight (world_seen c.args.world.now) (world_seen c.prepare_push.new.world) c.requires.fits.0 c.args.name c.args.seat c.send.result c.requires.fits.1 i c.send.ensures.flight

pub returns-clause-store : goal.returns-clause-store
returns-clause-store g c =
    let w = world_seen c.args.world.now in
    let i = is g (goal.at.returns-clause-store g c).After-prepare_push in
    c.send.ensures.store ∙ ap (λ (s : StoreSeen). after_begin (Push c.args.name) s c.args.seat (world_table (world_seen c.prepare_push.new.world) c.args.name).disk) i.store
    ∙ ap (after_begin (Push c.args.name) (store_synced w c.args.name) c.args.seat) (same-spot w (world_seen c.prepare_push.new.world) c.requires.fits.0 c.args.name c.requires.fits.1 i).disk

pub returns-clause-begins : goal.returns-clause-begins
returns-clause-begins g c = subst (λ (s : StoreSeen). BeginsTransfer s c.send.new.world.store (Push c.args.name) c.args.name c.send.result) c.prepare_push.ensures.store c.send.ensures.begins

pub returns-clause-taken : goal.returns-clause-taken
returns-clause-taken g c =
    let w = world_seen c.args.world.now in
    let mid = world_seen c.prepare_push.new.world in
    let i = is g (goal.at.returns-clause-taken g c).After-prepare_push in
    record {
      lost = prepared-took w mid (world_seen c.send.new.world) c.args.name i c.send.ensures.taken.lost;
      tails = prepared-pends w mid c.args.name c.args.world.now.pending c.send.new.world.pending c.prepare_push.new.world.pending i (ap (λ v. v.pending) c.prepare_push.ensures.rest) c.send.ensures.taken.tails;
    }

pub returns-clause-pages : goal.returns-clause-pages
returns-clause-pages g c = λ spaces notes fits nf.
    let w = world_seen c.args.world.now in
    let mid = world_seen c.prepare_push.new.world in
    let i = is g (goal.at.returns-clause-pages g c).After-prepare_push in
    let first = c.prepare_push.ensures.keeps spaces fits in
    let then = c.send.ensures.pages spaces notes first.memory (first.notes notes tt nf) in
    subst (λ (o : Option PageName). WorldStep w (world_seen c.send.new.world) spaces (leaves c.args.seat (note_of c.send.result)) (is_name o)) (ap next_name (synced w mid c.args.name i))
    (frame_law.later w mid (world_seen c.send.new.world) spaces (leaves c.args.seat (note_of c.send.result)) (is_name (next_name mid.store)) fits first then)
