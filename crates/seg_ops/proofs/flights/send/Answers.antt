use Rattle.std.proofs.Common.{◌≡◌, ℕ, None, sym, ap, ◌∙◌, subst}
use Rattle.std.specs.Prelude.{IsTrue}
use Rattle.page_store.specs.page_hash.Names.{is_name}
use Rattle.page_store.specs.page_hash.declared.PageName.{PageName}
use Rattle.page_store.specs.Bays.{bay_at}
use Rattle.page_store.specs.Flight.{FlightSeen, Begins, note_of}
use Rattle.page_store.specs.Seen.{StoreSeen}
use Rattle.page_store.specs.Steps.{next_name}
use Rattle.page_store.specs.Transfers.{BeginsTransfer, after_begin, is_push}
use Rattle.page_store.specs.Waits.{Waits, plan_page}
use Rattle.page_store.specs.declared.place.Place.{Place}
use Rattle.vm_world.specs.World.{World, world_seen, world_table, page_exists}
use Rattle.vm_world.specs.WorldSteps.{WorldStep, leaves}
use Rattle.seg_ops.proofs.Begins.{Begun, begins-step, can-begin, can-exist}
use Rattle.seg_ops.proofs.Pending.{loses, next-there, pends-next}
use Rattle.seg_ops.proofs.flights.send.Given.{Over}
use Rattle.seg_ops.proofs.flights.send.Goals.{After-pend_tail}
use Rattle.seg_ops.proofs.flights.send.Goals as goal

pub world_table-place-requires-clause-exists : goal.world_table-place-requires-clause-exists
world_table-place-requires-clause-exists g c =
    subst (λ (n : PageName). IsTrue (page_exists c.args.world.now.files c.args.world.now.anon n)) (sym c.plan_page.ensures) (can-exist (world_seen c.args.world.now) c.requires.fits.0 c.args.plan c.requires.fits.1 c.requires.can)

pub begin-flight-requires-clause-ready : goal.begin-flight-requires-clause-ready
begin-flight-requires-clause-ready g c =
    let is = c.world_table-place.ensures.place ∙ ap (world_table (world_seen c.args.world.now)) c.plan_page.ensures in
    subst (λ (n : ℕ). Waits c.args.world.now.store (plan_page c.args.plan) n None) (sym (ap (λ (p : Place). p.disk) is)) c.requires.ready

pub begin-flight-requires-clause-can : goal.begin-flight-requires-clause-can
begin-flight-requires-clause-can g c = can-begin (world_seen c.args.world.now) c.requires.fits.0 c.args.plan c.requires.fits.1 c.requires.can

pub pend_tail-requires-clause-exists : goal.pend_tail-requires-clause-exists
pend_tail-requires-clause-exists g c = next-there (world_seen c.args.world.now) c.requires.fits.0 c.next_name-lost.result c.requires.fits.1 c.next_name-lost.ensures

-- What went out.
record Out (g : Over) (c : After-pend_tail g) : Type 0 where
  pub store : c.pend_tail.new.world.store ≡ c.begin-flight.new.self
  pub place : c.world_table-place.result ≡ world_table (world_seen c.args.world.now) (plan_page c.args.plan)
  pub begun : Begun (world_seen c.args.world.now) c.begin-flight.new.self c.args.plan c.begin-flight.result

is : (g : Over) (c : After-pend_tail g) → Out g c
is g c =
    let w = world_seen c.args.world.now in
    let f : FlightSeen = c.begin-flight.result in
    let place = c.world_table-place.ensures.place ∙ ap (world_table w) c.plan_page.ensures in
    let b = c.begin-flight.ensures.flight in
    record {
      store = ap (λ v. v.store) c.pend_tail.ensures.rest;
      place = place;
      begun = record {
        name = b.name;
        writes = b.writes;
        was = ap (bay_at w.store.bays) b.number ∙ b.disk;
        disk = ap (λ (p : Place). p.disk) (sym place) ∙ sym b.number;
        block = ap (λ (p : Place). p.block) (sym place) ∙ sym b.block;
        valid = ap (λ (p : Place). p.valid) (sym place) ∙ sym b.valid;
        frame = c.begin-flight.ensures.frame;
        bytes = c.begin-flight.ensures.bytes;
        step = c.begin-flight.ensures.new ∙ ap (λ (n : ℕ). after_begin c.args.plan w.store n c.world_table-place.result.disk) (sym b.seat) ∙ ap (λ (n : ℕ). after_begin c.args.plan w.store f.seat n) (sym b.number);
        laws = c.begin-flight.ensures.laws;
      };
    }

pub returns-clause-flight : goal.returns-clause-flight
returns-clause-flight g c =
    let w = world_seen c.args.world.now in
    let i = is g (goal.at.returns-clause-flight g c).After-pend_tail in
    record {
      begins = subst (λ (p : Place). Begins c.begin-flight.result c.args.seat p.disk (bay_at w.store.bays p.disk) (is_push c.args.plan) (plan_page c.args.plan) p.block p.valid w.store.origin) i.place c.begin-flight.ensures.flight;
      frame = c.begin-flight.ensures.frame;
      bytes = c.begin-flight.ensures.bytes;
    }

pub returns-clause-store : goal.returns-clause-store
returns-clause-store g c =
    let i = is g (goal.at.returns-clause-store g c).After-pend_tail in
    i.store ∙ c.begin-flight.ensures.new ∙ ap (λ (p : Place). after_begin c.args.plan c.args.world.now.store c.args.seat p.disk) i.place

pub returns-clause-begins : goal.returns-clause-begins
returns-clause-begins g c =
    let i = is g (goal.at.returns-clause-begins g c).After-pend_tail in
    subst (λ (s : StoreSeen). BeginsTransfer c.args.world.now.store s c.args.plan (plan_page c.args.plan) c.begin-flight.result) (sym i.store) i.begun.laws

pub returns-clause-taken : goal.returns-clause-taken
returns-clause-taken g c =
    let w = world_seen c.args.world.now in
    let i = is g (goal.at.returns-clause-taken g c).After-pend_tail in
    let laws = subst (λ (s : StoreSeen). BeginsTransfer c.args.world.now.store s c.args.plan (plan_page c.args.plan) c.begin-flight.result) (sym i.store) i.begun.laws in
    record {
      lost = loses w (world_seen c.pend_tail.new.world) laws.sound laws.lost;
      tails = pends-next w c.args.world.now.pending c.pend_tail.new.world.pending c.next_name-lost.result c.next_name-lost.ensures (record { bits = c.pend_tail.ensures.pends.bits; below = c.pend_tail.ensures.pends.below });
    }

pub returns-clause-pages : goal.returns-clause-pages
returns-clause-pages g c = λ spaces notes fits nf.
    let w = world_seen c.args.world.now in
    let f : FlightSeen = c.begin-flight.result in
    let i = is g (goal.at.returns-clause-pages g c).After-pend_tail in
    subst (λ (v : World). WorldStep w v spaces (leaves c.args.seat (note_of f)) (is_name (next_name w.store))) (sym (ap world_seen c.pend_tail.ensures.rest))
    (subst (λ (n : ℕ). WorldStep w (record w { store = c.begin-flight.new.self }) spaces (leaves n (note_of f)) (is_name (next_name w.store))) c.begin-flight.ensures.flight.seat
    (begins-step w spaces notes c.begin-flight.new.self c.args.plan f fits nf c.requires.can (c.requires.unloaded f.frame c.begin-flight.ensures.frame) i.begun))
