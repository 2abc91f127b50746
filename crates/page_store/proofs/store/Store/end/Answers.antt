use Rattle.std.proofs.Common.{◌≡◌, ◌≢◌, ℕ, ◌<◌, Bool, Option, Some, None, List, length, refl, sym, ◌∙◌, ap, subst, arith, IsSome}
use Rattle.std.proofs.Math.ListN.{length-set}
use Rattle.block_device.specs.DiskSeen.{HasBlocks}
use Rattle.page_lists.specs.ListsSeen.{ListsSeen}
use Rattle.page_lock.specs.Rows.{row_at}
use Rattle.page_lock.specs.declared.Row.{Row}
use Rattle.page_store.specs.Bays.{BaySeen, out, bay_at}
use Rattle.page_store.specs.Flight.{FlightSeen}
use Rattle.page_store.specs.Out.{IsFlightOf}
use Rattle.page_store.specs.Parts.{rows_settled}
use Rattle.page_store.specs.Seen.{StoreSeen, IsSoundStore, store_of}
use Rattle.page_store.specs.Stages.{outcome_at}
use Rattle.page_store.specs.Steps.{after_end, is_lost, is_dirty}
use Rattle.page_store.specs.Transfers.{EndsTransfer}
use Rattle.page_store.proofs.EndLemmas.{ends-flight, ended-parts, Back, back-at}
use Rattle.page_store.proofs.store.Store.end.Given.{Over}
use Rattle.page_store.proofs.store.Store.end.Goals.{After-put, After-land}
use Rattle.page_store.proofs.store.Store.end.Goals as goal

-- the flight is out, and its frame is held
abbrev flight_put : (g : Over) → After-put g → FlightSeen
flight_put g c = record {
  seat = c.flight.inside.seat;
  number = c.flight.inside.number;
  disk = g.D.Disk.seen c.flight.inside.disk;
  writes = c.flight.inside.writes;
  name = c.flight.inside.name;
  block = c.flight.inside.block;
  valid = c.flight.inside.valid;
  origin = c.flight.inside.frame.origin;
  frame = c.flight.inside.frame.number;
  bytes = c.flight.inside.frame.bytes;
  before = c.flight.inside.before;
  outcome = outcome_at c.flight.inside.stage;
}

out_of : (g : Over) (c : After-put g) → IsFlightOf c.args.self.now (flight_put g c)
out_of g c = subst (λ (f : FlightSeen). IsFlightOf c.args.self.now f) (sym c.flight.view_is) c.requires.out

held : (g : Over) (c : After-put g) → (row_at c.self.inside.locks c.number-at.result).holder ≡ Some c.flight.inside.seat
held g c = ap (λ (k : ℕ). (row_at c.self.inside.locks k).holder) c.number-at.ensures
    ∙ ap (λ (x : StoreSeen). (row_at x.rows c.flight.inside.frame.number).holder) c.self.view_is ∙ (out_of g c).out.holder

back : (g : Over) (c : After-put g) (dirty : Bool) → Back
    (store_of c.self.inside.core c.self.inside.names c.self.inside.lists c.self.inside.locks c.self.inside.clock c.self.inside.bays c.self.inside.order) c.number-at.result dirty
back g c dirty = back-at _ c.number-at.result c.flight.inside.seat dirty c.self.invariant.sound (held g c)

pub bring_back-requires : goal.bring_back-requires
bring_back-requires g c =
    (c.flight.inside.seat, ap (λ (x : StoreSeen). bay_at x.bays c.flight.inside.number) c.self.view_is ∙ (out_of g (goal.at.bring_back-requires g c).After-put).out.bay)

pub settle-requires-clause-frame : goal.settle-requires-clause-frame
settle-requires-clause-frame g c = (back g (goal.at.settle-requires-clause-frame g c).After-put c.is_dirty.result).within

pub settle-requires-clause-own : goal.settle-requires-clause-own
settle-requires-clause-own g c = (back g (goal.at.settle-requires-clause-own g c).After-put c.is_dirty.result).own

pub row-requires : goal.row-requires
row-requires g c =
    let b = back g (goal.at.row-requires g c).After-put c.is_dirty.result in
    subst (λ (n : ℕ). c.number-at.result < n) (sym (ap (λ (l : List Row). length l) c.settle.ensures ∙ b.length)) b.within

pub land-requires-clause-named : goal.land-requires-clause-named
land-requires-clause-named g c = (back g (goal.at.land-requires-clause-named g c).After-put c.is_dirty.result).named

pub land-requires-clause-within : goal.land-requires-clause-within
land-requires-clause-within g c =
    let b = back g (goal.at.land-requires-clause-within g c).After-put c.is_dirty.result in
    subst (λ (n : ℕ). c.number-at.result < n) (sym (ap (λ (l : List Row). length l) c.settle.ensures ∙ b.length)) b.within

pub land-requires-clause-listed : goal.land-requires-clause-listed
land-requires-clause-listed g c =
    let b = back g (goal.at.land-requires-clause-listed g c).After-put c.is_dirty.result in
    let f = b.framed in
    let a = c.self.invariant.counted in
    let l = c.self.invariant.listed in
    omega arith

pub land-requires-clause-held : goal.land-requires-clause-held
land-requires-clause-held g c =
    let place = (goal.at.land-requires-clause-held g c).After-put in
    let h : (row_at c.settle.new.locks c.number-at.result).holder ≡ Some c.flight.inside.seat = ap
    (λ (l : List Row). (row_at l c.number-at.result).holder) c.settle.ensures ∙ (back g place c.is_dirty.result).holder ∙ held g place in
    subst (λ (o : Option ℕ). IsSome o) (sym h) refl

pub land-requires-clause-unlisted : goal.land-requires-clause-unlisted
land-requires-clause-unlisted g c = (back g (goal.at.land-requires-clause-unlisted g c).After-put c.is_dirty.result).unlisted

abbrev flight : (g : Over) → After-land g → FlightSeen
flight g c = record {
  seat = c.flight.inside.seat;
  number = c.flight.inside.number;
  disk = g.D.Disk.seen c.flight.inside.disk;
  writes = c.flight.inside.writes;
  name = c.flight.inside.name;
  block = c.flight.inside.block;
  valid = c.flight.inside.valid;
  origin = c.flight.inside.frame.origin;
  frame = c.flight.inside.frame.number;
  bytes = c.flight.inside.frame.bytes;
  before = c.flight.inside.before;
  outcome = outcome_at c.flight.inside.stage;
}

-- the store that the call makes, and its laws
record Ended (g : Over) (c : After-land g) : Type 0 where
  new : store_of c.put.new.self c.land.new.names c.land.new.lists c.land.new.locks c.self.inside.clock c.bring_back.new.self c.self.inside.order ≡ after_end c.args.self.now c.args.flight
  laws : EndsTransfer c.args.self.now (after_end c.args.self.now c.args.flight) c.args.flight

is : (g : Over) (c : After-land g) → Ended g c
is g c =
    let mid : c.settle.new.locks ≡ rows_settled
    (row_at c.self.inside.locks c.flight.inside.frame.number).source c.self.inside.locks c.flight.inside.frame.number (is_dirty (outcome_at c.flight.inside.stage)) =
    c.settle.ensures ∙ ap (λ (k : ℕ). rows_settled (row_at c.self.inside.locks k).source c.self.inside.locks k c.is_dirty.result) c.number-at.ensures
    ∙ ap (λ (b : Bool). rows_settled (row_at c.self.inside.locks c.flight.inside.frame.number).source c.self.inside.locks c.flight.inside.frame.number b) c.is_dirty.ensures in
    let lost : c.is_lost-lost.result ≡ is_lost c.flight.inside.writes (outcome_at c.flight.inside.stage) (row_at c.settle.new.locks c.flight.inside.frame.number).gone =
    c.is_lost-lost.ensures ∙ ap (λ (r : Row). is_lost c.flight.inside.writes (outcome_at c.flight.inside.stage) r.gone) (c.row.ensures ∙ ap (row_at c.settle.new.locks) c.number-at.ensures) in
    record {
      new = rw (c.put.ensures.new, c.land.ensures.names, c.land.ensures.locks, c.land.ensures.lists, c.bring_back.ensures)
          (ended-parts (store_of c.self.inside.core c.self.inside.names c.self.inside.lists c.self.inside.locks c.self.inside.clock c.self.inside.bays
          c.self.inside.order) (flight g c) c.settle.new.locks c.number-at.result c.is_lost-lost.result c.is_dirty-2.result c.number-at.ensures mid c.is_dirty-2.ensures lost)
          ∙ ap (λ (x : StoreSeen). after_end x (flight g c)) c.self.view_is ∙ ap (after_end c.args.self.now) c.flight.view_is;
      laws = ends-flight c.args.self.now c.args.flight (subst IsSoundStore c.self.view_is c.self.invariant.sound) c.requires.out c.requires.performed
          (subst (λ (f : FlightSeen). HasBlocks f.disk.content f.disk.size) c.flight.view_is (g.met.D.Disk.has_blocks c.flight.inside.disk))
          (subst (λ (f : FlightSeen). length f.bytes ≡ 4096) c.flight.view_is c.put.ensures.size);
    }

pub invariant_of-self : goal.invariant_of-self
invariant_of-self g c =
    let i = is g (goal.at.invariant_of-self g c).After-land in
    record {
      sound = subst IsSoundStore (sym i.new) i.laws.sound;
      counted = rw c.put.ensures.new (length-set c.self.inside.core.frames c.flight.inside.frame.number _ ∙ c.self.invariant.counted);
      listed = ap (λ (l : ListsSeen). l.frames) c.land.ensures.lists ∙ c.self.invariant.listed;
      pointer = c.next_hand-self-inside.ensures.within;
    }

pub returns-clause-new : goal.returns-clause-new
returns-clause-new g c = (is g (goal.at.returns-clause-new g c).After-land).new

pub returns-clause-laws : goal.returns-clause-laws
returns-clause-laws g c =
    let i = is g (goal.at.returns-clause-laws g c).After-land in
    subst (λ (x : StoreSeen). EndsTransfer c.args.self.now x c.args.flight) (sym i.new) i.laws
