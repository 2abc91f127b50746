use Rattle.std.proofs.Common.{◌≡◌, ℕ, ◌<◌, Option, Some, None, List, false, length, refl, sym, ◌∙◌, ap, subst, arith}
use Rattle.std.proofs.Math.ListN.{length-set}
use Rattle.core_arena.specs.Bytes.{bytes_at}
use Rattle.page_hash.specs.Names.{find}
use Rattle.page_store.specs.Flight.{FlightSeen, fresh}
use Rattle.page_store.specs.Seen.{StoreSeen, IsSoundStore, store_of, residence}
use Rattle.page_store.specs.Steps.{at_frame, with_read_begun, next_frame, home_bytes}
use Rattle.page_store.specs.Transfers.{BeginsTransfer}
use Rattle.page_store.specs.Bays.{home, bay_at}
use Rattle.page_store.specs.declared.plan.Plan.TheVariants.{Read}
use Rattle.page_store.proofs.BeginLemmas.{begins-read}
use Rattle.page_store.proofs.FillLemmas.{taken-within}
use Rattle.page_store.proofs.QueryLemmas.{absent-is}
use Rattle.page_store.proofs.store.Store.begin_read.Given.{Over}
use Rattle.page_store.proofs.store.Store.begin_read.Goals.{After-take}
use Rattle.page_store.proofs.store.Store.begin_read.Goals as goal

pub rename-requires-clause-absent : goal.rename-requires-clause-absent
rename-requires-clause-absent g c = absent-is _ c.args.name c.self.invariant.sound (ap (λ (x : StoreSeen). residence x c.args.name) c.self.view_is ∙ c.requires.can.1)

-- the flight
abbrev flight : (g : Over) → After-take g → FlightSeen
flight g c = record {
  seat = c.args.seat;
  number = c.args.disk;
  disk = g.D.Disk.seen c.take.result;
  writes = false;
  name = c.args.name;
  block = c.args.block;
  valid = c.args.valid;
  origin = c.take-frame.result.origin;
  frame = c.take-frame.result.number;
  bytes = c.take-frame.result.bytes;
  before = 0;
  outcome = fresh;
}

-- the frame that is taken, the store that the call makes, and its laws
record Begun (g : Over) (c : After-take g) : Type 0 where
  next : next_frame c.args.self.now ≡ Some c.take-frame.result.number
  bytes : bytes_at c.args.self.now.frames c.take-frame.result.number ≡ Some c.take-frame.result.bytes
  new : store_of c.take-frame.new.self c.rename.new.names c.take_frame-at.new.lists c.reserve.new.locks c.self.inside.clock c.take.new.self
      c.self.inside.order ≡ with_read_begun c.args.self.now c.take-frame.result.number c.args.name c.args.seat c.args.disk
  laws : BeginsTransfer c.args.self.now (with_read_begun c.args.self.now c.take-frame.result.number c.args.name c.args.seat c.args.disk) (Read c.args.name) c.args.name (flight g c)

is : (g : Over) (c : After-take g) → Begun g c
is g c =
    let n : c.take-frame.result.number ≡ c.take_frame-at.result = c.take-frame.ensures.number in
    let next : next_frame c.args.self.now ≡ Some c.take-frame.result.number = ap (λ (x : StoreSeen). next_frame x) (sym c.self.view_is)
    ∙ c.take_frame-at.ensures.frame ∙ ap (λ (k : ℕ). Some k) (sym n) in
    let bytes : bytes_at c.args.self.now.frames c.take-frame.result.number ≡ Some c.take-frame.result.bytes = ap
    (λ (x : StoreSeen). bytes_at x.frames c.take-frame.result.number) (sym c.self.view_is) ∙ rw n c.take-frame.ensures.bytes in
    let sound : IsSoundStore c.args.self.now = subst IsSoundStore c.self.view_is c.self.invariant.sound in
    record {
      next = next;
      bytes = bytes;
      new = rw (n, c.take-frame.ensures.new, c.take_frame-at.ensures.rest, c.rename.ensures.new, c.reserve.ensures, c.take.ensures.new)
          (ap (λ (x : StoreSeen). with_read_begun x c.take_frame-at.result c.args.name c.args.seat c.args.disk) c.self.view_is);
      laws = begins-read c.args.self.now (flight g c) sound next (absent-is c.args.self.now c.args.name sound c.requires.can.1)
          (ap (λ (x : StoreSeen). bay_at x.bays c.args.disk) (sym c.self.view_is) ∙ c.take.ensures.disk) refl
          (c.take-frame.ensures.origin ∙ ap (λ (x : StoreSeen). x.origin) c.self.view_is) bytes;
    }

pub invariant_of-self : goal.invariant_of-self
invariant_of-self g c =
    let i = is g (goal.at.invariant_of-self g c).After-take in
    let count : length c.args.self.now.frames ≡ c.self.inside.frames = sym (ap (λ (x : StoreSeen). length x.frames) c.self.view_is) ∙ c.self.invariant.counted in
    let taken : c.take-frame.result.number < length c.args.self.now.frames = taken-within c.args.self.now c.take-frame.result.number
    (subst IsSoundStore c.self.view_is c.self.invariant.sound) i.next in
    let n : c.take-frame.result.number ≡ c.take_frame-at.result = c.take-frame.ensures.number in
    record {
      sound = subst IsSoundStore (sym i.new) i.laws.sound;
      counted = rw c.take-frame.ensures.new (length-set c.self.inside.core.frames c.take_frame-at.result None ∙ c.self.invariant.counted);
      listed = rw c.take_frame-at.ensures.rest c.self.invariant.listed;
      pointer = c.self.invariant.pointer;
    }

pub returns-clause-frame : goal.returns-clause-frame
returns-clause-frame g c = (is g (goal.at.returns-clause-frame g c).After-take).next

pub returns-clause-bytes : goal.returns-clause-bytes
returns-clause-bytes g c = let i = is g (goal.at.returns-clause-bytes g c).After-take in rw (i.next, i.bytes) refl

pub returns-clause-new : goal.returns-clause-new
returns-clause-new g c =
    let i = is g (goal.at.returns-clause-new g c).After-take in
    i.new ∙ sym (ap (λ (o : Option ℕ). at_frame o c.args.self.now (λ f. with_read_begun c.args.self.now f c.args.name c.args.seat c.args.disk)) i.next)

pub returns-clause-laws : goal.returns-clause-laws
returns-clause-laws g c =
    let i = is g (goal.at.returns-clause-laws g c).After-take in
    subst (λ (x : StoreSeen). BeginsTransfer c.args.self.now x (Read c.args.name) c.args.name (flight g (goal.at.returns-clause-laws g c).After-take)) (sym i.new) i.laws
