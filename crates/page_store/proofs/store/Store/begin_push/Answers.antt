use Rattle.std.proofs.Common.{◌≡◌, ℕ, ◌<◌, Option, Some, None, List, true, length, refl, sym, ◌∙◌, ap, subst, arith}
use Rattle.std.specs.Option.{option_or}
use Rattle.core_arena.specs.Bytes.{bytes_at}
use Rattle.std.proofs.Math.ListN.{length-set}
use Rattle.page_hash.specs.Names.{find}
use Rattle.page_lock.specs.declared.Row.{Row}
use Rattle.page_lock.specs.Rows.{row_at}
use Rattle.page_store.specs.Bays.{home, bay_at}
use Rattle.page_store.specs.Parts.{rows_forsaken}
use Rattle.page_store.specs.Flight.{FlightSeen, fresh}
use Rattle.page_store.specs.Seen.{StoreSeen, IsSoundStore, IsListedFrame, store_of, residence}
use Rattle.page_store.specs.Steps.{at_frame, with_push_begun, without_snapshot, next_frame, home_bytes}
use Rattle.page_store.specs.Transfers.{BeginsTransfer}
use Rattle.page_store.specs.declared.plan.Plan.TheVariants.{Push}
use Rattle.page_store.proofs.AbortLemmas.{forsakes, forsaken-unheld}
use Rattle.page_store.proofs.BeginLemmas.{begins-push, pushed-parts, taken-others, out-within}
use Rattle.page_store.proofs.FrameLaws.{copy-apart, source-within}
use Rattle.page_store.proofs.QueryLemmas.{IsIn, is-in, same-frame, bytes-within}
use Rattle.page_store.proofs.store.Store.begin_push.Given.{Over}
use Rattle.page_store.proofs.store.Store.begin_push.Goals.{After-take}
use Rattle.page_store.proofs.store.Store.begin_push.Goals as goal

pub forsake-requires-clause-copy : goal.forsake-requires-clause-copy
forsake-requires-clause-copy g c = λ copy e.
    let source = c.self.invariant.sound.paired.source c.in-Some.own copy e in
    (source-within c.self.inside.locks copy c.in-Some.own source, copy-apart _ c.self.invariant.sound c.in-Some.own copy source)

pub take_out-frame-requires-clause-others : goal.take_out-frame-requires-clause-others
take_out-frame-requires-clause-others g c = λ at e.
    let s : StoreSeen = store_of c.self.inside.core c.self.inside.names c.self.inside.lists c.self.inside.locks c.self.inside.clock c.self.inside.bays c.self.inside.order in
    let found : find c.args.self.now.names c.args.name ≡ Some c.in-Some.own = ap (λ (x : StoreSeen). find x.names c.args.name) (sym c.self.view_is) ∙ sym c.in-Some.ensures.first in
    let same : c.requires.can.0 ≡ c.in-Some.own = same-frame c.args.self.now c.args.name c.in-Some.own c.requires.can.0 c.requires.can.1 found in
    let unlisted : ¬ IsListedFrame s c.in-Some.own = subst (λ (x : StoreSeen). ¬ IsListedFrame x c.in-Some.own) (sym c.self.view_is)
    (subst (λ (k : ℕ). ¬ IsListedFrame c.args.self.now k) same c.requires.can.2) in
    let t = taken-others s c.in-Some.own at c.self.invariant.sound unlisted e in
    let long : length c.forsake.new.locks ≡ length c.self.inside.locks = ap (λ (l : List Row). length l) c.forsake.ensures ∙ (forsakes s c.in-Some.own c.self.invariant.sound).length in
    (t.0, t.1, t.2, subst (λ (n : ℕ). at < n) (sym long) t.3)

pub take_out-frame-requires-clause-unheld : goal.take_out-frame-requires-clause-unheld
take_out-frame-requires-clause-unheld g c =
    let found : find c.args.self.now.names c.args.name ≡ Some c.in-Some.own = ap (λ (x : StoreSeen). find x.names c.args.name) (sym c.self.view_is) ∙ sym c.in-Some.ensures.first in
    let page = is-in c.args.self.now c.args.name c.in-Some.own c.requires.can.0 c.requires.can.1 found in
    rw c.forsake.ensures (subst (λ (x : StoreSeen). (row_at (rows_forsaken x.rows c.in-Some.own) c.in-Some.own).holder ≡ None) (sym c.self.view_is)
    (forsaken-unheld c.args.self.now c.args.name c.in-Some.own (subst IsSoundStore c.self.view_is c.self.invariant.sound) page))

-- the flight
abbrev flight : (g : Over) → After-take g → FlightSeen
flight g c = record {
  seat = c.args.seat;
  number = c.args.disk;
  disk = g.D.Disk.seen c.take.result;
  writes = true;
  name = c.args.name;
  block = c.args.block;
  valid = c.args.valid;
  origin = c.take_out-frame.result.origin;
  frame = c.take_out-frame.result.number;
  bytes = c.take_out-frame.result.bytes;
  before = 0;
  outcome = fresh;
}

-- the frames, the store that the call makes, and its laws
record Begun (g : Over) (c : After-take g) : Type 0 where
  page : IsIn c.args.self.now c.args.name c.in-Some.own
  frame : option_or (next_frame c.args.self.now) (Some c.in-Some.own) ≡ Some c.take_out-frame.result.number
  bytes : bytes_at c.args.self.now.frames c.in-Some.own ≡ Some c.take_out-frame.result.bytes
  new : store_of c.take_out-frame.new.core c.take_out-frame.new.names c.take_out-frame.new.lists c.take_out-frame.new.locks c.self.inside.clock c.take.new.self c.self.inside.order
      ≡ with_push_begun (without_snapshot c.args.self.now c.in-Some.own) c.in-Some.own (next_frame c.args.self.now) c.args.seat c.args.disk
  laws : BeginsTransfer c.args.self.now (with_push_begun (without_snapshot c.args.self.now c.in-Some.own) c.in-Some.own
      (next_frame c.args.self.now) c.args.seat c.args.disk) (Push c.args.name) c.args.name (flight g c)

is : (g : Over) (c : After-take g) → Begun g c
is g c =
    let found : find c.args.self.now.names c.args.name ≡ Some c.in-Some.own = ap (λ (x : StoreSeen). find x.names c.args.name) (sym c.self.view_is) ∙ sym c.in-Some.ensures.first in
    let same : c.requires.can.0 ≡ c.in-Some.own = same-frame c.args.self.now c.args.name c.in-Some.own c.requires.can.0 c.requires.can.1 found in
    let frame : option_or (next_frame c.args.self.now) (Some c.in-Some.own) ≡ Some c.take_out-frame.result.number = ap
    (λ (x : StoreSeen). option_or (next_frame x) (Some c.in-Some.own)) (sym c.self.view_is) ∙ c.take_out-frame.ensures.number in
    let bytes : bytes_at c.args.self.now.frames c.in-Some.own ≡ Some c.take_out-frame.result.bytes = ap (λ (x : StoreSeen). bytes_at x.frames c.in-Some.own)
    (sym c.self.view_is) ∙ c.take_out-frame.ensures.bytes in
    record {
      page = is-in c.args.self.now c.args.name c.in-Some.own c.requires.can.0 c.requires.can.1 found;
      frame = frame;
      bytes = bytes;
      new = pushed-parts c.self.inside.core c.take_out-frame.new.core c.self.inside.names c.take_out-frame.new.names c.self.inside.lists
          c.take_out-frame.new.lists c.self.inside.locks c.forsake.new.locks c.take_out-frame.new.locks c.self.inside.clock
          c.self.inside.bays c.take.new.self c.self.inside.order c.in-Some.own c.take_out-frame.result.number c.args.seat c.args.disk
          c.take_out-frame.ensures.number c.forsake.ensures c.take_out-frame.ensures.core c.take_out-frame.ensures.names
          c.take_out-frame.ensures.lists c.take_out-frame.ensures.locks c.take.ensures.new
          ∙ ap (λ (x : StoreSeen). with_push_begun (without_snapshot x c.in-Some.own) c.in-Some.own (next_frame x) c.args.seat c.args.disk) c.self.view_is;
      laws = begins-push c.args.self.now (flight g c) c.in-Some.own (subst IsSoundStore c.self.view_is c.self.invariant.sound) found
          (subst (λ (k : ℕ). ¬ IsListedFrame c.args.self.now k) same c.requires.can.2)
          (ap (λ (x : StoreSeen). bay_at x.bays c.args.disk) (sym c.self.view_is) ∙ c.take.ensures.disk) refl
          (c.take_out-frame.ensures.origin ∙ ap (λ (x : StoreSeen). x.origin) c.self.view_is) bytes (next_frame c.args.self.now) refl frame;
    }

pub invariant_of-self : goal.invariant_of-self
invariant_of-self g c =
    let i = is g (goal.at.invariant_of-self g c).After-take in
    record {
      sound = subst IsSoundStore (sym i.new) i.laws.sound;
      counted = rw c.take_out-frame.ensures.core (length-set c.self.inside.core.frames c.take_out-frame.result.number None ∙ c.self.invariant.counted);
      listed = rw c.take_out-frame.ensures.lists c.self.invariant.listed;
      pointer = c.self.invariant.pointer;
    }

pub returns-clause-frame : goal.returns-clause-frame
returns-clause-frame g c =
    let i = is g (goal.at.returns-clause-frame g c).After-take in
    ap (λ (o : Option ℕ). option_or (next_frame c.args.self.now) o) i.page.found ∙ i.frame

pub returns-clause-bytes : goal.returns-clause-bytes
returns-clause-bytes g c = let i = is g (goal.at.returns-clause-bytes g c).After-take in rw (i.page.found, i.bytes) refl

pub returns-clause-new : goal.returns-clause-new
returns-clause-new g c =
    let i = is g (goal.at.returns-clause-new g c).After-take in
    i.new ∙ sym (ap (λ (o : Option ℕ). at_frame o c.args.self.now (λ own. with_push_begun (without_snapshot c.args.self.now own) own
    (next_frame c.args.self.now) c.args.seat c.args.disk)) i.page.found)

pub returns-clause-laws : goal.returns-clause-laws
returns-clause-laws g c =
    let i = is g (goal.at.returns-clause-laws g c).After-take in
    subst (λ (x : StoreSeen). BeginsTransfer c.args.self.now x (Push c.args.name) c.args.name (flight g (goal.at.returns-clause-laws g c).After-take)) (sym i.new) i.laws
