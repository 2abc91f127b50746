use Rattle.fault_entry.proofs.flat_model.Maps.{on_err_any}
use Rattle.std.proofs.Common.{◌≡◌, List, length, take, Some, refl, subst, arith, rules}
use Rattle.std.specs.Prelude.{slice_get, slice_set}
use Rattle.std.proofs.Math.ListN.{get_or}
use Rattle.std.proofs.lemmas.Option.{slice_get-get_or}
use Rattle.lane_driver.specs.Drives.{Drives, DrivesFront}
use Rattle.lane_driver.specs.Lanes.{LaneSeen}
use Rattle.lane_driver.proofs.Driven.{drives-fits, drives-made}
use Rattle.lane_driver.proofs.Ends.{alone-ends}
use Rattle.lane_driver.proofs.Orders.{HaveGone, gone-all, gone-fits, gone-front, gone-more, gone-none, gone-same, within}
use Rattle.lane_driver.proofs.driving.drive.Given.{Over}
use Rattle.lane_driver.proofs.driving.drive.Goals as goal
use Rattle.lane_driver.proofs.driving.drive.Goals.{After-take_turn}

pub loop-number-init : goal.loop-number-init
loop-number-init g c = gone-none c.args.state.now c.args.lanes.now c.requires.seats c.requires.may

pub bounds-lanes-number : goal.bounds-lanes-number
bounds-lanes-number g c = within c.args.order.now c.loop-number.number-index (length c.loop-number.lanes) (length c.args.lanes.now) c.requires.numbers c.loop-number.invariant.count c.loop-number-test.true

pub offset_bounds-lanes-number : goal.offset_bounds-lanes-number
offset_bounds-lanes-number g c =
    let low = within c.args.order.now c.loop-number.number-index (length c.args.lanes.now) (length c.args.lanes.now) c.requires.numbers refl c.loop-number-test.true in
    let here = within c.args.order.now c.loop-number.number-index (length c.loop-number.lanes) (length c.args.lanes.now) c.requires.numbers c.loop-number.invariant.count c.loop-number-test.true in
    first_of (omega arith, search rules)

pub take_turn-requires-clause-fits : goal.take_turn-requires-clause-fits
take_turn-requires-clause-fits g c =
    let i = c.loop-number.number-index in
    let n = get_or c.args.order.now i 0 in
    let low = within c.args.order.now i (length c.loop-number.lanes) (length c.args.lanes.now) c.requires.numbers c.loop-number.invariant.count c.loop-number-test.true in
    gone-fits c.args.order.now i n c.args.state.now c.loop-number.state c.args.lanes.now c.loop-number.lanes c.loop-number.invariant (slice_get-get_or c.args.order.now i 0 c.loop-number-test.true)
    (get_or c.loop-number.lanes n c.index-lanes-number.result) (slice_get-get_or c.loop-number.lanes n c.index-lanes-number.result low) c.requires.fits c.requires.seats

pub take_turn-requires-clause-may : goal.take_turn-requires-clause-may
take_turn-requires-clause-may g c =
    let i = c.loop-number.number-index in
    let n = get_or c.args.order.now i 0 in
    let low = within c.args.order.now i (length c.loop-number.lanes) (length c.args.lanes.now) c.requires.numbers c.loop-number.invariant.count c.loop-number-test.true in
    c.loop-number.invariant.may n (get_or c.loop-number.lanes n c.index-lanes-number.result) (slice_get-get_or c.loop-number.lanes n c.index-lanes-number.result low)

-- the number and its lane
at : (g : Over) (c : After-take_turn g) → slice_get c.args.order.now c.loop-number.number-index ≡ Some (get_or c.args.order.now c.loop-number.number-index 0)
at g c = slice_get-get_or c.args.order.now c.loop-number.number-index 0 c.loop-number-test.true

there : (g : Over) (c : After-take_turn g) → slice_get c.loop-number.lanes (get_or c.args.order.now c.loop-number.number-index 0) ≡ Some (get_or c.loop-number.lanes (get_or c.args.order.now c.loop-number.number-index 0) c.index-lanes-number.result)
there g c =
    let low = within c.args.order.now c.loop-number.number-index (length c.loop-number.lanes) (length c.args.lanes.now) c.requires.numbers c.loop-number.invariant.count c.loop-number-test.true in
    slice_get-get_or c.loop-number.lanes (get_or c.args.order.now c.loop-number.number-index 0) c.index-lanes-number.result low

pub loop-number-preserved : goal.loop-number-preserved
loop-number-preserved g c =
    let i = c.loop-number.number-index in
    let n = get_or c.args.order.now i 0 in
    let d = (goal.at.loop-number-preserved g c).After-take_turn in
    gone-more c.args.order.now i n c.args.state.now c.loop-number.state c.args.lanes.now c.loop-number.lanes c.loop-number.invariant (at g d) (get_or c.loop-number.lanes n c.index-lanes-number.result) (there g d)
    c.take_turn.new.state c.take_turn.new.self c.in_ok-take_turn.ensures.turn c.in_ok-take_turn.ensures.may

-- for want of memory the lanes stand as they stood
stopped : (g : Over) (c : After-take_turn g) → (c.take_turn.new.state ≡ c.loop-number.state) × (c.take_turn.new.self ≡ get_or c.loop-number.lanes (get_or c.args.order.now c.loop-number.number-index 0) c.index-lanes-number.result)
    → HaveGone (take c.loop-number.number-index c.args.order.now) c.args.state.now c.take_turn.new.state c.args.lanes.now (slice_set c.loop-number.lanes (get_or c.args.order.now c.loop-number.number-index 0) c.take_turn.new.self)
stopped g c same =
    let i = c.loop-number.number-index in
    let n = get_or c.args.order.now i 0 in
    gone-same c.args.order.now i n c.args.state.now c.loop-number.state c.args.lanes.now c.loop-number.lanes c.loop-number.invariant (at g c) (get_or c.loop-number.lanes n c.index-lanes-number.result) (there g c)
    c.take_turn.new.state c.take_turn.new.self same.0 same.1

pub returns-in_err-take_turn-clause-err : goal.returns-in_err-take_turn-clause-err
returns-in_err-take_turn-clause-err g c =
    let i = c.loop-number.number-index in
    let n = get_or c.args.order.now i 0 in
    let d = (goal.at.returns-in_err-take_turn-clause-err g c).After-take_turn in
    on_err_any c.from_residual.result (DrivesFront c.args.order.now c.args.state.now c.take_turn.new.state c.args.lanes.now (slice_set c.loop-number.lanes n c.take_turn.new.self))
    (gone-front c.args.order.now i n c.args.state.now c.loop-number.state c.args.lanes.now c.loop-number.lanes c.loop-number.invariant (at g d) (get_or c.loop-number.lanes n c.index-lanes-number.result) (there g d)
    c.take_turn.new.state c.take_turn.new.self c.in_err-take_turn.ensures.err.0 c.in_err-take_turn.ensures.err.1 c.in_err-take_turn.ensures.takes)

pub returns-in_err-take_turn-clause-fits : goal.returns-in_err-take_turn-clause-fits
returns-in_err-take_turn-clause-fits g c = λ opening seats fits.
    let i = c.loop-number.number-index in
    let n = get_or c.args.order.now i 0 in
    let gone = stopped g (goal.at.returns-in_err-take_turn-clause-fits g c).After-take_turn c.in_err-take_turn.ensures.err in
    drives-fits (take i c.args.order.now) c.args.state.now c.take_turn.new.state c.args.lanes.now (slice_set c.loop-number.lanes n c.take_turn.new.self) opening seats gone.drives c.requires.seats fits

pub returns-in_err-take_turn-clause-history : goal.returns-in_err-take_turn-clause-history
returns-in_err-take_turn-clause-history g c =
    let i = c.loop-number.number-index in
    let n = get_or c.args.order.now i 0 in
    let gone = stopped g (goal.at.returns-in_err-take_turn-clause-history g c).After-take_turn c.in_err-take_turn.ensures.err in
    drives-made (take i c.args.order.now) c.args.state.now c.take_turn.new.state c.args.lanes.now (slice_set c.loop-number.lanes n c.take_turn.new.self) gone.drives c.requires.seats

pub returns-in_err-take_turn-clause-may : goal.returns-in_err-take_turn-clause-may
returns-in_err-take_turn-clause-may g c = (stopped g (goal.at.returns-in_err-take_turn-clause-may g c).After-take_turn c.in_err-take_turn.ensures.err).may

pub returns-in_err-take_turn-clause-seats : goal.returns-in_err-take_turn-clause-seats
returns-in_err-take_turn-clause-seats g c = (stopped g (goal.at.returns-in_err-take_turn-clause-seats g c).After-take_turn c.in_err-take_turn.ensures.err).own

pub returns-clause-turns : goal.returns-clause-turns
returns-clause-turns g c =
    gone-all c.args.order.now c.loop-number.number-index c.args.state.now c.loop-number.state c.args.lanes.now c.loop-number.lanes c.loop-number-test.false c.loop-number.invariant

pub returns-clause-fits : goal.returns-clause-fits
returns-clause-fits g c = λ opening seats fits.
    drives-fits (take c.loop-number.number-index c.args.order.now) c.args.state.now c.loop-number.state c.args.lanes.now c.loop-number.lanes opening seats c.loop-number.invariant.drives c.requires.seats fits

pub returns-clause-history : goal.returns-clause-history
returns-clause-history g c = drives-made (take c.loop-number.number-index c.args.order.now) c.args.state.now c.loop-number.state c.args.lanes.now c.loop-number.lanes c.loop-number.invariant.drives c.requires.seats

pub returns-clause-alone : goal.returns-clause-alone
returns-clause-alone g c = λ lane is alone enough.
    let s = c.args.state.now in
    let t = c.loop-number.state in
    alone-ends c.args.order.now s t lane c.loop-number.lanes alone enough
    (subst (λ (ls : List LaneSeen). Drives c.args.order.now s t ls c.loop-number.lanes) is
    (gone-all c.args.order.now c.loop-number.number-index s t c.args.lanes.now c.loop-number.lanes c.loop-number-test.false c.loop-number.invariant))
