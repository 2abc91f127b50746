use Rattle.std.proofs.Common.{◌≡◌, ◌<◌, ◌≤◌, ◌∙◌, List, sym, ap, subst, arith, length}
use Rattle.vm_core.specs.vm_world.State.{KernelState}
use Rattle.vm_kernel.specs.Rooms.{AreRooms}
use Rattle.vm_kernel.specs.declared.starting.Room.{Room}
use Rattle.bench_kernel.specs.Calls.{AreFirstRooms}
use Rattle.bench_kernel.proofs.Rows.{rooms-of, first-callers}
use Rattle.bench_kernel.proofs.setup.started.Goals.{After-as_slice}
use Rattle.bench_kernel.proofs.setup.started.Goals as goal

first : (c : After-as_slice) → AreFirstRooms c.args.processes c.args.entries c.as_slice.result.now
first c = subst (AreFirstRooms c.args.processes c.args.entries) (sym c.as_slice.ensures.value) c.in_ok-rooms.ensures

pub start-requires-clause-count : goal.start-requires-clause-count
start-requires-clause-count c =
    let long = (first (goal.at.start-requires-clause-count c).After-as_slice).count in
    let some = c.requires.count.0 in
    let few = c.requires.count.1 in
    (omega (arith, long, some), omega (arith, long, few))

pub start-requires-clause-seats : goal.start-requires-clause-seats
start-requires-clause-seats c = (first (goal.at.start-requires-clause-seats c).After-as_slice).count ∙ sym c.in_ok-state.ensures.seats

pub start-requires-clause-rooms : goal.start-requires-clause-rooms
start-requires-clause-rooms c =
    rooms-of c.args.processes c.args.entries c.in_ok-state.state.entries c.as_slice.result.now (first (goal.at.start-requires-clause-rooms c).After-as_slice) c.in_ok-state.ensures.entries

pub start-requires-clause-fits : goal.start-requires-clause-fits
start-requires-clause-fits c = c.in_ok-state.ensures.fits

pub returns-in-Ok : goal.returns-in-Ok
returns-in-Ok c =
    let rooms = first (goal.at.returns-in-Ok c).After-as_slice in
    first-callers _ c.args.processes c.args.entries c.as_slice.result.now rooms
    (ap (λ (s : KernelState). s.parents) c.in-Ok.ensures.kernel.1 ∙ c.in_ok-state.ensures.parents)
    (ap (λ (s : KernelState). s.entries) c.in-Ok.ensures.kernel.1 ∙ c.in_ok-state.ensures.entries)
    _ c.in-Ok.ensures.callers c.in-Ok.ensures.kernel.0
