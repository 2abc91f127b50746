use Rattle.std.proofs.Common.{◌≡◌, ◌-◌, sym, arith}
use Rattle.fault_entry.specs.addr_space.Space.{Part, part}
use Rattle.fault_entry.specs.vm_world.World.{world_seen}
use Rattle.fault_entry.specs.vm_world.declared.segment.Segment.{Segment}
use Rattle.mmap_calls.proofs.CleanRanges.{size, spot-in}
use Rattle.mmap_calls.proofs.RangeProtections.{Holds, holds}
use Rattle.vm_core.proofs.Rising.{none-raised, piece-raised}
use Rattle.vm_core.proofs.raises.raise_piece.Given.{Over}
use Rattle.vm_core.proofs.raises.raise_piece.Goals.{In-Some}
use Rattle.vm_core.proofs.raises.raise_piece.Goals as goal

abbrev here : (g : Over) (c : In-Some g) → Part Segment
here g c = part c.in-Some.begin c.in-Some.pages c.in-Some.segment.now

held : (g : Over) (c : In-Some g) → Holds c.args.space.now.parts c.in-Some.ensures.ordered c.args.page (here g c) c.in-Some.ensures.found
held g c = holds c.args.space.now.parts c.in-Some.ensures.ordered c.args.page (here g c) c.in-Some.ensures.found

pub returns-in_default-clause-raises : goal.returns-in_default-clause-raises
returns-in_default-clause-raises g c = λ spaces p alive. none-raised (world_seen c.args.world.now) spaces p c.args.space.now.parts c.args.page c.args.entries c.args.marks.now alive.here c.in_default.ensures.found

pub overflow_sub-end : goal.overflow_sub-end
overflow_sub-end g c = let from = (held g (goal.at.overflow_sub-end g c).In-Some).from in let range = c.requires.range in omega (arith, from, range)

pub overflow_sub-page : goal.overflow_sub-page
overflow_sub-page g c = (held g (goal.at.overflow_sub-page g c).In-Some).from

pub raise_places-requires-clause-range : goal.raise_places-requires-clause-range
raise_places-requires-clause-range g c =
    let h = held g (goal.at.raise_places-requires-clause-range g c).In-Some in
    let from = h.from in
    let below = h.below in
    let range = c.requires.range in
    let least = c.min-to.ensures in
    omega (arith, from, below, range, least)

pub raise_places-requires-clause-within : goal.raise_places-requires-clause-within
raise_places-requires-clause-within g c =
    let d = (goal.at.raise_places-requires-clause-within g c).In-Some in
    let least = c.min-to.ensures in
    let f = c.requires.fits in
    let pages = size (world_seen c.args.world.now) f.0 f.1 c.args.space.now.parts c.args.page (here g d) f.2.memory f.2.here c.in-Some.ensures.found in
    omega (arith, least, pages)

pub raise_places-requires-clause-fits : goal.raise_places-requires-clause-fits
raise_places-requires-clause-fits g c =
    let d = (goal.at.raise_places-requires-clause-fits g c).In-Some in
    let h = held g d in
    let f = c.requires.fits in (
      c.args.page - c.in-Some.begin,
      (f.0, f.1, c.args.page, f.2.memory, spot-in (world_seen c.args.world.now) f.0 f.1 c.args.space.now.parts c.args.page (here g d) f.2.memory f.2.here c.in-Some.ensures.found c.args.page h.from h.below),
    )

pub returns-clause-on : goal.returns-clause-on
returns-clause-on g c =
    let h = held g (goal.at.returns-clause-on g c).In-Some in
    let from = h.from in
    let below = h.below in
    let range = c.requires.range in
    let least = c.min-to.ensures in
    omega (arith, from, below, range, least)

pub returns-clause-within : goal.returns-clause-within
returns-clause-within g c =
    let from = (held g (goal.at.returns-clause-within g c).In-Some).from in
    let range = c.requires.range in
    let least = c.min-to.ensures in
    omega (arith, from, range, least)

pub returns-clause-raises : goal.returns-clause-raises
returns-clause-raises g c = λ spaces p alive.
    let d = (goal.at.returns-clause-raises g c).In-Some in
    let least = c.min-to.ensures in
    piece-raised (world_seen c.args.world.now) spaces p c.args.space.now.parts c.args.page (here g d) alive.memory alive.here c.in-Some.ensures.found c.min-to.result (omega (arith, least)) c.args.entries c.args.marks.now c.raise_places.new.marks c.raise_places.ensures
