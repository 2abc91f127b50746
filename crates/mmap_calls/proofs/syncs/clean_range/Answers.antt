use Rattle.std.proofs.Common.{◌-◌, arith}
use Rattle.seg_vn.specs.addr_space.Space.{Part, part}
use Rattle.seg_vn.specs.vm_world.World.{world_seen}
use Rattle.seg_vn.specs.vm_world.declared.segment.Segment.{Segment}
use Rattle.seg_vn.proofs.seg_ops.RoomMade.{room-same, room-then}
use Rattle.mmap_calls.proofs.CleanRanges.{alive-then, clean-so-far, clean-then, first-at, size, spot-in}
use Rattle.mmap_calls.proofs.RangeProtections.{Holds, has-part, holds}
use Rattle.mmap_calls.proofs.syncs.clean_range.Given.{Over}
use Rattle.mmap_calls.proofs.syncs.clean_range.Goals.{In-Some}
use Rattle.mmap_calls.proofs.syncs.clean_range.Goals as goal

abbrev here : (g : Over) (c : In-Some g) → Part Segment
here g c = part c.in-Some.begin c.in-Some.pages c.in-Some.segment.now

held : (g : Over) (c : In-Some g) → Holds c.args.space.now.parts c.in-Some.ensures.ordered c.loop-page.page (here g c) c.in-Some.ensures.found
held g c = holds c.args.space.now.parts c.in-Some.ensures.ordered c.loop-page.page (here g c) c.in-Some.ensures.found

pub loop-page-init : goal.loop-page-init
loop-page-init g c = record {
  low = omega arith;
  clean = λ spaces p alive q x name low high. absurd (omega (arith, low, high));
  makes = room-same c.args.world.now;
}

pub unreachable-requires : goal.unreachable-requires
unreachable-requires g c = has-part c.args.space.now.parts c.loop-page.page (c.requires.mapped c.loop-page.page c.loop-page.invariant.low c.loop-page-test.true) c.in_default.ensures.found

pub overflow_sub-end : goal.overflow_sub-end
overflow_sub-end g c = let from = (held g (goal.at.overflow_sub-end g c).In-Some).from in let test = c.loop-page-test.true in omega (arith, from, test)

pub overflow_sub-page : goal.overflow_sub-page
overflow_sub-page g c = (held g (goal.at.overflow_sub-page g c).In-Some).from

pub clean_places-requires : goal.clean_places-requires
clean_places-requires g c =
    let d = (goal.at.clean_places-requires g c).In-Some in
    let h = held g d in
    let from = h.from in
    let below = h.below in
    let test = c.loop-page-test.true in
    let least = c.min-to.ensures in
    let f = c.requires.fits in
    let alive = alive-then c.args.world.now c.loop-page.world f.0 f.1 c.args.space.now.parts c.loop-page.invariant.makes f.2 in
    let pages = size (world_seen c.loop-page.world) f.0 f.1 c.args.space.now.parts c.loop-page.page (here g d) alive.memory alive.here c.in-Some.ensures.found in
    record {
      range = omega (arith, from, below, test, least);
      within = omega (arith, least, pages);
      fits = (f.0, f.1, c.loop-page.page, c.loop-page.page - c.in-Some.begin, alive.memory, spot-in (world_seen c.loop-page.world) f.0 f.1 c.args.space.now.parts c.loop-page.page (here g d) alive.memory alive.here c.in-Some.ensures.found c.loop-page.page from below);
    }

pub overflow_add-page : goal.overflow_add-page
overflow_add-page g c = let h = held g (goal.at.overflow_add-page g c).In-Some in let within = h.within in let least = c.min-to.ensures in omega (arith, within, least)

pub loop-page-preserved : goal.loop-page-preserved
loop-page-preserved g c =
    let d = (goal.at.loop-page-preserved g c).In-Some in
    let h = held g d in
    let from = h.from in
    let below = h.below in
    let test = c.loop-page-test.true in
    let least = c.min-to.ensures in
    let low = c.loop-page.invariant.low in
    let old = c.args.world.now in
    let cur = c.loop-page.world in
    let new = c.clean_places.new.world in
    let parts = c.args.space.now.parts in
    record {
      low = omega (arith, low, from, below, test, least);
      clean = λ spaces p alive.
          let was = alive-then old cur spaces p parts c.loop-page.invariant.makes alive in
          let now = alive-then cur new spaces p parts c.clean_places.ensures.makes was in
          clean-so-far (world_seen new) spaces p parts c.loop-page.page (here g d) now.memory now.here c.in-Some.ensures.found c.args.first c.min-to.result (omega (arith, least))
          (clean-then cur new spaces p c.args.first c.loop-page.page c.clean_places.ensures.makes (c.loop-page.invariant.clean spaces p alive))
          (c.in_default-clean_places.ensures.cleans spaces p c.loop-page.page (c.loop-page.page - c.in-Some.begin) was.memory
          (spot-in (world_seen cur) spaces p parts c.loop-page.page (here g d) was.memory was.here c.in-Some.ensures.found c.loop-page.page from below));
      makes = room-then old cur new c.loop-page.invariant.makes c.clean_places.ensures.makes;
    }

pub loop-page-smaller : goal.loop-page-smaller
loop-page-smaller g c =
    let h = held g (goal.at.loop-page-smaller g c).In-Some in
    let from = h.from in
    let below = h.below in
    let test = c.loop-page-test.true in
    let least = c.min-to.ensures in
    omega (arith, from, below, test, least)

pub overflow_add-result : goal.overflow_add-result
overflow_add-result g c =
    let d = (goal.at.overflow_add-result g c).In-Some in
    let h = held g d in
    let within = h.within in
    let least = c.min-to.ensures in
    let f = c.requires.fits in
    let was = alive-then c.args.world.now c.loop-page.world f.0 f.1 c.args.space.now.parts c.loop-page.invariant.makes f.2 in
    let first = c.in-Some-clean_places.ensures.cleans f.0 f.1 c.loop-page.page (c.loop-page.page - c.in-Some.begin) was.memory
    (spot-in (world_seen c.loop-page.world) f.0 f.1 c.args.space.now.parts c.loop-page.page (here g d) was.memory was.here c.in-Some.ensures.found c.loop-page.page h.from h.below) in
    let below = first.1 in
    omega (arith, within, least, below)

pub returns-in-Some-clean_places-clause-cleans : goal.returns-in-Some-clean_places-clause-cleans
returns-in-Some-clean_places-clause-cleans g c = λ spaces p alive.
    let d = (goal.at.returns-in-Some-clean_places-clause-cleans g c).In-Some in
    let h = held g d in
    let from = h.from in
    let below = h.below in
    let test = c.loop-page-test.true in
    let least = c.min-to.ensures in
    let old = c.args.world.now in
    let cur = c.loop-page.world in
    let new = c.clean_places.new.world in
    let parts = c.args.space.now.parts in
    let was = alive-then old cur spaces p parts c.loop-page.invariant.makes alive in
    let now = alive-then cur new spaces p parts c.clean_places.ensures.makes was in
    let r = c.in-Some-clean_places in
    first-at (world_seen new) spaces p parts c.loop-page.page (here g d) now.memory now.here c.in-Some.ensures.found c.args.first c.args.end c.min-to.result r.at r.wants (omega (arith, least)) (omega (arith, least, from, test)) c.loop-page.invariant.low
    (r.ensures.cleans spaces p c.loop-page.page (c.loop-page.page - c.in-Some.begin) was.memory (spot-in (world_seen cur) spaces p parts c.loop-page.page (here g d) was.memory was.here c.in-Some.ensures.found c.loop-page.page from below))

pub returns-in-Some-clean_places-clause-makes : goal.returns-in-Some-clean_places-clause-makes
returns-in-Some-clean_places-clause-makes g c = room-then c.args.world.now c.loop-page.world c.clean_places.new.world c.loop-page.invariant.makes c.clean_places.ensures.makes

pub returns-clause-cleans : goal.returns-clause-cleans
returns-clause-cleans g c = λ spaces p alive q x name low high. c.loop-page.invariant.clean spaces p alive q x name low (let done = c.loop-page-test.false in omega (arith, done, high))
