use Rattle.std.proofs.Common.{◌≡◌, ℕ, ◌+◌, ◌-◌, List, refl, sym, ap, ◌∙◌, subst, arith}
use Rattle.std.specs.FinMap as finite
use Rattle.seg_vn.specs.vm_types.Prot.{is_within}
use Rattle.seg_vn.specs.addr_space.Space.{Part, part, with_new_piece}
use Rattle.seg_vn.specs.vm_world.Segments.{Spaces}
use Rattle.seg_vn.specs.vm_world.Words.{memory}
use Rattle.seg_vn.specs.vm_world.World.{world_seen}
use Rattle.seg_vn.specs.vm_world.declared.segment.Segment.{Segment}
use Rattle.seg_vn.specs.vm_world.declared.world.World.{World}
use Rattle.seg_vn.specs.vm_world.ProtectSteps.{with_range_prot}
use Rattle.seg_vn.specs.Clears.{ChangesSpace, SpaceBecomes, SpaceFits, StartsAt}
use Rattle.seg_vn.specs.Cuts.{IsPartAt}
use Rattle.seg_vn.proofs.seg_ops.Modified.{modifies-same, modifies-then}
use Rattle.seg_vn.proofs.LeftSegments.{pages-are}
use Rattle.mmap_calls.proofs.CutPlaces.{same-piece}
use Rattle.mmap_calls.proofs.RangeProtections.{Ahead, ahead, bounds-written, has-part, none-lay, part-here, range-next, range-none}
use Rattle.mmap_calls.proofs.Replaced.{fits-after}
use Rattle.mmap_calls.proofs.protects.set_range.Given.{Over}
use Rattle.mmap_calls.proofs.protects.set_range.Goals.{In-Some-find_mut_near}
use Rattle.mmap_calls.proofs.protects.set_range.Goals as goal

pub loop-page-init : goal.loop-page-init
loop-page-init g c = record {
  low = omega arith;
  high = c.requires.range;
  starts = c.requires.low;
  same = λ q. refl;
  changes = λ spaces fits. range-none (world_seen c.args.world.now) c.args.world.now.zeros spaces c.args.process c.args.space.now.parts c.args.first c.args.prot fits;
  rest = refl;
  modified = modifies-same (world_seen c.args.world.now);
}

-- the part that has the page
abbrev the_part : (g : Over) (c : In-Some-find_mut_near g) → Part Segment
the_part g c = part c.in-Some._begin c.in-Some.pages c.in-Some._segment.now

next : (g : Over) (c : In-Some-find_mut_near g) → Ahead c.args.space.now.parts c.loop-page.page c.args.end c.args.prot (the_part g c)
next g c =
    let inv = c.loop-page.invariant in
    let page : ℕ = c.loop-page.page in
    ahead c.args.space.now.parts c.loop-page.space.parts page c.args.end c.args.prot (the_part g c) (c.requires.fits.1.memory.segments.ordered c.args.process c.args.space.now.parts c.requires.fits.1.here) (inv.same page) c.in-Some.ensures.found inv.starts c.loop-page-test.true c.requires.high
    (c.requires.may page inv.low c.loop-page-test.true)

lent : (g : Over) (c : In-Some-find_mut_near g) → c.in-Some._segment.now ≡ c.in-Some-find_mut_near.segment.now
lent g c = same-piece c.loop-page.space.parts c.loop-page.page (the_part g c) c.in-Some-find_mut_near.segment.now c.in-Some.ensures.found c.in-Some-find_mut_near.ensures.found

-- the process is alive with the parts so far
so-far : (g : Over) (c : In-Some-find_mut_near g) (spaces : Spaces) → SpaceFits (world_seen c.args.world.now) c.args.world.now.zeros spaces c.args.process c.args.space.now.parts
    → SpaceFits (world_seen c.loop-page.world) c.loop-page.world.zeros (finite.insert spaces c.args.process c.loop-page.space.parts) c.args.process c.loop-page.space.parts
so-far g c spaces fits = fits-after c.args.process (memory c.args.world.now spaces) (world_seen c.loop-page.world) spaces c.loop-page.space.parts c.loop-page.world.zeros _ (c.loop-page.invariant.changes spaces fits)

abbrev at-page : (g : Over) (c : In-Some-find_mut_near g) (spaces : Spaces) → SpaceFits (world_seen c.args.world.now) c.args.world.now.zeros spaces c.args.process c.args.space.now.parts
    → IsPartAt (world_seen c.loop-page.world) (finite.insert spaces c.args.process c.loop-page.space.parts) c.args.process c.loop-page.page c.in-Some-find_mut_near.segment.now
at-page g c spaces fits =
    part-here (world_seen c.loop-page.world) c.loop-page.world.zeros (finite.insert spaces c.args.process c.loop-page.space.parts) c.args.process c.loop-page.space.parts c.loop-page.page (the_part g c) c.in-Some-find_mut_near.segment.now (so-far g c spaces fits) c.in-Some.ensures.found
    (next g c).first (lent g c)

pub unreachable-requires : goal.unreachable-requires
unreachable-requires g c =
    let inv = c.loop-page.invariant in
    has-part c.args.space.now.parts c.loop-page.page (c.requires.mapped c.loop-page.page inv.low c.loop-page-test.true) (none-lay c.args.space.now.parts c.loop-page.space.parts c.loop-page.page (inv.same c.loop-page.page) c.in_default.ensures.found)

pub set_prot-requires-clause-within : goal.set_prot-requires-clause-within
set_prot-requires-clause-within g c =
    let d = (goal.at.set_prot-requires-clause-within g c).In-Some-find_mut_near in
    ap (λ (s : Segment). is_within c.args.prot s.max) (sym (lent g d)) ∙ (next g d).within

pub set_prot-requires-clause-part : goal.set_prot-requires-clause-part
set_prot-requires-clause-part g c =
    let d = (goal.at.set_prot-requires-clause-part g c).In-Some-find_mut_near in
    (finite.insert c.requires.fits.0 c.args.process c.loop-page.space.parts, at-page g d c.requires.fits.0 c.requires.fits.1)

pub overflow_add-page : goal.overflow_add-page
overflow_add-page g c =
    let d = (goal.at.overflow_add-page g c).In-Some-find_mut_near in
    let n = next g d in
    let first = n.first in
    let ends = n.ends in
    omega (arith, first, ends)

pub loop-page-preserved : goal.loop-page-preserved
loop-page-preserved g c =
    let d = (goal.at.loop-page-preserved g c).In-Some-find_mut_near in
    let inv = c.loop-page.invariant in
    let p : ℕ = c.args.process in
    let page : ℕ = c.loop-page.page in
    let now : List (Part Segment) = c.loop-page.space.parts in
    let x : Part Segment = the_part g d in
    let w : Segment = c.set_prot.new.self in
    let n = next g d in
    let first = n.first in
    let ends = n.ends in
    let low = inv.low in
    let top : x.first + x.pages ≡ page + c.in-Some.pages = omega (arith, first) in
    let same : w.max ≡ x.piece.max = ap (λ (s : Segment). s.max) c.set_prot.ensures.segment ∙ sym (ap (λ (s : Segment). s.max) (lent g d)) in
    let zeros : c.set_prot.new.world.zeros ≡ c.loop-page.world.zeros = ap (λ (v : World g.row.D.Denot). v.zeros) {y = record c.loop-page.world { store = c.set_prot.new.world.store; hat = c.set_prot.new.world.hat }} c.set_prot.ensures.rest in
    record {
      low = omega (arith, low);
      high = omega (arith, first, ends);
      starts = subst (StartsAt c.args.space.now.parts) top n.starts;
      same = λ q. bounds-written now page w x c.in-Some.ensures.ordered c.in-Some.ensures.found same q ∙ inv.same q;
      changes = λ spaces fits.
          let m = memory c.args.world.now spaces in
          let before = so-far g d spaces fits in
          let part = at-page g d spaces fits in
          let size = pages-are (world_seen c.loop-page.world) (finite.insert spaces p now) p page c.in-Some-find_mut_near.segment.now part in
          let step = c.set_prot.ensures.changes (finite.insert spaces p now) part before.known in
          range-next p m (world_seen c.loop-page.world) (world_seen c.set_prot.new.world) c.loop-page.world.zeros c.loop-page.world.zeros c.set_prot.new.world.zeros spaces now (with_new_piece page w now) c.args.first page c.in-Some.pages c.args.prot low zeros
          (inv.changes spaces fits)
          (subst (λ (k : ℕ). ChangesSpace p (memory c.loop-page.world (finite.insert spaces p now)) (memory c.set_prot.new.world (finite.insert (finite.insert spaces p now) p (with_new_piece page w now))) c.loop-page.world.zeros (λ F. with_range_prot F p page k c.args.prot)) (sym size) step);
      rest = c.set_prot.ensures.rest ∙ ap (λ (v : World g.row.D.Denot). record v { store = c.set_prot.new.world.store; hat = c.set_prot.new.world.hat }) inv.rest;
      modified = modifies-then (world_seen c.args.world.now) (world_seen c.loop-page.world) (world_seen c.set_prot.new.world) inv.modified c.set_prot.ensures.modified;
    }

pub loop-page-smaller : goal.loop-page-smaller
loop-page-smaller g c =
    let n = next g (goal.at.loop-page-smaller g c).In-Some-find_mut_near in
    let first = n.first in
    let some = n.some in
    let test = c.loop-page-test.true in
    omega (arith, first, some, test)

pub returns : goal.returns
returns g c =
    let inv = c.loop-page.invariant in
    let high = inv.high in
    let test = c.loop-page-test.false in
    let done : c.loop-page.page ≡ c.args.end = omega (arith, high, test) in
    record {
      changes = subst (λ (k : ℕ). SpaceBecomes c.args.world.now c.loop-page.world c.args.process c.args.space.now.parts c.loop-page.space.parts (λ F. with_range_prot F c.args.process c.args.first (k - c.args.first) c.args.prot)) done inv.changes;
      rest = inv.rest;
      modified = inv.modified;
    }
