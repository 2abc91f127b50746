use Rattle.std.proofs.Common.{sym, ◌∙◌, arith}
use Rattle.seg_vn.specs.addr_space.Space.{part}
use Rattle.seg_vn.specs.vm_world.World.{world_seen}
use Rattle.mmap_calls.proofs.CutPlaces.{within-part, shown-here}
use Rattle.mmap_calls.proofs.cuts.room_at.Goals as goal

pub check_holders-requires : goal.check_holders-requires
check_holders-requires g c = record {
  there = λ n is.
      shown-here (world_seen c.args.world.now) c.args.world.now.zeros c.requires.fits.0 c.requires.fits.1 c.args.space.now.parts c.args.page (part c.in-Some.first c.in-Some._pages c.in-Some.segment.now) n c.requires.fits.2 c.in-Some.ensures.found
      (sym c.shown.ensures ∙ is);
}

pub overflow_sub-page : goal.overflow_sub-page
overflow_sub-page g c =
    let a = within-part (world_seen c.args.world.now) c.args.world.now.zeros c.requires.fits.0 c.requires.fits.1 c.args.space.now.parts c.args.page (part c.in-Some.first c.in-Some._pages c.in-Some.segment.now) c.requires.fits.2 c.in-Some.ensures.found in
    let from = a.from in
    omega (arith, from)

pub room_from-requires : goal.room_from-requires
room_from-requires g c =
    let a = within-part (world_seen c.args.world.now) c.args.world.now.zeros c.requires.fits.0 c.requires.fits.1 c.args.space.now.parts c.args.page (part c.in-Some.first c.in-Some._pages c.in-Some.segment.now) c.requires.fits.2 c.in-Some.ensures.found in
    let below = a.below in
    let pages = a.pages in
    omega (arith, below, pages)
