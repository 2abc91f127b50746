use Rattle.std.proofs.Common.{arith}
use Rattle.seg_vn.specs.vm_world.Words.{memory}
use Rattle.seg_vn.proofs.seg_ops.RoomMade.{room-then}
use Rattle.mmap_calls.proofs.CleanRanges.{alive-then, clean-then, round-cleaned}
use Rattle.mmap_calls.proofs.syncs.clean_round.Goals as goal

pub clean_range-requires-clause-mapped : goal.clean_range-requires-clause-mapped
clean_range-requires-clause-mapped g c = λ q low high. let from = c.requires.low in c.requires.mapped q (omega (arith, from, low)) high

pub returns-in-Some-clause-cleans : goal.returns-in-Some-clause-cleans
returns-in-Some-clause-cleans g c = λ spaces p alive.
    let r = c.in-Some.ensures.cleans spaces p alive in
    let from = c.requires.low in
    let low = r.0 in
    (omega (arith, from, low), r.1, r.2)

pub clean_range-requires-in-None-clause-mapped : goal.clean_range-requires-in-None-clause-mapped
clean_range-requires-in-None-clause-mapped g c = λ q low high. let to = c.requires.high in c.requires.mapped q low (omega (arith, to, high))

pub clean_range-requires-in-None-clause-fits : goal.clean_range-requires-in-None-clause-fits
clean_range-requires-in-None-clause-fits g c =
    let f = c.requires.fits in
    (f.0, f.1, alive-then c.args.world.now c.clean_range.new.world f.0 f.1 c.args.space.now.parts c.clean_range.ensures.makes f.2)

pub returns-in-None-clause-makes : goal.returns-in-None-clause-makes
returns-in-None-clause-makes g c = room-then c.args.world.now c.clean_range.new.world c.clean_range-in-None.new.world c.clean_range.ensures.makes c.clean_range-in-None.ensures.makes

pub returns-in-None-clause-cleans : goal.returns-in-None-clause-cleans
returns-in-None-clause-cleans g c = λ spaces p alive.
    let old = c.args.world.now in
    let mid = c.clean_range.new.world in
    let new = c.clean_range-in-None.new.world in
    let then = alive-then old mid spaces p c.args.space.now.parts c.clean_range.ensures.makes alive in
    round-cleaned (memory new spaces) p c.args.first c.args.begin c.args.end c.clean_range-in-None.result c.requires.high
    (clean-then mid new spaces p c.args.begin c.args.end c.clean_range-in-None.ensures.makes (c.in-None.ensures.cleans spaces p alive))
    (c.clean_range-in-None.ensures.cleans spaces p then)
