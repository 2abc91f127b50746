use Rattle.std.proofs.Common.{ap, ◌∙◌, arith}
use Rattle.vm_world.specs.World.{world_seen, file_name, page_exists}
use Rattle.seg_ops.proofs.CleanPages.{all-clean, file-exists}
use Rattle.seg_ops.proofs.RoomMade.{room-same, room-then}
use Rattle.seg_ops.proofs.cleans.clean_pages.Goals as goal

pub loop-page-init : goal.loop-page-init
loop-page-init g c = record { clean = λ page low high. absurd (omega (arith, low, high)); makes = room-same c.args.world.now }

pub clean-requires : goal.clean-requires
clean-requires g c =
    let makes = c.loop-page.invariant.makes in
    record {
      exists = ap (λ w. page_exists w.files w.anon (file_name c.args.file c.loop-page.page)) makes.rest
          ∙ file-exists c.args.world.now.files c.args.world.now.anon c.args.file c.loop-page.page c.requires.fits.1.files c.requires.file (let exist = c.requires.exist in let lt = c.loop-page-test.true in omega (arith, exist, lt));
      fits = (c.requires.fits.0, (makes.keeps c.requires.fits.0 c.requires.fits.1).memory);
    }

pub loop-page-preserved : goal.loop-page-preserved
loop-page-preserved g c =
    let makes = c.loop-page.invariant.makes in
    let fits = (makes.keeps c.requires.fits.0 c.requires.fits.1).memory in
    record {
      clean = all-clean (world_seen c.loop-page.world) (world_seen c.clean.new.world) c.args.file c.args.from c.loop-page.page c.clean.ensures.makes.stay c.clean.ensures.makes.modified c.loop-page.invariant.clean (c.in_default.ensures.cleans c.requires.fits.0 fits);
      makes = room-then c.args.world.now c.loop-page.world c.clean.new.world makes c.clean.ensures.makes;
    }

pub returns-in-Some-clause-cleans : goal.returns-in-Some-clause-cleans
returns-in-Some-clause-cleans g c = λ spaces fits.
    let makes = c.loop-page.invariant.makes in
    (c.loop-page.auto.page, c.loop-page-test.true, c.in-Some.ensures.cleans spaces (makes.keeps spaces fits).memory)

pub returns-in-Some-clause-makes : goal.returns-in-Some-clause-makes
returns-in-Some-clause-makes g c = room-then c.args.world.now c.loop-page.world c.clean.new.world c.loop-page.invariant.makes c.clean.ensures.makes

pub returns-clause-cleans : goal.returns-clause-cleans
returns-clause-cleans g c = λ spaces fits page low high. c.loop-page.invariant.clean page low (let done = c.loop-page-test.false in omega (arith, done, high))
