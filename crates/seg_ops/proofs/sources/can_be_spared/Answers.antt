use Rattle.std.proofs.Common.{◌≡◌, true, false, sym, ◌∙◌, arith}
use Rattle.vm_world.specs.hat_layer.Pool.{bits_of}
use Rattle.vm_world.specs.World.{world_seen}
use Rattle.seg_ops.specs.Copies.{was_written}
use Rattle.seg_ops.proofs.RoomMade.{lists-gathered}
use Rattle.seg_ops.proofs.Shows.{home-within}
use Rattle.seg_ops.proofs.SparedPages.{disk-then}
use Rattle.seg_ops.proofs.UsedPages.{gathered-written}
use Rattle.seg_ops.proofs.sources.can_be_spared.Given.{Over}
use Rattle.seg_ops.proofs.sources.can_be_spared.Goals.{After-bits-modified}
use Rattle.seg_ops.proofs.sources.can_be_spared.Goals as goal

pub is_disk_home-requires-clause-fits : goal.is_disk_home-requires-clause-fits
is_disk_home-requires-clause-fits g c = (c.requires.fits.0, (c.was_used.ensures.makes.keeps c.requires.fits.0 c.requires.fits.1).memory)

-- what the row says once the bits are gathered
written : (g : Over) (c : After-bits-modified g) → c.bits-modified.result.1 ≡ was_written (world_seen c.args.world.now) c.args.frame
written g c =
    let w = world_seen c.args.world.now in
    let lt = home-within w c.requires.fits.0 c.args.name c.args.frame c.requires.fits.1 c.requires.home in
    let rows = c.requires.fits.1.frames.sound.rows in
    c.bits-modified.ensures.modified ∙ gathered-written w.store c.was_used.new.world.store c.args.frame (bits_of c.args.frame w.hat.places) (omega (arith, lt, rows)) c.was_used.ensures.store

pub returns-then-was_used-clause-spared : goal.returns-then-was_used-clause-spared
returns-then-was_used-clause-spared g c = (
  λ t. absurd (let z : false ≡ true = t in cc),
  λ s. absurd (let z : true ≡ false = sym c.if-was_used.true ∙ c.was_used.ensures.used ∙ s.unused in cc),
)

pub returns-then-was_used-clause-lists : goal.returns-then-was_used-clause-lists
returns-then-was_used-clause-lists g c = lists-gathered c.args.world.now.store c.was_used.new.world.store c.args.frame _ c.was_used.ensures.store

pub returns-then-modified-clause-spared : goal.returns-then-modified-clause-spared
returns-then-modified-clause-spared g c = (
  λ t. absurd (let z : false ≡ true = t in cc),
  λ s. absurd (let z : true ≡ false = sym c.if-modified.true ∙ written g (goal.at.returns-then-modified-clause-spared g c).After-bits-modified ∙ s.unwritten in cc),
)

pub returns-then-modified-clause-lists : goal.returns-then-modified-clause-lists
returns-then-modified-clause-lists g c = lists-gathered c.args.world.now.store c.was_used.new.world.store c.args.frame _ c.was_used.ensures.store

pub returns-clause-spared : goal.returns-clause-spared
returns-clause-spared g c =
    let disk = disk-then c.args.world.now c.was_used.new.world c.requires.fits.0 c.args.name c.requires.fits.1 c.was_used.ensures.makes in (
      λ t. record {
        unused = sym c.was_used.ensures.used ∙ c.if-was_used.false;
        unwritten = sym (written g (goal.at.returns-clause-spared g c).After-bits-modified) ∙ c.if-modified.false;
        disk = disk.1 (c.is_disk_home.ensures.0 t);
      },
      λ s. c.is_disk_home.ensures.1 (disk.0 s.disk),
    )

pub returns-clause-lists : goal.returns-clause-lists
returns-clause-lists g c = lists-gathered c.args.world.now.store c.was_used.new.world.store c.args.frame _ c.was_used.ensures.store
