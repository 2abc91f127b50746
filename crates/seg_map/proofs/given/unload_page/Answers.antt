use Rattle.std.proofs.Common.{sym, refl, ◌∙◌}
use Rattle.seg_ops.specs.vm_world.World.{world_seen}
use Rattle.seg_map.proofs.Voids.{drops-home, drops-none}
use Rattle.seg_map.proofs.given.unload_page.Goals as goal

pub returns-in-Home-clause-drops : goal.returns-in-Home-clause-drops
returns-in-Home-clause-drops g c =
    drops-home (world_seen c.args.world.now) c.requires.fits.0 c.args.name c.in-Home.frame c.page_unload.new.self c.requires.fits.1 (sym c.in-Home.ensures.residence)
    c.page_unload.ensures.places c.page_unload.ensures.frames c.page_unload.ensures.distinct

pub returns-in_default : goal.returns-in_default
returns-in_default g c = record {
  drops = drops-none (world_seen c.args.world.now) c.requires.fits.0 c.args.name c.requires.fits.1 (λ frame home. c.in_default.not-Home frame (c.resident.ensures.residence ∙ home));
  rest = refl;
}
