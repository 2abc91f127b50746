use Rattle.std.proofs.Common.{ℕ, ◌<◌, sym, ap, ◌∙◌, subst}
use Rattle.vm_world.specs.World.{world_seen}
use Rattle.seg_ops.specs.Steps.{with_bits_gathered}
use Rattle.seg_ops.proofs.FrameDrops.{unload-keeps}
use Rattle.seg_ops.proofs.flights.unload.Goals as goal

pub page_unload-told-requires : goal.page_unload-told-requires
page_unload-told-requires g c = subst (λ (n : ℕ). c.args.frame < n) (sym c.requires.fits.1.pool.leads) c.requires.frame

pub returns-clause-keeps : goal.returns-clause-keeps
returns-clause-keeps g c = λ spaces fits. unload-keeps (world_seen c.args.world.now) spaces c.add_bits.new.store c.page_unload-told.new.self c.args.frame fits c.requires.frame c.requires.unlisted
    c.page_unload-told.ensures.places c.page_unload-told.ensures.frames c.page_unload-told.ensures.distinct
    (c.add_bits.ensures.new ∙ ap (with_bits_gathered c.args.world.now.store c.args.frame) c.page_unload-told.ensures.bits) c.add_bits.ensures.laws
