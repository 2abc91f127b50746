use Rattle.std.proofs.Common.{ℕ, not, sym, ap, ◌∙◌, subst}
use Rattle.page_store.specs.Waits.{Waits}
use Rattle.vm_world.specs.World.{world_seen}
use Rattle.seg_ops.proofs.Fills.{held-by}
use Rattle.seg_ops.proofs.SparedPages.{waits-home}
use Rattle.std.proofs.lemmas.Bool.{not-false}
use Rattle.seg_ops.proofs.sources.is_disk_home.Goals as goal

pub disk_of-disk-requires-clause-exists : goal.disk_of-disk-requires-clause-exists
disk_of-disk-requires-clause-exists g c = c.requires.fits.1.frames.exist c.requires.home.0 c.args.name (held-by c.args.world.now.store c.args.name c.requires.home.0 c.requires.home.1)

pub returns : goal.returns
returns g c =
    let waits = subst (λ (k : ℕ). Waits c.args.world.now.store c.args.name k c.ready.result) c.disk_of-disk.ensures.disk c.ready.ensures in
    let both = waits-home (world_seen c.args.world.now) c.requires.fits.0 c.args.name c.requires.home.0 c.ready.result c.requires.fits.1 c.requires.home.1 waits in
    (λ t. both.0 (c.is_none.ensures ∙ ap not t), λ d. not-false c.is_none.result (sym c.is_none.ensures ∙ both.1 d))
