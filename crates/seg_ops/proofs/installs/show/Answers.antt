use Rattle.std.proofs.Common.{◌≡◌, ℕ, ◌<◌, length, refl, sym, ap, ◌∙◌, subst}
use Rattle.page_store.specs.Seen.{StoreSeen}
use Rattle.vm_world.specs.World.{world_seen}
use Rattle.vm_world.specs.hat_layer.Pool.{dropped_by_load, told_of}
use Rattle.std.specs.Prelude.{option_map}
use Rattle.seg_ops.specs.Steps.{with_dropped_gathered}
use Rattle.seg_ops.proofs.StillSteps.{with_tables}
use Rattle.seg_ops.proofs.Composed.{keeps-then}
use Rattle.seg_ops.proofs.Modified.{modifies-then}
use Rattle.seg_ops.proofs.Shows.{home-within, reclaim-keeps, reclaim-modifies, shown-fits}
use Rattle.seg_ops.proofs.installs.show.Goals as goal

pub install-requires-clause-frame : goal.install-requires-clause-frame
install-requires-clause-frame g c =
    let w = world_seen c.args.world.now in
    subst (λ (n : ℕ). c.args.frame < n) (sym c.take_off.ensures.laws.touches.frames) (home-within w c.requires.fits.0 c.args.name c.args.frame c.requires.fits.1 c.requires.home)

pub install-requires-clause-fits : goal.install-requires-clause-fits
install-requires-clause-fits g c =
    let w = world_seen c.args.world.now in
    (c.requires.fits.0, (reclaim-keeps w c.requires.fits.0 c.take_off.new.store c.args.name c.args.frame c.requires.fits.1 c.requires.home c.take_off.ensures.new c.take_off.ensures.unlisted c.take_off.ensures.laws).memory)

pub returns-clause-store : goal.returns-clause-store
returns-clause-store g c = c.install.ensures.store ∙ ap (λ (s : StoreSeen). with_dropped_gathered s (option_map told_of (dropped_by_load c.args.world.now.hat c.args.space c.args.page))) c.take_off.ensures.new

pub returns-clause-modified : goal.returns-clause-modified
returns-clause-modified g c =
    let w = world_seen c.args.world.now in
    modifies-then w (with_tables w c.take_off.new.store w.hat) (world_seen c.install.new.world) (reclaim-modifies w c.take_off.new.store c.args.name c.take_off.ensures.new c.take_off.ensures.laws.residence) c.install.ensures.modified

pub returns-clause-keeps : goal.returns-clause-keeps
returns-clause-keeps g c = λ spaces fits may.
    let w = world_seen c.args.world.now in
    let mid = with_tables w c.take_off.new.store w.hat in
    let first = reclaim-keeps w spaces c.take_off.new.store c.args.name c.args.frame fits c.requires.home c.take_off.ensures.new c.take_off.ensures.unlisted c.take_off.ensures.laws in
    let home = c.take_off.ensures.laws.residence c.args.name ∙ c.requires.home in
    keeps-then w mid (world_seen c.install.new.world) spaces fits first
    (c.install.ensures.keeps spaces first.memory (shown-fits w c.take_off.new.store spaces c.args.space c.args.page c.args.name c.args.frame c.args.writable home c.take_off.ensures.unlisted may))
