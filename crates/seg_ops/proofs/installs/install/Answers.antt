use Rattle.std.proofs.Common.{◌≡◌, ℕ, ◌<◌, Option, Some, length, refl, sym, ap, ◌∙◌, subst}
use Rattle.std.specs.Prelude.{option_map, IfSome}
use Rattle.vm_world.specs.hat_layer.declared.translation.Dropped.{Dropped}
use Rattle.vm_world.specs.hat_layer.Pool.{dropped_by_load, told_of, fresh_translation}
use Rattle.page_store.specs.Laws.{StaysInPlace}
use Rattle.page_store.specs.Moves.{is_only}
use Rattle.vm_world.specs.World.{world_seen}
use Rattle.seg_ops.specs.Steps.{with_dropped_gathered}
use Rattle.seg_ops.proofs.Loads.{install-keeps, dropped-within}
use Rattle.seg_ops.proofs.NewlyModified.{install-modifies}
use Rattle.seg_ops.proofs.installs.install.Goals as goal

pub load-dropped-requires : goal.load-dropped-requires
load-dropped-requires g c = subst (λ (n : ℕ). c.args.frame < n) (sym c.requires.fits.1.pool.leads) c.requires.frame

pub gather-requires : goal.gather-requires
gather-requires g c =
    let w = world_seen c.args.world.now in
    let p = c.load-dropped.ensures.places in
    dropped-within w c.requires.fits.0 p.0 (dropped_by_load w.hat c.args.space c.args.page) c.load-dropped.result c.requires.fits.1 p.2 c.load-dropped.ensures.stolen

pub returns-clause-store : goal.returns-clause-store
returns-clause-store g c = c.gather.ensures.new ∙ ap (with_dropped_gathered c.args.world.now.store) c.load-dropped.ensures.stolen

pub returns-clause-modified : goal.returns-clause-modified
returns-clause-modified g c =
    let w = world_seen c.args.world.now in
    let p = c.load-dropped.ensures.places in
    install-modifies w c.gather.new.store c.load-dropped.new.self p.0 (fresh_translation c.args.space c.args.page c.args.frame c.args.writable) (dropped_by_load w.hat c.args.space c.args.page) refl p.2 p.3
    (c.gather.ensures.new ∙ ap (with_dropped_gathered w.store) c.load-dropped.ensures.stolen) c.gather.ensures.stay

pub returns-clause-keeps : goal.returns-clause-keeps
returns-clause-keeps g c = λ spaces fits leads.
    let w = world_seen c.args.world.now in
    let p = c.load-dropped.ensures.places in
    install-keeps w spaces c.gather.new.store c.load-dropped.new.self p.0 (fresh_translation c.args.space c.args.page c.args.frame c.args.writable) (dropped_by_load w.hat c.args.space c.args.page) fits leads p.2 p.3
    c.load-dropped.ensures.frames c.load-dropped.ensures.distinct
    (c.gather.ensures.new ∙ ap (with_dropped_gathered w.store) c.load-dropped.ensures.stolen)
    (subst (λ (o : Option Dropped). IfSome o (λ d. StaysInPlace w.store c.gather.new.store (is_only (Some d.frame)))) c.load-dropped.ensures.stolen c.gather.ensures.laws)
