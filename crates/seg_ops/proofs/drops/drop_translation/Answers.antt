use Rattle.std.proofs.Common.{◌≡◌, ℕ, Option, Some, refl, sym, ap, ◌∙◌, subst}
use Rattle.std.specs.Prelude.{option_map, IfSome}
use Rattle.vm_world.specs.hat_layer.declared.translation.Dropped.{Dropped}
use Rattle.vm_world.specs.hat_layer.Pool.{translation_at, told_of}
use Rattle.page_store.specs.Laws.{StaysInPlace}
use Rattle.page_store.specs.Moves.{is_only}
use Rattle.vm_world.specs.World.{world_seen}
use Rattle.seg_ops.specs.Steps.{with_dropped_gathered}
use Rattle.seg_ops.proofs.NewlyModified.{drop-modifies}
use Rattle.seg_ops.proofs.Unloads.{unloaded-within, drop-keeps, drop-gone}
use Rattle.seg_ops.proofs.drops.drop_translation.Goals as goal

pub gather-requires : goal.gather-requires
gather-requires g c = unloaded-within (world_seen c.args.world.now) c.requires.fits.0 c.args.space c.args.page c.unload-dropped.result c.requires.fits.1 c.unload-dropped.ensures.told

pub returns-clause-gone : goal.returns-clause-gone
returns-clause-gone g c = drop-gone c.args.world.now.hat.places c.args.space c.args.page (translation_at c.unload-dropped.new.self.places c.args.space c.args.page) (c.unload-dropped.ensures.map c.args.space c.args.page)

pub returns-clause-store : goal.returns-clause-store
returns-clause-store g c = c.gather.ensures.new ∙ ap (with_dropped_gathered c.args.world.now.store) c.unload-dropped.ensures.told

pub returns-clause-modified : goal.returns-clause-modified
returns-clause-modified g c =
    let w = world_seen c.args.world.now in
    drop-modifies w c.gather.new.store c.unload-dropped.new.self c.args.space c.args.page c.unload-dropped.ensures.places (c.gather.ensures.new ∙ ap (with_dropped_gathered w.store) c.unload-dropped.ensures.told) c.gather.ensures.stay

pub returns-clause-keeps : goal.returns-clause-keeps
returns-clause-keeps g c = λ spaces fits.
    let w = world_seen c.args.world.now in
    drop-keeps w spaces c.gather.new.store c.unload-dropped.new.self c.args.space c.args.page (translation_at w.hat.places c.args.space c.args.page) fits refl c.unload-dropped.ensures.places
    c.unload-dropped.ensures.frames c.unload-dropped.ensures.distinct
    (c.gather.ensures.new ∙ ap (with_dropped_gathered w.store) c.unload-dropped.ensures.told)
    (subst (λ (o : Option Dropped). IfSome o (λ d. StaysInPlace w.store c.gather.new.store (is_only (Some d.frame)))) c.unload-dropped.ensures.told c.gather.ensures.laws)
