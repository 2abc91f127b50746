use Rattle.std.proofs.Common.{sym, ap, ◌∙◌, inl}
use Rattle.std.proofs.lemmas.Bool.{OnTrue_from}
use Rattle.seg_ops.specs.vm_world.World.{world_seen}
use Rattle.kernel_close.proofs.Pushes.{pushes-refl, goes-refl, calm-pushes, calm-goes, skips-page, listed-clear, clear-of, gathers-page}
use Rattle.kernel_close.proofs.closing.is_modified.Goals as goal

pub returns-in_default-clause-stored : goal.returns-in_default-clause-stored
returns-in_default-clause-stored g c =
    skips-page (world_seen c.args.world.now) c.requires.fits.0 c.args.name _ c.requires.fits.1 c.requires.noted c.requires.page
    (λ frame home. absurd (c.in_default.not-Home frame (c.resident.ensures.residence ∙ home))) (λ n is. is.0)

pub returns-in_default-clause-pushes : goal.returns-in_default-clause-pushes
returns-in_default-clause-pushes g c = λ spaces fits. pushes-refl (world_seen c.args.world.now) spaces fits c.requires.noted

pub returns-then-listed-clause-stored : goal.returns-then-listed-clause-stored
returns-then-listed-clause-stored g c =
    skips-page (world_seen c.args.world.now) c.requires.fits.0 c.args.name _ c.requires.fits.1 c.requires.noted c.requires.page
    (clear-of (world_seen c.args.world.now) c.args.name c.in-Home.frame (sym c.resident.ensures.residence ∙ c.in-Home.is)
    (listed-clear (world_seen c.args.world.now) c.requires.fits.0 c.in-Home.frame c.requires.fits.1 (c.listed.ensures.0 c.if-listed.true)))
    (λ n is. is.0)

pub returns-clause-dirty : goal.returns-clause-dirty
returns-clause-dirty g c = OnTrue_from c.gather_modified.result _ (λ is. record {
  frame = c.in-Home.frame;
  home = c.gather_modified.ensures.stay c.args.name ∙ sym c.resident.ensures.residence ∙ c.in-Home.is;
  modified = inl (sym c.gather_modified.ensures.modified ∙ is);
})

pub returns-clause-stored : goal.returns-clause-stored
returns-clause-stored g c =
    gathers-page (world_seen c.args.world.now) (world_seen c.gather_modified.new.world) c.requires.fits.0 c.args.name c.in-Home.frame c.gather_modified.result c.requires.fits.1 c.requires.noted c.requires.page
    (c.gather_modified.ensures.keeps c.requires.fits.0 c.requires.fits.1) (ap (λ w. w.files) c.gather_modified.ensures.rest)
    (c.gather_modified.ensures.stay c.args.name ∙ sym c.resident.ensures.residence ∙ c.in-Home.is) c.gather_modified.ensures.modified c.gather_modified.ensures.unwritten

pub returns-clause-pushes : goal.returns-clause-pushes
returns-clause-pushes g c = λ spaces fits. calm-pushes (world_seen c.args.world.now) (world_seen c.gather_modified.new.world) spaces fits c.requires.noted (c.gather_modified.ensures.keeps spaces fits)

pub returns-in_default-clause-goes : goal.returns-in_default-clause-goes
returns-in_default-clause-goes g c = goes-refl (world_seen c.args.world.now)

pub returns-then-listed-clause-goes : goal.returns-then-listed-clause-goes
returns-then-listed-clause-goes g c = goes-refl (world_seen c.args.world.now)

pub returns-clause-goes : goal.returns-clause-goes
returns-clause-goes g c =
    calm-goes (world_seen c.args.world.now) (world_seen c.gather_modified.new.world) (c.gather_modified.ensures.keeps c.requires.fits.0 c.requires.fits.1).bays (ap (λ w. w.files) c.gather_modified.ensures.rest)
