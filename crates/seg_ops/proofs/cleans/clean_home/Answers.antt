use Rattle.std.proofs.Common.{sym, ◌∙◌}
use Rattle.vm_world.specs.World.{world_seen}
use Rattle.page_store.proofs.QueryLemmas.{found-within, home-is}
use Rattle.seg_ops.proofs.CleanPages.{cleans-page, listed-clean, unset-clean}
use Rattle.seg_ops.proofs.RoomMade.{room-same}
use Rattle.seg_ops.proofs.cleans.clean_home.Goals as goal

pub listed-requires : goal.listed-requires
listed-requires g c = let s = c.args.world.now.store in found-within s c.args.name c.args.frame c.requires.fits.1.frames.sound (home-is s c.args.name c.args.frame c.requires.home).found

pub returns-then-listed-clause-cleans : goal.returns-then-listed-clause-cleans
returns-then-listed-clause-cleans g c = λ spaces fits. listed-clean (world_seen c.args.world.now) spaces c.args.name c.args.frame fits c.requires.home (c.listed.ensures.0 c.if-listed.true)

pub returns-then-listed-clause-makes : goal.returns-then-listed-clause-makes
returns-then-listed-clause-makes g c = room-same c.args.world.now

pub is_modified-requires-clause-frame : goal.is_modified-requires-clause-frame
is_modified-requires-clause-frame g c = let s = c.args.world.now.store in found-within s c.args.name c.args.frame c.requires.fits.1.frames.sound (home-is s c.args.name c.args.frame c.requires.home).found

pub returns-then-not-is_modified-clause-cleans : goal.returns-then-not-is_modified-clause-cleans
returns-then-not-is_modified-clause-cleans g c = λ spaces fits.
    unset-clean (world_seen c.is_modified.new.world) c.args.name c.args.frame (c.is_modified.ensures.makes.stay c.args.name ∙ c.requires.home) (sym c.is_modified.ensures.bit ∙ c.if-not-is_modified.true) (c.is_modified.ensures.unwritten c.if-not-is_modified.true)

pub ask-requires-clause-fits : goal.ask-requires-clause-fits
ask-requires-clause-fits g c = (c.requires.fits.0, (c.is_modified.ensures.makes.keeps c.requires.fits.0 c.requires.fits.1).memory)

pub returns-clause-cleans : goal.returns-clause-cleans
returns-clause-cleans g c = λ spaces fits.
    cleans-page (world_seen c.is_modified.new.world) spaces c.args.name c.args.frame c.ask.result (c.is_modified.ensures.makes.keeps spaces fits).memory (c.is_modified.ensures.makes.stay c.args.name ∙ c.requires.home) (sym c.is_modified.ensures.bit ∙ c.if-not-is_modified.false) c.ask.ensures
