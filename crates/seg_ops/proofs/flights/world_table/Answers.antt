use Rattle.std.proofs.Common.{◌<◌, Bool, sym, ap, ◌∙◌, subst}
use Rattle.std.specs.Prelude.{not}
use Rattle.page_store.specs.Bays.{bay_at}
use Rattle.page_store.specs.declared.place.Place.{Place}
use Rattle.vm_world.specs.World.{world_seen}
use Rattle.seg_ops.proofs.Blocks.{slot-lives, slot-block, file-lives, file-block}
use Rattle.seg_ops.proofs.Pushed.{file-within}
use Rattle.seg_ops.proofs.flights.world_table.Goals as goal

pub page_place-requires-clause-file : goal.page_place-requires-clause-file
page_place-requires-clause-file g c = (file-within (world_seen c.args.world.now) c.args.name c.requires.fits.1.files c.requires.exists c.if-name-ne-SWAP_OBJECT.true).0

pub page_place-requires-clause-page : goal.page_place-requires-clause-page
page_place-requires-clause-page g c = (file-within (world_seen c.args.world.now) c.args.name c.requires.fits.1.files c.requires.exists c.if-name-ne-SWAP_OBJECT.true).1

pub returns-then-name-ne-SWAP_OBJECT-clause-place : goal.returns-then-name-ne-SWAP_OBJECT-clause-place
returns-then-name-ne-SWAP_OBJECT-clause-place g c = c.page_place.ensures ∙ file-lives (world_seen c.args.world.now) c.args.name c.requires.fits.1.files c.requires.exists c.if-name-ne-SWAP_OBJECT.true

pub returns-then-name-ne-SWAP_OBJECT-clause-within : goal.returns-then-name-ne-SWAP_OBJECT-clause-within
returns-then-name-ne-SWAP_OBJECT-clause-within g c = λ d is.
    subst (λ (p : Place). p.block < d.size) (sym c.page_place.ensures)
    (file-block (world_seen c.args.world.now) c.requires.fits.0 c.args.name d c.requires.fits.1 c.requires.exists c.if-name-ne-SWAP_OBJECT.true (sym (ap (λ (p : Place). bay_at c.args.world.now.store.bays p.disk) c.page_place.ensures) ∙ is))

pub returns-clause-place : goal.returns-clause-place
returns-clause-place g c =
    ap (λ (b : Bool). record { disk = 8; block = c.args.name.page; valid = 4096; blank = not b }) c.swapped.ensures
    ∙ slot-lives (world_seen c.args.world.now) c.args.name c.requires.fits.1.files c.requires.exists c.if-name-ne-SWAP_OBJECT.false

pub returns-clause-within : goal.returns-clause-within
returns-clause-within g c = λ d is. slot-block (world_seen c.args.world.now) c.requires.fits.0 c.args.name d c.requires.fits.1 c.requires.exists c.if-name-ne-SWAP_OBJECT.false is
