use Rattle.std.proofs.Common.{ap, ◌∙◌}
use Rattle.page_store.specs.core_arena.Bytes.{zeros}
use Rattle.page_store.specs.Steps.{after_fill}
use Rattle.vm_world.specs.World.{file_name}
use Rattle.vm_world.proofs.PageNames.{file-apart, not-slot}
use Rattle.seg_ops.proofs.blank.fill.Goals as goal

pub returns-clause-store : goal.returns-clause-store
returns-clause-store g c =
    c.fill_page.ensures.store
    ∙ ap (after_fill c.args.world.now.store (file_name c.args.file c.args.page) zeros) (not-slot c.args.file (file-apart c.args.world.now.files c.args.file c.requires.fits.1.files c.requires.file))
