use Rattle.std.proofs.Common.{ℕ, sym, ap, ◌∙◌}
use Rattle.disk_marks.specs.Changes.{marks_emptied, marks_raised}
use Rattle.fault_entry.specs.vnode_files.Layout.{disk_of_file}
use Rattle.fault_entry.specs.vnode_files.declared.vnode.FileInfo.{FileInfo}
use Rattle.fault_entry.specs.vm_world.World.{world_seen}
use Rattle.vm_core.proofs.Rising.{blank-risen, held-risen}
use Rattle.vm_core.proofs.raises.raise_page.Goals as goal

pub returns-then-blank : goal.returns-then-blank
returns-then-blank g c =
    c.raise_blank.ensures
    ∙ ap (λ (i : FileInfo). marks_emptied c.args.marks.now i.disk c.block-block.result c.args.file c.args.page c.args.entries) c.info.ensures.info
    ∙ ap (λ (b : ℕ). marks_emptied c.args.marks.now (disk_of_file c.args.world.now.files c.args.file) b c.args.file c.args.page c.args.entries) c.block-block.ensures
    ∙ blank-risen (world_seen c.args.world.now) c.requires.fits c.args.file c.args.page c.requires.file c.requires.page c.args.marks.now c.args.entries (sym c.blank.ensures ∙ c.if-blank.true)

pub returns-else-blank : goal.returns-else-blank
returns-else-blank g c =
    c.raise.ensures
    ∙ ap (λ (i : FileInfo). marks_raised c.args.marks.now i.disk c.block-block.result c.args.entries) c.info.ensures.info
    ∙ ap (λ (b : ℕ). marks_raised c.args.marks.now (disk_of_file c.args.world.now.files c.args.file) b c.args.entries) c.block-block.ensures
    ∙ held-risen (world_seen c.args.world.now) c.requires.fits c.args.file c.args.page c.requires.file c.requires.page c.args.marks.now c.args.entries (sym c.blank.ensures ∙ c.if-blank.false)
