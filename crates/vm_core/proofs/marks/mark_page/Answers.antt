use Rattle.std.proofs.Common.{ℕ, false, sym, ap, ◌∙◌}
use Rattle.fault_entry.specs.vnode_files.declared.vnode.FileInfo.{FileInfo}
use Rattle.fault_entry.specs.vnode_files.Layout.{disk_of_file}
use Rattle.disk_marks.specs.Changes.{marks_raised}
use Rattle.vm_core.proofs.MarkRows.{blank-marked, page-marked}
use Rattle.vm_core.proofs.marks.mark_page.Goals as goal

pub returns-then-not-blank : goal.returns-then-not-blank
returns-then-not-blank c seats marked =
    page-marked c.args.files.now c.requires.fits seats c.args.marks.now c.args.file c.args.page c.requires.file c.requires.page marked c.raise.new.self
    (sym c.blank.ensures ∙ c.if-not-blank.true)
    (c.raise.ensures
    ∙ ap (λ (info : FileInfo). marks_raised c.args.marks.now info.disk c.block.result 0) c.info.ensures.info
    ∙ ap (λ (b : ℕ). marks_raised c.args.marks.now (disk_of_file c.args.files.now c.args.file) b 0) c.block.ensures)

pub returns-else-not-blank : goal.returns-else-not-blank
returns-else-not-blank c seats marked =
    blank-marked c.args.files.now c.requires.fits seats c.args.marks.now c.args.file c.args.page c.requires.file c.requires.page marked (sym c.blank.ensures ∙ c.if-not-blank.false)
