use Rattle.std.proofs.Common.{◌≡◌, take}
use Rattle.mark_laws.specs.Cuts.{rows_cut}
use Rattle.fault_entry.specs.vnode_files.Files.{vnode_at}
use Rattle.fault_entry.specs.vnode_files.Layout.{disk_of_file}
use Rattle.fault_entry.specs.vnode_files.Vnode.{page_blocks}
use Rattle.vm_core.proofs.cuts.cut_rows.Given as goal

abbrev pub invariant-loop-page : goal.invariant-loop-page
invariant-loop-page l = record {
  cut : l.marks ≡ rows_cut (disk_of_file l.files l.file) l.kept l.entries (take l.page (page_blocks (vnode_at l.files l.file).info.extents)) l.fn.marks;
}
