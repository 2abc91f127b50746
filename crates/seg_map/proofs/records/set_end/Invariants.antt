use Rattle.std.proofs.Common.{◌≡◌, List, Some}
use Rattle.seg_ops.specs.flat_model.Words.{pages_in}
use Rattle.seg_ops.specs.vnode_files.declared.extent.Extent.{Extent}
use Rattle.seg_ops.specs.vnode_files.Files.{growth_of}
use Rattle.seg_map.specs.Blanks.{BlanksUpTo}
use Rattle.seg_map.proofs.records.set_end.Given as goal

abbrev pub invariant-loop-page : goal.invariant-loop-page
invariant-loop-page l = record {
  blanks : (extents : List Extent) → growth_of l.fn.files l.fn.file (pages_in l.fn.end) ≡ Some extents → BlanksUpTo l.fn.files l.files l.fn.file extents l.from l.page;
}
