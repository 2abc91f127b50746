use Rattle.std.proofs.Common.{List, subst}
use Rattle.vnode_files.specs.declared.vnode.FileInfo.{FileInfo}
use Rattle.volume_format.specs.Table.{TableSeen, IsLeastPlace, all_extents}
use Rattle.volume_format.proofs.table.Table.place.Goals as goal

pub returns : goal.returns
returns c =
    subst (λ (t : TableSeen). IsLeastPlace t.blocks (all_extents t.entries) c.args.pages c.least_place.result) c.self.view_is
    (subst (λ (es : List FileInfo). IsLeastPlace c.self.inside.blocks (all_extents es) c.args.pages c.least_place.result) c.deref.ensures.value c.least_place.ensures)
