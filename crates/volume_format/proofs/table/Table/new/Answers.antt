use Rattle.std.proofs.Common.{List, sym, subst, arith}
use Rattle.vnode_files.specs.declared.vnode.FileInfo.{FileInfo}
use Rattle.volume_format.specs.Volume.{IsVolumeTable}
use Rattle.volume_format.proofs.VolumeLemmas.{volume-empty}
use Rattle.volume_format.proofs.table.Table.new.Goals as goal

pub returns-clause-volume : goal.returns-clause-volume
returns-clause-volume c =
    subst (λ (es : List FileInfo). IsVolumeTable (record { blocks = c.args.blocks; entries = es })) (sym c.new.ensures.items) (volume-empty c.args.blocks (omega arith))
