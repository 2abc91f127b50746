use Rattle.std.proofs.Common.{◌∙◌, arith}
use Rattle.seg_vn.proofs.SpacesFrom.{none-more}
use Rattle.seg_vn.proofs.spaces.Spaces.new.Goals as goal

pub loop-place-preserved : goal.loop-place-preserved
loop-place-preserved c =
    let before = c.loop-place.invariant in
    let p = c.push_reserved.ensures in
    let len = p.len in
    let room = p.capacity in
    let counted = before.1 in
    let enough = before.2 in
    (rw p.items (none-more 0 c.loop-place.list.items ∙ before.0), omega (arith, len, counted), omega (arith, room, enough))
