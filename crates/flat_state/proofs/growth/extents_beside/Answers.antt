use Rattle.std.proofs.Common.{refl}
use Rattle.flat_state.proofs.Growths.{beside-parts, rest_of}
use Rattle.flat_state.proofs.growth.extents_beside.Goals as goal

pub returns : goal.returns
returns c =
    beside-parts c.args.files.now _ _ c.args.file c.args.disk c.new-all.result.items c.push_extents.new.all.items c.push_extents-2.new.all.items c.new-all.ensures.items
    refl (rest_of c.args.files.now c.args.file) c.in_ok-push_extents.ensures c.in_ok-push_extents-2.ensures
