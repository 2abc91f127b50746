use Rattle.std.proofs.Common.{◌≡◌, true, false}
use Rattle.seg_ops.proofs.RoomMade.{room-same}
use Rattle.seg_ops.proofs.cleans.is_modified.Goals as goal

pub returns-then-modified-clause-unwritten : goal.returns-then-modified-clause-unwritten
returns-then-modified-clause-unwritten g c = λ unset. absurd (let z : true ≡ false = unset in cc)

pub returns-then-modified-clause-makes : goal.returns-then-modified-clause-makes
returns-then-modified-clause-makes g c = room-same c.args.world.now
