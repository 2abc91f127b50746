use Rattle.std.proofs.Common.{sym}
use Rattle.flat_model.proofs.Rooms.{writable-within}
use Rattle.flat_state.proofs.state.FlatParts.room_for.Goals as goal

pub growth-requires : goal.growth-requires
growth-requires c = writable-within c.args.self.now c.args.number _ (sym c.in-Ok.ensures)
