use Rattle.block_runs.proofs.Rooms.{closed_row}
use Rattle.block_runs.proofs.laws.closed_law.Goals as goal

pub returns : goal.returns
returns c = closed_row
