use Rattle.joined_disk.proofs.JoinedBlocks.{mirrors, stripes}
use Rattle.joined_disk.proofs.laws.joined_blocks_law.Goals as goal

pub returns : goal.returns
returns c = record { mirror = mirrors; stripe = stripes }
