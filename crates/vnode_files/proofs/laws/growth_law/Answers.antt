use Rattle.vnode_files.proofs.GrowthLaws.{growth_law}
use Rattle.vnode_files.proofs.laws.growth_law.Goals as goal

pub returns : goal.returns
returns c = growth_law
