use Rattle.std.specs.Prelude.{length}
use Rattle.std.proofs.Common.{◌+◌}
use Rattle.vm_script.proofs.Ranges.{together, within, lower_parent, forks_of_parents}
use Rattle.vm_script.proofs.laws.blocks_law.Goals as goal

pub returns : goal.returns
returns c = record {
  together = together;
  within = λ parents p n m lines is. (within parents p n m lines is).all;
  parents = lower_parent;
  forks = λ plan nests. forks_of_parents plan.parents 1 (length plan.parents + 1) plan.lines nests;
}
