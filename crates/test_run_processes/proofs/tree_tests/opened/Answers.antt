use Rattle.std.proofs.Common.{◌≡◌, ◌∙◌, ap}
use Rattle.std.specs.Ordering.{nat_cmp}
use Rattle.std.specs.FinSet as set
use Rattle.flat_model.specs.Flat.{Flat}
use Rattle.test_run_processes.proofs.tree_tests.opened.Goals as goal

pub root-requires : goal.root-requires
root-requires c = record { unborn = ap (λ (F : Flat). set.contains F.born 1) c.new-flat.ensures ∙ set.contains-empty nat_cmp 1 }
