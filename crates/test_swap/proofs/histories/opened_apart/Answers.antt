use Rattle.std.proofs.Common.{◌≡◌, ◌∙◌, ap}
use Rattle.std.specs.Cmp.{nat_cmp_total}
use Rattle.std.specs.Ordering.{nat_cmp}
use Rattle.std.specs.FinSet as set
use Rattle.flat_model.specs.Flat.{Flat}
use Rattle.test_swap.proofs.histories.opened_apart.Goals as goal

pub root-requires : goal.root-requires
root-requires c = record { unborn = ap (λ (F : Flat). set.contains F.born 1) c.new-flat.ensures ∙ set.contains-empty nat_cmp 1 }

pub root-requires-2 : goal.root-requires-2
root-requires-2 c = record {
  unborn = ap (λ (F : Flat). set.contains F.born 2) c.in_ok-root.ensures.ok ∙ set.contains-insert nat_cmp_total c.new-flat.result.born 1 2
      ∙ ap (λ (F : Flat). set.contains F.born 2) c.new-flat.ensures ∙ set.contains-empty nat_cmp 2;
}

pub root-requires-3 : goal.root-requires-3
root-requires-3 c = record {
  unborn = ap (λ (F : Flat). set.contains F.born 3) c.in_ok-root-2.ensures.ok ∙ set.contains-insert nat_cmp_total c.root.new.self.born 2 3
      ∙ ap (λ (F : Flat). set.contains F.born 3) c.in_ok-root.ensures.ok ∙ set.contains-insert nat_cmp_total c.new-flat.result.born 1 3
      ∙ ap (λ (F : Flat). set.contains F.born 3) c.new-flat.ensures ∙ set.contains-empty nat_cmp 3;
}
