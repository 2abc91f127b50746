use Rattle.std.proofs.Common.{◌≡◌, ◌∙◌, ap, false, ℕ}
use Rattle.std.specs.Prelude.{is_some}
use Rattle.std.specs.Cmp.{nat_cmp_total}
use Rattle.std.specs.Ordering.{nat_cmp}
use Rattle.std.specs.FinMap as finite
use Rattle.std.specs.FinSet as set
use Rattle.flat_model.specs.Flat.{Flat}
use Rattle.flat_model.proofs.Ranges.{get-insert_here}
use Rattle.test_run_processes.proofs.tree_tests.opened_for_two.Goals as goal

pub disk-requires : goal.disk-requires
disk-requires c = record { new = ap (λ (F : Flat). finite.contains_key F.disks 0) c.new-flat.ensures ∙ ap is_some (finite.get-empty nat_cmp 0) }

pub file-requires-clause-disk : goal.file-requires-clause-disk
file-requires-clause-disk c = ap (λ (F : Flat). is_some (finite.get F.disks 0)) c.in_ok-disk.ensures.ok ∙ ap is_some (get-insert_here c.new-flat.result.disks 0 8)

pub root-requires : goal.root-requires
root-requires c =
    let none : set.contains c.file.new.self.born 1 ≡ false =
    ap (λ (F : Flat). set.contains F.born 1) c.in_ok-file.ensures.ok ∙ ap (λ (F : Flat). set.contains F.born 1) c.in_ok-disk.ensures.ok ∙ ap (λ (F : Flat). set.contains F.born 1) c.new-flat.ensures ∙ set.contains-empty nat_cmp 1 in
    record { unborn = none }

pub root-requires-2 : goal.root-requires-2
root-requires-2 c =
    let none : set.contains c.root.new.self.born 2 ≡ false =
    ap (λ (F : Flat). set.contains F.born 2) c.in_ok-root.ensures.ok ∙ set.contains-insert nat_cmp_total c.file.new.self.born 1 2
    ∙ ap (λ (F : Flat). set.contains F.born 2) c.in_ok-file.ensures.ok ∙ ap (λ (F : Flat). set.contains F.born 2) c.in_ok-disk.ensures.ok ∙ ap (λ (F : Flat). set.contains F.born 2) c.new-flat.ensures ∙ set.contains-empty nat_cmp 2 in
    record { unborn = none }
