use Rattle.std.proofs.Common.{◌≡◌, ℕ, ◌≤◌, ◌*◌, ◌^◌, sum_by, take}
use Rattle.vm_core.proofs.ledger.total.Given as goal

abbrev pub invariant-loop-most : goal.invariant-loop-most
invariant-loop-most l = record {
  sum : l.sum ≡ sum_by (λ (n : ℕ). n) (take l.most-index l.entries);
  bound : l.sum ≤ l.most-index * 2 ^ 32;
}
