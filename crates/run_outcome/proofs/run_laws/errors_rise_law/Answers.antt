use Rattle.std.proofs.Common.{◌≡◌, ◌<◌, ◌≤◌, ◌⊎◌, inl, inr, arith}
use Rattle.run_outcome.proofs.run_laws.errors_rise_law.Goals as goal

pub returns : goal.returns
returns c = λ H j k d e disk b after before a counted lt at_j at_k io_j io_k.
    let low = counted.ordered j k d e disk b after before a lt at_j at_k io_j io_k in
    elim (counted.risen k e disk before a at_k io_k) [
      | inl up ↦ inl (omega (arith, low, up))
      | inr top ↦ inr top.1
    ]
