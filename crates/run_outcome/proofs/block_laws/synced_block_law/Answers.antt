use Rattle.std.proofs.Common.{sym, ◌∙◌, inl, inr, arith}
use Rattle.run_outcome.proofs.block_laws.synced_block_law.Goals as goal

pub returns : goal.returns
returns c = λ F H number faults given now name block k b bytes held none place synced some same.
    let few = held.few in
    let front = held.fronts name block place (λ failed. let lt = failed.1 in omega (arith, few, none, lt)) in
    let low = front.synced k b synced in
    let here = same front.entries low front.made in
    elim front.holds [
      | inl then ↦ (front.entries, low, front.made, then ∙ here)
      | inr zeros ↦ absurd (some (sym here ∙ zeros))
    ]
