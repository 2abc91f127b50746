-- The law that flat memory stays well formed. Public clauses cite this.
use Rattle.std.specs.Prelude.{List, All}
use Rattle.vm_types.specs.declared.call.Entry.{Entry}
use Rattle.vm_types.specs.WellFormed.{IsWellFormed}
use Rattle.flat_model.specs.Flat.{Flat, IsFlat}
use Rattle.flat_model.specs.Step.{IsStep, step}
use Rattle.flat_model.specs.History.{replay, Steps}

-- Flat memory that is well formed is so after each step of a call that is, and after each history of such steps.
pub record StaysFlat : Type 0 where
  pub after_step : (F : Flat) (e : Entry) → IsFlat F → IsWellFormed e.call → IsStep F e → IsFlat (step F e)
  pub after_history : (F : Flat) (H : List Entry) → IsFlat F → All (λ e. IsWellFormed e.call) H → Steps F H → IsFlat (replay F H)
