-- Flat memory that a history reaches, beside that it is well formed. Public clauses cite this.
use Rattle.std.specs.Prelude.{ℕ, ◌≡◌, ◌≤◌, List, is_some}
use Rattle.std.specs.Ordering.{nat_cmp}
use Rattle.std.specs.FinMap as map
use Rattle.vm_types.specs.declared.call.Entry.{Entry}
use Rattle.flat_model.specs.Flat.{File, Flat, is_named, reserved}
use Rattle.flat_model.specs.Opening.{flat_at_opening}
use Rattle.flat_model.specs.Step.{IsStep, step}
use Rattle.flat_model.specs.History.{replay, Steps}
use Rattle.flat_model.specs.Births.{AreBorn}

-- Who is alive was born; a zero object is there exactly where some cell names it; and no more slots are reserved than there are.
pub record IsReached (F : Flat) : Type 0 where
  pub born : AreBorn F
  pub zeros : (z : ℕ) → is_some (map.get F.zeros z) ≡ is_named F z
  pub backed : reserved F ≤ F.slots

-- Flat memory is as IsReached says when it is opened, and stays so over each step and each history.
pub record StaysReached : Type 0 where
  pub opening : (slots : ℕ) (disks : map.FinMap nat_cmp ℕ) (files : List File) (roots : List ℕ) → IsReached (flat_at_opening slots disks files roots)
  pub after_step : (F : Flat) (e : Entry) → IsReached F → IsStep F e → IsReached (step F e)
  pub after_history : (F : Flat) (H : List Entry) → IsReached F → Steps F H → IsReached (replay F H)
