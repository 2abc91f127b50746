-- Laws of histories that are joined. Public clauses cite this.
use Rattle.std.specs.Prelude.{ℕ, ◌≡◌, ◌↔◌, ◌++◌, List}
use Rattle.vm_types.specs.declared.call.Entry.{Entry}
use Rattle.flat_model.specs.Flat.{Flat}
use Rattle.flat_model.specs.History.{replay, Steps, Legal}
use Rattle.flat_model.specs.Told.{entries_of}

-- A history and one behind it: flat memory after both is what the second leaves of what the first left; both step where each does; a front of a legal history is legal; and a process's entries of both are those of the first and then those of the second.
pub record JoinedHistories : Type 0 where
  pub replayed : (F : Flat) (H K : List Entry) → replay F (H ++ K) ≡ replay (replay F H) K
  pub steps : (F : Flat) (H K : List Entry) → Steps F (H ++ K) ↔ (Steps F H × Steps (replay F H) K)
  pub front : (F : Flat) (H K : List Entry) → Legal F (H ++ K) → Legal F H
  pub entries : (H K : List Entry) (p : ℕ) → entries_of (H ++ K) p ≡ entries_of H p ++ entries_of K p
