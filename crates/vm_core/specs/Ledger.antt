-- The history, with the most entries that each process may make. Inside: no public clause cites this.
use Rattle.std.specs.Prelude.{◌≡◌, ◌<◌, ◌≤◌, ◌+◌, ◌^◌, ℕ, List, length, sum_by}
use Rattle.fault_entry.specs.vm_types.declared.call.Entry.{Entry}
use Rattle.fault_entry.specs.flat_model.Told.{entries_of}
use Rattle.fault_entry.specs.vm_world.State.{room_of}

-- The entries that were made, and of each process the most that it may make.
pub record LedgerSeen : Type 0 where
  pub history : List Entry
  pub entries : List ℕ

-- What is left to each process is known; there is room for all that is left, and with it there are fewer than 2^32 entries.
pub record IsSoundLedger (H : List Entry) (capacity : ℕ) (entries left : List ℕ) : Type 0 where
  pub counted : (p : ℕ) → length (entries_of H p) + room_of left p ≡ room_of entries p
  pub lengths : length left ≡ length entries
  pub room : length H + sum_by (λ n. n) left ≤ capacity
  pub few : length H + sum_by (λ n. n) left < 2 ^ 32
