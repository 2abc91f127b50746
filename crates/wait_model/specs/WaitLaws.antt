-- Nobody sleeps for good with three bells, and somebody may with two. Public clauses cite this.
use Rattle.std.specs.Prelude.{◌≡◌, ◌≢◌, ◌⊎◌, ℕ, ◌+◌, []}
use Rattle.wait_model.specs.Waiting.{sleeping, Phase, gone, waits, out, rests, Waiting, seat_numbered, all_awake}
use Rattle.wait_model.specs.OwnSteps.{two_bells, three_bells}
use Rattle.wait_model.specs.Steps.{WaitSteps}

-- A seat that owes nothing is awake where it neither sleeps nor has ended, has no transfer at a disk, and waits for no child that goes on.
abbrev pub IsUp : Waiting → ℕ → Phase → Type 0
IsUp w i gone = ⊥
IsUp w i out = ⊥
IsUp w i (waits n) = (seat_numbered w (i + 1 + n)).phase ≡ gone
IsUp w i (rests bell sleeping) = ⊥
IsUp w i phase = Unit {0}

-- The seat of a number owes a bell something, or could go on.
abbrev pub IsAwake : Waiting → ℕ → Type 0
IsAwake w i = ((seat_numbered w i).duties ≢ []) ⊎ IsUp w i (seat_numbered w i).phase

-- The seat of a number has a transfer at its disk.
abbrev pub HasTransferOut : Waiting → ℕ → Type 0
HasTransferOut w i = (seat_numbered w i).phase ≡ out

-- The seat of a number has ended.
abbrev pub HasEnded : Waiting → ℕ → Type 0
HasEnded w i = (seat_numbered w i).phase ≡ gone

-- Wherever the steps lead from so many seats that are awake: where some seat has not ended, some seat is awake or has a transfer out.
pub record NobodySleepsForGood : Type 0 where
  pub somebody : (n : ℕ) (w : Waiting) → WaitSteps three_bells (all_awake n) w → (i : ℕ) → (HasEnded w i → ⊥) → (j : ℕ) × (IsAwake w j ⊎ HasTransferOut w j)

-- With two bells the steps lead three seats to where one has not ended, none is awake, and none has a transfer out.
pub record SomebodySlept : Type 0 where
  pub w : Waiting
  pub steps : WaitSteps two_bells (all_awake 3) w
  pub waits : HasEnded w 0 → ⊥
  pub nobody : (j : ℕ) → (IsAwake w j ⊎ HasTransferOut w j) → ⊥
