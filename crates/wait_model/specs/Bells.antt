-- The bells of the lock, and what ringing them takes. Public clauses cite this.
use Rattle.std.specs.Prelude.{Bool, true, false, List, [], ◌∷◌}

-- `leaves` rings as a seat leaves the lock, `changes` as a transfer or a call ended, and `files` as a call of a file ended.
pub data BellName : Type 0 where
  leaves : BellName
  changes : BellName
  files : BellName

-- Whether two bells are the same one.
abbrev pub is_same_bell : BellName → BellName → Bool
is_same_bell leaves leaves = true
is_same_bell changes changes = true
is_same_bell files files = true
is_same_bell _ _ = false

-- A value for each bell.
abbrev pub ByBell : Type 0 → Type 0
ByBell A = BellName → A

-- The values for `leaves`, `changes` and `files`, in that order.
abbrev pub by_bell : {A : Type 0} → A → A → A → ByBell A
by_bell l c f leaves = l
by_bell l c f changes = c
by_bell l c f files = f

-- The values with another one for a bell.
abbrev pub with_bell : {A : Type 0} → BellName → A → ByBell A → ByBell A
with_bell leaves new old = by_bell new (old changes) (old files)
with_bell changes new old = by_bell (old leaves) new (old files)
with_bell files new old = by_bell (old leaves) (old changes) new

-- A step that a seat owes a bell: to raise its count; to look at its word, which is 1 where somebody may sleep and no wake-up is on its way; to swap that word for 0; and to wake one of the sleepers, or all.
pub data Duty : Type 0 where
  raise : BellName → Duty
  look : BellName → Duty
  swap : BellName → Duty
  wake : BellName → Duty
  swap_for_all : BellName → Duty
  wake_all : BellName → Duty

-- What a seat owes that rings a bell: `Bell::ring`, step by step. `leave` rings `leaves` so, and
-- `tell` rings `changes`.
abbrev pub ring : BellName → List Duty
ring bell = raise bell ∷ look bell ∷ []

-- What a seat owes that passes a wake-up on, a look that may wake one sleeper: `Bell::wake_one`.
-- `pass_on` does it with `changes`.
abbrev pub wake_one : BellName → List Duty
wake_one bell = look bell ∷ []

-- What a seat owes that rings a bell for all who sleep on it: `Bell::ring_all`, step by step.
-- `tell_files` does it with `files`.
abbrev pub ring_all : BellName → List Duty
ring_all bell = raise bell ∷ swap_for_all bell ∷ []
