-- Slots for anonymous pages, by number. Public clauses cite this.
use Rattle.std.specs.Prelude.{◌≡◌, ℕ, ◌<◌, ◌≤◌, ◌^◌, ◌==◌, Bool, false, not, List, length, map, replicate, count_by, slice_index, slice_set}

-- how many map places hold each slot, whether a page of each was pushed, and how many slots are reserved
pub record AnonSlotsSeen : Type 0 where
  pub counts : List ℕ
  pub swapped : List Bool
  pub reserved : ℕ

-- so many slots, none in use, none pushed, none reserved
abbrev pub unused_slots : ℕ → AnonSlotsSeen
unused_slots count = record { counts = replicate count 0; swapped = replicate count false; reserved = 0 }

-- a slot is in use where some map place holds it
abbrev pub is_used : ℕ → Bool
is_used count = not (count == 0)

-- how many slots are in use
abbrev pub slots_in_use : AnonSlotsSeen → ℕ
slots_in_use s = count_by is_used s.counts

-- how many map places hold the slot
abbrev pub count_at : AnonSlotsSeen → ℕ → ℕ
count_at s slot = slice_index s.counts slot

-- the slot is there and some map place holds it
abbrev pub IsHeldSlot : AnonSlotsSeen → ℕ → Type 0
IsHeldSlot s slot = 0 < count_at s slot

-- the slots with another count of one slot
abbrev pub with_count : AnonSlotsSeen → ℕ → ℕ → AnonSlotsSeen
with_count s slot count = record s { counts = slice_set s.counts slot count }

-- the slots with one slot held by one place, and not pushed
abbrev pub with_new_slot : AnonSlotsSeen → ℕ → AnonSlotsSeen
with_new_slot s slot = record s { counts = slice_set s.counts slot 1; swapped = slice_set s.swapped slot false }

-- the slots in use are reserved, and no more are reserved than there are
pub record IsSoundAnonSlots (s : AnonSlotsSeen) : Type 0 where
  pub lengths : length s.swapped ≡ length s.counts
  pub used : slots_in_use s ≤ s.reserved
  pub reserved : s.reserved ≤ length s.counts
  pub fits : length s.counts < 2 ^ 32

-- what is kept agrees: the swap area has the slots in use, and they are counted
pub record IsKeptAnonSlots (area : List Bool) (counts : List ℕ) (swapped : List Bool) (reserved in_use : ℕ) : Type 0 where
  pub marked : area ≡ map is_used counts
  pub lengths : length swapped ≡ length counts
  pub counted : in_use ≡ count_by is_used counts
  pub used : in_use ≤ reserved
  pub within : reserved ≤ length counts
  pub fits : length counts < 2 ^ 32
