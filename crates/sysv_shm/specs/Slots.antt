-- What is kept for each key. Public clauses cite this.
use Rattle.std.specs.Prelude.{ℕ, ◌≡◌, ◌==◌, List, Option, None, option_and_then, IsSome}
use Rattle.std.specs.Prelude.{if◌then◌else◌}
use Rattle.std.specs.BTreeMap.{is_at}
use Rattle.std.specs.Map.{lookup}
use Rattle.std.specs.Ordering.{nat_cmp}
use Rattle.sysv_shm.specs.declared.maker.Made.{Made}

-- The slots of keys, in the order of the keys: where a key's segment is mapped, if it has one.
abbrev pub SlotsSeen : Type 0
SlotsSeen = List (ℕ × Option Made)

-- The slot of a key, if it has one.
abbrev pub key_slot : SlotsSeen → ℕ → Option (Option Made)
key_slot slots key = lookup (is_at (nat_cmp key)) slots

-- Where a key's segment is mapped, if it has one.
abbrev pub kept_at : SlotsSeen → ℕ → Option Made
kept_at slots key = option_and_then (λ made. made) (key_slot slots key)

-- The same, but for one key.
abbrev pub with_slot : SlotsSeen → ℕ → Option Made → ℕ → Option Made
with_slot slots key made k = if k == key then made else kept_at slots k
