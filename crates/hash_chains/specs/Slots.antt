-- The slot of a pair of numbers. Public clauses cite this.
use Rattle.std.specs.Prelude.{ℕ, ◌+◌, ◌*◌, ◌/◌, ◌%◌, ◌^◌}

-- the pair as one number, times the golden ratio's fraction; its high half as a share of the slots
unfoldable pub pair_slot : ℕ → ℕ → ℕ → ℕ
pair_slot slots upper lower = (upper * 2 ^ 32 + lower) * 0x9E37_79B9_7F4A_7C15 % 2 ^ 64 / 2 ^ 32 * slots / 2 ^ 32
