-- The origin of a core: its region's address and size as one number. Inside: public clauses compare origins alone.
use Rattle.std.specs.Prelude.{ℕ, ◌+◌, ◌*◌}
use denote.RawPtr.{Ptr, block_ptr, null_ptr}

-- two numbers as one
abbrev pub pair : ℕ → ℕ → ℕ
pair a b = (a + b) * (a + b) + a

-- an address as a number
abbrev pub address : Ptr → ℕ
address null_ptr = 0
address (block_ptr b o) = pair b o + 1

-- a region of so many frames at an address
abbrev pub origin_of : Ptr → ℕ → ℕ
origin_of base frames = pair (address base) frames
