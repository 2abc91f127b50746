-- Pages of 4096 bytes, lines of 64 bytes, and the addresses that a process may use. Public clauses cite this.
use Rattle.std.specs.Prelude.{ℕ, ◌≤◌, ◌+◌, ◌-◌, ◌*◌, ◌/◌, ◌%◌, ◌==◌, min, Bool, not, ◌&&◌, nat_le}

-- The bytes of a page.
abbrev pub page_size : ℕ
page_size = 4096

-- User addresses end before this page, and they begin at page 1.
abbrev pub end_page : ℕ
end_page = 0x80000

-- The page of an address is the address divided by 4096.
abbrev pub page : ℕ → ℕ
page a = a / page_size

-- How many pages a length takes, the last one perhaps not full.
abbrev pub pages_in : ℕ → ℕ
pages_in len = (len + 4095) / page_size

-- How many bytes of page i lie before the end of a file of this length.
abbrev pub bytes_before : ℕ → ℕ → ℕ
bytes_before len i = min page_size (len - page_size * i)

-- A user address is from 0x1000 to 0x7fffffff.
abbrev pub IsUserAddress : ℕ → Type 0
IsUserAddress a = (0x1000 ≤ a) × (a ≤ 0x7fffffff)

-- A user page is from 1 to 0x7ffff.
abbrev pub IsUserPage : ℕ → Type 0
IsUserPage q = (1 ≤ q) × (q ≤ 0x7ffff)

-- A range is valid where its address begins a page, its length isn't 0, and its pages lie in the user addresses.
abbrev pub is_range : ℕ → ℕ → Bool
is_range a len = (a % page_size == 0) && not (len == 0) && nat_le 1 (page a) && nat_le (page a + pages_in len) end_page

-- The rest of a line is the number of bytes from an offset to the end of the aligned line of 64 bytes that it lies in.
abbrev pub line_rest : ℕ → ℕ
line_rest offset = 64 - offset % 64
