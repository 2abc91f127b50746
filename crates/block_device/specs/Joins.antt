-- What is seen of a disk that stands for two disks. Public clauses cite this.
use Rattle.std.specs.Prelude.{ℕ, ◌+◌, ◌-◌, ◌^◌, ◌&&◌, false, min, List, Option, option_map, option_and_then}
use Rattle.block_device.specs.DiskSeen.{DiskKind}

-- The sum of two counts; it stops at 2^64 - 1.
abbrev pub count_sum : ℕ → ℕ → ℕ
count_sum one other = min (one + other) (2 ^ 64 - 1)

-- Two disks whose transfers are each one of a disk: their count is exact where both counts are, and each block is on one of them.
abbrev pub kind_of_both : DiskKind → DiskKind → DiskKind
kind_of_both one other = record { exact = one.exact && other.exact; members = one.members + other.members; mirror = false }

-- the content that two contents make together, told where both are told
abbrev pub content_of_both : (List (List ℕ) → List (List ℕ) → List (List ℕ)) → Option (List (List ℕ)) → Option (List (List ℕ)) → Option (List (List ℕ))
content_of_both make one other = option_and_then (λ blocks. option_map (make blocks) other) one
