-- What is seen of a stripe: which block lies where, what it counts, and what its transfers ask. Public clauses cite this.
use Rattle.std.specs.Prelude.{ℕ, ◌≡◌, ◌+◌, ◌/◌, ◌%◌, nat_eq, List, [], map, length, slice_index_or, if◌then◌else◌, Result}
use Rattle.std.specs.List.{range_with_len}
use Rattle.block_device.specs.DiskSeen.{DiskSeen, Reads, Writes}
use Rattle.block_device.specs.Joins.{count_sum, content_of_both, kind_of_both}

-- Block n of a stripe is block n / 2 of the first disk where n is even, and of the second where n is odd.
abbrev pub stripe_block : List (List ℕ) → List (List ℕ) → ℕ → List ℕ
stripe_block first second n = slice_index_or (if nat_eq (n % 2) 0 then first else second) (n / 2) []

-- the blocks of a stripe over two disks with these blocks
abbrev pub stripe_blocks : List (List ℕ) → List (List ℕ) → List (List ℕ)
stripe_blocks first second = map (stripe_block first second) (range_with_len 0 (length first + length second))

-- A stripe has the blocks of both disks, tells them where both tell theirs, and counts what both count. A transfer of one disk is the stripe's.
abbrev pub stripe_seen : DiskSeen → DiskSeen → DiskSeen
stripe_seen first second = record {
  content = content_of_both stripe_blocks first.content second.content;
  size = first.size + second.size;
  kind = kind_of_both first.kind second.kind;
  faults = count_sum first.faults second.faults;
  calls = count_sum first.calls second.calls;
}

-- what is seen of a stripe over two disks, by what is seen of each disk
abbrev pub stripe_seen_by : {D : Type 0} → (D → DiskSeen) → D × D → DiskSeen
stripe_seen_by seen disks = stripe_seen (seen disks.0) (seen disks.1)

-- What a read of a block asks: the disk where the block lies reads it, and answers; the other is as it was.
pub record ReadsOne {D E : Type 0} (seen : D → DiskSeen) (old new : D × D) (block : ℕ) (into : List ℕ) (result : Result (Unit {0}) E) : Type 0 where
  pub even : block % 2 ≡ 0 → Reads (seen old.0) (seen new.0) (block / 2) into result × (new.1 ≡ old.1)
  pub odd : block % 2 ≡ 1 → Reads (seen old.1) (seen new.1) (block / 2) into result × (new.0 ≡ old.0)

-- What a write of a block asks: the disk where the block lies writes it, and answers; the other is as it was.
pub record WritesOne {D E : Type 0} (seen : D → DiskSeen) (old new : D × D) (block : ℕ) (from : List ℕ) (result : Result (Unit {0}) E) : Type 0 where
  pub even : block % 2 ≡ 0 → Writes (seen old.0) (seen new.0) (block / 2) from result × (new.1 ≡ old.1)
  pub odd : block % 2 ≡ 1 → Writes (seen old.1) (seen new.1) (block / 2) from result × (new.0 ≡ old.0)
