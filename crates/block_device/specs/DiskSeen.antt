-- What contracts see of a disk, and what its two transfers do. Public clauses cite this.
use Rattle.std.specs.Prelude.{ℕ, ◌≡◌, ◌<◌, Bool, true, false, List, [], length, slice_index, slice_index_or, slice_set, Option, option_map, IfSome, Result, OnOk, OnErr, if◌then◌else◌}
use Rattle.block_device.specs.Counts.{HasRisen, HasCause}

-- What kind of disk it is: whether its count of faults is exact, which is that it rises by transfers that fail alone (that of a
-- mirror rises too where one of its disks fails and the other serves); how many disks it is, of which it may stand for several;
-- and whether it has each block on two disks.
pub record DiskKind : Type 0 where
  pub exact : Bool
  pub members : ℕ
  pub mirror : Bool

-- One disk, whose count is exact, and which has each block once.
abbrev pub one_disk : DiskKind
one_disk = record { exact = true; members = 1; mirror = false }

-- The blocks where the disk tells them, how many blocks it has, its kind, how often a transfer failed, and how
-- often one was asked for.
pub record DiskSeen : Type 0 where
  pub content : Option (List (List ℕ))
  pub size : ℕ
  pub kind : DiskKind
  pub faults : ℕ
  pub calls : ℕ

-- How many of its transfers failed, as far as its count tells that: none of a disk whose count isn't exact.
abbrev pub failures_told : DiskSeen → ℕ
failures_told disk = if disk.kind.exact then disk.faults else 0

-- 4096 bytes
abbrev pub IsBlock : List ℕ → Type 0
IsBlock bytes = (length bytes ≡ 4096) × ((at : ℕ) → slice_index bytes at < 256)

-- Each element is a block of 4096 bytes.
abbrev pub AreBlocks : List (List ℕ) → Type 0
AreBlocks blocks = (block : ℕ) → block < length blocks → IsBlock (slice_index_or blocks block [])

-- Where it is told, the content is `size` blocks of 4096 bytes.
abbrev pub HasBlocks : Option (List (List ℕ)) → ℕ → Type 0
HasBlocks content size = IfSome content (λ blocks. (length blocks ≡ size) × AreBlocks blocks)

-- Where the content is told, these are the bytes of the block.
abbrev pub Shows : Option (List (List ℕ)) → ℕ → List ℕ → Type 0
Shows content block bytes = IfSome content (λ blocks. bytes ≡ slice_index_or blocks block [])

-- the content with other bytes in one block, where it is told
abbrev pub with_block : Option (List (List ℕ)) → ℕ → List ℕ → Option (List (List ℕ))
with_block content block bytes = option_map (λ blocks. slice_set blocks block bytes) content

-- One block has some 4096 bytes now, and every other block is as it was.
abbrev pub Spoils : Option (List (List ℕ)) → Option (List (List ℕ)) → ℕ → Type 0
Spoils old new block = (bytes : List ℕ) × IsBlock bytes × (new ≡ with_block old block bytes)

-- What `read` does: it gives the block where the disk tells, changes no block, and fails only with a
-- fault counted.
pub record Reads {E : Type 0} (old new : DiskSeen) (block : ℕ) (into : List ℕ) (result : Result (Unit {0}) E) : Type 0 where
  pub gives : OnOk result (Shows old.content block into)
  pub content : new.content ≡ old.content
  pub size : new.size ≡ old.size
  pub kind : new.kind ≡ old.kind
  pub calls : HasRisen old.calls new.calls
  pub cause : HasCause old.faults new.faults result
  pub steady : OnOk result (failures_told new ≡ failures_told old)

-- What `write` does: the block is `from`, or after a failure some 4096 bytes; no other block changes;
-- and it fails only with a fault counted.
pub record Writes {E : Type 0} (old new : DiskSeen) (block : ℕ) (from : List ℕ) (result : Result (Unit {0}) E) : Type 0 where
  pub written : OnOk result (new.content ≡ with_block old.content block from)
  pub spoiled : OnErr result (Spoils old.content new.content block)
  pub size : new.size ≡ old.size
  pub kind : new.kind ≡ old.kind
  pub calls : HasRisen old.calls new.calls
  pub cause : HasCause old.faults new.faults result
  pub steady : OnOk result (failures_told new ≡ failures_told old)
