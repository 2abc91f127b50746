-- What a disk that stands for two has of their blocks, in a user's words. Public clauses cite this.
use Rattle.std.specs.Prelude.{ℕ, ◌≡◌, ◌<◌, ◌+◌, ◌*◌, ◌⊎◌, IsTrue, IsFalse, List, [], length, slice_index_or, Some}
use Rattle.disk_stripe.specs.block_device.DiskSeen.{DiskSeen}
use Rattle.disk_mirror.specs.MirrorSeen.{is_fresh}
use Rattle.joined_disk.specs.JoinedSeen.{IsMirrorOf, IsSeenBy}

-- Two disks that tell their blocks, and a disk that stands for them, with its blocks.
pub record TellBlocks (a b disk : DiskSeen) : Type 0 where
  pub seen : IsSeenBy a (Some b) disk
  pub first : List (List ℕ)
  pub second : List (List ℕ)
  pub blocks : List (List ℕ)
  pub of_a : a.content ≡ Some first
  pub of_b : b.content ≡ Some second
  pub of_disk : disk.content ≡ Some blocks
  pub long_a : length first ≡ a.size
  pub long_b : length second ≡ b.size

-- A block is that of its own number on one of two disks.
abbrev pub IsOnEither : List (List ℕ) → List (List ℕ) → List (List ℕ) → ℕ → Type 0
IsOnEither first second blocks n =
    (slice_index_or blocks n [] ≡ slice_index_or first n []) ⊎ (slice_index_or blocks n [] ≡ slice_index_or second n [])

-- A block of the first of two disks has twice its number on both as one, and that of the second
-- the number behind.
abbrev pub AreInTurn : List (List ℕ) → List (List ℕ) → List (List ℕ) → ℕ → Type 0
AreInTurn first second blocks n =
    (slice_index_or blocks (2 * n) [] ≡ slice_index_or first n []) × (slice_index_or blocks (2 * n + 1) [] ≡ slice_index_or second n [])

-- What a mirror has of its two disks: as many blocks as each, each block of one of them at its own
-- number, and of each on which it is fresh.
pub record MirrorsBlocks (a b disk : DiskSeen) (t : TellBlocks a b disk) : Type 0 where
  pub size : disk.size ≡ a.size
  pub either : (n : ℕ) → n < disk.size → IsOnEither t.first t.second t.blocks n
  pub fresh_a : (m : IsMirrorOf a b disk) (n : ℕ) → n < disk.size → IsTrue (is_fresh m.fresh_a n) → slice_index_or t.blocks n [] ≡ slice_index_or t.first n []
  pub fresh_b : (m : IsMirrorOf a b disk) (n : ℕ) → n < disk.size → IsTrue (is_fresh m.fresh_b n) → slice_index_or t.blocks n [] ≡ slice_index_or t.second n []

-- What a stripe has of its two disks: as many blocks as both, which are theirs in turn.
pub record StripesBlocks (a b disk : DiskSeen) (t : TellBlocks a b disk) : Type 0 where
  pub size : disk.size ≡ a.size + b.size
  pub turns : (n : ℕ) → n < a.size → AreInTurn t.first t.second t.blocks n
