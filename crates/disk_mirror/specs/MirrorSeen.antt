-- What is seen of a mirror: on which disks each block is fresh, what the mirror tells and counts, and what its
-- transfers ask of its disks. Public clauses cite this.
use Rattle.std.specs.Prelude.{ℕ, ◌≡◌, ◌<◌, ◌+◌, ◌⊎◌, Bool, true, false, ◌||◌, ◌&&◌, IsTrue, IsFalse, List, [], map, length, replicate, slice_index_or, slice_set, Option, Result, Ok, Err, OnErr, OnOk, is_ok, is_err, if◌then◌else◌}
use Rattle.std.specs.Option.{ForSome}
use Rattle.std.specs.List.{range_with_len}
use Rattle.block_device.specs.Counts.{HasRisen}
use Rattle.block_device.specs.DiskSeen.{DiskKind, DiskSeen, Reads, Writes, failures_told}
use Rattle.block_device.specs.declared.disk.Failed.{Failed}
use Rattle.block_device.specs.Joins.{count_sum, content_of_both}

-- The two disks of a mirror, and for each block whether it is fresh on the first and on the second.
pub record MirrorSeen (D : Type 0) : Type 0 where
  pub a : D
  pub b : D
  pub fresh_a : List Bool
  pub fresh_b : List Bool

-- a mirror of disks with so many blocks that was just made: each block is fresh on the first disk alone
abbrev pub new_mirror : {D : Type 0} → D → D → ℕ → MirrorSeen D
new_mirror a b size = record { a = a; b = b; fresh_a = replicate size true; fresh_b = replicate size false }

-- Ok, or a failure.
abbrev pub answer_if : Bool → Result (Unit {0}) Failed
answer_if ok = if ok then Ok tt else Err (record {})

-- Is the block marked as fresh?
abbrev pub is_fresh : List Bool → ℕ → Bool
is_fresh marks block = slice_index_or marks block false

-- Block n of a mirror is block n of a disk where it is fresh: of the first where it is fresh there, and else of
-- the second.
abbrev pub mirror_block : List Bool → List (List ℕ) → List (List ℕ) → ℕ → List ℕ
mirror_block fresh_a first second n = slice_index_or (if is_fresh fresh_a n then first else second) n []

-- the blocks of a mirror of disks with these blocks
abbrev pub mirror_blocks : List Bool → List (List ℕ) → List (List ℕ) → List (List ℕ)
mirror_blocks fresh_a first second = map (mirror_block fresh_a first second) (range_with_len 0 (length fresh_a))

-- What one disk fails to serve, the other serves, and the fault is counted: the count of a mirror isn't exact.
abbrev pub kind_of_mirror : DiskKind → DiskKind → DiskKind
kind_of_mirror first second = record { exact = false; members = first.members + second.members; mirror = true }

-- A mirror has as many blocks as each of its disks, tells them where both disks tell theirs, and counts what
-- both count.
abbrev pub mirror_disk : List Bool → DiskSeen → DiskSeen → DiskSeen
mirror_disk fresh_a first second = record {
  content = content_of_both (mirror_blocks fresh_a) first.content second.content;
  size = first.size;
  kind = kind_of_mirror first.kind second.kind;
  faults = count_sum first.faults second.faults;
  calls = count_sum first.calls second.calls;
}

-- what is seen of a mirror, by what is seen of each of its disks
abbrev pub mirror_seen : {D : Type 0} → (D → DiskSeen) → MirrorSeen D → DiskSeen
mirror_seen seen m = mirror_disk m.fresh_a (seen m.a) (seen m.b)

-- Each block is fresh on a disk.
abbrev pub HasFreshSide : List Bool → List Bool → Type 0
HasFreshSide fresh_a fresh_b = (block : ℕ) → block < length fresh_a → IsFalse (is_fresh fresh_a block) → IsTrue (is_fresh fresh_b block)

-- A block that is fresh on both disks is the same on both, where they tell it.
abbrev pub SameWhereFresh : List Bool → List Bool → Option (List (List ℕ)) → Option (List (List ℕ)) → Type 0
SameWhereFresh fresh_a fresh_b a b =
    ForSome a (λ first. ForSome b (λ second.
    (block : ℕ) → IsTrue (is_fresh fresh_a block) → IsTrue (is_fresh fresh_b block) →
    slice_index_or first block [] ≡ slice_index_or second block []))

-- The first disk was asked for a block where the block is fresh there, and whether it gave it; nothing else changed.
pub record ReadsFirst {D : Type 0} (seen : D → DiskSeen) (old new : MirrorSeen D) (block : ℕ) (into : List ℕ) (given : Bool) : Type 0 where
  pub reads : IsTrue (is_fresh old.fresh_a block) → Reads (seen old.a) (seen new.a) block into (answer_if given)
  pub stale : IsFalse (is_fresh old.fresh_a block) → new.a ≡ old.a
  pub none : IsFalse (is_fresh old.fresh_a block) → IsFalse given
  pub b : new.b ≡ old.b
  pub marks_a : new.fresh_a ≡ old.fresh_a
  pub marks_b : new.fresh_b ≡ old.fresh_b

-- What a read of a block asks. A disk where the block isn't fresh isn't asked. The second is asked only where the
-- block isn't fresh on the first, or the first failed in this call. Where it goes well, the second was asked if the
-- first counted a failure in this call, and counted none. It fails only where each disk failed in this call where
-- the block is fresh. And each block is fresh where it was.
pub record AsksFresh {D E : Type 0} (seen : D → DiskSeen) (old new : MirrorSeen D) (block : ℕ) (result : Result (Unit {0}) E) : Type 0 where
  pub stale_a : IsFalse (is_fresh old.fresh_a block) → new.a ≡ old.a
  pub stale_b : IsFalse (is_fresh old.fresh_b block) → new.b ≡ old.b
  pub order : IsTrue (is_fresh old.fresh_a block) → (new.b ≡ old.b) ⊎ HasRisen (seen old.a).faults (seen new.a).faults
  pub then_b : OnOk result ((failures_told (seen new.a) ≡ failures_told (seen old.a)) ⊎ HasRisen (seen old.b).calls (seen new.b).calls)
  pub steady_b : OnOk result (failures_told (seen new.b) ≡ failures_told (seen old.b))
  pub failed_a : OnErr result (IsTrue (is_fresh old.fresh_a block) → HasRisen (seen old.a).faults (seen new.a).faults)
  pub failed_b : OnErr result (IsTrue (is_fresh old.fresh_b block) → HasRisen (seen old.b).faults (seen new.b).faults)
  pub marks_a : new.fresh_a ≡ old.fresh_a
  pub marks_b : new.fresh_b ≡ old.fresh_b

-- Both disks were asked to write a block, and these are their answers. The block is then fresh where the write was Ok,
-- and on the first alone where both failed.
pub record WritesEach {D E : Type 0} (seen : D → DiskSeen) (old new : MirrorSeen D) (block : ℕ) (from : List ℕ) (on_a on_b : Result (Unit {0}) E) : Type 0 where
  pub wrote_a : Writes (seen old.a) (seen new.a) block from on_a
  pub wrote_b : Writes (seen old.b) (seen new.b) block from on_b
  pub marks_a : new.fresh_a ≡ slice_set old.fresh_a block (is_ok on_a || is_err on_b)
  pub marks_b : new.fresh_b ≡ slice_set old.fresh_b block (is_ok on_b)

-- What a write of a block asks: both disks. It fails exactly where both failed, each by its own count in this call.
pub record WritesBoth {D E : Type 0} (seen : D → DiskSeen) (old new : MirrorSeen D) (block : ℕ) (from : List ℕ) (result : Result (Unit {0}) E) : Type 0 where
  pub on_a : Result (Unit {0}) E
  pub on_b : Result (Unit {0}) E
  pub each : WritesEach seen old new block from on_a on_b
  pub answer : is_err result ≡ (is_err on_a && is_err on_b)
  pub failed_a : OnErr result (HasRisen (seen old.a).faults (seen new.a).faults)
  pub failed_b : OnErr result (HasRisen (seen old.b).faults (seen new.b).faults)
