-- What is seen of a disk that stands for one disk or for two. Public clauses cite this.
use Rattle.std.specs.Prelude.{ℕ, ◌≡◌, Bool, true, false, List, length, Option, Some, None, Result}
use Rattle.disk_stripe.specs.block_device.DiskSeen.{DiskSeen, Reads, Writes}
use Rattle.disk_stripe.specs.StripeLook.{stripe_disks}
use Rattle.disk_stripe.specs.StripeSeen.{ReadsOne, WritesOne, stripe_seen, stripe_seen_by}
use Rattle.disk_mirror.specs.MirrorLook.{mirror_look}
use Rattle.disk_mirror.specs.MirrorSeen.{AsksFresh, HasFreshSide, SameWhereFresh, WritesBoth, mirror_disk, mirror_seen, new_mirror}
use Rattle.joined_disk.specs.declared.joined.JoinedDisk.{JoinedDisk}
use Rattle.joined_disk.specs.declared.joined.JoinedDisk.TheVariants.{Plain, Striped, Mirrored}

-- It is seen as the disk that it is, as a stripe, or as a mirror.
abbrev pub joined_seen : {D : Type 0} {disk : _} → (D → DiskSeen) → JoinedDisk D disk → DiskSeen
joined_seen seen (Plain d) = seen d
joined_seen seen (Striped s) = stripe_seen_by seen (stripe_disks s.value)
joined_seen seen (Mirrored m) = mirror_seen seen (mirror_look m.value)

-- the disk that it is, or the two that it stands for
abbrev pub joined_parts : {D : Type 0} {disk : _} → JoinedDisk D disk → D × Option D
joined_parts (Plain d) = (d, None)
joined_parts (Striped s) = ((stripe_disks s.value).0, Some (stripe_disks s.value).1)
joined_parts (Mirrored m) = ((mirror_look m.value).a, Some (mirror_look m.value).b)

-- It stands for one disk or for these two: striped, or mirrored, each block fresh on the first alone.
abbrev pub StandsFor : {D : Type 0} {disk : _} → (D → DiskSeen) → D → Option D → Bool → JoinedDisk D disk → Type 0
StandsFor seen a None mirror (Plain d) = d ≡ a
StandsFor seen a (Some b) false (Striped s) = stripe_disks s.value ≡ (a, b)
StandsFor seen a (Some b) true (Mirrored m) = mirror_look m.value ≡ new_mirror a b (seen a).size
StandsFor seen a b mirror d = ⊥

-- What a read of a block asks: the disk that it is; of a stripe's, the one where the block lies; or of a mirror's, those where the block is fresh.
abbrev pub AsksToRead : {D E : Type 0} {disk : _} → (D → DiskSeen) → JoinedDisk D disk → JoinedDisk D disk → ℕ → List ℕ → Result (Unit {0}) E → Type 0
AsksToRead seen (Plain d) (Plain e) block into result = Reads (seen d) (seen e) block into result
AsksToRead seen (Striped s) (Striped t) block into result = ReadsOne seen (stripe_disks s.value) (stripe_disks t.value) block into result
AsksToRead seen (Mirrored m) (Mirrored n) block into result = AsksFresh seen (mirror_look m.value) (mirror_look n.value) block result
AsksToRead seen old new block into result = ⊥

-- What a write of a block asks: the disk that it is; of a stripe's, the one where the block lies; or both of a mirror's.
abbrev pub AsksToWrite : {D E : Type 0} {disk : _} → (D → DiskSeen) → JoinedDisk D disk → JoinedDisk D disk → ℕ → List ℕ → Result (Unit {0}) E → Type 0
AsksToWrite seen (Plain d) (Plain e) block from result = Writes (seen d) (seen e) block from result
AsksToWrite seen (Striped s) (Striped t) block from result = WritesOne seen (stripe_disks s.value) (stripe_disks t.value) block from result
AsksToWrite seen (Mirrored m) (Mirrored n) block from result = WritesBoth seen (mirror_look m.value) (mirror_look n.value) block from result
AsksToWrite seen old new block from result = ⊥

-- A mirror of two disks, as it is seen by what is seen of them: each of its blocks is fresh on one of them, and is that one's block.
pub record IsMirrorOf (a b disk : DiskSeen) : Type 0 where
  pub fresh_a : List Bool
  pub fresh_b : List Bool
  pub seen : disk ≡ mirror_disk fresh_a a b
  pub marks_a : length fresh_a ≡ a.size
  pub marks_b : length fresh_b ≡ a.size
  pub somewhere : HasFreshSide fresh_a fresh_b
  pub same : SameWhereFresh fresh_a fresh_b a.content b.content

-- Two disks as one, a mirror or a stripe, as it is seen by what is seen of them.
abbrev pub IsBoth : Bool → DiskSeen → DiskSeen → DiskSeen → Type 0
IsBoth true a b disk = IsMirrorOf a b disk
IsBoth false a b disk = disk ≡ stripe_seen a b

-- A disk that stands for one disk or for two, as it is seen by what is seen of them: as that one, or by its kind as a mirror or a stripe. Two have as many blocks.
abbrev pub IsSeenBy : DiskSeen → Option DiskSeen → DiskSeen → Type 0
IsSeenBy a None disk = disk ≡ a
IsSeenBy a (Some b) disk = (a.size ≡ b.size) × IsBoth disk.kind.mirror a b disk
