-- A disk that counts as one. Public clauses cite this.
use Rattle.std.specs.Prelude.{◌≡◌, Bool, false, Option, None}
use Rattle.block_device.specs.DiskSeen.{DiskSeen}
use Rattle.volume_disks.specs.declared.single.Single.{Single}

-- What is seen of a disk, as one disk, which has each block once.
abbrev pub as_single : DiskSeen → DiskSeen
as_single d = record d { kind = record d.kind { members = 1; mirror = false } }

-- What is seen of a disk that counts as one, by what is seen of the disk that it holds.
abbrev pub single_seen : {D : Type 0} → (D → DiskSeen) → Single D → DiskSeen
single_seen seen s = as_single (seen s.disk)

-- A disk that counts as one stands for the one disk, and never for two.
abbrev pub StandsAlone : {D : Type 0} → D → Option D → Bool → Single D → Type 0
StandsAlone a b mirror s = (b ≡ None) × (s.disk ≡ a)
