-- When two disks may be paired. Public clauses cite this.
use Rattle.std.specs.Prelude.{◌≡◌, ◌<◌, ◌^◌, Bool, Option, IsFalse}
use Rattle.std.specs.Option.{ForSome}
use Rattle.block_device.specs.DiskSeen.{DiskSeen}

-- A disk may stand alone. Two disks have as many blocks, and fewer than 2^31 each where they are striped.
abbrev pub CanPair : {D : Type 0} → (D → DiskSeen) → D → Option D → Bool → Type 0
CanPair seen a b mirror = ForSome b (λ other. ((seen a).size ≡ (seen other).size) × (IsFalse mirror → (seen a).size < 2 ^ 31))
