use Rattle.std.proofs.Common.{ℕ, ◌≤◌, arith}
use Rattle.std.specs.Prelude.{IsSomeAnd, Option, Some, None}
use Rattle.volume_files.specs.block_device.DiskSeen.{DiskSeen}
use Rattle.volume_files.specs.Handed.{disk_handed}
use Rattle.run_outcome.proofs.run_laws.errors_counted_law.Goals as goal

-- a disk that counted so many
up-to : (after count : ℕ) → after ≤ count → (o : Option DiskSeen) → IsSomeAnd o (λ d. count ≤ d.faults) → IsSomeAnd o (λ d. after ≤ d.faults)
up-to after count low None some = some
up-to after count low (Some d) high = omega (arith, low, high)

pub returns : goal.returns
returns c = λ plan history disks swap k e number before after reach at io.
    let r = reach k e number before after at io in up-to after r.0 r.2 (disk_handed plan disks swap number) r.3
