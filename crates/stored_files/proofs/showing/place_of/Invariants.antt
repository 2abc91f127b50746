use Rattle.std.proofs.Common.{◌≡◌, ◌≢◌, ◌<◌, ℕ, map}
use Rattle.std.specs.Prelude.{Some, slice_get}
use Rattle.block_device.specs.DiskSeen.{DiskSeen}
use Rattle.stored_files.proofs.showing.place_of.Given as goal

abbrev pub invariant-loop-place : goal.invariant-loop-place
invariant-loop-place g l = (k : ℕ) (d : ℕ × DiskSeen) → k < l.place → slice_get (map g.P.PageDisk.numbered l.disks) k ≡ Some d → d.0 ≢ l.number
