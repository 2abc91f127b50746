use Rattle.std.proofs.Common.{◌≡◌, drop}
use Rattle.volume_files.specs.Opened.{disk_numbered}
use Rattle.volume_files.proofs.mounting.spec_numbered.Given as goal

abbrev pub invariant-loop-line : goal.invariant-loop-line
invariant-loop-line l = disk_numbered l.setup l.number ≡ disk_numbered (drop l.line-index l.setup) l.number
