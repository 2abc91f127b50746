use Rattle.std.proofs.Common.{◌≡◌, drop}
use Rattle.volume_files.specs.Opened.{joined_by}
use Rattle.volume_files.proofs.mounting.joined_by.Given as goal

abbrev pub invariant-loop-line : goal.invariant-loop-line
invariant-loop-line l = joined_by l.setup l.number ≡ joined_by (drop l.line-index l.setup) l.number
