-- The pushes before this one are cut, and the others as they were.
use Rattle.std.proofs.Common.{◌≡◌, ◌++◌, map, take, drop}
use Rattle.disk_marks.specs.Changes.{push_cut}
use Rattle.disk_marks.proofs.table.DiskMarks.cut_pushes.Given as goal

abbrev pub invariant-loop-push : goal.invariant-loop-push
invariant-loop-push l = l.push-items ≡ map (push_cut l.file l.pages) (take l.push-index l.initial.push-items) ++ drop l.push-index l.initial.push-items
