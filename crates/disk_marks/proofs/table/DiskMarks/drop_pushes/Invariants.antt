-- The pushes before this one are dropped where they are of the page, and the others as they were.
use Rattle.std.proofs.Common.{◌≡◌, ◌++◌, map, take, drop}
use Rattle.disk_marks.specs.Changes.{push_dropped}
use Rattle.disk_marks.proofs.table.DiskMarks.drop_pushes.Given as goal

abbrev pub invariant-loop-push : goal.invariant-loop-push
invariant-loop-push l = l.push-items ≡ map (push_dropped l.file l.page) (take l.push-index l.initial.push-items) ++ drop l.push-index l.initial.push-items
