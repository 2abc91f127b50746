-- The disks before this one have their rows.
use Rattle.std.proofs.Common.{◌≡◌, ℕ, map, take, replicate}
use Rattle.disk_marks.specs.Marks.{unused_row}
use Rattle.disk_marks.proofs.table.unused_rows.Given as goal

abbrev pub invariant-loop-count : goal.invariant-loop-count
invariant-loop-count l = map (λ row. row.items) l.rows.items ≡ map (λ (n : ℕ). replicate n unused_row) (take l.count-index l.blocks)
