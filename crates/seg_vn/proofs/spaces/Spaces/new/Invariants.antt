use Rattle.std.proofs.Common.{◌≡◌, ◌≤◌, ◌+◌, vec_len, vec_capacity}
use Rattle.std.specs.FinMap as finite
use Rattle.seg_vn.specs.Spaces.{spaces_from}
use Rattle.seg_vn.proofs.spaces.Spaces.new.Given as goal

abbrev pub invariant-loop-place : goal.invariant-loop-place
invariant-loop-place l = (spaces_from 0 l.list.items ≡ finite.empty) × (vec_len l.list ≡ l._place) × (l.fn.processes + 1 ≤ vec_capacity l.list)
