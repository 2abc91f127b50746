use Rattle.std.specs.Prelude.{◌≡◌, ◌≤◌, take, vec_capacity}
use Rattle.vnode_files.specs.Grow.{page_count}
use Rattle.vnode_files.specs.Room.{page_ends}
use Rattle.vnode_files.proofs.vnode.ends_of.Given as goal

abbrev pub invariant-loop-extent : goal.invariant-loop-extent
invariant-loop-extent l = record {
  end : l.end ≡ page_count (take l.extent-index l.extents);
  ends : l.ends.items ≡ page_ends 0 (take l.extent-index l.extents);
  room : 252 ≤ vec_capacity l.ends;
}
