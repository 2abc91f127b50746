-- How the least place is sought. Inside: no public clause cites this.
use Rattle.std.specs.Prelude.{ℕ, Bool, ◌&&◌, nat_lt}
use Rattle.vnode_files.specs.declared.extent.Extent.{Extent}
use Rattle.vnode_files.specs.Grow.{extent_end}

-- Whether an extent has one of the blocks from a place up to another.
abbrev pub is_in_way : ℕ → ℕ → Extent → Bool
is_in_way start end e = nat_lt e.start end && nat_lt start (extent_end e) && nat_lt e.start (extent_end e) && nat_lt start end
