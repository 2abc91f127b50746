-- What spaces end as, once a `&mut` to one of them has ended. Public clauses cite this.
use Rattle.std.specs.Prelude.{ℕ, Option}
use Rattle.std.specs.Borrow.{LendsIf, Fml, MutBor}
use Rattle.std.specs.FinMap as finite
use Rattle.seg_ops.specs.addr_space.Space.{RangesSeen}
use Rattle.seg_ops.specs.addr_space.contracts.ranges.Ranges as ranges
use Rattle.seg_ops.specs.vm_world.declared.segment.Segment.{Segment}
use Rattle.seg_vn.specs.contracts.segment.VnSeg as segment
use Rattle.seg_vn.specs.contracts.spaces.Spaces.{the_row}
use Rattle.seg_vn.specs.Spaces.{SpacesSeen}

-- the process has the last space written through r, and all others stay; at `None` all stay
abbrev pub lends_space : MutBor SpacesSeen → ℕ → Option (MutBor (RangesSeen Segment)) → Fml
lends_space s process r =
    LendsIf the_row (ranges.the_row segment.the_row) s r (λ w. record s.now { spaces = finite.insert s.now.spaces process w.parts }) s.now
