use Rattle.std.specs.Prelude.{◌<◌, ◌+◌, ◌^◌, length}
use Rattle.std.proofs.Common.{arith, ap, sym, subst}
use Rattle.vnode_files.specs.Grow.{page_count}
use Rattle.vnode_files.specs.Vnode.{VnodeSeen}
use Rattle.vnode_files.specs.Room.{RoomyVnode}
use Rattle.vnode_files.proofs.ExtentLemmas.{length-page_ends}
use Rattle.vnode_files.proofs.IndexLemmas.{HasPageEnds-pushed}
use Rattle.vnode_files.proofs.vnode.Vnode.push_extent.Goals as goal

pub push_reserved-requires : goal.push_reserved-requires
push_reserved-requires c =
    let few : length c.self.inside.info.extents < 252 = subst (λ (v : RoomyVnode). length v.seen.info.extents < 252) (sym c.self.view_is) c.requires.few in
    omega (arith, ap length c.self.invariant.indexed, length-page_ends 0 c.self.inside.info.extents, c.self.inside.ends.ok.0, c.self.invariant.room)

pub invariant_of-self : goal.invariant_of-self
invariant_of-self c =
    let v : VnodeSeen = record { info = c.self.inside.info; blanks = c.self.inside.blanks.items } in
    let few : page_count c.self.inside.info.extents + 1 < 2 ^ 32 = subst (λ (w : RoomyVnode). page_count w.seen.info.extents + 1 < 2 ^ 32) (sym c.self.view_is) c.requires.pages in
    let pushed = HasPageEnds-pushed v c.self.inside.ends.items c.self.inside.ends.cap c.args.block c.self.invariant c.ranges.block.fits few in
    rw (c.push.ensures, c.push_reserved-2.ensures.items, c.push_reserved.ensures.items, c.push_reserved.ensures.capacity, c.page_count-end.ensures, ← c.self.view_is) pushed
