use Rattle.std.specs.Prelude.{◌≤◌, ◌≡◌, length}
use Rattle.std.proofs.Common.{arith, ap, sym, subst}
use Rattle.vnode_files.specs.Grow.{page_count}
use Rattle.vnode_files.specs.Vnode.{VnodeSeen, IsSoundVnode}
use Rattle.vnode_files.specs.Room.{RoomyVnode, cut_vnode}
use Rattle.vnode_files.proofs.ExtentLemmas.{length-page_ends}
use Rattle.vnode_files.proofs.IndexLemmas.{HasPageEnds-cut}
use Rattle.vnode_files.proofs.vnode.Vnode.cut_back.Goals as goal

pub cut_ends-requires : goal.cut_ends-requires
cut_ends-requires c =
    let within : c.args.to.extents ≤ length c.self.inside.info.extents = subst (λ (v : RoomyVnode). c.args.to.extents ≤ length v.seen.info.extents) (sym c.self.view_is) c.requires.extents in
    omega (arith, ap length c.self.invariant.indexed, length-page_ends 0 c.self.inside.info.extents)

pub invariant_of-self : goal.invariant_of-self
invariant_of-self c =
    let v : VnodeSeen = record { info = c.self.inside.info; blanks = c.self.inside.blanks.items } in
    let within : c.args.to.extents ≤ length v.info.extents = subst (λ (v : RoomyVnode). c.args.to.extents ≤ length v.seen.info.extents) (sym c.self.view_is) c.requires.extents in
    let pages : c.args.to.pages ≡ page_count (cut_vnode v c.args.to).info.extents =
    subst (λ (w : RoomyVnode). c.args.to.pages ≡ page_count (cut_vnode w.seen c.args.to).info.extents) (sym c.self.view_is) c.requires.pages in
    let sound : IsSoundVnode (cut_vnode v c.args.to) = subst (λ (w : RoomyVnode). IsSoundVnode (cut_vnode w.seen c.args.to)) (sym c.self.view_is) c.requires.sound in
    let cut = HasPageEnds-cut v c.self.inside.ends.items c.self.inside.ends.cap c.args.to c.self.invariant within pages sound in
    rw (c.cut_extents.ensures, c.truncate.ensures.items, c.cut_ends.ensures.items, c.cut_ends.ensures.room) cut
