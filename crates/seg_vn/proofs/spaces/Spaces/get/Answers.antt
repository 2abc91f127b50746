use Rattle.std.proofs.Common.{◌≡◌, ◌≤◌, ◌∙◌, ap, sym, length, List, Option, None, subst, get_or}
use Rattle.seg_ops.specs.addr_space.Space.{RangesSeen}
use Rattle.seg_ops.specs.vm_world.declared.segment.Segment.{Segment}
use Rattle.seg_vn.proofs.SpacesFrom.{found-some, found-none, copied-parts, parts_in}
use Rattle.seg_vn.proofs.spaces.Spaces.get.Goals as goal

pub returns-in_err-get : goal.returns-in_err-get
returns-in_err-get c =
    rw c.from_residual.ensures
    (sym (found-none c.args.self.now c.self.inside.list.items c.args.process c.self.view_is
    (subst (λ (os : List (Option (RangesSeen Segment))). length os ≤ c.args.process) c.deref.ensures.value c.in_err-get.ensures.lookup.3)))

pub returns : goal.returns
returns c =
    copied-parts c.as_ref.result ∙ ap parts_in c.as_ref.ensures.value
    ∙ sym (found-some c.args.self.now c.self.inside.list.items c.args.process c.in_ok-get.field-0.now c.self.view_is
    (subst (λ (os : List (Option (RangesSeen Segment))). c.in_ok-get.field-0.now ≡ get_or os c.args.process None) c.deref.ensures.value (c.in_ok-get.ensures.lookup.3.1 None)))
