use Rattle.std.proofs.Common.{◌≡◌, replicate, None, false, rules, [], length, refl}
use Rattle.page_lists.proofs.RingLemmas.{ring-none, ring-holds}
use Rattle.page_lists.proofs.queue.FrameQueue.new.Goals as goal

pub invariant_of-result : goal.invariant_of-result
invariant_of-result c =
    let next : c.in_ok-filled.field-0.items ≡ replicate c.args.frames None = search rules in
    let previous : c.in_ok-filled-2.field-0.items ≡ replicate c.args.frames None = search rules in
    let listed : c.in_ok-filled-3.field-0.items ≡ replicate c.args.frames false = search rules in
    (ring-holds None None c.in_ok-filled.field-0.items c.in_ok-filled-2.field-0.items c.in_ok-filled-3.field-0.items (length c.in_ok-filled.field-0.items) []
    (ring-none c.in_ok-filled.field-0.items c.in_ok-filled-2.field-0.items c.in_ok-filled-3.field-0.items c.args.frames next previous listed) refl).ring
