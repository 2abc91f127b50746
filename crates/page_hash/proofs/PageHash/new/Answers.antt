use Rattle.std.proofs.Common.{◌≡◌, ◌<◌, replicate, None, rules, arith}
use Rattle.page_hash.proofs.IndexLemmas.{sound-new}
use Rattle.page_hash.proofs.PageHash.new.Goals.{then-frames-eq0, else-frames-eq0}
use Rattle.page_hash.proofs.PageHash.new.Goals as goal

pub invariant_of-result : goal.invariant_of-result
invariant_of-result c =
    let some : 0 < c.if-frames-eq0.slots = elim c.if-frames-eq0.branch [ then-frames-eq0 w ↦ omega arith | else-frames-eq0 w ↦ omega arith ] in
    let names : c.in_ok-filled.field-0.items ≡ replicate c.args.frames None = search rules in
    sound-new c.in_ok-filled.field-0.items c.if-frames-eq0.slots c.args.frames c.in_ok-new.field-0 names c.in_ok-new.ensures.order c.in_ok-new.ensures.size some
