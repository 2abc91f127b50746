use Rattle.std.proofs.Common.{◌≡◌}
use Rattle.page_lists.proofs.RingLemmas.{first-within, first-ahead, first-off}
use Rattle.page_lists.proofs.queue.FrameQueue.pop_front.Goals as goal

pub remove-requires : goal.remove-requires
remove-requires c = first-within c.self.invariant c.self.view_is c.in_ok-frame.frame c.in_ok-frame.was

pub returns-clause-first : goal.returns-clause-first
returns-clause-first c = λ f e.
    let q : c.in_ok-frame.frame ≡ f = cc in
    first-off c.args.self.now c.remove.new.self c.in_ok-frame.frame f (first-ahead c.self.invariant c.self.view_is c.in_ok-frame.frame c.in_ok-frame.was) c.remove.ensures.new q
