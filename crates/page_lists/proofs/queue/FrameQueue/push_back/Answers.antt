use Rattle.std.proofs.Common.{Some, None, true, set, ◌++◌, ◌∷◌, []}
use Rattle.page_lists.proofs.RingLemmas.{Holds, pushed, end-in}
use Rattle.page_lists.proofs.queue.FrameQueue.push_back.Goals as goal
use Rattle.page_lists.proofs.queue.FrameQueue.push_back.Goals.{After-set_link}

pub set_link-requires : goal.set_link-requires
set_link-requires c = λ frame e. c.self.invariant.below frame (end-in c.self.invariant c.args.frame frame e)

-- what the links and the mark make of the queue
whole : (c : After-set_link) → Holds c.set_link.new.end (Some c.args.frame) (set c.set_link.new.links.items c.args.frame None)
    (set c.self.inside.previous.items c.args.frame c.self.inside.last) (set c.self.inside.listed.items c.args.frame true) c.args.self.now.frames (c.args.self.now.order ++ c.args.frame ∷ [])
whole c = pushed c.self.invariant c.self.view_is c.args.frame c.set_link.new.end c.set_link.new.links.items c.requires.within c.requires.absent
    c.set_link.ensures.there c.set_link.ensures.elsewhere c.set_link.ensures.lengths

pub invariant_of-self : goal.invariant_of-self
invariant_of-self c = (whole (goal.at.invariant_of-self c).After-set_link).ring

pub returns-clause-new : goal.returns-clause-new
returns-clause-new c = (whole (goal.at.returns-clause-new c).After-set_link).seen

pub returns-clause-queue : goal.returns-clause-queue
returns-clause-queue c = (whole (goal.at.returns-clause-queue c).After-set_link).queue
