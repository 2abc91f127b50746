use Rattle.page_lists.proofs.ListsLemmas.{lists-reclaimed, none-reclaimed}
use Rattle.page_lists.proofs.PageLists.reclaim.Goals as goal

pub invariant_of-self : goal.invariant_of-self
invariant_of-self c = lists-reclaimed c.args.frame c.self.invariant c.remove.ensures.new c.remove.ensures.queue

pub returns-clause-otherwise_same : goal.returns-clause-otherwise_same
returns-clause-otherwise_same c = none-reclaimed c.self.view_is c.remove.ensures.new

pub returns-clause-apart : goal.returns-clause-apart
returns-clause-apart c = (lists-reclaimed c.args.frame c.self.invariant c.remove.ensures.new c.remove.ensures.queue).apart
