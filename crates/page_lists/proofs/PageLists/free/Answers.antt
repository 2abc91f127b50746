use Rattle.page_lists.proofs.ListsLemmas.{lists-freed}
use Rattle.page_lists.proofs.PageLists.free.Goals as goal

pub invariant_of-self : goal.invariant_of-self
invariant_of-self c = lists-freed c.self.invariant c.self.view_is c.requires.unlisted c.push_back.ensures.new c.push_back.ensures.queue

pub returns-clause-apart : goal.returns-clause-apart
returns-clause-apart c = (lists-freed c.self.invariant c.self.view_is c.requires.unlisted c.push_back.ensures.new c.push_back.ensures.queue).apart
