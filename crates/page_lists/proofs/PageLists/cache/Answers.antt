use Rattle.page_lists.proofs.ListsLemmas.{lists-cached}
use Rattle.page_lists.proofs.PageLists.cache.Goals as goal

pub invariant_of-self : goal.invariant_of-self
invariant_of-self c = lists-cached c.self.invariant c.self.view_is c.requires.unlisted c.push_back.ensures.new c.push_back.ensures.queue

pub returns-clause-apart : goal.returns-clause-apart
returns-clause-apart c = (lists-cached c.self.invariant c.self.view_is c.requires.unlisted c.push_back.ensures.new c.push_back.ensures.queue).apart
