use Rattle.std.proofs.Common.{refl, rules}
use Rattle.page_lists.specs.Lists.{AreSoundLists}
use Rattle.page_lists.proofs.ListsLemmas.{lists-free_taken, lists-cached_taken}
use Rattle.page_lists.proofs.PageLists.take.Goals as goal
use Rattle.page_lists.proofs.PageLists.take.Goals.{In-Some, In_ok-frame}

free : (c : In-Some) → AreSoundLists c.pop_front.new.self c.self.inside.cached
free c = lists-free_taken c.self.invariant (c.in-Some.ensures.first c.in-Some.frame refl) c.pop_front.ensures.queue

pub invariant_of-self : goal.invariant_of-self
invariant_of-self c = free (goal.at.invariant_of-self c).In-Some

pub returns-in-Some-clause-apart : goal.returns-in-Some-clause-apart
returns-in-Some-clause-apart c = (free (goal.at.returns-in-Some-clause-apart c).In-Some).apart

cached : (c : In_ok-frame) → AreSoundLists c.pop_front.new.self c.pop_front-2.new.self
cached c = lists-cached_taken c.self.invariant (c.pop_front.ensures.none (search rules)).1 (c.in_ok-frame.ensures.first c.in_ok-frame.frame refl) c.pop_front-2.ensures.queue

pub invariant_of-self-2 : goal.invariant_of-self-2
invariant_of-self-2 c = cached (goal.at.invariant_of-self-2 c).In_ok-frame

pub returns-clause-apart : goal.returns-clause-apart
returns-clause-apart c = (cached (goal.at.returns-clause-apart c).In_ok-frame).apart
