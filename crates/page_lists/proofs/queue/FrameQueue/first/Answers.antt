use Rattle.std.proofs.Common.{◌≡◌, ℕ, List, [], Option, Some, None, refl, sym, ap}
use Rattle.page_lists.specs.ListsSeen.{first_listed}
use Rattle.page_lists.proofs.RingLemmas.{first-ahead, no-first}
use Rattle.page_lists.proofs.queue.FrameQueue.first.Goals as goal
use Rattle.page_lists.proofs.queue.FrameQueue.first.Goals.{After-result-1}

by-case : (c : After-result-1) (o : Option ℕ) → c.self.inside.first ≡ o → o ≡ first_listed c.args.self.now.order []
by-case c None e = sym (ap (λ (l : List ℕ). first_listed l []) (no-first c.self.invariant c.self.view_is e))
by-case c (Some f) e = sym (ap (λ (l : List ℕ). first_listed l []) (first-ahead c.self.invariant c.self.view_is f e))

pub returns : goal.returns
returns c = by-case c c.self.inside.first refl
