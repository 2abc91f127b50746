use Rattle.std.proofs.Common.{◌∙◌, ap}
use Rattle.page_store.specs.Seen.{StoreSeen, IsSoundStore}
use Rattle.page_store.specs.Steps.{next_frame}
use Rattle.page_store.proofs.FillLemmas.{next-within}
use Rattle.std.proofs.Common.{subst}
use Rattle.page_store.proofs.store.Store.next_frame.Goals as goal

pub returns-clause-within : goal.returns-clause-within
returns-clause-within g c = next-within c.args.self.now _ (subst IsSoundStore c.self.view_is c.self.invariant.sound) (c.first_listed.ensures.next ∙ ap next_frame c.self.view_is)
