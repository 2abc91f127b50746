use Rattle.std.proofs.Common.{inl, inr, refl}
use Rattle.page_lists.proofs.ListLemmas.{Contains-from_without_frame}
use Rattle.page_store.proofs.pages.give_up.Goals as goal

pub free-requires-clause-unlisted : goal.free-requires-clause-unlisted
free-requires-clause-unlisted c =
    rw c.reclaim.ensures.new (λ l. elim l [
      | inl a ↦ c.requires.used a
      | inr b ↦ (Contains-from_without_frame c.args.lists.now.cached c.args.frame c.args.frame b).1 refl
    ])
