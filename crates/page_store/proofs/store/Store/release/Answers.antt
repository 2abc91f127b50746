use Rattle.std.proofs.Common.{◌≡◌, [], ◌∷◌, ◌++◌, Some, refl, sym, ap, subst}
use Rattle.page_store.specs.Laws.{Releases}
use Rattle.page_store.specs.Seen.{StoreSeen, IsSoundStore, IsListedFrame, store_of}
use Rattle.page_lock.specs.Rows.{row_at}
use Rattle.page_store.proofs.FrameLaws.{unset}
use Rattle.page_store.proofs.RowSteps.{releases-frame}
use Rattle.page_store.proofs.store.Store.release.Given.{Over}
use Rattle.page_store.proofs.store.Store.release.Goals.{After-cache}
use Rattle.page_store.proofs.store.Store.release.Goals as goal

-- the store that the call makes, and its laws
made : (g : Over) (c : After-cache g)
    → store_of c.self.inside.core c.self.inside.names c.cache.new.self c.self.inside.locks c.self.inside.clock c.self.inside.bays c.self.inside.order ≡ record
    c.args.self.now { cached = c.args.self.now.cached ++ c.args.frame ∷ [] }
made g c = rw c.cache.ensures.new (ap (λ (x : StoreSeen). record x { cached = x.cached ++ c.args.frame ∷ [] }) c.self.view_is)

laws : (g : Over) (c : After-cache g) → Releases c.args.self.now
    (store_of c.self.inside.core c.self.inside.names c.cache.new.self c.self.inside.locks c.self.inside.clock c.self.inside.bays c.self.inside.order) c.args.frame
laws g c = subst (λ (x : StoreSeen). Releases c.args.self.now x c.args.frame) (sym (made g c))
    (releases-frame c.args.self.now c.args.frame
    (subst IsSoundStore c.self.view_is c.self.invariant.sound) c.requires.within c.requires.unlisted c.requires.unlocked
    (unset (row_at c.args.self.now.rows c.args.frame).snapshot c.requires.unsent))

pub invariant_of-self : goal.invariant_of-self
invariant_of-self g c = record {
  sound = (laws g (goal.at.invariant_of-self g c).After-cache).sound;
  counted = c.self.invariant.counted;
  listed = rw c.cache.ensures.new c.self.invariant.listed;
  pointer = c.self.invariant.pointer;
}

pub returns-clause-new : goal.returns-clause-new
returns-clause-new g c = made g (goal.at.returns-clause-new g c).After-cache

pub returns-clause-laws : goal.returns-clause-laws
returns-clause-laws g c = laws g (goal.at.returns-clause-laws g c).After-cache
