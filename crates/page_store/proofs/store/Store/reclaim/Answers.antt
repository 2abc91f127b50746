use Rattle.std.proofs.Common.{◌≡◌, ℕ, ◌<◌, Option, Some, None, length, refl, sym, ◌∙◌, ap, subst, arith}
use Rattle.std.specs.Prelude.{IfSome}
use Rattle.page_hash.specs.Names.{find}
use Rattle.page_lists.specs.ListsSeen.{without_frame}
use Rattle.page_store.specs.Laws.{StaysInPlace}
use Rattle.page_store.specs.Moves.{is_only}
use Rattle.page_store.specs.Seen.{StoreSeen, IsSoundStore, IsListedFrame, store_of}
use Rattle.page_store.specs.Steps.{at_frame, after_reclaim}
use Rattle.page_store.proofs.QueryLemmas.{found-within}
use Rattle.page_store.proofs.RowSteps.{stays-reclaimed, unlisted-reclaimed}
use Rattle.page_store.proofs.store.Store.reclaim.Given.{Over}
use Rattle.page_store.proofs.store.Store.reclaim.Goals.{After-reclaim}
use Rattle.page_store.proofs.store.Store.reclaim.Goals as goal

pub reclaim-requires : goal.reclaim-requires
reclaim-requires g c =
    let found : find c.self.inside.names c.args.name ≡ Some c.in-Some.frame = sym c.in-Some.ensures.first in
    let lt = found-within _ c.args.name c.in-Some.frame c.self.invariant.sound found in
    let a = c.self.invariant.counted in
    let l = c.self.invariant.listed in
    omega arith

-- the frame of the name, the store that the call makes, and its laws
record Reclaimed (g : Over) (c : After-reclaim g) : Type 0 where
  found : find c.args.self.now.names c.args.name ≡ Some c.in-Some.frame
  new : store_of c.self.inside.core c.self.inside.names c.reclaim.new.self c.self.inside.locks c.self.inside.clock c.self.inside.bays
      c.self.inside.order ≡ record c.args.self.now { cached = without_frame c.args.self.now.cached c.in-Some.frame }
  laws : StaysInPlace c.args.self.now (record c.args.self.now { cached = without_frame c.args.self.now.cached c.in-Some.frame }) (is_only (Some c.in-Some.frame))
  unlisted : IsListedFrame (record c.args.self.now { cached = without_frame c.args.self.now.cached c.in-Some.frame }) c.in-Some.frame → ⊥

is : (g : Over) (c : After-reclaim g) → Reclaimed g c
is g c =
    let found : find c.args.self.now.names c.args.name ≡ Some c.in-Some.frame = ap (λ (x : StoreSeen). find x.names c.args.name) (sym c.self.view_is) ∙ sym c.in-Some.ensures.first in
    let sound : IsSoundStore c.args.self.now = subst IsSoundStore c.self.view_is c.self.invariant.sound in
    let lt = found-within c.args.self.now c.args.name c.in-Some.frame sound found in
    record {
      found = found;
      new = rw c.reclaim.ensures.new (ap (λ (x : StoreSeen). record x { cached = without_frame x.cached c.in-Some.frame }) c.self.view_is);
      laws = stays-reclaimed c.args.self.now c.in-Some.frame sound lt;
      unlisted = unlisted-reclaimed c.args.self.now c.in-Some.frame sound lt c.args.name found;
    }

pub invariant_of-self : goal.invariant_of-self
invariant_of-self g c =
    let i = is g (goal.at.invariant_of-self g c).After-reclaim in
    record {
      sound = subst IsSoundStore (sym i.new) i.laws.sound;
      counted = c.self.invariant.counted;
      listed = rw c.reclaim.ensures.new c.self.invariant.listed;
      pointer = c.self.invariant.pointer;
    }

pub returns-clause-new : goal.returns-clause-new
returns-clause-new g c =
    let i = is g (goal.at.returns-clause-new g c).After-reclaim in
    i.new ∙ sym (ap (λ (o : Option ℕ). at_frame o c.args.self.now (λ f. record c.args.self.now { cached = without_frame c.args.self.now.cached f })) i.found)

pub returns-clause-unlisted : goal.returns-clause-unlisted
returns-clause-unlisted g c =
    let i = is g (goal.at.returns-clause-unlisted g c).After-reclaim in
    rw i.found (subst (λ (x : StoreSeen). ¬ IsListedFrame x c.in-Some.frame) (sym i.new) i.unlisted)

pub returns-clause-laws : goal.returns-clause-laws
returns-clause-laws g c =
    let i = is g (goal.at.returns-clause-laws g c).After-reclaim in
    subst (λ (o : Option ℕ). StaysInPlace c.args.self.now
    (store_of c.self.inside.core c.self.inside.names c.reclaim.new.self c.self.inside.locks c.self.inside.clock c.self.inside.bays c.self.inside.order)
    (is_only o)) (sym i.found) (subst (λ (x : StoreSeen). StaysInPlace c.args.self.now x (is_only (Some c.in-Some.frame))) (sym i.new) i.laws)
