use Rattle.std.proofs.Common.{◌≡◌, None, length, refl, sym, ap, subst, arith}
use Rattle.page_clock.specs.Clock.{next_clock}
use Rattle.page_clock.specs.Seen.{ClockSeen}
use Rattle.page_store.specs.Laws.{StaysInPlace}
use Rattle.page_store.specs.Moves.{is_only}
use Rattle.page_store.specs.Seen.{StoreSeen, IsSoundStore, store_of}
use Rattle.page_store.proofs.RowSteps.{stays-clock, next_clock-frames}
use Rattle.page_store.proofs.store.Store.clock_turn.Given.{Over}
use Rattle.page_store.proofs.store.Store.clock_turn.Goals.{After-step}
use Rattle.page_store.proofs.store.Store.clock_turn.Goals as goal

-- the store that the call makes, and its laws
made : (g : Over) (c : After-step g)
    → store_of c.self.inside.core c.self.inside.names c.self.inside.lists c.self.inside.locks c.step.new.self c.self.inside.bays c.self.inside.order ≡ record
    c.args.self.now { clock = next_clock c.args.self.now.clock }
made g c = rw c.step.ensures.new (ap (λ (x : StoreSeen). record x { clock = next_clock x.clock }) c.self.view_is)

laws : (g : Over) (c : After-step g) → StaysInPlace c.args.self.now
    (store_of c.self.inside.core c.self.inside.names c.self.inside.lists c.self.inside.locks c.step.new.self c.self.inside.bays c.self.inside.order) (is_only None)
laws g c = subst (λ (x : StoreSeen). StaysInPlace c.args.self.now x (is_only None)) (sym (made g c))
    (stays-clock c.args.self.now (next_clock c.args.self.now.clock) (subst IsSoundStore c.self.view_is c.self.invariant.sound) (next_clock-frames c.args.self.now.clock))

pub invariant_of-self : goal.invariant_of-self
invariant_of-self g c = record {
  sound = (laws g (goal.at.invariant_of-self g c).After-step).sound;
  counted = c.self.invariant.counted;
  listed = c.self.invariant.listed;
  pointer = c.self.invariant.pointer;
}

pub returns-clause-within : goal.returns-clause-within
returns-clause-within g c = let a = c.self.invariant.sound.hands in let b = ap (λ (x : StoreSeen). length x.frames) c.self.view_is in let d = c.step.ensures.within in omega arith

pub returns-clause-new : goal.returns-clause-new
returns-clause-new g c = made g (goal.at.returns-clause-new g c).After-step

pub returns-clause-laws : goal.returns-clause-laws
returns-clause-laws g c = laws g (goal.at.returns-clause-laws g c).After-step
