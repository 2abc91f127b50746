use Rattle.std.proofs.Common.{◌≡◌, ◌<◌, Some, length, refl, sym, ap, subst, arith}
use Rattle.page_lock.specs.Rows.{row_at, with_bits_added}
use Rattle.page_store.specs.Laws.{StaysInPlace}
use Rattle.page_store.specs.Moves.{is_only}
use Rattle.page_store.specs.Seen.{StoreSeen, IsSoundStore, store_of}
use Rattle.page_store.specs.Steps.{with_row}
use Rattle.page_store.proofs.RowSteps.{stays-row}
use Rattle.page_store.proofs.store.Store.add_bits.Given.{Over}
use Rattle.page_store.proofs.store.Store.add_bits.Goals.{After-add_bits}
use Rattle.page_store.proofs.store.Store.add_bits.Goals as goal

pub add_bits-requires : goal.add_bits-requires
add_bits-requires g c = let a = c.self.invariant.sound.rows in let b = ap (λ (x : StoreSeen). length x.frames) c.self.view_is in let d = c.requires in omega arith

-- the store that the call makes, and its laws
made : (g : Over) (c : After-add_bits g)
    → store_of c.self.inside.core c.self.inside.names c.self.inside.lists c.add_bits.new.self c.self.inside.clock c.self.inside.bays
    c.self.inside.order ≡ with_row c.args.self.now c.args.frame (with_bits_added (row_at c.args.self.now.rows c.args.frame) c.args.referenced c.args.modified)
made g c = rw c.add_bits.ensures (ap (λ (x : StoreSeen). with_row x c.args.frame (with_bits_added (row_at x.rows c.args.frame) c.args.referenced c.args.modified)) c.self.view_is)

laws : (g : Over) (c : After-add_bits g) → StaysInPlace c.args.self.now
    (store_of c.self.inside.core c.self.inside.names c.self.inside.lists c.add_bits.new.self c.self.inside.clock c.self.inside.bays c.self.inside.order) (is_only (Some c.args.frame))
laws g c = subst (λ (x : StoreSeen). StaysInPlace c.args.self.now x (is_only (Some c.args.frame))) (sym (made g c))
    (stays-row c.args.self.now c.args.frame (with_bits_added (row_at c.args.self.now.rows c.args.frame) c.args.referenced c.args.modified)
    (subst IsSoundStore c.self.view_is c.self.invariant.sound) c.requires refl refl refl refl)

pub invariant_of-self : goal.invariant_of-self
invariant_of-self g c = record {
  sound = (laws g (goal.at.invariant_of-self g c).After-add_bits).sound;
  counted = c.self.invariant.counted;
  listed = c.self.invariant.listed;
  pointer = c.self.invariant.pointer;
}

pub returns-clause-new : goal.returns-clause-new
returns-clause-new g c = made g (goal.at.returns-clause-new g c).After-add_bits

pub returns-clause-laws : goal.returns-clause-laws
returns-clause-laws g c = laws g (goal.at.returns-clause-laws g c).After-add_bits
