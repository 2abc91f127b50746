use Rattle.std.proofs.Common.{◌≡◌, ◌≢◌, ℕ, ◌<◌, Bool, Option, Some, None, List, length, refl, sym, ◌∙◌, ap, subst, arith}
use Rattle.core_arena.specs.Bytes.{bytes_at}
use Rattle.page_hash.specs.Names.{find}
use Rattle.page_lists.specs.ListsSeen.{ListsSeen}
use Rattle.page_store.specs.Laws.{Aborts}
use Rattle.page_store.specs.Parts.{rows_forsaken}
use Rattle.page_store.specs.Seen.{StoreSeen, IsSoundStore, store_of}
use Rattle.page_store.specs.Steps.{at_frame, without_snapshot, with_page_given_up}
use Rattle.page_store.proofs.AbortLemmas.{aborts-frame, aborts-none, forsakes, made-given, frames-given}
use Rattle.page_store.proofs.QueryLemmas.{found-within}
use Rattle.page_store.proofs.FrameLaws.{copy-apart, source-within}
use Rattle.page_store.proofs.store.Store.abort.Given.{Over}
use Rattle.page_store.proofs.store.Store.abort.Goals.{After-give_up}
use Rattle.page_store.proofs.store.Store.abort.Goals as goal

pub forsake-requires-clause-copy : goal.forsake-requires-clause-copy
forsake-requires-clause-copy g c = λ copy e.
    let source = c.self.invariant.sound.paired.source c.in-Some.frame copy e in
    (source-within c.self.inside.locks copy c.in-Some.frame source, copy-apart _ c.self.invariant.sound c.in-Some.frame copy source)

-- the frame of the name, the store that the call makes, and its laws
record GivenUp (g : Over) (c : After-give_up g) : Type 0 where
  found : find c.args.self.now.names c.args.name ≡ Some c.in-Some.frame
  new : store_of c.self.inside.core c.remove.new.self c.give_up.new.lists c.give_up.new.locks c.self.inside.clock c.self.inside.bays c.self.inside.order
      ≡ with_page_given_up (without_snapshot c.args.self.now c.in-Some.frame) c.in-Some.frame (bytes_at c.args.self.now.frames c.in-Some.frame)
  laws : Aborts c.args.self.now (with_page_given_up (without_snapshot c.args.self.now c.in-Some.frame) c.in-Some.frame (bytes_at c.args.self.now.frames c.in-Some.frame)) c.args.name

is : (g : Over) (c : After-give_up g) → GivenUp g c
is g c =
    let found : find c.args.self.now.names c.args.name ≡ Some c.in-Some.frame = ap (λ (x : StoreSeen). find x.names c.args.name) (sym c.self.view_is) ∙ sym c.in-Some.ensures.frame in
    record {
      found = found;
      new = made-given c.self.inside.core c.self.inside.names c.remove.new.self c.self.inside.lists c.give_up.new.lists c.self.inside.locks c.forsake.new.locks
          c.give_up.new.locks c.self.inside.clock c.self.inside.bays c.self.inside.order c.in-Some.frame
          c.in-Some.ensures.new c.forsake.ensures c.give_up.ensures.lists c.give_up.ensures.locks
          ∙ ap (λ (x : StoreSeen). with_page_given_up (without_snapshot x c.in-Some.frame) c.in-Some.frame (bytes_at x.frames c.in-Some.frame)) c.self.view_is;
      laws = aborts-frame c.args.self.now c.args.name c.in-Some.frame (subst IsSoundStore c.self.view_is c.self.invariant.sound) found;
    }

pub invariant_of-self-2 : goal.invariant_of-self-2
invariant_of-self-2 g c =
    let i = is g (goal.at.invariant_of-self-2 g c).After-give_up in
    record {
      sound = subst IsSoundStore (sym i.new) i.laws.sound;
      counted = c.self.invariant.counted;
      listed = frames-given c.self.inside.lists c.give_up.new.lists c.in-Some.frame _ c.give_up.ensures.lists ∙ c.self.invariant.listed;
      pointer = c.self.invariant.pointer;
    }

pub returns-clause-new : goal.returns-clause-new
returns-clause-new g c =
    let i = is g (goal.at.returns-clause-new g c).After-give_up in
    i.new ∙ sym (ap (λ (o : Option ℕ). at_frame o c.args.self.now (λ f. with_page_given_up (without_snapshot c.args.self.now f) f (bytes_at c.args.self.now.frames f))) i.found)

pub returns-clause-laws : goal.returns-clause-laws
returns-clause-laws g c =
    let i = is g (goal.at.returns-clause-laws g c).After-give_up in
    subst (λ (x : StoreSeen). Aborts c.args.self.now x c.args.name) (sym i.new) i.laws
