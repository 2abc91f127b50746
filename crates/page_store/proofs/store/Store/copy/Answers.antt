use Rattle.std.proofs.Common.{◌≡◌, ℕ, true, List, Option, Some, refl, sym, ◌∙◌, ap, subst}
use Rattle.std.specs.Prelude.{IsSome}
use Rattle.core_arena.specs.Bytes.{bytes_at}
use Rattle.page_hash.specs.Names.{find}
use Rattle.page_store.specs.Seen.{StoreSeen, IsSoundStore}
use Rattle.page_store.specs.Steps.{after_fill, front_bytes, home_bytes}
use Rattle.page_store.specs.Value.{value}
use Rattle.page_store.proofs.FillLemmas.{fills-as, fills-far, front-whole, home-value}
use Rattle.page_store.proofs.QueryLemmas.{IsIn, is-in}
use Rattle.page_store.proofs.store.Store.copy.Given.{Over}
use Rattle.page_store.proofs.store.Store.copy.Goals.{After-fill_from}
use Rattle.page_store.proofs.store.Store.copy.Goals as goal

-- the page is in the frame that was found, and what that frame has are the page's bytes
record Found (g : Over) (c : After-fill_from g) : Type 0 where
  sound : IsSoundStore c.args.self.now
  page : IsIn c.args.self.now c.args.from c.in-Some.frame
  whole : front_bytes c.args.self.now.frames c.in-Some.frame 4096 ≡ home_bytes c.args.self.now (find c.args.self.now.names c.args.from)

is : (g : Over) (c : After-fill_from g) → Found g c
is g c =
    let s = c.args.self.now in
    let sound : IsSoundStore s = subst IsSoundStore c.self.view_is c.self.invariant.sound in
    let found : find s.names c.args.from ≡ Some c.in-Some.frame = ap (λ (x : StoreSeen). find x.names c.args.from) (sym c.self.view_is) ∙ sym c.in-Some.ensures.first in
    let page : IsIn s c.args.from c.in-Some.frame = is-in s c.args.from c.in-Some.frame c.requires.home.0 c.requires.home.1 found in
    record {
      sound = sound;
      page = page;
      whole = front-whole s c.in-Some.frame sound (subst (λ (b : Option (List ℕ)). IsSome b) (sym page.there) refl) ∙ ap (λ (o : Option ℕ). home_bytes s o) (sym found);
    }

pub returns-clause-new : goal.returns-clause-new
returns-clause-new g c = c.fill_from.ensures.new ∙ ap (λ (b : List ℕ). after_fill c.args.self.now c.args.to b true) (is g (goal.at.returns-clause-new g c).After-fill_from).whole

pub returns-clause-laws : goal.returns-clause-laws
returns-clause-laws g c =
    let s = c.args.self.now in
    let i = is g (goal.at.returns-clause-laws g c).After-fill_from in
    fills-as s c.fill_from.new.self c.args.to true (λ notes table. front_bytes s.frames c.in-Some.frame 4096) (λ notes table. value s notes table c.args.from)
    (λ notes table. i.whole ∙ ap (λ (o : Option ℕ). home_bytes s o) i.page.found ∙ rw i.page.there refl ∙ sym (home-value s c.args.from c.in-Some.frame i.page notes table)) c.fill_from.ensures.laws

pub returns-clause-source : goal.returns-clause-source
returns-clause-source g c =
    let i = is g (goal.at.returns-clause-source g c).After-fill_from in
    fills-far c.args.self.now c.fill_from.new.self c.args.to true _ c.args.from c.requires.home.0 c.fill_from.ensures.laws i.sound c.requires.absent c.requires.home.1 c.requires.home.2
