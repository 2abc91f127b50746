use Rattle.std.proofs.Common.{◌≡◌, ◌<◌, IsSome, length, sym, ◌∙◌, ap, subst}
use Rattle.std.proofs.Math.ListN.{length-set}
use Rattle.core_arena.specs.Bytes.{bytes_at}
use Rattle.page_hash.specs.declared.PageName.{PageName}
use Rattle.page_store.specs.Laws.{Pokes}
use Rattle.page_store.specs.Seen.{StoreSeen, IsSoundStore, residence, store_of}
use Rattle.page_store.specs.Steps.{with_piece}
use Rattle.page_store.specs.declared.residence.Residence.TheVariants.{Home}
use Rattle.page_store.proofs.PokeLemmas.{pokes-frame}
use Rattle.page_store.proofs.QueryLemmas.{home-is, home-some, home-row}
use Rattle.page_store.proofs.store.Store.poke_frame.Given.{Over}
use Rattle.page_store.proofs.store.Store.poke_frame.Goals.{After-mark_if}
use Rattle.page_store.proofs.store.Store.poke_frame.Goals as goal

pub write-requires-clause-home : goal.write-requires-clause-home
write-requires-clause-home g c = subst (λ (x : StoreSeen). IsSome (bytes_at x.frames c.args.frame)) (sym c.self.view_is) (home-some c.args.self.now c.requires.home.0 c.args.frame c.requires.home.1)

pub mark_if-requires : goal.mark_if-requires
mark_if-requires g c = subst (λ (x : StoreSeen). c.args.frame < length x.rows) (sym c.self.view_is)
    (home-row c.args.self.now c.requires.home.0 c.args.frame (subst IsSoundStore c.self.view_is c.self.invariant.sound) c.requires.home.1)

-- the store that the call makes, and its laws
record Poked (g : Over) (c : After-mark_if g) : Type 0 where
  new : store_of c.write.new.self c.self.inside.names c.self.inside.lists c.mark_if.new.locks c.self.inside.clock c.self.inside.bays
      c.self.inside.order ≡ with_piece c.args.self.now c.args.frame c.args.at c.args.from.now c.args.mark
  laws : (name : PageName) → residence c.args.self.now name ≡ Home c.args.frame
      → Pokes c.args.self.now (with_piece c.args.self.now c.args.frame c.args.at c.args.from.now c.args.mark) name c.args.at c.args.from.now

is : (g : Over) (c : After-mark_if g) → Poked g c
is g c = record {
  new = rw (c.write.ensures, c.mark_if.ensures) (ap (λ (x : StoreSeen). with_piece x c.args.frame c.args.at c.args.from.now c.args.mark) c.self.view_is);
  laws = λ name home. pokes-frame c.args.self.now name c.args.frame c.args.at c.args.from.now c.args.mark (subst IsSoundStore c.self.view_is c.self.invariant.sound)
      (home-is c.args.self.now name c.args.frame home) c.requires.unlisted c.requires.within;
}

pub invariant_of-self : goal.invariant_of-self
invariant_of-self g c =
    let i = is g (goal.at.invariant_of-self g c).After-mark_if in
    record {
      sound = subst IsSoundStore (sym i.new) (i.laws c.requires.home.0 c.requires.home.1).sound;
      counted = rw c.write.ensures (length-set c.self.inside.core.frames c.args.frame _ ∙ c.self.invariant.counted);
      listed = c.self.invariant.listed;
      pointer = c.self.invariant.pointer;
    }

pub returns-clause-new : goal.returns-clause-new
returns-clause-new g c = (is g (goal.at.returns-clause-new g c).After-mark_if).new

pub returns-clause-laws : goal.returns-clause-laws
returns-clause-laws g c = λ name home.
    let i = is g (goal.at.returns-clause-laws g c).After-mark_if in
    subst (λ (x : StoreSeen). Pokes c.args.self.now x name c.args.at c.args.from.now) (sym i.new) (i.laws name home)
