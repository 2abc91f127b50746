use Rattle.std.proofs.Common.{◌≡◌, ℕ, Option, Some, sym, ◌∙◌, ap, subst}
use Rattle.page_hash.specs.Names.{find}
use Rattle.page_store.specs.Seen.{StoreSeen, IsListedFrame, residence}
use Rattle.page_store.specs.Steps.{at_frame, with_piece}
use Rattle.page_store.specs.declared.residence.Residence.TheVariants.{Home}
use Rattle.page_store.proofs.QueryLemmas.{same-frame}
use Rattle.page_store.proofs.store.Store.poke.Goals as goal

pub poke_frame-requires-clause-home : goal.poke_frame-requires-clause-home
poke_frame-requires-clause-home g c =
    let found : find c.args.self.now.names c.args.name ≡ Some c.in-Some.frame = ap (λ (x : StoreSeen). find x.names c.args.name) (sym c.self.view_is) ∙ sym c.in-Some.ensures.first in (
      c.args.name,
      subst (λ (k : ℕ). residence c.args.self.now c.args.name ≡ Home k)
          (same-frame c.args.self.now c.args.name c.in-Some.frame c.requires.home.0 c.requires.home.1 found) c.requires.home.1,
    )

pub poke_frame-requires-clause-unlisted : goal.poke_frame-requires-clause-unlisted
poke_frame-requires-clause-unlisted g c =
    let found : find c.args.self.now.names c.args.name ≡ Some c.in-Some.frame = ap (λ (x : StoreSeen). find x.names c.args.name) (sym c.self.view_is) ∙ sym c.in-Some.ensures.first in
    subst (λ (k : ℕ). ¬ IsListedFrame c.args.self.now k) (same-frame c.args.self.now c.args.name c.in-Some.frame c.requires.home.0 c.requires.home.1 found) c.requires.home.2

pub returns-clause-new : goal.returns-clause-new
returns-clause-new g c =
    let found : find c.args.self.now.names c.args.name ≡ Some c.in-Some.frame = ap (λ (x : StoreSeen). find x.names c.args.name) (sym c.self.view_is) ∙ sym c.in-Some.ensures.first in
    c.poke_frame.ensures.new ∙ sym (ap (λ (o : Option ℕ). at_frame o c.args.self.now (λ f. with_piece c.args.self.now f c.args.at c.args.from.now c.args.mark)) found)

pub returns-clause-laws : goal.returns-clause-laws
returns-clause-laws g c =
    let found : find c.args.self.now.names c.args.name ≡ Some c.in-Some.frame = ap (λ (x : StoreSeen). find x.names c.args.name) (sym c.self.view_is) ∙ sym c.in-Some.ensures.first in
    c.poke_frame.ensures.laws c.args.name (subst (λ (k : ℕ). residence c.args.self.now c.args.name ≡ Home k)
    (same-frame c.args.self.now c.args.name c.in-Some.frame c.requires.home.0 c.requires.home.1 found) c.requires.home.1)
