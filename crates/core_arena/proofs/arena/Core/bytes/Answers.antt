use Rattle.core_arena.proofs.PageLemmas.{IsSome, length, sym, ap, ◌∙◌, subst, ◌*◌, InBlock, CoreSeen, bytes_at}
use Rattle.core_arena.proofs.PageLemmas.{IsHomePage, home-page, placed-on}
use Rattle.core_arena.proofs.arena.Core.bytes.Goals as goal
use Rattle.core_arena.proofs.arena.Core.bytes.Goals.{After-at}

home : (c : After-at) → IsHomePage c.self.inside.region.base c.self.inside.region.frames c.self.inside.pages.items c.args.i c.in-Some.page
home c =
    home-page c.self.inside.region.base c.self.inside.region.frames c.self.inside.pages.items c.self.inside.shell c.args.i c.in-Some.page c.index.result.now c.self.invariant
    (subst (λ (k : CoreSeen). IsSome (bytes_at k.frames c.args.i)) (sym c.self.view_is) c.requires) (sym c.index.ensures ∙ c.in-Some.is)

pub bytes-requires : goal.bytes-requires
bytes-requires c =
    let h = home c in
    (c.at.ensures ∙ sym h.at, subst InBlock (sym c.at.ensures) (placed-on c.self.inside.region.base (c.args.i * 4096) h.placed), h.size)

pub returns-clause-size : goal.returns-clause-size
returns-clause-size c = ap length c.bytes.ensures ∙ (home ((goal.at.returns-clause-size c).After-at)).size
