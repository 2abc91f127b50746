use Rattle.core_arena.proofs.PageLemmas.{None, IsSome, sym, ap, ◌∙◌, subst, slice_set, ◌*◌, ◌+ₚ◌, CoreSeen}
use Rattle.core_arena.proofs.PageLemmas.{bytes_at, IsPageAt, IsHomePage, home-page, map-set, bytes_of, sound-set}
use Rattle.core_arena.proofs.arena.Core.take.Goals as goal
use Rattle.core_arena.proofs.arena.Core.take.Goals.{In-Some}

home : (c : In-Some) → IsHomePage c.self.inside.region.base c.self.inside.region.frames c.self.inside.pages.items c.args.i c.in-Some.page
home c =
    home-page c.self.inside.region.base c.self.inside.region.frames c.self.inside.pages.items c.self.inside.shell c.args.i c.in-Some.page c.index_mut.result.now c.self.invariant
    (subst (λ (k : CoreSeen). IsSome (bytes_at k.frames c.args.i)) (sym c.self.view_is) c.requires) (sym c.index_mut.ensures.value ∙ sym c.take.ensures.value ∙ c.in-Some.is)

pub invariant_of-result : goal.invariant_of-result
invariant_of-result c = let h = home ((goal.at.invariant_of-result c).In-Some) in record { within = h.within; at = h.at; size = h.size; placed = h.placed }

pub invariant_of-self : goal.invariant_of-self
invariant_of-self c =
    sound-set c.self.inside.region.base c.self.inside.region.frames c.self.inside.pages.items c.self.inside.shell c.args.i c.take.new.self c.self.invariant
    (subst (IsPageAt (c.self.inside.region.base +ₚ c.args.i * 4096)) (sym c.take.ensures.after) tt)

pub returns-clause-new : goal.returns-clause-new
returns-clause-new c =
    rw (c.take.ensures.after, map-set bytes_of c.self.inside.pages.items c.args.i None)
    (ap (λ (k : CoreSeen). record k { frames = slice_set k.frames c.args.i None }) c.self.view_is)
