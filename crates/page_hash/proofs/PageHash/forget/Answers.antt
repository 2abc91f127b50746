use Rattle.std.proofs.Common.{List, Option, sym, ◌∙◌, ap}
use Rattle.page_hash.specs.declared.PageName.{PageName}
use Rattle.page_hash.specs.Names.{name_at}
use Rattle.page_hash.proofs.IndexLemmas.{sound-removed, on-slot}
use Rattle.page_hash.proofs.PageHash.forget.Goals as goal

pub unlink-requires : goal.unlink-requires
unlink-requires c = rw c.slot_of_pair.ensures.slot
    (on-slot c.self.inside.names.items c.self.inside.slots c.self.inside.chains c.self.invariant c.in-Some.name c.args.frame
    (ap (λ (l : List (Option PageName)). name_at l c.args.frame) c.self.view_is ∙ sym c.name_of.ensures.held ∙ c.in-Some.is))

pub invariant_of-self : goal.invariant_of-self
invariant_of-self c =
    sound-removed c.self.inside.names.items c.self.inside.slots c.self.inside.chains c.self.invariant c.in-Some.name c.args.frame c.unlink.new.self
    (ap (λ (l : List (Option PageName)). name_at l c.args.frame) c.self.view_is ∙ sym c.name_of.ensures.held ∙ c.in-Some.is)
    (rw (sym c.slot_of_pair.ensures.slot) c.unlink.ensures.order) c.unlink.ensures.size
