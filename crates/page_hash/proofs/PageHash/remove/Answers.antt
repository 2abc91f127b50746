use Rattle.std.proofs.Common.{rules, ◌≡◌, List, Option, Some, None, set, sym, ◌∙◌, ap}
use Rattle.page_hash.specs.declared.PageName.{PageName}
use Rattle.page_hash.specs.Names.{find, name_at}
use Rattle.page_hash.specs.Index.{IsSoundPageHash}
use Rattle.page_hash.proofs.NameLaws.{finds-find, find-emptied, find-emptied_other}
use Rattle.page_hash.proofs.IndexLemmas.{sound-removed, on-slot}
use Rattle.page_hash.proofs.PageHash.remove.Goals.{After-unlink}
use Rattle.page_hash.proofs.PageHash.remove.Goals as goal

pub returns-in_err-frame-clause-frame : goal.returns-in_err-frame-clause-frame
returns-in_err-frame-clause-frame c =
    let none : c.from_residual.result ≡ None = search rules in
    none ∙ finds-find c.args.self.now c.args.name None c.in_err-frame.ensures.one_to_one c.in_err-frame.ensures.found

pub returns-in_err-frame-clause-gone : goal.returns-in_err-frame-clause-gone
returns-in_err-frame-clause-gone c = sym (finds-find c.args.self.now c.args.name None c.in_err-frame.ensures.one_to_one c.in_err-frame.ensures.found)

pub returns-clause-frame : goal.returns-clause-frame
returns-clause-frame c = finds-find c.args.self.now c.args.name (Some c.in_ok-frame.frame) c.in_ok-frame.ensures.one_to_one c.in_ok-frame.ensures.found

pub unlink-requires : goal.unlink-requires
unlink-requires c = rw c.slot_of_pair.ensures.slot
    (on-slot c.self.inside.names.items c.self.inside.slots c.self.inside.chains c.self.invariant c.args.name c.in_ok-frame.frame
    (ap (λ (l : List (Option PageName)). name_at l c.in_ok-frame.frame) c.self.view_is ∙ c.in_ok-frame.ensures.found))

removed : (c : After-unlink) → IsSoundPageHash (set c.self.inside.names.items c.in_ok-frame.frame None) c.self.inside.slots c.unlink.new.self
removed c = sound-removed c.self.inside.names.items c.self.inside.slots c.self.inside.chains c.self.invariant c.args.name c.in_ok-frame.frame c.unlink.new.self
    (ap (λ (l : List (Option PageName)). name_at l c.in_ok-frame.frame) c.self.view_is ∙ c.in_ok-frame.ensures.found)
    (rw (sym c.slot_of_pair.ensures.slot) c.unlink.ensures.order) c.unlink.ensures.size

pub invariant_of-self : goal.invariant_of-self
invariant_of-self c = removed (goal.at.invariant_of-self c).After-unlink

pub returns-clause-one_to_one : goal.returns-clause-one_to_one
returns-clause-one_to_one c = (removed (goal.at.returns-clause-one_to_one c).After-unlink).distinct

pub returns-clause-gone : goal.returns-clause-gone
returns-clause-gone c = find-emptied c.self.inside.names.items c.args.name c.in_ok-frame.frame c.self.invariant.distinct
    (ap (λ (l : List (Option PageName)). name_at l c.in_ok-frame.frame) c.self.view_is ∙ c.in_ok-frame.ensures.found)

pub returns-clause-others : goal.returns-clause-others
returns-clause-others c = λ other ne.
    find-emptied_other c.self.inside.names.items c.args.name c.in_ok-frame.frame other c.self.invariant.distinct
    (ap (λ (l : List (Option PageName)). name_at l c.in_ok-frame.frame) c.self.view_is ∙ c.in_ok-frame.ensures.found) ne
    ∙ ap (λ (l : List (Option PageName)). find l other) c.self.view_is
