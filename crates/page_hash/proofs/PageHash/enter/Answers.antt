use Rattle.std.proofs.Common.{Some, length, List, Option, ◌∙◌, ap, arith, set, sym}
use Rattle.page_hash.specs.declared.PageName.{PageName}
use Rattle.page_hash.specs.Names.{find, name_at}
use Rattle.page_hash.specs.Index.{IsSoundPageHash}
use Rattle.page_hash.proofs.NameLaws.{find-entered, find-entered_other}
use Rattle.page_hash.proofs.IndexLemmas.{sound-entered}
use Rattle.page_hash.proofs.PageHash.enter.Goals.{After-link}
use Rattle.page_hash.proofs.PageHash.enter.Goals as goal

entered : (c : After-link) → IsSoundPageHash (set c.self.inside.names.items c.args.frame (Some c.args.name)) c.self.inside.slots c.link.new.self
entered c =
    let n = ap (λ (l : List (Option PageName)). length l) c.self.view_is in
    let p = c.requires.within in
    let s = c.slot_of_pair.ensures.slot in
    sound-entered c.self.inside.names.items c.self.inside.slots c.self.inside.chains c.self.invariant c.args.name c.args.frame c.link.new.self (omega arith)
    (ap (λ (l : List (Option PageName)). name_at l c.args.frame) c.self.view_is ∙ c.requires.empty) (ap (λ (l : List (Option PageName)). find l c.args.name) c.self.view_is ∙ c.requires.absent)
    (rw (sym s) c.link.ensures.order) c.link.ensures.size (rw (sym s) c.slot_of_pair.ensures.within)

pub invariant_of-self : goal.invariant_of-self
invariant_of-self c = entered (goal.at.invariant_of-self c).After-link

pub returns-clause-one_to_one : goal.returns-clause-one_to_one
returns-clause-one_to_one c = (entered (goal.at.returns-clause-one_to_one c).After-link).distinct

pub returns-clause-found : goal.returns-clause-found
returns-clause-found c =
    let n = ap (λ (l : List (Option PageName)). length l) c.self.view_is in
    let p = c.requires.within in
    find-entered c.self.inside.names.items c.args.name c.args.frame (omega arith) c.self.invariant.distinct (ap (λ (l : List (Option PageName)). find l c.args.name) c.self.view_is ∙ c.requires.absent)

pub returns-clause-others : goal.returns-clause-others
returns-clause-others c = λ other ne.
    let n = ap (λ (l : List (Option PageName)). length l) c.self.view_is in
    let p = c.requires.within in
    find-entered_other c.self.inside.names.items c.args.name c.args.frame other (omega arith) c.self.invariant.distinct
    (ap (λ (l : List (Option PageName)). find l c.args.name) c.self.view_is ∙ c.requires.absent) (ap (λ (l : List (Option PageName)). name_at l c.args.frame) c.self.view_is ∙ c.requires.empty) ne
    ∙ ap (λ (l : List (Option PageName)). find l other) c.self.view_is
