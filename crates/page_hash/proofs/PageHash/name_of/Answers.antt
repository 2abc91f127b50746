use Rattle.std.proofs.Common.{◌≡◌, length, List, Option, None, Some, sym, ◌∙◌, ap, subst, arith}
use Rattle.std.specs.Prelude.{IfSome}
use Rattle.std.proofs.lemmas.List.{get_or_default}
use Rattle.page_hash.specs.declared.PageName.{PageName}
use Rattle.page_hash.specs.Names.{find}
use Rattle.page_hash.proofs.NameLaws.{find-read}
use Rattle.page_hash.proofs.PageHash.name_of.Goals as goal

pub returns-clause-leads_here : goal.returns-clause-leads_here
returns-clause-leads_here c =
    let n = ap (λ (l : List (Option PageName)). length l) c.self.view_is in
    let lt = c.requires in
    subst (λ (l : List (Option PageName)). IfSome c.index.result.now (λ (name : PageName). find l name ≡ Some c.args.frame)) c.self.view_is
    (find-read c.self.inside.names.items c.args.frame c.index.result.now c.self.invariant.distinct
    (get_or_default c.self.inside.names.items c.args.frame None c.index.result.now (omega arith) ∙ sym c.index.ensures))
