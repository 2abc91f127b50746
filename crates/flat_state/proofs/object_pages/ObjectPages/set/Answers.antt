use Rattle.std.proofs.Common.{◌∙◌, ap, sym, arith}
use Rattle.std.specs.Prelude.{slice_set}
use Rattle.flat_state.specs.Stored.{page_in}
use Rattle.flat_state.proofs.ObjectPages.{page-stored, set-first, set-past}
use Rattle.flat_state.proofs.object_pages.ObjectPages.set.Goals as goal

pub returns-clause-ok : goal.returns-clause-ok
returns-clause-ok c =
    let old = c.self.inside.stored.entries in
    let new = c.insert.new.self.entries in
    let more = page-stored old new c.args.index c.args.page c.in_ok-insert.ensures.updates.0 in
    set-first (page_in old) (page_in new) c.self.inside.count c.args.index c.args.page (omega arith) more.0 more.1
    ∙ ap (λ ps. slice_set ps c.args.index c.args.page) c.self.view_is

pub returns-then-index-self-clause-ok : goal.returns-then-index-self-clause-ok
returns-then-index-self-clause-ok c =
    sym (ap (λ ps. slice_set ps c.args.index c.args.page) (sym c.self.view_is) ∙ set-past (page_in c.self.inside.stored.entries) 0 c.self.inside.count c.args.index c.args.page (omega arith) ∙ c.self.view_is)
