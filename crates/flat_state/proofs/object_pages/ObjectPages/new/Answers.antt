use Rattle.std.proofs.Common.{◌∙◌, ap}
use Rattle.flat_model.specs.Words.{zero_page}
use Rattle.flat_state.specs.Stored.{page_in}
use Rattle.flat_state.proofs.ObjectPages.{by-alike, by-replicate}
use Rattle.flat_state.proofs.object_pages.ObjectPages.new.Goals as goal

pub returns : goal.returns
returns c =
    by-alike (page_in c.new.result.entries) (λ i. zero_page) 0 c.args.count (λ i low high. ap (λ es. page_in es i) c.new.ensures.empty)
    ∙ by-replicate zero_page 0 c.args.count
