use Rattle.flat_state.proofs.Trees.{map_set}
use Rattle.flat_state.proofs.pages.set_page.Goals as goal

pub returns-then-index-len : goal.returns-then-index-len
returns-then-index-len c = map_set (λ p. p.items) c.args.pages.now.items c.args.index c.args.page
