use Rattle.std.proofs.Common.{◌∙◌, ap, sym, length}
use Rattle.flat_state.specs.Stored.{page_in}
use Rattle.flat_state.proofs.ObjectPages.{length-by}
use Rattle.flat_state.proofs.object_pages.ObjectPages.len.Goals as goal

pub returns : goal.returns
returns c = sym (ap length (sym c.self.view_is) ∙ length-by (page_in c.self.inside.stored.entries) 0 c.self.inside.count)
