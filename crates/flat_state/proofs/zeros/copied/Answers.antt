use Rattle.std.proofs.Common.{rules, ap}
use Rattle.std.specs.FinMap as finite
use Rattle.flat_state.proofs.Trees.{plain_clone}
use Rattle.flat_state.proofs.zeros.copied.Goals as goal

pub returns : goal.returns
returns c = ap finite.from_entries (plain_clone _ _ (λ x y h. search rules) (λ v w h. search rules) c.args.zeros.now.entries _ c.in_ok-new.ensures.cases)
