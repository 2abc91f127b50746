use Rattle.std.proofs.Common.{rules, ◌∙◌, ap}
use Rattle.std.specs.FinMap as finite
use Rattle.std.proofs.lemmas.Map.Made.{filter_same_pairs}
use Rattle.flat_model.specs.Spaces.{names_zero}
use Rattle.flat_state.proofs.Trees.{plain_filter}
use Rattle.flat_state.proofs.zeros.keep_named.Goals as goal

pub returns : goal.returns
returns c =
    ap finite.from_entries (filter_same_pairs _ (λ e. names_zero c.args.spaces.now e.0) _ (λ k v b w f' t. search rules) _ _ c.retain.ensures.filtered)
    ∙ plain_filter (names_zero c.args.spaces.now) c.args.zeros.now.entries
