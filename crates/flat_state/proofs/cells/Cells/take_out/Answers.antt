use Rattle.std.proofs.Common.{rules, ◌∙◌, ap, not, ℕ, Bool}
use Rattle.std.specs.FinMap as map
use Rattle.std.proofs.lemmas.Map.Made.{filter_same_pairs}
use Rattle.flat_model.specs.Space.{is_in_range}
use Rattle.flat_state.specs.Cells.{flat_cell}
use Rattle.flat_state.proofs.Trees.{each, mapped_filter}
use Rattle.flat_state.proofs.cells.Cells.take_out.Goals as goal

pub returns : goal.returns
returns c =
    let stays : ℕ → Bool = λ q. not (is_in_range c.args.first c.args.count q) in
    ap (λ es. map.from_entries (each flat_cell es)) (filter_same_pairs _ (λ e. stays e.0) _ (λ k v b w f' t. search rules) _ _ c.retain.ensures.filtered)
    ∙ mapped_filter flat_cell stays c.self.inside.cells.entries ∙ ap (λ m. map.retain_keys m stays) c.self.view_is
