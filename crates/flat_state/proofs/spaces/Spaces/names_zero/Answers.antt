use Rattle.std.proofs.Common.{◌∙◌, ap, sym}
use Rattle.std.specs.List.{list_any}
use Rattle.std.specs.FinMap as map
use Rattle.flat_state.specs.Cells.{names}
use Rattle.flat_state.proofs.Trees.{values_plain, named_in_is}
use Rattle.flat_state.proofs.spaces.Spaces.names_zero.Goals as goal

pub returns : goal.returns
returns c =
    c.any_space_names.ensures.any ∙ ap (list_any (λ space. list_any (names c.args.zero) (map.values space))) (sym (values_plain c.self.inside.spaces.entries c.any_space_names.ensures.ordered) ∙ ap map.values c.self.view_is)
    ∙ sym (named_in_is c.args.self.now c.args.zero)
