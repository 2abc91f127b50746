use Rattle.std.proofs.Common.{◌∙◌, ap, sym}
use Rattle.std.specs.Prelude.{option_and_then}
use Rattle.std.specs.FinMap as map
use Rattle.flat_state.proofs.Maps.{get_at}
use Rattle.flat_state.proofs.spaces.Spaces.cell.Goals as goal

pub returns-in-Some : goal.returns-in-Some
returns-in-Some c =
    let found = get_at c.self.inside.spaces.entries c.args.process ∙ sym c.in-Some.ensures.value in
    c.get-in-Some.ensures ∙ sym (ap (option_and_then (λ space. map.get space c.args.page)) found) ∙ ap (λ m. option_and_then (λ space. map.get space c.args.page) (map.get m c.args.process)) c.self.view_is

pub returns-in-None : goal.returns-in-None
returns-in-None c =
    let found = get_at c.self.inside.spaces.entries c.args.process ∙ sym c.in-None.ensures.value in
    sym (ap (option_and_then (λ space. map.get space c.args.page)) found) ∙ ap (λ m. option_and_then (λ space. map.get space c.args.page) (map.get m c.args.process)) c.self.view_is
