use Rattle.std.proofs.Common.{◌∙◌, ap, sym}
use Rattle.std.specs.Prelude.{option_and_then, slice_get}
use Rattle.std.specs.FinMap as finite
use Rattle.flat_model.specs.Flat.{pages_of}
use Rattle.flat_state.proofs.Maps.{get_at}
use Rattle.flat_state.proofs.state.FlatParts.object_page.Goals as goal

pub returns-in-Some-get : goal.returns-in-Some-get
returns-in-Some-get c =
    let found = get_at c.self.inside.zeros.entries c.in-Zero.zero ∙ sym c.in-Some-get.ensures.value in
    c.get-in-Some-get.ensures ∙ sym (ap (option_and_then (λ ps. slice_get ps c.args.index)) found) ∙ ap (λ F. option_and_then (λ ps. slice_get ps c.args.index) (finite.get F.zeros c.in-Zero.zero)) c.self.view_is
    ∙ ap (λ o. option_and_then (λ ps. slice_get ps c.args.index) (pages_of c.args.self.now o)) (sym c.in-Zero.is)

pub returns-in-None-get : goal.returns-in-None-get
returns-in-None-get c =
    let found = get_at c.self.inside.zeros.entries c.in-Zero.zero ∙ sym c.in-None-get.ensures.value in
    sym (ap (option_and_then (λ ps. slice_get ps c.args.index)) found) ∙ ap (λ F. option_and_then (λ ps. slice_get ps c.args.index) (finite.get F.zeros c.in-Zero.zero)) c.self.view_is
    ∙ ap (λ o. option_and_then (λ ps. slice_get ps c.args.index) (pages_of c.args.self.now o)) (sym c.in-Zero.is)
