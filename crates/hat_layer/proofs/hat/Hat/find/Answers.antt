use Rattle.std.proofs.Common.{Option, List, sym, ◌∙◌, ap}
use Rattle.std.specs.Prelude.{option_map}
use Rattle.hat_layer.specs.declared.translation.Translation.{Translation}
use Rattle.hat_layer.specs.Pool.{HatSeen, translation_at}
use Rattle.hat_layer.proofs.HatLemmas.{at-none, at-held}
use Rattle.hat_layer.proofs.hat.Hat.find.Goals as goal

pub returns-in_err-_place-clause-found : goal.returns-in_err-_place-clause-found
returns-in_err-_place-clause-found c =
    let v = ap (λ (p : HatSeen). p.places) c.self.view_is in
    c.from_residual.ensures ∙ sym
    (ap (λ (o : Option Translation). option_map (λ (t : Translation). (t.frame, t.writable)) o)
    (ap (λ (p : List (Option Translation)). translation_at p c.args.space c.args.page) (sym v) ∙ at-none c.self.inside.table.places c.args.space c.args.page c.in_err-_place.ensures.found))

pub returns-clause-found : goal.returns-clause-found
returns-clause-found c =
    let v = ap (λ (p : HatSeen). p.places) c.self.view_is in
    let h = c.in_ok-_place.ensures.found in
    sym (ap (λ (o : Option Translation). option_map (λ (t : Translation). (t.frame, t.writable)) o)
    (ap (λ (p : List (Option Translation)). translation_at p c.args.space c.args.page) (sym v)
    ∙ at-held c.self.inside.table.places c.args.space c.args.page c.in_ok-_place._place c.in_ok-_place.held h.0 h.1 h.2))
