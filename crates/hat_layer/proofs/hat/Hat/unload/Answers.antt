use Rattle.std.proofs.Common.{Option, Some, None, List, sym, ◌∙◌, ap, subst}
use Rattle.std.specs.Prelude.{option_map}
use Rattle.hat_layer.specs.declared.translation.Translation.{Translation}
use Rattle.hat_layer.specs.Pool.{HatSeen, translation_at, told_of, drop_at, IsSingleValued}
use Rattle.hat_layer.proofs.HatLemmas.{changes-held, changes-none, at-held, at-none}
use Rattle.hat_layer.proofs.MapLaws.{at-drop_at}
use Rattle.hat_layer.proofs.hat.Hat.unload.Goals as goal

pub returns-in_err-place-clause-told : goal.returns-in_err-place-clause-told
returns-in_err-place-clause-told c =
    let v = ap (λ (p : HatSeen). p.places) c.self.view_is in
    c.from_residual.ensures ∙ sym
    (ap (λ (o : Option Translation). option_map told_of o) (ap (λ (p : List (Option Translation)). translation_at p c.args.space c.args.page) (sym v)
    ∙ at-none c.self.inside.table.places c.args.space c.args.page c.in_err-place.ensures.found))

pub returns-in_err-place-clause-places : goal.returns-in_err-place-clause-places
returns-in_err-place-clause-places c =
    let v = ap (λ (p : HatSeen). p.places) c.self.view_is in
    sym (ap (λ (p : List (Option Translation)). drop_at c.args.space c.args.page p) (sym v)
    ∙ changes-none (λ o. None) c.self.inside.table.places c.args.space c.args.page c.in_err-place.ensures.found ∙ v)

pub returns-clause-told : goal.returns-clause-told
returns-clause-told c =
    let v = ap (λ (p : HatSeen). p.places) c.self.view_is in
    let h = c.in_ok-place.ensures.found in
    ap (λ (d : _). Some d) c.told_of.ensures ∙ sym
    (ap (λ (o : Option Translation). option_map told_of o) (ap (λ (p : List (Option Translation)). translation_at p c.args.space c.args.page) (sym v)
    ∙ at-held c.self.inside.table.places c.args.space c.args.page c.in_ok-place.place c.in_ok-place.old h.0 h.1 h.2))

pub returns-clause-places : goal.returns-clause-places
returns-clause-places c =
    let v = ap (λ (p : HatSeen). p.places) c.self.view_is in
    let h = c.in_ok-place.ensures.found in
    c.release.ensures.places ∙ sym (ap (λ (p : List (Option Translation)). drop_at c.args.space c.args.page p) (sym v)
    ∙ changes-held (λ o. None) c.self.inside.table.places c.args.space c.args.page c.in_ok-place.place c.in_ok-place.old h.0 h.1 h.2)

pub returns-in_err-place-clause-map : goal.returns-in_err-place-clause-map
returns-in_err-place-clause-map c = λ s p. ap (λ (l : List (Option Translation)). translation_at l s p) (returns-in_err-place-clause-places c)
    ∙ at-drop_at c.args.self.now.places c.args.space c.args.page s p (subst IsSingleValued (ap (λ (p : HatSeen). p.places) c.self.view_is) c.in_err-place.ensures.distinct)

pub returns-clause-map : goal.returns-clause-map
returns-clause-map c = λ s p. ap (λ (l : List (Option Translation)). translation_at l s p) (returns-clause-places c)
    ∙ at-drop_at c.args.self.now.places c.args.space c.args.page s p (subst IsSingleValued (ap (λ (p : HatSeen). p.places) c.self.view_is) c.in_ok-place.ensures.distinct)
