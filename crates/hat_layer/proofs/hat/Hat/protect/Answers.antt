use Rattle.std.proofs.Common.{Option, Some, List, sym, ◌∙◌, ap, subst, set, refl}
use Rattle.std.specs.Prelude.{option_map}
use Rattle.hat_layer.specs.declared.translation.Translation.{Translation}
use Rattle.hat_layer.specs.Pool.{HatSeen, without_write, change_at, translation_at, IsSingleValued}
use Rattle.hat_layer.proofs.HatLemmas.{changes-held, changes-none}
use Rattle.hat_layer.proofs.MapLaws.{at-change_at}
use Rattle.hat_layer.proofs.hat.Hat.protect.Goals as goal

pub returns-in-Some-clause-places : goal.returns-in-Some-clause-places
returns-in-Some-clause-places c =
    let v = ap (λ (p : HatSeen). p.places) c.self.view_is in
    let h = c.in-Some.ensures.found in
    c.change.ensures.places ∙ ap (λ (t : Translation). set c.self.inside.table.places c.in-Some.place (Some t)) c.without_write.ensures
    ∙ sym (ap (λ (p : List (Option Translation)). change_at c.args.space c.args.page without_write p) (sym v)
    ∙ changes-held (option_map without_write) c.self.inside.table.places c.args.space c.args.page c.in-Some.place c.in-Some.old h.0 h.1 h.2)

pub returns-in_default-clause-places : goal.returns-in_default-clause-places
returns-in_default-clause-places c =
    let v = ap (λ (p : HatSeen). p.places) c.self.view_is in
    sym (ap (λ (p : List (Option Translation)). change_at c.args.space c.args.page without_write p) (sym v)
    ∙ changes-none (option_map without_write) c.self.inside.table.places c.args.space c.args.page c.in_default.ensures.found ∙ v)

pub returns-in-Some-clause-map : goal.returns-in-Some-clause-map
returns-in-Some-clause-map c = λ s p. ap (λ (l : List (Option Translation)). translation_at l s p) (returns-in-Some-clause-places c)
    ∙ at-change_at without_write c.args.self.now.places c.args.space c.args.page s p (λ t. refl) (subst IsSingleValued (ap (λ (p : HatSeen). p.places) c.self.view_is) c.in-Some.ensures.distinct)

pub returns-in_default-clause-map : goal.returns-in_default-clause-map
returns-in_default-clause-map c = λ s p. ap (λ (l : List (Option Translation)). translation_at l s p) (returns-in_default-clause-places c)
    ∙ at-change_at without_write c.args.self.now.places c.args.space c.args.page s p (λ t. refl) (subst IsSingleValued (ap (λ (p : HatSeen). p.places) c.self.view_is) c.in_default.ensures.distinct)
