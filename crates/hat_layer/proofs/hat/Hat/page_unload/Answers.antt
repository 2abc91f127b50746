use Rattle.std.proofs.Common.{Option, List, Bool, ◌∙◌, ap, subst}
use Rattle.hat_layer.specs.declared.translation.Translation.{Translation}
use Rattle.hat_layer.specs.Pool.{HatSeen, translation_at, IsSingleValued, bits_of, drop_frame}
use Rattle.hat_layer.proofs.MapLaws.{at-drop_frame, bit-tells}
use Rattle.hat_layer.proofs.hat.Hat.page_unload.Goals as goal

pub returns-clause-map : goal.returns-clause-map
returns-clause-map c = λ s p. ap (λ (l : List (Option Translation)). translation_at l s p)
    (c.unload_all.ensures.places ∙ ap (λ (l : List (Option Translation)). drop_frame c.args.frame l) (ap (λ (p : HatSeen). p.places) c.self.view_is))
    ∙ at-drop_frame c.args.self.now.places c.args.frame s p (subst IsSingleValued (ap (λ (p : HatSeen). p.places) c.self.view_is) c.unload_all.ensures.was)

pub returns-clause-referenced : goal.returns-clause-referenced
returns-clause-referenced c = bit-tells (λ t. t.referenced) c.args.self.now.places c.args.frame _ (subst (λ (p : HatSeen). IsSingleValued p.places) c.self.view_is c.unload_all.ensures.was)
    (ap (λ (r : Bool × Bool). r.0) (c.unload_all.ensures.bits ∙ ap (λ (p : HatSeen). bits_of c.args.frame p.places) c.self.view_is))

pub returns-clause-modified : goal.returns-clause-modified
returns-clause-modified c = bit-tells (λ t. t.modified) c.args.self.now.places c.args.frame _ (subst (λ (p : HatSeen). IsSingleValued p.places) c.self.view_is c.unload_all.ensures.was)
    (ap (λ (r : Bool × Bool). r.1) (c.unload_all.ensures.bits ∙ ap (λ (p : HatSeen). bits_of c.args.frame p.places) c.self.view_is))
