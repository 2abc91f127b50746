use Rattle.std.proofs.Common.{Option, List, Bool, refl, ◌∙◌, ap, subst}
use Rattle.hat_layer.specs.declared.translation.Translation.{Translation}
use Rattle.hat_layer.specs.Pool.{HatSeen, translation_at, IsSingleValued, bits_of, change_frame, with_clear_bits}
use Rattle.hat_layer.proofs.MapLaws.{at-change_frame, bit-tells}
use Rattle.hat_layer.proofs.hat.Hat.page_sync.Goals as goal

pub returns-clause-map : goal.returns-clause-map
returns-clause-map c = λ s p. ap (λ (l : List (Option Translation)). translation_at l s p)
    (c.clear_bits.ensures.places ∙ ap (λ (l : List (Option Translation)). change_frame c.args.frame with_clear_bits l) (ap (λ (p : HatSeen). p.places) c.self.view_is))
    ∙ at-change_frame with_clear_bits c.args.self.now.places c.args.frame s p (λ t. refl) (subst IsSingleValued (ap (λ (p : HatSeen). p.places) c.self.view_is) c.clear_bits.ensures.was)

pub returns-clause-referenced : goal.returns-clause-referenced
returns-clause-referenced c = bit-tells (λ t. t.referenced) c.args.self.now.places c.args.frame _ (subst (λ (p : HatSeen). IsSingleValued p.places) c.self.view_is c.clear_bits.ensures.was)
    (ap (λ (r : Bool × Bool). r.0) (c.clear_bits.ensures.bits ∙ ap (λ (p : HatSeen). bits_of c.args.frame p.places) c.self.view_is))

pub returns-clause-modified : goal.returns-clause-modified
returns-clause-modified c = bit-tells (λ t. t.modified) c.args.self.now.places c.args.frame _ (subst (λ (p : HatSeen). IsSingleValued p.places) c.self.view_is c.clear_bits.ensures.was)
    (ap (λ (r : Bool × Bool). r.1) (c.clear_bits.ensures.bits ∙ ap (λ (p : HatSeen). bits_of c.args.frame p.places) c.self.view_is))
