use Rattle.std.proofs.Common.{Option, List, ◌∙◌, ap}
use Rattle.std.specs.Prelude.{vec_capacity}
use Rattle.hat_layer.specs.declared.translation.Translation.{Translation}
use Rattle.hat_layer.specs.Pool.{HatSeen, holds, translation_at, dropped_by_load}
use Rattle.hat_layer.proofs.HatLemmas.{load-own, load-kept, load-gone}
use Rattle.hat_layer.proofs.hat.Hat.load.Goals as goal

pub returns-clause-loaded : goal.returns-clause-loaded
returns-clause-loaded c =
    ap (λ (p : List (Option Translation)). translation_at p c.args.space c.args.page) c.replace.ensures.places
    ∙ load-own (record { places = c.self.inside.table.places; hand = c.self.inside.hand; frames = c.self.inside.table.frames }) c.choose-place.new.free.items
    (vec_capacity c.choose-place.new.free) c.choose-place.new.hand c.args.space c.args.page c.choose-place.result c.choose-place.ensures c.args.frame c.args.writable

pub returns-clause-kept : goal.returns-clause-kept
returns-clause-kept c = λ s p differs kept.
    ap (λ (l : List (Option Translation)). translation_at l s p) c.replace.ensures.places
    ∙ load-kept (record { places = c.self.inside.table.places; hand = c.self.inside.hand; frames = c.self.inside.table.frames }) c.choose-place.new.free.items
    (vec_capacity c.choose-place.new.free) c.choose-place.new.hand c.args.space c.args.page c.choose-place.result c.choose-place.ensures c.args.frame c.args.writable s p differs
    (ap (λ (w : HatSeen). holds s p (dropped_by_load w c.args.space c.args.page)) c.self.view_is ∙ kept)
    ∙ ap (λ (w : HatSeen). translation_at w.places s p) c.self.view_is

pub returns-clause-gone : goal.returns-clause-gone
returns-clause-gone c = λ s p differs gone.
    ap (λ (l : List (Option Translation)). translation_at l s p) c.replace.ensures.places
    ∙ load-gone (record { places = c.self.inside.table.places; hand = c.self.inside.hand; frames = c.self.inside.table.frames }) c.choose-place.new.free.items
    (vec_capacity c.choose-place.new.free) c.choose-place.new.hand c.args.space c.args.page c.choose-place.result c.choose-place.ensures c.args.frame c.args.writable s p differs
    (ap (λ (w : HatSeen). holds s p (dropped_by_load w c.args.space c.args.page)) c.self.view_is ∙ gone)
