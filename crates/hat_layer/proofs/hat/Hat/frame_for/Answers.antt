use Rattle.std.proofs.Common.{◌≡◌, Bool, cond, Option, Some, None, List, sym, ◌∙◌, ap, subst, refl}
use Rattle.std.specs.Prelude.{option_map}
use Rattle.hat_layer.specs.declared.translation.Translation.{Translation}
use Rattle.hat_layer.specs.Pool.{HatSeen, frame_let, frame_for, after_access, change_at, translation_at, IsSingleValued}
use Rattle.hat_layer.proofs.HatLemmas.{at-none, at-held, changes-held}
use Rattle.hat_layer.proofs.MapLaws.{at-change_at, noted-access}
use Rattle.hat_layer.proofs.hat.Hat.frame_for.Goals.{After-lets_access}
use Rattle.hat_layer.proofs.hat.Hat.frame_for.Goals as goal

pub returns-in_err-place-clause-frame : goal.returns-in_err-place-clause-frame
returns-in_err-place-clause-frame c =
    c.from_residual.ensures ∙ sym (ap (λ (p : HatSeen). frame_for p.places c.args.space c.args.page c.args.write) (sym c.self.view_is)
    ∙ ap (frame_let c.args.write) (at-none c.self.inside.table.places c.args.space c.args.page c.in_err-place.ensures.found))

-- the translation that was found
found : (c : After-lets_access) → translation_at c.args.self.now.places c.args.space c.args.page ≡ Some c.in_ok-place.old
found c =
    let h = c.in_ok-place.ensures.found in
    ap (λ (p : HatSeen). translation_at p.places c.args.space c.args.page) (sym c.self.view_is)
    ∙ at-held c.self.inside.table.places c.args.space c.args.page c.in_ok-place.place c.in_ok-place.old h.0 h.1 h.2

-- the frame, by whether it lets the access
frame : (c : After-lets_access) (b : Bool) → c.lets_access.result ≡ b → frame_for c.args.self.now.places c.args.space c.args.page c.args.write ≡ cond b (Some c.in_ok-place.old.frame) None
frame c b is = ap (frame_let c.args.write) (found c) ∙ ap (λ (b : Bool). cond b (Some c.in_ok-place.old.frame) None) (sym c.lets_access.ensures ∙ is)

pub returns-then-not-lets_access-clause-frame : goal.returns-then-not-lets_access-clause-frame
returns-then-not-lets_access-clause-frame c = sym (frame (goal.at.returns-then-not-lets_access-clause-frame c).After-lets_access _ c.if-not-lets_access.true)

pub returns-clause-frame : goal.returns-clause-frame
returns-clause-frame c = sym (frame (goal.at.returns-clause-frame c).After-lets_access _ c.if-not-lets_access.false)

pub returns-clause-places : goal.returns-clause-places
returns-clause-places c =
    let v = ap (λ (p : HatSeen). p.places) c.self.view_is in
    let h = c.in_ok-place.ensures.found in
    c.note.ensures.places
    ∙ sym (ap (λ (p : List (Option Translation)). change_at c.args.space c.args.page (after_access c.args.write) p) (sym v)
    ∙ changes-held (option_map (after_access c.args.write)) c.self.inside.table.places c.args.space c.args.page c.in_ok-place.place c.in_ok-place.old h.0 h.1 h.2)

pub returns-clause-map : goal.returns-clause-map
returns-clause-map c = λ s p. ap (λ (l : List (Option Translation)). translation_at l s p) (returns-clause-places c)
    ∙ at-change_at (after_access c.args.write) c.args.self.now.places c.args.space c.args.page s p (λ t. refl)
    (subst IsSingleValued (ap (λ (p : HatSeen). p.places) c.self.view_is) c.in_ok-place.ensures.distinct)

pub returns-clause-noted : goal.returns-clause-noted
returns-clause-noted c =
    noted-access c.args.self.now.places c.note.new.self.places c.args.space c.args.page c.args.write c.in_ok-place.old
    (found (goal.at.returns-clause-noted c).After-lets_access) c.in_ok-place.ensures.found.1 (sym c.lets_access.ensures ∙ c.if-not-lets_access.false) (returns-clause-map c c.args.space c.args.page)
