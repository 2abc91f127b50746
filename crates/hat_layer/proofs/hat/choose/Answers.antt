use Rattle.std.proofs.Common.{◌≡◌, ◌+◌, ℕ, List, [], ◌∷◌, ◌++◌, sym, ◌∙◌, ap, subst, arith, cond}
use Rattle.std.specs.Prelude.{◌==◌, vec_capacity}
use Rattle.hat_layer.specs.Free.{IsSoundHat, TakesPlace}
use Rattle.hat_layer.proofs.HatLemmas.{choose-held, choose-free, choose-hand}
use Rattle.std.proofs.lemmas.List.{nil_from_length}
use Rattle.hat_layer.proofs.hat.choose.Goals as goal

pub returns-in-Some : goal.returns-in-Some
returns-in-Some c = choose-held (record { places = c.args.table.now.places; hand = c.args.hand.now; frames = c.args.table.now.frames }) c.args.free.now.items
    (vec_capacity c.args.free.now) c.args.space c.args.page (c.in-Some.place, c.in-Some._held) c.requires.fits c.in-Some.ensures.distinct c.in-Some.ensures.found

pub returns-in-Some-pop : goal.returns-in-Some-pop
returns-in-Some-pop c =
    let a = c.in-Some-pop.ensures in
    choose-free (record { places = c.args.table.now.places; hand = c.args.hand.now; frames = c.args.table.now.frames }) c.pop.new.self.items
    (vec_capacity c.pop.new.self) c.args.space c.args.page c.in-Some-pop.place
    (subst (λ (r : ℕ). IsSoundHat c.args.table.now.places (c.pop.new.self.items ++ c.in-Some-pop.place ∷ []) r c.args.hand.now) (sym a.capacity)
    (subst (λ (f : List ℕ). IsSoundHat c.args.table.now.places f (vec_capacity c.args.free.now) c.args.hand.now) a.items c.requires.fits))
    c.in_default.ensures.distinct c.in_default.ensures.found

pub returns : goal.returns
returns c =
    let a = c.in_default-pop.ensures in
    let was = c.args.free.now.ok.0 in
    let is = c.pop.new.self.ok.0 in
    let z = a.cases in
    let empty : c.args.free.now.items ≡ [] = nil_from_length c.args.free.now.items (omega arith) in
    let now : c.pop.new.self.items ≡ [] = nil_from_length c.pop.new.self.items (omega arith) in
    let h = subst (λ (r : ℕ). IsSoundHat c.args.table.now.places [] r c.args.hand.now) (sym a.capacity)
    (subst (λ (f : List ℕ). IsSoundHat c.args.table.now.places f (vec_capacity c.args.free.now) c.args.hand.now) empty c.requires.fits) in
    subst (λ (p : ℕ). TakesPlace (record { places = c.args.table.now.places; hand = c.args.hand.now; frames = c.args.table.now.frames }) c.pop.new.self.items
    (vec_capacity c.pop.new.self) c.turn.new.hand c.args.space c.args.page p) (sym c.turn.ensures.place)
    (subst (λ (f : List ℕ). TakesPlace (record { places = c.args.table.now.places; hand = c.args.hand.now; frames = c.args.table.now.frames }) f
    (vec_capacity c.pop.new.self) c.turn.new.hand c.args.space c.args.page c.args.hand.now) (sym now)
    (choose-hand (record { places = c.args.table.now.places; hand = c.args.hand.now; frames = c.args.table.now.frames })
    (vec_capacity c.pop.new.self) c.turn.new.hand c.args.space c.args.page h c.in_default.ensures.distinct c.in_default.ensures.found
    (c.turn.ensures.moves ∙ ap (λ (n : ℕ). cond (c.args.hand.now + 1 == n) 0 (c.args.hand.now + 1)) c.requires.pool)))
