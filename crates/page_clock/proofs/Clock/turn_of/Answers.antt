use Rattle.std.proofs.Common.{◌≡◌, ℕ, ◌+◌, ◌-◌, ◌*◌, ◌%◌, ◌<◌, inl, inr, sym, ◌∙◌, ap, subst}
use Rattle.page_clock.specs.Clock.{next_pick, place_of}
use Rattle.page_clock.specs.declared.Pick.{Pick}
use Rattle.page_clock.specs.declared.Pick.TheVariants.{Front, Back}
use Rattle.page_clock.proofs.ClockLemmas.{after-even, after-odd, first-round, ahead-below, ahead-back, back-ahead, IsAhead}
use Rattle.page_clock.proofs.Clock.turn_of.Goals as goal

front_within : (c : goal.In-Front) → c.in-Front.frame < c.args.frames
front_within c = subst (λ (p : Pick). place_of p < c.args.frames) c.in-Front.is c.requires.frame

back_within : (c : goal.After-place_ahead) → c.in-Back.frame < c.args.frames
back_within c = subst (λ (p : Pick). place_of p < c.args.frames) c.in-Back.is c.requires.frame

is_ahead : (c : goal.After-place_ahead) → IsAhead c.args.frames c.args.distance c.in-Back.frame c.place_ahead.result
is_ahead c = record { near = c.place_ahead.ensures.near; round = c.place_ahead.ensures.round }

pub returns-in-Front-clause-comes : goal.returns-in-Front-clause-comes
returns-in-Front-clause-comes c =
    ap next_pick (after-even c.args.frames c.args.distance c.in-Front.frame (front_within c)) ∙ sym c.in-Front.is

pub returns-in-Front-clause-once : goal.returns-in-Front-clause-once
returns-in-Front-clause-once c number within at =
    let r = first-round c.args.frames c.args.distance number within in
    elim r.2 [
      | inl e ↦
          let picks : Front r.0 ≡ Front c.in-Front.frame = sym e.1 ∙ at ∙ c.in-Front.is in
          let same : r.0 ≡ c.in-Front.frame = cc in
          e.0 ∙ ap (λ (k : ℕ). 2 * k) same
      | inr e ↦
          let picks : Back ((r.0 + c.args.frames - c.args.distance) % c.args.frames) ≡ Front c.in-Front.frame = sym e.1 ∙ at ∙ c.in-Front.is in
          absurd (cc)
    ]

pub returns-in-Back-clause-comes : goal.returns-in-Back-clause-comes
returns-in-Back-clause-comes c =
    let F = c.args.frames in
    let D = c.args.distance in
    let m = c.place_ahead.result in
    let lt : m < F = ahead-below F D c.in-Back.frame m c.requires.within (back_within c) (is_ahead c) in
    ap next_pick (after-odd F D m lt)
    ∙ ap Back (ahead-back F D c.in-Back.frame m c.requires.within (back_within c) (is_ahead c))
    ∙ sym c.in-Back.is

pub returns-in-Back-clause-once : goal.returns-in-Back-clause-once
returns-in-Back-clause-once c number within at =
    let F = c.args.frames in
    let D = c.args.distance in
    let r = first-round F D number within in
    elim r.2 [
      | inl e ↦ let picks : Front r.0 ≡ Back c.in-Back.frame = sym e.1 ∙ at ∙ c.in-Back.is in absurd (cc)
      | inr e ↦
          let picks : Back ((r.0 + F - D) % F) ≡ Back c.in-Back.frame = sym e.1 ∙ at ∙ c.in-Back.is in
          let place : (r.0 + F - D) % F ≡ c.in-Back.frame = cc in
          let same = back-ahead F D c.in-Back.frame c.place_ahead.result r.0 c.requires.within (back_within c) r.1 (is_ahead c) place in
          e.0 ∙ ap (λ (k : ℕ). 2 * k + 1) same
    ]
