use Rattle.std.proofs.Common.{◌≡◌, ◌∙◌, ℕ, ◌+◌, ◌/◌, ◌%◌, ap, sym, subst, arith}
use Rattle.std.specs.Prelude.{IsSome, map}
use Rattle.flat_model.specs.Flat.{Flat, IsFlat, space_of}
use Rattle.flat_model.specs.Access.{with_change_at}
use Rattle.flat_model.specs.Parts.{without_tail}
use Rattle.flat_state.specs.Cells.{flat_file}
use Rattle.flat_model.specs.Step.{IsDue, IsUnborn, after_act, tails_cleared}
use Rattle.flat_state.specs.FlatState.{flat_of, is_bit_set_from}
use Rattle.flat_state.proofs.Cuts.{with_files}
use Rattle.flat_state.proofs.Steps.{bits_none, bits_skip, bits_next, unborn_over, due_along, exact_of, next_of, exact_at, next_at, if_ok_err}
use Rattle.flat_model.proofs.WellFormed.{IsFlat-tail_cleared}
use Rattle.flat_state.proofs.state.FlatParts.+act_cleared.Goals as goal
use Rattle.flat_state.proofs.state.FlatParts.+act_cleared.Goals.{After-act, After-act_cleared, After-act_cleared-acts, in-Ok-true, in_default, in_default-2}

-- no tail becomes zeros
none : (t : ℕ) (c : After-act t) → c.args.self.now ≡ tails_cleared c.args.self.now (is_bit_set_from c.args.number c.args.mask)
none t c = bits_none c.args.self.now c.args.number ∙ ap (λ (m : ℕ). tails_cleared c.args.self.now (is_bit_set_from c.args.number m)) (sym c.if-mask-eq0.true)

pub returns-then-mask-eq0-clause-exact : goal.returns-then-mask-eq0-clause-exact
returns-then-mask-eq0-clause-exact t c =
    let e = c.args.entry.now in
    let same = none t (goal.at.returns-then-mask-eq0-clause-exact t c).After-act in
    exact_of _ _ c.act.result c.act.ensures.exact (λ due. subst (λ (G : Flat). IsDue G e) same due, λ due. subst (λ (G : Flat). IsDue G e) (sym same) due)

pub returns-then-mask-eq0-clause-next : goal.returns-then-mask-eq0-clause-next
returns-then-mask-eq0-clause-next t c = next_of _ _ _ c.act.result c.act.ensures.next (ap (λ (G : Flat). after_act G c.args.entry.now) (none t (goal.at.returns-then-mask-eq0-clause-next t c).After-act))

-- the bit of the file isn't set
skip : (t : ℕ) (c : After-act_cleared t) → tails_cleared c.args.self.now (is_bit_set_from (c.args.number + 1) (c.args.mask / 2)) ≡ tails_cleared c.args.self.now (is_bit_set_from c.args.number c.args.mask)
skip t c = bits_skip c.args.self.now c.args.number c.args.mask c.if-mask-eq0-2.true

pub returns-then-mask-eq0-2-clause-exact : goal.returns-then-mask-eq0-2-clause-exact
returns-then-mask-eq0-2-clause-exact t c =
    let e = c.args.entry.now in
    let same = skip t (goal.at.returns-then-mask-eq0-2-clause-exact t c).After-act_cleared in
    exact_of _ _ c.act_cleared.result c.act_cleared.ensures.exact (λ due. subst (λ (G : Flat). IsDue G e) same due, λ due. subst (λ (G : Flat). IsDue G e) (sym same) due)

pub returns-then-mask-eq0-2-clause-next : goal.returns-then-mask-eq0-2-clause-next
returns-then-mask-eq0-2-clause-next t c = next_of _ _ _ c.act_cleared.result c.act_cleared.ensures.next (ap (λ (G : Flat). after_act G c.args.entry.now) (skip t (goal.at.returns-then-mask-eq0-2-clause-next t c).After-act_cleared))

-- flat memory with zeros in the file's tail
abbrev with_zeros : Flat → ℕ → Flat
with_zeros F n = record F { files = with_change_at without_tail F.files n }

pub act_cleared-acts-requires : goal.act_cleared-acts-requires
act_cleared-acts-requires t c =
    let F = c.args.self.now in
    let p = c.args.entry.now.process in
    let same = ap (with_files (flat_of c.self.inside)) c.in_ok-last_page.ensures.ok ∙ ap (λ (G : Flat). with_zeros G c.args.number) c.self.view_is in
    let flat = subst IsFlat (sym same) (IsFlat-tail_cleared F c.args.number c.requires.flat) in
    let alive = subst (λ (G : Flat). IsSome (space_of G p)) (sym same) c.requires.alive in
    let unborn = subst (λ (G : Flat). IsUnborn G c.args.entry.now.call) (sym same) (unborn_over F (with_change_at without_tail F.files c.args.number) c.args.entry.now.call c.requires.unborn) in
    let less = c.decreases in
    let some = c.if-mask-eq0.false in
    let fits = c.requires.fits in
    (omega arith, (flat, (alive, (unborn, (c.requires.form, omega arith)))))

-- the file's tail became zeros, and then those of the files behind it
clears : (t : ℕ) (c : After-act_cleared-acts t) → tails_cleared (with_files (flat_of c.self.inside) (map flat_file c.clear_tail_of.new.files.items)) (is_bit_set_from (c.args.number + 1) (c.args.mask / 2)) ≡ tails_cleared c.args.self.now (is_bit_set_from c.args.number c.args.mask)
clears t c =
    let F = c.args.self.now in
    let odd : c.args.mask % 2 ≡ 1 = let not = c.if-mask-eq0-2.false in omega arith in
    let same = ap (with_files (flat_of c.self.inside)) c.in_ok-last_page.ensures.ok ∙ ap (λ (G : Flat). with_zeros G c.args.number) c.self.view_is in
    ap (λ (G : Flat). tails_cleared G (is_bit_set_from (c.args.number + 1) (c.args.mask / 2))) same ∙ bits_next F c.args.number c.args.mask odd

pub returns-then-not-matches-clause-exact : goal.returns-then-not-matches-clause-exact
returns-then-not-matches-clause-exact t c =
    let e = c.args.entry.now in
    let same = clears t (goal.at.returns-then-not-matches-clause-exact t c).After-act_cleared-acts in
    elim c.match-matches.branch [
      | in-Ok-true w ↦ exact_at _ _ _ _ w.acts-is w.in-Ok-true.ensures.exact (due_along _ _ e same)
      | in_default w ↦ exact_at _ _ _ _ w.acts-is w.in_default.ensures.exact (due_along _ _ e same)
      | in_default-2 w ↦ if_ok_err _ _ _ (w.acts-is ∙ w.in_default.is)
    ]

pub returns-else-not-matches-clause-exact : goal.returns-else-not-matches-clause-exact
returns-else-not-matches-clause-exact t c =
    let e = c.args.entry.now in
    let same = clears t (goal.at.returns-else-not-matches-clause-exact t c).After-act_cleared-acts in
    elim c.match-matches.branch [
      | in-Ok-true w ↦ exact_at _ _ _ _ w.acts-is w.in-Ok-true.ensures.exact (due_along _ _ e same)
      | in_default w ↦ exact_at _ _ _ _ w.acts-is w.in_default.ensures.exact (due_along _ _ e same)
      | in_default-2 w ↦ if_ok_err _ _ _ (w.acts-is ∙ w.in_default.is)
    ]

pub returns-else-not-matches-clause-next : goal.returns-else-not-matches-clause-next
returns-else-not-matches-clause-next t c =
    let same = ap (λ (G : Flat). after_act G c.args.entry.now) (clears t (goal.at.returns-else-not-matches-clause-next t c).After-act_cleared-acts) in
    elim c.match-matches.branch [
      | in-Ok-true w ↦ next_at _ _ _ _ _ w.acts-is w.in-Ok-true.ensures.next same
      | in_default w ↦ next_at _ _ _ _ _ w.acts-is w.in_default.ensures.next same
      | in_default-2 w ↦ if_ok_err _ _ _ (w.acts-is ∙ w.in_default.is)
    ]
