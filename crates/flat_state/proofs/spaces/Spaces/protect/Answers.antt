use Rattle.std.proofs.Common.{◌∙◌, ap, sym}
use Rattle.std.specs.Prelude.{is_some, unwrap_or}
use Rattle.std.specs.FinMap as map
use Rattle.flat_model.specs.Space.{with_prots}
use Rattle.flat_state.proofs.Maps.{get_at, insert_at}
use Rattle.flat_state.proofs.spaces.Spaces.protect.Goals as goal

pub returns-in_default : goal.returns-in_default
returns-in_default c =
    let none = ap (λ m. map.get m c.args.process) (sym c.self.view_is) ∙ get_at c.self.inside.spaces.entries c.args.process ∙ sym c.in_default.ensures.value in
    absurd (let e = sym (ap is_some none) ∙ c.requires.alive in cc)

pub returns : goal.returns
returns c =
    let updates = (c.get_mut.follows.holds c.protect.new.self).3 (sym (ap is_some c.in-Some.ensures.value)) in
    let whole = insert_at c.self.inside.spaces.entries (c.get_mut.follows.lender c.protect.new.self).entries c.args.process c.protect.new.self updates.0 in
    let here = ap (λ m. map.get m c.args.process) (sym c.self.view_is) ∙ get_at c.self.inside.spaces.entries c.args.process ∙ sym c.in-Some.ensures.value in
    whole ∙ ap (map.insert (map.from_entries c.self.inside.spaces.entries) c.args.process) c.protect.ensures
    ∙ ap (λ m. map.insert m c.args.process (with_prots c.in-Some.space.now c.args.first c.args.count c.args.prot)) c.self.view_is
    ∙ ap (λ o. map.insert c.args.self.now c.args.process (with_prots (unwrap_or o map.empty) c.args.first c.args.count c.args.prot)) (sym here)
