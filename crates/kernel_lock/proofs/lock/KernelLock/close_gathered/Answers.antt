use Rattle.std.proofs.Common.{◌≡◌, ◌∙◌, sym, ap, subst, Some}
use mathlib.Core.Option.{some-injective}
use Rattle.atomic_table.specs.Table.{Final, Seen}
use Rattle.std.specs.Slots.{slots_items}
use Rattle.kernel_lock.specs.Rule.{Lock}
use Rattle.kernel_lock.specs.Seats.{HasAll, IsClosed}
use Rattle.kernel_lock.proofs.Empties.{closed_empty, parts_none}
use Rattle.kernel_lock.proofs.Parts.{closes}
use Rattle.kernel_lock.proofs.lock.KernelLock.close_gathered.Goals as goal

pub unreachable-requires : goal.unreachable-requires
unreachable-requires g c =
    let G = g.S.Guarded in
    let key = c.self.inside.table.shared.key in
    let place = c.into_place.result in
    let at = ap (λ m. m.0) c.into_place.ensures.parts in
    let all = subst (λ n. HasAll n c.args.from.parts) (sym (c.self.invariant.2 ∙ ap (λ v. v.seats) c.self.view_is)) c.requires.all in
    let ends = closes G.seat_of G.history G.fits key.opening.value key.seats place.id c.args.from.parts _ _
    (subst (λ v. Final (Seen (Lock G.seat_of G.history G.fits key.opening.value key.seats) place.id v) (slots_items c.close_with-closed.result.words)
    (slots_items c.close_with-closed.result.slots)) at c.close_with-closed.ensures.values.2)
    all in
    c.in_default.not-Some ends.0 (some-injective _ _ (sym c.take-slot.ensures.value ∙ ends.1))

pub returns-clause-closed : goal.returns-clause-closed
returns-clause-closed g c =
    let G = g.S.Guarded in
    let key = c.self.inside.table.shared.key in
    let place = c.into_place.result in
    let at = ap (λ m. m.0) c.into_place.ensures.parts in
    let many : key.seats ≡ c.args.self.seats = c.self.invariant.2 ∙ ap (λ v. v.seats) c.self.view_is in
    let all = subst (λ n. HasAll n c.args.from.parts) (sym many) c.requires.all in
    let ends = closes G.seat_of G.history G.fits key.opening.value key.seats place.id c.args.from.parts _ _
    (subst (λ v. Final (Seen (Lock G.seat_of G.history G.fits key.opening.value key.seats) place.id v) (slots_items c.close_with-closed.result.words)
    (slots_items c.close_with-closed.result.slots)) at c.close_with-closed.ensures.values.2)
    all in
    let found : Some c.in-Some.state ≡ Some ends.0 = sym c.in-Some.is ∙ some-injective _ _ (sym c.take-slot.ensures.value ∙ ends.1) in
    let same : c.in-Some.state ≡ ends.0 = cc found in
    subst (λ o. IsClosed G.seat_of G.history G.fits o c.args.self.seats c.args.from.parts c.in-Some.state) (ap (λ v. v.opening) c.self.view_is)
    (subst (λ n. IsClosed G.seat_of G.history G.fits key.opening.value n c.args.from.parts c.in-Some.state) many
    (subst (IsClosed G.seat_of G.history G.fits key.opening.value key.seats c.args.from.parts) (sym same) ends.2))

pub returns-clause-empty : goal.returns-clause-empty
returns-clause-empty g c none =
    let G = g.S.Guarded in
    closed_empty G.seat_of G.history G.fits c.args.self.opening c.args.self.seats c.args.from.parts c.in-Some.state (returns-clause-closed g c) c.requires.all (parts_none c.args.from.parts none)
