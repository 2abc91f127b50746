use Rattle.std.proofs.Common.{◌∙◌, sym, ap, subst, List, [], ◌∷◌, Option}
use Rattle.atomic_table.specs.Table.{opening}
use Rattle.kernel_lock.specs.Rule.{Lock, dealer_at}
use Rattle.kernel_lock.specs.Seats.{newcomer}
use Rattle.kernel_lock.proofs.Parts.{starts}
use Rattle.kernel_lock.proofs.lock.KernelLock.start.Goals as goal

pub new-requires : goal.new-requires
new-requires g c =
    let G = g.S.Guarded in
    let P : g.row.S.Denot × List (Option g.row.S.Denot) → Type 0 = λ z. Lock G.seat_of G.history G.fits z.0 c.args.seats (opening (0 ∷ 0 ∷ 0 ∷ 0 ∷ 0 ∷ []) z.1 (dealer_at z.0 c.args.seats 0)) in
    subst P (λ i. (sym c.of.ensures i, sym c.in_ok-slots.ensures.ok i)) (starts G.seat_of G.history G.fits c.args.state c.args.seats c.requires.empty c.requires.fits)

pub returns-in-Ok-new-clause-seats : goal.returns-in-Ok-new-clause-seats
returns-in-Ok-new-clause-seats g c k d lt =
    let shared = c.in-Ok-new.table.shared in
    c.deal_all.ensures.seats k d lt ∙ ap (λ n. newcomer (record { lock = shared.table_id; seats = n; opening = shared.key.opening.value }) k) (ap (λ a. a.seats) c.in-Ok-new.ensures.ok.5)
