use Rattle.std.proofs.Common.{rules, ◌≡◌, true, ap, ◌∙◌, sym, subst}
use mathlib.Core.List.{IsPrefix}
use Rattle.kernel_lock.specs.Seats.{entries_by}
use Rattle.kernel_lock.proofs.Parts.{looks, splits_off, joins_seen, meets}
use Rattle.kernel_lock.proofs.lock.KernelLock.meet.Goals as goal

pub split_seat-courier-requires : goal.split_seat-courier-requires
split_seat-courier-requires g c =
    (ap (λ v. v.lock) c.from.view_is ∙ (c.requires.seats.0.0 ∙ sym (ap (λ v. v.lock) c.self.view_is)), search rules, splits_off _ _ _ _ _ _ _)

pub join_seat-requires : goal.join_seat-requires
join_seat-requires g c =
    let made = c.split_seat-courier.ensures in (
      ap (λ v. v.lock) c.to.view_is ∙ (c.requires.seats.1.0 ∙ sym (ap (λ v. v.lock) c.self.view_is)),
      made.3 ∙ (ap (λ v. v.lock) c.from.view_is ∙ (c.requires.seats.0.0 ∙ sym (ap (λ v. v.lock) c.self.view_is))),
      ap (λ m. m.1) made.4,
      search rules,
      joins_seen _ _ _ _ _ _ _ _ _ (ap (λ m. m.0.inside) made.4),
    )

pub load-requires : goal.load-requires
load-requires g c =
    (c.join_seat.ensures.0 ∙ (ap (λ v. v.lock) c.to.view_is ∙ (c.requires.seats.1.0 ∙ sym (ap (λ v. v.lock) c.self.view_is))), search rules, looks _ _ _ _ _ _ _ _ _)

pub returns-clause-met : goal.returns-clause-met
returns-clause-met g c =
    let saw = c.load.ensures.2 in
    let both = meets c.to.inside.place.me.0 c.split_seat-courier.result.me.0 c.join_seat.new.seat.me.0 c.load.new.seat.me.0 _ saw.0
    (ap (λ m. m.0) c.join_seat.ensures.2) (ap (λ m. m.0.seen) c.split_seat-courier.ensures.4) saw.3 (ap (λ m. m.0.seen) saw.4) in
    subst (λ z. IsPrefix z c.load.new.seat.me.0.seen) (ap (λ v. v.seen) c.from.view_is) both.1

pub returns-clause-kept : goal.returns-clause-kept
returns-clause-kept g c =
    let saw = c.load.ensures.2 in
    let both = meets c.to.inside.place.me.0 c.split_seat-courier.result.me.0 c.join_seat.new.seat.me.0 c.load.new.seat.me.0 _ saw.0
    (ap (λ m. m.0) c.join_seat.ensures.2) (ap (λ m. m.0.seen) c.split_seat-courier.ensures.4) saw.3 (ap (λ m. m.0.seen) saw.4) in
    subst (λ z. IsPrefix z c.load.new.seat.me.0.seen) (ap (λ v. v.seen) c.to.view_is) both.0

pub returns-clause-own : goal.returns-clause-own
returns-clause-own g c =
    let saw = c.load.ensures.2 in
    let joined = ap (λ m. m.0) c.join_seat.ensures.2 in
    let seated : c.join_seat.new.seat.me.0.seated ≡ true = ap (λ z. z.seated) joined ∙ c.to.invariant.0 in
    ap (λ m. entries_by g.S.Guarded.seat_of m.0.number m.0.seen) saw.4 ∙ (saw.5 seated ∙ sym (ap (λ m. m.0.own) saw.4))
