use Rattle.std.proofs.Common.{rules, ap, subst, sym}
use Rattle.atomic_table.specs.Table.{Splits}
use Rattle.kernel_lock.specs.Rule.{Lock, dealer_after, dealt_seat}
use Rattle.kernel_lock.proofs.Parts.{deals_out}
use Rattle.kernel_lock.proofs.starting.deal.Goals as goal

pub split_seat-place-requires : goal.split_seat-place-requires
split_seat-place-requires g c =
    let key = c.args.board.now.key in (
      search rules,
      search rules,
      subst (λ v. Splits (Lock g.S.Guarded.seat_of g.S.Guarded.history g.S.Guarded.fits key.opening.value key.seats) c.args.dealer.now.id v (dealer_after v) (dealt_seat v))
          (sym (ap (λ m. m.0) c.requires.dealer)) (deals_out _ _ _ key.opening.value key.seats _ key.opening.value _ c.requires.room),
    )
