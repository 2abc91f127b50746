use Rattle.std.proofs.Common.{rules, ◌≡◌, ◌∙◌}
use Rattle.kernel_lock.specs.Seats.{newcomer}
use Rattle.kernel_lock.proofs.Begun.{pushed_each}
use Rattle.kernel_lock.proofs.starting.deal_all.Goals as goal

pub loop-number-preserved : goal.loop-number-preserved
loop-number-preserved g c =
    let was = c.loop-number.invariant in
    let dealt = c.deal-seat.ensures in
    let board = c.args.board.now in (
      search rules,
      search rules,
      dealt.board ∙ was.2,
      dealt.dealer,
      pushed_each (λ k it. it ≡ newcomer
          (record { lock = board.table_id; seats = board.key.seats; opening = board.key.opening.value }) k) c.loop-number.row.items c.push.new.self.items c.deal-seat.result c.loop-number.number
          c.in-Ok.ensures.items (search rules) was.4 dealt.seat,
    )

pub returns-clause-seats : goal.returns-clause-seats
returns-clause-seats g c k d lt = c.loop-number.invariant.4 k d (search rules)
