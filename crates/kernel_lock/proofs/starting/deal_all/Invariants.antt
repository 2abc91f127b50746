use Rattle.std.proofs.Common.{◌≡◌, ℕ, ◌<◌, ◌≤◌, [], slice_index_or, vec_len, vec_capacity}
use Rattle.kernel_lock.specs.Rule.{dealer_at}
use Rattle.kernel_lock.specs.Seats.{newcomer}
use Rattle.kernel_lock.proofs.starting.deal_all.Given as goal

abbrev pub invariant-loop-number : goal.invariant-loop-number
invariant-loop-number g l =
    let board = l.fn.board in
    (vec_len l.row ≡ l.number) × (l.seats ≤ vec_capacity l.row) × (l.dealer.table_id ≡ l.initial.dealer.table_id)
    × (l.dealer.me ≡ (dealer_at board.key.opening.value board.key.seats l.number, []))
    × ((k : ℕ) (d : _) → k < l.number → slice_index_or l.row.items k d ≡ newcomer (record { lock = board.table_id; seats = board.key.seats; opening = board.key.opening.value }) k)
