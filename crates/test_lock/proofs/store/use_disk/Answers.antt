use Rattle.std.proofs.Common.{◌≡◌, ap, ◌∙◌, Some, arith}
use mathlib.Core.Option.{some}
use Rattle.test_lock.specs.Store.{note_of_disk, is_out, not_home}
use Rattle.test_lock.proofs.store.use_disk.Goals as goal

pub bring-requires : goal.bring-requires
bring-requires g c =
    let count = g.D.Disk.count in
    let state = c.enter-store-2.ensures.state in
    let note : c.leave.new.seat.note ≡ Some (count c.in-Some.disk) = ap (λ v. v.note) c.leave.ensures.new ∙ ap (note_of_disk count) c.in-Some.is in
    let away = is_out state.notes c.leave.new.seat.number (count c.in-Some.disk) (state.holds.0 ∙ ap some note) in
    let one = state.fitting.one in
    not_home c.enter-store-2.result.disk (omega (arith, one, away))
