use Rattle.std.proofs.Common.{◌≡◌, ℕ, [], ◌++◌, List, Option, None, Some, refl, sym, ap, subst, ◌∙◌}
use Rattle.std.proofs.Common.{append-nil}
use Rattle.std.proofs.lemmas.List.Elements.{All-nil}
use Rattle.std.specs.Prelude.{IsTrue}
use Rattle.kernel_lock.specs.Seats.{HasTried, after_enter}
use Rattle.vm_core.specs.vm_types.declared.call.Entry.{Entry}
use Rattle.vm_core.specs.vm_types.declared.call.Object.{Object}
use Rattle.vm_core.specs.flat_model.Flat.{Flat, cell_at}
use Rattle.vm_core.specs.flat_model.History.{replay}
use Rattle.vm_core.specs.vm_world.Events.{IsEvent}
use Rattle.vm_core.specs.vm_world.State.{KernelState, Fixed, Sent, seats_of, is_top}
use Rattle.vm_core.proofs.vm_world.Told.{event_law}
use Rattle.vm_kernel.specs.Callers.{SeatSeen}
use Rattle.vm_kernel.specs.Objects.{NoneForks, object_told}
use Rattle.vm_kernel.specs.Since.{seat_of_entry}
use Rattle.vm_kernel.specs.Visits.{GoesOut}
use Rattle.vm_kernel.proofs.Fits.{event-at}
use Rattle.vm_kernel.proofs.Objects.{look-told, none-forks}
use Rattle.vm_kernel.proofs.Told.{told-none}
use Rattle.vm_kernel.proofs.Visited.{visited}
use Rattle.vm_kernel.proofs.looks.look_at.Goals as goal

pub object-object-requires : goal.object-object-requires
object-object-requires g c =
    let since = c.enter-state.ensures.state.fitting in
    let F = since.starts.0 in
    let seats = seats_of c.enter-state.ensures.state.notes in
    record { fits = (F, seats, since.fits F since.starts.1) }

-- nothing is noted, and the state is what it was
rests-in : (v b : SeatSeen) (s : KernelState) → v.note ≡ None → HasTried (after_enter v s) b
    → IsEvent b.number s b.note s None
rests-in v b s free tried =
    subst (λ (o : Option Sent). IsEvent b.number s o s None)
    (sym (ap (λ (w : SeatSeen). w.note) tried.3 ∙ free)) (event_law.rests b.number s None)

pub leave-requires-clause-moves : goal.leave-requires-clause-moves
leave-requires-clause-moves g c =
    let b = c.enter-state.new.seat in
    let s = c.enter-state.result in
    let inside = c.enter-state.ensures.inside in (
      s,
      ap (λ (w : SeatSeen). w.state) inside.3,
      rests-in c.args.seat.now b s c.requires.free inside,
    )

pub returns-clause-visit : goal.returns-clause-visit
returns-clause-visit g c =
    let v = c.args.seat.now in
    let b = c.enter-state.new.seat in
    let s = c.enter-state.result in
    let came = c.enter-state.ensures in
    let out : GoesOut b s s None 0 0 c.leave.new.seat = record {
      new = c.leave.ensures.new ∙ told-none _;
      event = rests-in v b s c.requires.free came.inside;
    } in (
      s,
      visited c.args.lock.now.opening c.args.lock.now.seats v b c.leave.new.seat s s None [] 0 0
          came.state came.inside out (sym (append-nil s.history))
          (All-nil (λ (e : Entry). seat_of_entry e ≡ v.number)),
    )

pub returns-clause-object : goal.returns-clause-object
returns-clause-object g c =
    let s = c.enter-state.result in
    let state = c.enter-state.ensures.state in
    λ F follows.
    subst
    (λ (H : List Entry).
    c.object-object.result ≡ object_told (cell_at (replay F H) c.args.process c.args.page))
    (sym (ap (λ (w : SeatSeen). w.seen) c.leave.ensures.new))
    (look-told c.args.lock.now.opening s state.notes c.args.process c.args.page
    c.object-object.result state.fitting c.object-object.ensures.told F follows)

pub returns-clause-forked : goal.returns-clause-forked
returns-clause-forked g c =
    let s = c.enter-state.result in
    let since = c.enter-state.ensures.state.fitting in
    let p = c.args.process in
    let fit = since.fits since.starts.0 since.starts.1 in
    let parents = ap (λ (f : Fixed). f.parents) since.fixed in
    λ top.
    subst (NoneForks p) (sym (ap (λ (w : SeatSeen). w.seen) c.leave.ensures.new))
    (none-forks s.history s.parents s.entries fit.rooms p
    (subst (λ (ps : List ℕ). IsTrue (is_top ps p)) (sym parents) top))
