use Rattle.std.proofs.Common.{◌≡◌, ℕ, ◌≤◌, List, [], length, vec_len, vec_capacity, sym, ap, ◌∙◌, subst, refl, arith}
use Rattle.kernel_lock.specs.Seats.{newcomer}
use Rattle.vm_core.specs.vm_world.State.{process_parent, room_of}
use Rattle.vm_kernel.specs.Callers.{KernelSeen, CallerSeen, IsCallerOf}
use Rattle.test_threads.proofs.Trials.{third, first-two, second, first-one, only, nobody-else}
use Rattle.test_threads.proofs.trial.trial_of.Given.{Over}
use Rattle.test_threads.proofs.trial.trial_of.Goals.{After-take_last-first}
use Rattle.test_threads.proofs.trial.trial_of.Goals as goal

-- the callers of a kernel of three
abbrev caller_at_seat : KernelSeen → ℕ → ℕ → CallerSeen
caller_at_seat k seat process = record { seat = newcomer k seat; process = process }

record Taken (g : Over) (c : After-take_last-first g) : Type 0 where
  clock : c.take_last-clock.result ≡ caller_at_seat c.args.kernel 2 0
  second : c.take_last-second.result ≡ caller_at_seat c.args.kernel 1 2
  first : c.take_last-first.result ≡ caller_at_seat c.args.kernel 0 1
  rest : c.take_last-first.new.row.items ≡ []

taken : (g : Over) (c : After-take_last-first g) → Taken g c
taken g c =
    let x = caller_at_seat c.args.kernel 0 1 in
    let y = caller_at_seat c.args.kernel 1 2 in
    let z = caller_at_seat c.args.kernel 2 0 in
    let all = c.requires.row in
    let count = c.args.row.ok.0 in
    let two = first-two x y z c.args.row.items _ all count c.take_last-clock.new.row.items c.take_last-clock.ensures.rest in
    let count-2 = c.take_last-clock.new.row.ok.0 in
    let one = first-one x y c.take_last-clock.new.row.items _ two count-2 c.take_last-second.new.row.items c.take_last-second.ensures.rest in
    let count-1 = c.take_last-second.new.row.ok.0 in
    record {
      clock = third x y z c.args.row.items _ all count c.take_last-clock.result c.take_last-clock.ensures.last;
      second = second x y c.take_last-clock.new.row.items _ two count-2 c.take_last-second.result c.take_last-second.ensures.last;
      first = only x c.take_last-second.new.row.items _ one count-1 c.take_last-first.result c.take_last-first.ensures.last;
      rest = nobody-else x c.take_last-second.new.row.items _ one count-1 c.take_last-first.new.row.items c.take_last-first.ensures.rest;
    }

pub new-first-requires-clause-caller : goal.new-first-requires-clause-caller
new-first-requires-clause-caller g c = (0, (taken g (goal.at.new-first-requires-clause-caller g c).After-take_last-first).first)

pub new-first-requires-clause-parent : goal.new-first-requires-clause-parent
new-first-requires-clause-parent g c = ap (λ (l : List ℕ). process_parent l 1) c.requires.parents

pub new-first-requires-clause-room : goal.new-first-requires-clause-room
new-first-requires-clause-room g c = let is : room_of c.args.kernel.opening.entries 1 ≡ 99 = ap (λ (l : List ℕ). room_of l 1) c.requires.entries in omega (arith, is)

pub new-second-requires-clause-caller : goal.new-second-requires-clause-caller
new-second-requires-clause-caller g c = (1, (taken g (goal.at.new-second-requires-clause-caller g c).After-take_last-first).second)

pub new-second-requires-clause-parent : goal.new-second-requires-clause-parent
new-second-requires-clause-parent g c = ap (λ (l : List ℕ). process_parent l 2) c.requires.parents

pub new-second-requires-clause-room : goal.new-second-requires-clause-room
new-second-requires-clause-room g c = let is : room_of c.args.kernel.opening.entries 2 ≡ 99 = ap (λ (l : List ℕ). room_of l 2) c.requires.entries in omega (arith, is)

pub invariant_of-result : goal.invariant_of-result
invariant_of-result g c =
    let t = taken g (goal.at.invariant_of-result g c).After-take_last-first in
    let three : vec_len c.args.row ≡ 3 = c.args.row.ok.0 ∙ ap length c.requires.row in
    let fits : vec_len c.args.row ≤ vec_capacity c.args.row = c.args.row.ok.1 in
    let room : 3 ≤ vec_capacity c.take_last-first.new.row = omega (arith, three, fits, c.take_last-clock.ensures.room, c.take_last-second.ensures.room, c.take_last-first.ensures.room) in (
      record {
        seats = c.requires.seats;
        first = (c.new-first.ensures.works, ap (λ (x : CallerSeen). x.seat.number) (c.new-first.ensures.caller ∙ t.first));
        second = (c.new-second.ensures.works, ap (λ (x : CallerSeen). x.seat.number) (c.new-second.ensures.caller ∙ t.second));
        clock = (subst (IsCallerOf c.args.kernel) (sym t.clock) (refl, refl, refl), ap (λ (x : CallerSeen). x.seat.number) t.clock);
        free = ap (λ (x : CallerSeen). x.seat.note) t.clock;
      },
      t.rest,
      c.take_last-first.new.row.ok.0 ∙ ap length t.rest,
      room,
    )
