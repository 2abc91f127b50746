use Rattle.std.proofs.Common.{◌≡◌, ℕ, ◌+◌, ◌-◌, ◌++◌, ◌∷◌, [], List, Bool, length, map, take, None, refl, inl, inr, sym, ap, ◌∙◌, subst, arith, take_at}
use Rattle.std.specs.Prelude.{All, vec_len}
use Rattle.kernel_lock.specs.Seats.{HasAll, IsClosed, newcomer}
use Rattle.volume_files.specs.vm_script.declared.plan.PlanLine.{PlanLine}
use Rattle.vm_kernel.specs.Since.{IsSinceOpening, history_of, seat_of_entry}
use Rattle.vm_kernel.specs.Callers.{CallerSeen, IsCallerOf, caller_part}
use Rattle.vm_kernel.specs.Rooms.{AreRooms, callers_from}
use Rattle.vm_kernel.specs.declared.starting.Room.{Room}
use Rattle.block_runs.specs.Callers.{TurnsClock}
use Rattle.block_runs.specs.Rows.{AllEnd, AreNumbered, AreBlocksReady}
use Rattle.plan_runs.proofs.CallerRooms.{are-rooms, length-rooms}
use Rattle.plan_runs.proofs.KernelRows.{IsNewRow, all-callers, all-free, are-ready, has-all, new-row, played-blocks, same-tree, same-rooms, some-caller}
use Rattle.plan_runs.proofs.Plays.{played-none}
use Rattle.plan_runs.proofs.playing.play_blocks.Given.{Over}
use Rattle.plan_runs.proofs.playing.play_blocks.Goals as goal
use Rattle.plan_runs.proofs.playing.play_blocks.Goals.{In_default, In-Some, After-closing_law}

pub start-requires-clause-count : goal.start-requires-clause-count
start-requires-clause-count g c =
    let st = c.requires.started.4 in
    let few = st.blocks in
    let same = st.count in
    let long = ap (λ (rs : List Room). length rs) c.requires.rooms ∙ length-rooms 0 c.args.state.entries in
    (omega (arith, long), omega (arith, long, same, few))

pub start-requires-clause-seats : goal.start-requires-clause-seats
start-requires-clause-seats g c =
    let st = c.requires.started.4 in
    let same = st.count in
    let seats = st.seats in
    let long = ap (λ (rs : List Room). length rs) c.requires.rooms ∙ length-rooms 0 c.args.state.entries in
    omega (arith, long, same, seats)

pub start-requires-clause-rooms : goal.start-requires-clause-rooms
start-requires-clause-rooms g c = subst (AreRooms c.args.state.entries) (sym c.requires.rooms) (are-rooms c.args.state.entries)

pub start-requires-clause-fits : goal.start-requires-clause-fits
start-requires-clause-fits g c = (c.requires.started.0, c.requires.started.4.fits)

pub start-requires-clause-empty : goal.start-requires-clause-empty
start-requires-clause-empty g c = c.requires.started.4.opening.history

pub returns-in-Err : goal.returns-in-Err
returns-in-Err g c =
    let st = c.requires.started in
    record {
      played = rw c.in-Err.ensures.err (played-none c.args.plan.now st.0 st.1 st.2 st.3 c.args.state st.4);
      daemon = inl (c.in-Err.ensures.err, refl);
    }

-- there is a caller
none-left : (g : Over) (c : In_default g) → ⊥
none-left g c =
    let e = c.in_default.ensures in
    let zero = e.cases.0 in
    let new : c.pop.new.self.items ≡ [] = e.rest ∙ ap (λ (n : ℕ). take n c.in-Ok.started.1.items) (let z : vec_len c.in-Ok.started.1 - 1 ≡ 0 = omega (arith, zero) in z) in
    let old : c.in-Ok.started.1.items ≡ [] = e.items ∙ ap (λ (row : List CallerSeen). row ++ []) new in
    some-caller c.in-Ok.started.0 c.args.state.entries
    (sym (ap (callers_from c.in-Ok.started.0 0) c.requires.rooms) ∙ sym c.in-Ok.ensures.callers ∙ old)

pub unreachable-requires : goal.unreachable-requires
unreachable-requires g c = none-left g c

pub unreachable-unreachable : goal.unreachable-unreachable
unreachable-unreachable g c = none-left g (goal.at.unreachable-unreachable g c).In_default

-- the row at the start
new : (g : Over) (c : In-Some g) → IsNewRow c.in-Ok.started.0 0 (length c.args.state.entries) c.pop.new.self.items c.in-Some.daemon
new g c =
    new-row c.in-Ok.started.0 0 c.args.state.entries c.pop.new.self.items c.in-Some.daemon
    (sym (ap (callers_from c.in-Ok.started.0 0) c.requires.rooms) ∙ sym c.in-Ok.ensures.callers ∙ c.in-Some.ensures.items)

ready : (g : Over) (c : In-Some g) → AreBlocksReady c.in-Ok.started.0 c.args.plan.now.lines c.pop.new.self.items 1
ready g c =
    let st = c.requires.started in
    let n = new g c in
    are-ready c.args.plan.now st.0 st.1 st.2 st.3 c.args.state st.4 c.requires.playable c.in-Ok.started.0 c.in-Ok.ensures.kernel.1 c.pop.new.self.items n.numbered n.fresh n.count

pub run_all-is_whole-requires-clause-blocks : goal.run_all-is_whole-requires-clause-blocks
run_all-is_whole-requires-clause-blocks g c = λ lifetimes outlives.
    let at = (goal.at.run_all-is_whole-requires-clause-blocks g c).In-Some in
    let k = c.in-Ok.started.0 in
    subst (λ (ls : List PlanLine). AreBlocksReady k ls c.as_mut_slice-blocks.result.now 1) (sym c.lines.ensures)
    (subst (λ (callers : List CallerSeen). AreBlocksReady k c.args.plan.now.lines callers 1) (sym c.as_mut_slice-blocks.ensures.value) (ready g at))

pub run_all-is_whole-requires-clause-daemon : goal.run_all-is_whole-requires-clause-daemon
run_all-is_whole-requires-clause-daemon g c = λ lifetimes outlives. (new g (goal.at.run_all-is_whole-requires-clause-daemon g c).In-Some).clock

-- the row as it comes back
ends : (g : Over) (c : After-closing_law g) → AllEnd c.in-Ok.started.0 c.run_all-is_whole.result c.args.plan.now.lines c.pop.new.self.items c.run_all-is_whole.new.row
ends g c =
    subst (λ (ls : List PlanLine). AllEnd c.in-Ok.started.0 c.run_all-is_whole.result ls c.pop.new.self.items c.run_all-is_whole.new.row) c.lines.ensures
    (subst (λ (row : List CallerSeen). AllEnd c.in-Ok.started.0 c.run_all-is_whole.result c.lines.result.now row c.run_all-is_whole.new.row) c.as_mut_slice-blocks.ensures.value
    c.run_all-is_whole.ensures.blocks)

back : (g : Over) (c : After-closing_law g) → c.push_reserved.new.self.items ≡ c.run_all-is_whole.new.row ++ c.run_all-is_whole.new.daemon ∷ []
back g c =
    let count = (ends g c).counted in
    let long = c.as_mut_slice-blocks.ensures.len in
    let same = ap (λ (row : List CallerSeen). length row) c.as_mut_slice-blocks.ensures.value in
    c.push_reserved.ensures.items
    ∙ ap (λ (row : List CallerSeen). row ++ c.run_all-is_whole.new.daemon ∷ []) (take_at c.run_all-is_whole.new.row _ _ (omega (arith, count, long, same)))

fresh : (g : Over) (c : After-closing_law g) → IsNewRow c.in-Ok.started.0 0 (length c.args.state.entries) c.pop.new.self.items c.in-Some.daemon
fresh g c = new g (goal.at.close-requires-clause-all g c).In-Some

numbered : (g : Over) (c : After-closing_law g) → AreNumbered c.in-Ok.started.0 1 c.run_all-is_whole.new.row
numbered g c = (ends g c).numbered 1 (fresh g c).numbered

pub close-requires-clause-callers : goal.close-requires-clause-callers
close-requires-clause-callers g c =
    subst (λ (row : List CallerSeen). All (λ (it : CallerSeen). IsCallerOf c.in-Ok.started.0 it) row) (sym (back g c))
    (all-callers c.in-Ok.started.0 1 c.run_all-is_whole.new.row c.run_all-is_whole.new.daemon (numbered g c) c.run_all-is_whole.ensures.daemon.clock)

pub close-requires-clause-all : goal.close-requires-clause-all
close-requires-clause-all g c =
    let count = (ends g c).counted in
    let n = fresh g c in
    let first = n.count in
    let at = n.number in
    let stays = c.run_all-is_whole.ensures.daemon.number in
    let seats = c.in-Ok.ensures.kernel.0 in
    let long = ap (λ (rs : List Room). length rs) c.requires.rooms ∙ length-rooms 0 c.args.state.entries in
    subst (λ (row : List CallerSeen). HasAll c.in-Ok.started.0.seats (map caller_part row)) (sym (back g c))
    (has-all c.in-Ok.started.0 c.run_all-is_whole.new.row c.run_all-is_whole.new.daemon (numbered g c) (omega (arith, count, first, at, stays)) (omega (arith, seats, long, count, first)))

pub returns-clause-played : goal.returns-clause-played
returns-clause-played g c =
    let at = (goal.at.returns-clause-played g c).After-closing_law in
    let st = c.requires.started in
    let k = c.in-Ok.started.0 in
    let kernel = c.in-Ok.ensures.kernel.1 in
    let H = c.close.result.history in
    let row = c.run_all-is_whole.new.row in
    let daemon = c.run_all-is_whole.new.daemon in
    let same = st.4.count in
    let tree = same-tree c.args.plan.now st.0 st.1 st.2 st.3 c.args.state st.4 c.requires.playable k kernel in
    let rooms = same-rooms c.args.plan.now st.0 st.1 st.2 st.3 c.args.state st.4 c.requires.playable k kernel in
    let closed = subst (λ (all : List CallerSeen). IsClosed seat_of_entry history_of IsSinceOpening k.opening k.seats (map caller_part all) c.close.result) (back g at) c.close.ensures.closed in
    let free = subst (λ (all : List CallerSeen). All (λ (it : CallerSeen). it.seat.note ≡ None) all) (sym (back g at)) (all-free k 1 row daemon (numbered g at) c.run_all-is_whole.ensures.daemon.clock) in
    let kept = c.closed_law.ensures k c.args.plan.now c.close.result row (daemon ∷ []) (numbered g at) tree (ap (λ (rs : List ℕ). length rs) rooms ∙ same) closed in
    let count = (fresh g at).count ∙ same in
    let first = ready g (goal.at.returns-clause-played g c).In-Some in
    played-blocks c.args.plan.now st.0 st.1 st.2 st.3 c.args.state st.4 c.requires.playable k kernel c.close.result c.run_all-is_whole.result
    (c.close.ensures.still free)
    (λ whole. c.closing_law.ensures.whole k c.args.plan.now H c.pop.new.self.items row tree first count
    (subst (λ (b : Bool). AllEnd k b c.args.plan.now.lines c.pop.new.self.items row) whole (ends g at)) kept)
    (c.closing_law.ensures.front k c.args.plan.now H c.pop.new.self.items row c.run_all-is_whole.result tree first count (ends g at) kept)

pub returns-clause-daemon : goal.returns-clause-daemon
returns-clause-daemon g c =
    let at = (goal.at.returns-clause-daemon g c).After-closing_law in
    let count = length c.args.state.entries in
    let same : 0 + count ≡ count = omega arith in
    let turned = subst (λ (d : CallerSeen). TurnsClock c.in-Ok.started.0 d c.args.turns c.run_all-is_whole.new.daemon) (fresh g at).new c.run_all-is_whole.ensures.daemon in
    inr (record {
      kernel = c.in-Ok.started.0;
      opening = c.in-Ok.ensures.kernel.1;
      last = c.run_all-is_whole.new.daemon;
      turned = subst (λ (n : ℕ). TurnsClock c.in-Ok.started.0 (record { seat = newcomer c.in-Ok.started.0 n; process = 0 }) c.args.turns c.run_all-is_whole.new.daemon) same turned;
    })
