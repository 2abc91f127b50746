use Rattle.std.proofs.Common.{◌≡◌, ℕ, suc, ◌-◌, ◌<◌, ◌≤◌, length, Option, Some, None, Bor, sym, ap, subst, ◌∙◌, arith, length-set}
use Rattle.std.specs.Prelude.{option_map, slice_set}
use Rattle.fault_entry.specs.flat_model.Counted.{top_count}
use Rattle.fault_entry.specs.flat_model.Told.{entries_of}
use Rattle.fault_entry.specs.page_store.Out.{IsFlightOf}
use Rattle.fault_entry.specs.page_store.Transfers.{EndsTransfer}
use Rattle.fault_entry.specs.vm_types.Parts.{part_file}
use Rattle.fault_entry.specs.vm_types.declared.call.Call.{Call}
use Rattle.fault_entry.specs.vm_types.declared.call.Entry.{Entry}
use Rattle.fault_entry.specs.vm_types.declared.call.Reply.TheVariants.{Io}
use Rattle.fault_entry.specs.vm_world.EntryLaws.{LocksAfter, StartsAfter}
use Rattle.fault_entry.specs.vm_world.Events.{IsEvent}
use Rattle.fault_entry.specs.vm_world.Failures.{io_entry, with_entry_made}
use Rattle.fault_entry.specs.vm_world.State.{KernelState, Caller, room_of}
use Rattle.fault_entry.specs.vm_world.StateSteps.{after_step}
use Rattle.vm_core.specs.Flights.{IsBack, EndsWith}
use Rattle.file_calls.specs.Locks.{calls_without}
use Rattle.vm_core.proofs.Landings.{marked, marked-lands, marked-steps, quiet-end, failed-end, locks-after, starts-after, flight-out, ended, added, own-seat}
use Rattle.vm_core.proofs.state.VmState.end.Given.{Over}
use Rattle.vm_core.proofs.state.VmState.end.Goals.{After-add}
use Rattle.vm_core.proofs.state.VmState.end.Goals as goal

-- the process and call that are given
abbrev caller_in : Option (ℕ × Bor Call) → Option Caller
caller_in call = option_map (λ (x : ℕ × Bor Call). (x.0, x.1.now)) call

pub land-requires-clause-out : goal.land-requires-clause-out
land-requires-clause-out g c =
    let b = c.requires.back in
    subst (λ (x : KernelState). IsFlightOf x.memory.world.store c.args.flight) (sym c.mark_end.ensures) (flight-out b.1.0 c.args.self.now b.1.1 c.args.seat b.0 c.args.flight b.1.2 b.1.3 b.2.performed)

pub land-requires-2-clause-out : goal.land-requires-2-clause-out
land-requires-2-clause-out g c =
    let b = c.requires.back in
    subst (λ (x : KernelState). IsFlightOf x.memory.world.store c.args.flight) (sym c.mark_end.ensures) (flight-out b.1.0 c.args.self.now b.1.1 c.args.seat b.0 c.args.flight b.1.2 b.1.3 b.2.performed)

pub add-requires : goal.add-requires
add-requires g c =
    let b = c.requires.back in
    let s = c.args.self.now in
    let of : caller_in c.args.call ≡ Some (c.in-Some.process, c.in-Some.call.now) = ap caller_in c.in-Some.is in
    let caller = b.1.2.plans.sent c.args.seat b.0 (c.in-Some.process, c.in-Some.call.now) b.1.3 (b.2.same ∙ of) in
    subst (λ (x : KernelState). length (entries_of x.history c.in-Some.process) < room_of x.entries c.in-Some.process)
    (sym (c.release_file.ensures ∙ ap (λ (x : KernelState). record x { calls = calls_without c.args.seat (part_file c.in-Some.call.now) x.calls }) (marked-lands s c.mark_end.new.self c.land-2.new.self c.args.seat c.args.flight c.mark_end.ensures c.land-2.ensures.new))) caller.room

-- What is known where the entry was added.
record Failed (g : Over) (c : After-add g) : Type 0 where
  of : caller_in c.args.call ≡ Some (c.in-Some.process, c.in-Some.call.now)
  is : c.add.new.self ≡ with_entry_made (after_step (marked c.args.self.now c.args.seat c.args.flight) c.land-2.new.self.memory.world c.args.self.now.pending)
      (io_entry c.in-Some.process c.in-Some.call.now c.counts-disk.result.0 c.counts-disk.result.1 c.counts-disk.result.2 c.args.self.now.pending)
      (calls_without c.args.seat (part_file c.in-Some.call.now) c.args.self.now.calls) (slice_set c.args.self.now.syncs c.args.seat None)
  locks : LocksAfter (io_entry c.in-Some.process c.in-Some.call.now c.counts-disk.result.0 c.counts-disk.result.1 c.counts-disk.result.2 c.args.self.now.pending) c.args.self.now.calls
      (calls_without c.args.seat (part_file c.in-Some.call.now) c.args.self.now.calls)
  starts : StartsAfter (io_entry c.in-Some.process c.in-Some.call.now c.counts-disk.result.0 c.counts-disk.result.1 c.counts-disk.result.2 c.args.self.now.pending) c.args.self.now.syncs
      (slice_set c.args.self.now.syncs c.args.seat None)

failed-is : (g : Over) (c : After-add g) → Failed g c
failed-is g c =
    let b = c.requires.back in
    let s = c.args.self.now in
    let p = c.in-Some.process in
    let call = c.in-Some.call.now in
    let of : caller_in c.args.call ≡ Some (p, call) = ap caller_in c.in-Some.is in
    let caller = b.1.2.plans.sent c.args.seat b.0 (p, call) b.1.3 (b.2.same ∙ of) in
    let own : p ≡ suc c.args.seat = own-seat _ s.history s.entries c.args.seat (p, call) caller in
    let place : p - 1 ≡ c.args.seat = omega (arith, own) in
    let released = c.release_file.ensures ∙ ap (λ (x : KernelState). record x { calls = calls_without c.args.seat (part_file call) x.calls }) (marked-lands s c.mark_end.new.self c.land-2.new.self c.args.seat c.args.flight c.mark_end.ensures c.land-2.ensures.new) in
    let low : p ≤ length s.syncs = subst (λ (x : KernelState). p ≤ length x.syncs) released c.add.ensures.seated in
    let lt : c.args.seat < length s.syncs = omega (arith, own, low) in
    let made = ended (marked c.args.self.now c.args.seat c.args.flight) c.land-2.new.self c.release_file.new.self c.add.new.self c.land-2.new.self.memory.world c.args.seat p call (Io c.counts-disk.result.0 c.counts-disk.result.1 c.counts-disk.result.2) (marked-lands s c.mark_end.new.self c.land-2.new.self c.args.seat c.args.flight c.mark_end.ensures c.land-2.ensures.new) c.release_file.ensures c.add.ensures.new in
    record {
      of = of;
      is = made ∙ ap (λ (k : ℕ). with_entry_made (after_step (marked c.args.self.now c.args.seat c.args.flight) c.land-2.new.self.memory.world s.pending) (io_entry p call c.counts-disk.result.0 c.counts-disk.result.1 c.counts-disk.result.2 s.pending) (calls_without c.args.seat (part_file call) s.calls) (slice_set s.syncs k None)) place;
      locks = locks-after s.history s.calls s.syncs c.args.seat p c.counts-disk.result.0 c.counts-disk.result.1 c.counts-disk.result.2 s.pending call b.1.2.calls own (caller.follows (Io c.counts-disk.result.0 c.counts-disk.result.1 c.counts-disk.result.2) s.pending);
      starts = starts-after s.syncs c.args.seat p c.counts-disk.result.0 c.counts-disk.result.1 c.counts-disk.result.2 s.pending call own lt;
    }

pub returns-in-Some-clause-entry : goal.returns-in-Some-clause-entry
returns-in-Some-clause-entry g c =
    let i = failed-is g c in
    subst (λ (o : Option Caller). EndsWith c.args.self.now c.add.new.self o (Some (Io c.counts-disk.result.0 c.counts-disk.result.1 c.counts-disk.result.2))) (sym i.of)
    (added c.args.self.now c.add.new.self c.args.seat c.args.flight c.land-2.new.self.memory.world _ _ _ i.is i.locks i.starts)

pub returns-in-Some-clause-event : goal.returns-in-Some-clause-event
returns-in-Some-clause-event g c sent back =
    let i = failed-is g c in
    let b = c.requires.back in
    let s = c.args.self.now in
    let p = c.in-Some.process in
    let call = c.in-Some.call.now in
    let f = c.args.flight in
    let same : io_entry p call c.counts-disk.result.0 c.counts-disk.result.1 c.counts-disk.result.2 s.pending ≡ io_entry p call f.number f.before f.disk.faults s.pending =
    ap (λ (k : ℕ). io_entry p call k c.counts-disk.result.1 c.counts-disk.result.2 s.pending) c.counts-disk.ensures.number
    ∙ ap (λ (k : ℕ). io_entry p call f.number k c.counts-disk.result.2 s.pending) c.counts-disk.ensures.before
    ∙ ap (λ (k : ℕ). io_entry p call f.number f.before k s.pending) c.counts-disk.ensures.after in
    subst (λ (x : KernelState). IsEvent c.args.seat s (Some sent) x None)
    (sym (i.is ∙ ap (λ (e : Entry). with_entry_made (after_step (marked c.args.self.now c.args.seat c.args.flight) c.land-2.new.self.memory.world s.pending) e (calls_without c.args.seat (part_file call) s.calls) (slice_set s.syncs c.args.seat None)) same))
    (failed-end s c.land-2.new.self.memory.world c.args.seat f (marked-steps s c.mark_end.new.self c.land-2.new.self.memory.world c.args.seat f c.mark_end.ensures c.land-2.ensures.step) c.land-2.ensures.disk (subst (λ (n : ℕ). n ≤ top_count) c.counts-disk.ensures.after c.within_counts-2.ensures)
    b.1.0 b.1.1 b.0 p call (calls_without c.args.seat (part_file call) s.calls) (slice_set s.syncs c.args.seat None) b.1.2 b.1.3 (subst (λ (o : Option Caller). IsBack b.0 f o) i.of b.2) (c.has_failed.ensures.0 c.if-not-has_failed.false)
    (subst (λ (e : Entry). LocksAfter e s.calls (calls_without c.args.seat (part_file call) s.calls)) same i.locks) (subst (λ (e : Entry). StartsAfter e s.syncs (slice_set s.syncs c.args.seat None)) same i.starts)
    (length-set s.syncs c.args.seat None) sent (subst (λ (o : Option Caller). IsBack sent f o) i.of back))

pub returns-then-not-has_failed-clause-event : goal.returns-then-not-has_failed-clause-event
returns-then-not-has_failed-clause-event g c sent back =
    let b = c.requires.back in
    let s = c.args.self.now in
    subst (λ (x : KernelState). IsEvent c.args.seat s (Some sent) x None) (sym (marked-lands s c.mark_end.new.self c.land.new.self c.args.seat c.args.flight c.mark_end.ensures c.land.ensures.new))
    (quiet-end s c.land.new.self.memory.world c.args.seat c.args.flight (marked-steps s c.mark_end.new.self c.land.new.self.memory.world c.args.seat c.args.flight c.mark_end.ensures c.land.ensures.step) c.land.ensures.disk (subst (λ (n : ℕ). n ≤ top_count) c.counts-faults.ensures.after c.within_counts.ensures)
    b.1.0 b.1.1 b.0 b.1.2 b.1.3 b.2.performed sent back.performed)

pub returns-in-None-clause-event : goal.returns-in-None-clause-event
returns-in-None-clause-event g c sent back =
    let b = c.requires.back in
    let s = c.args.self.now in
    subst (λ (x : KernelState). IsEvent c.args.seat s (Some sent) x None) (sym (marked-lands s c.mark_end.new.self c.land-2.new.self c.args.seat c.args.flight c.mark_end.ensures c.land-2.ensures.new))
    (quiet-end s c.land-2.new.self.memory.world c.args.seat c.args.flight (marked-steps s c.mark_end.new.self c.land-2.new.self.memory.world c.args.seat c.args.flight c.mark_end.ensures c.land-2.ensures.step) c.land-2.ensures.disk (subst (λ (n : ℕ). n ≤ top_count) c.counts-disk.ensures.after c.within_counts-2.ensures)
    b.1.0 b.1.1 b.0 b.1.2 b.1.3 b.2.performed sent back.performed)

pub returns-in-Some-clause-ends : goal.returns-in-Some-clause-ends
returns-in-Some-clause-ends g c =
    let s = c.args.self.now in
    subst (λ (x : KernelState). EndsTransfer s.memory.world.store x.memory.world.store c.args.flight) (sym (failed-is g c).is)
    (subst (λ (x : KernelState). EndsTransfer x.memory.world.store c.land-2.new.self.memory.world.store c.args.flight) c.mark_end.ensures c.land-2.ensures.ends)

pub returns-in-Some-clause-tables : goal.returns-in-Some-clause-tables
returns-in-Some-clause-tables g c =
    let s = c.args.self.now in
    subst (λ (x : KernelState). x.memory.world ≡ record s.memory.world { store = x.memory.world.store }) (sym (failed-is g c).is)
    (subst (λ (x : KernelState). c.land-2.new.self.memory.world ≡ record x.memory.world { store = c.land-2.new.self.memory.world.store }) c.mark_end.ensures c.land-2.ensures.tables)
