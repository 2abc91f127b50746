use Rattle.std.proofs.Common.{◌≡◌, ◌≤◌, ℕ, List, length, Option, Some, None, refl, sym, ap, ◌∙◌, subst}
use Rattle.std.specs.Prelude.{IsSome}
use Rattle.std.specs.FinMap as finite
use Rattle.fault_entry.proofs.flat_model.Maps.{on_err_any}
use Rattle.proc_calls.specs.Forks.{IsCountedFork, IsForked}
use Rattle.fault_entry.specs.vm_world.FlatMemory.{Memory}
use Rattle.fault_entry.specs.vm_world.MemoryFits.{MemoryFits}
use Rattle.fault_entry.specs.vm_world.Segments.{Spaces}
use Rattle.fault_entry.specs.vm_world.Serving.{ModifiesNone}
use Rattle.fault_entry.specs.vm_world.State.{KernelState, process_parent}
use Rattle.fault_entry.specs.vm_world.World.{world_seen}
use Rattle.fault_entry.specs.vm_world.declared.sync_start.SyncStart.{SyncStart}
use Rattle.vm_core.proofs.Forked.{ChildPlaces, child-places, count-starts, forked-as, kept-forked}
use Rattle.vm_core.proofs.Served.{same-again}
use Rattle.vm_core.proofs.state.VmState.bear.Given.{Over}
use Rattle.vm_core.proofs.state.VmState.bear.Goals.{After-fork}
use Rattle.vm_core.proofs.state.VmState.bear.Goals as goal

pub fork-requires : goal.fork-requires
fork-requires g c =
    let k = child-places c.self.inside.parents.items c.self.inside.spaces.processes (length c.self.inside.born.items) (length c.self.inside.syncs) c.args.child c.args.process c.self.invariant.1 (subst (λ (s : KernelState). process_parent s.parents c.args.child ≡ Some c.args.process) (sym c.self.view_is) c.requires.number) in
    record {
      fits = subst (λ (s : KernelState). MemoryFits s.memory) (sym c.self.view_is) c.requires.fits;
      zeros = c.self.invariant.0.known;
      alive = subst (λ (s : KernelState). IsSome (finite.get s.memory.spaces c.args.process)) (sym c.self.view_is) c.requires.alive;
      absent = subst (λ (s : KernelState). finite.get s.memory.spaces c.args.child ≡ None) (sym c.self.view_is) c.requires.absent;
      number = (k.first, k.space);
    }

-- where the child has its places
placed : (g : Over) (c : After-fork g) → ChildPlaces c.args.child c.self.inside.spaces.processes (length c.self.inside.born.items) (length c.self.inside.syncs)
placed g c =
    child-places c.self.inside.parents.items c.self.inside.spaces.processes (length c.self.inside.born.items) (length c.self.inside.syncs) c.args.child c.args.process c.self.invariant.1
    (subst (λ (s : KernelState). process_parent s.parents c.args.child ≡ Some c.args.process) (sym c.self.view_is) c.requires.number)

abbrev before : (g : Over) (c : After-fork g) → Memory
before g c = record { world = world_seen c.self.inside.world; spaces = c.self.inside.spaces.spaces }

abbrev after : (g : Over) (c : After-fork g) → Memory
after g c = record { world = world_seen c.fork.new.world; spaces = c.fork.new.spaces.spaces }

-- a Fork leaves the store and the pending tails as they were
same-store : (g : Over) (c : After-fork g) → c.fork.new.world.store ≡ c.self.inside.world.store
same-store g c = ap (λ w. w.store) {y = record c.self.inside.world { anon = c.fork.new.world.anon; maps = c.fork.new.world.maps; hat = c.fork.new.world.hat }} c.fork.ensures.rest

same-tails : (g : Over) (c : After-fork g) → c.fork.new.world.pending ≡ c.self.inside.world.pending
same-tails g c = ap (λ w. w.pending) {y = record c.self.inside.world { anon = c.fork.new.world.anon; maps = c.fork.new.world.maps; hat = c.fork.new.world.hat }} c.fork.ensures.rest

pub note_birth-requires : goal.note_birth-requires
note_birth-requires g c = let k = placed g (goal.at.note_birth-requires g c).After-fork in record { first = k.first; marks = k.mark; seats = k.seat }

pub invariant_of-self : goal.invariant_of-self
invariant_of-self g c =
    let p = (goal.at.invariant_of-self g c).After-fork in
    kept-forked (before g p) (after g p) c.self.inside.world.zeros c.fork.new.world.zeros _ c.self.inside.parents.items c.self.inside.spaces.processes (length c.self.inside.born.items) (length c.self.inside.syncs) c.fork.new.spaces.processes (length c.self.inside.born.items) (length c.self.inside.syncs) c.self.invariant c.fork.ensures.zeros (same-store g p)
    c.fork.ensures.processes refl refl

pub invariant_of-self-2 : goal.invariant_of-self-2
invariant_of-self-2 g c =
    let p = (goal.at.invariant_of-self-2 g c).After-fork in
    kept-forked (before g p) (after g p) c.self.inside.world.zeros c.fork.new.world.zeros _ c.self.inside.parents.items c.self.inside.spaces.processes (length c.self.inside.born.items) (length c.self.inside.syncs) c.fork.new.spaces.processes (length c.note_birth.new.born.items) (length c.note_birth.new.syncs) c.self.invariant c.fork.ensures.zeros (same-store g p)
    c.fork.ensures.processes c.note_birth.ensures.marks (ap (λ (l : List (Option SyncStart)). length l) c.note_birth.ensures.syncs ∙ count-starts c.self.inside.syncs c.args.child c.in_ok-reply.reply)

modified : (g : Over) (c : After-fork g) → ModifiesNone c.args.self.now.memory.world (after g c).world
modified g c = subst (λ (s : KernelState). ModifiesNone s.memory.world (world_seen c.fork.new.world)) c.self.view_is c.fork.ensures.modified

seated : (g : Over) (c : After-fork g) → c.args.child ≤ length c.args.self.now.syncs
seated g c = subst (λ (s : KernelState). c.args.child ≤ length s.syncs) c.self.view_is (placed g c).seat

pub returns : goal.returns
returns g c =
    let p = (goal.at.returns g c).After-fork in
    record {
      done = subst (λ (s : KernelState). IsForked s.memory (after g p) c.args.process c.args.child c.in_ok-reply.reply) c.self.view_is c.in_ok-reply.ensures.done;
      counted = subst (λ (s : KernelState). IsCountedFork s.memory (after g p).world.anon.counts c.args.process c.in_ok-reply.reply) c.self.view_is c.in_ok-reply.ensures.counted;
      modified = modified g p;
      placed = seated g p;
      rest = forked-as _ c.args.self.now (after g p) c.args.child c.fork.new.world.pending c.in_ok-reply.reply _ c.note_birth.new.syncs c.self.view_is c.note_birth.ensures.born (same-tails g p) c.note_birth.ensures.syncs;
      err = tt;
    }

pub returns-in_err-reply-clause-modified : goal.returns-in_err-reply-clause-modified
returns-in_err-reply-clause-modified g c = modified g (goal.at.returns-in_err-reply-clause-modified g c).After-fork

pub returns-in_err-reply-clause-placed : goal.returns-in_err-reply-clause-placed
returns-in_err-reply-clause-placed g c = seated g (goal.at.returns-in_err-reply-clause-placed g c).After-fork

pub returns-in_err-reply-clause-err : goal.returns-in_err-reply-clause-err
returns-in_err-reply-clause-err g c =
    let p = (goal.at.returns-in_err-reply-clause-err g c).After-fork in
    let e = c.in_err-reply.ensures.err in
    on_err_any c.from_residual.result _ (same-again _ c.args.self.now (after g p) c.fork.new.world.pending c.self.view_is
    (ap (λ w. record { world = world_seen w; spaces = c.fork.new.spaces.spaces }) e.0 ∙ ap (λ (x : Spaces). record { world = world_seen c.self.inside.world; spaces = x }) e.1)
    (ap (λ w. w.pending) e.0))
