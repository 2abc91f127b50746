use Rattle.std.proofs.Common.{◌≡◌, None, map, replicate, sym, ap, subst}
use Rattle.std.specs.List.{All}
use Rattle.kernel_lock.specs.Seats.{HasAll}
use Rattle.vm_core.specs.vm_world.State.{KernelState}
use Rattle.vm_kernel.specs.Callers.{KernelSeen, CallerSeen, IsCallerOf, caller_part}
use Rattle.vm_kernel.specs.Since.{IsSinceOpening}
use Rattle.vm_kernel.proofs.Opened.{all-parts}
use Rattle.vm_kernel.proofs.kernel.VmKernel.close.Goals as goal

pub gather_all-from-requires : goal.gather_all-from-requires
gather_all-from-requires g c = subst (λ (l : KernelSeen). All (λ (it : CallerSeen). IsCallerOf l it) c.args.callers.items) (sym c.self.view_is) c.requires.callers

pub close_gathered-requires-clause-all : goal.close_gathered-requires-clause-all
close_gathered-requires-clause-all g c =
    let here = subst (λ (l : KernelSeen). HasAll l.seats (map caller_part c.args.callers.items)) (sym c.self.view_is) c.requires.all in
    subst (HasAll c.self.inside.lock.seats) (sym (ap (λ z. z.parts) c.gather_all-from.ensures)) here

pub returns-clause-still : goal.returns-clause-still
returns-clause-still g c none =
    let parts = subst (λ ps. All (λ p. p.note ≡ None) ps) (sym (ap (λ z. z.parts) c.gather_all-from.ensures)) (all-parts c.args.callers.items none) in
    let here = c.close_gathered.ensures.empty parts in
    subst (λ (l : KernelSeen). IsSinceOpening l.opening c.into_state.result (replicate l.seats None)) c.self.view_is
    (subst (λ (s : KernelState). IsSinceOpening c.self.inside.lock.opening s (replicate c.self.inside.lock.seats None)) (sym c.into_state.ensures) here)
