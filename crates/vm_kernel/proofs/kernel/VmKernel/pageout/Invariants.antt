use Rattle.std.proofs.Common.{◌≡◌, ℕ, ◌≤◌, None}
use Rattle.vm_kernel.specs.Callers.{IsCallerOf}
use Rattle.vm_kernel.specs.Tries.{AreMoves}
use Rattle.vm_kernel.specs.Turns.{CallerGoesOn, MovesHands}
use Rattle.vm_kernel.proofs.kernel.VmKernel.pageout.Given as goal

abbrev pub invariant-loop-turn : goal.invariant-loop-turn
invariant-loop-turn g l =
    IsCallerOf l.self l.caller × CallerGoesOn l.initial.caller l.caller × (l.caller.seat.own ≡ l.initial.caller.seat.own) × (l.caller.seat.note ≡ None) × ((pushes : ℕ) × (pushes ≤ l._turn) × MovesHands l.initial.caller l._turn pushes l.caller)
    × AreMoves l.self l._turn l.initial.caller.seat l.caller.seat
