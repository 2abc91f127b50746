use Rattle.std.proofs.Common.{◌≡◌, None}
use Rattle.vm_kernel.specs.Callers.{IsCallerOf}
use Rattle.vm_kernel.specs.Tries.{IsAllFor}
use Rattle.vm_kernel.specs.Turns.{CallerGoesOn, IsForCall}
use Rattle.vm_kernel.proofs.kernel.VmKernel.call_by_turns.Given as goal

abbrev pub invariant-loop : goal.invariant-loop
invariant-loop g l =
    IsCallerOf l.self l.caller × CallerGoesOn l.initial.caller l.caller × (l.caller.seat.own ≡ l.initial.caller.seat.own) × IsForCall l.initial.caller.process l.call l.caller.seat.note × (l.reply ≡ None) × IsAllFor l.self l.initial.caller l.call l.caller
