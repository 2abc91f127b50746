use Rattle.std.proofs.Common.{◌≤◌, vec_capacity}
use Rattle.bench_kernel.specs.Calls.{AreFirstRooms}
use Rattle.bench_kernel.proofs.setup.rooms_of.Given as goal

abbrev pub invariant-loop-process : goal.invariant-loop-process
invariant-loop-process l = AreFirstRooms l.process l.entries l.rooms.items × (l.processes ≤ vec_capacity l.rooms)
