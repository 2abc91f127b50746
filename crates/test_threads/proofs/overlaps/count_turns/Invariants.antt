use Rattle.test_threads.specs.Workers.{IsWorkerAt}
use Rattle.test_threads.proofs.overlaps.count_turns.Given as goal

abbrev pub invariant-loop-turns : goal.invariant-loop-turns
invariant-loop-turns g l = IsWorkerAt l.kernel l.initial.worker.caller.seat.number l.worker
