use Rattle.test_threads.specs.Workers.{IsWorkerAt}
use Rattle.test_threads.proofs.overlaps.call_all.Given as goal

abbrev pub invariant-loop-place : goal.invariant-loop-place
invariant-loop-place g l = IsWorkerAt l.kernel l.initial.worker.caller.seat.number l.worker
