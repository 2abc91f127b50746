use Rattle.test_threads.proofs.Trials.{rooms-are}
use Rattle.test_threads.proofs.trial.begin.Goals as goal

pub start-requires-clause-rooms : goal.start-requires-clause-rooms
start-requires-clause-rooms g c = rooms-are c.args.state.entries c.requires.entries
