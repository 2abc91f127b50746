use Rattle.std.proofs.Common.{ap}
use Rattle.bench_tables.proofs.visits.visit.Goals as goal

pub leave-requires-clause-moves : goal.leave-requires-clause-moves
leave-requires-clause-moves g c = (c.in-Some.state, ap (λ v. v.state) c.in-Some.ensures.inside, tt)
