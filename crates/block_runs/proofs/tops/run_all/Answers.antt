use Rattle.std.proofs.Common.{rules}
use Rattle.block_runs.proofs.KernelCalls.{turned-none}
use Rattle.block_runs.proofs.tops.run_all.Goals as goal

pub join_mut-whole-requires-after_bounds : goal.join_mut-whole-requires-after_bounds
join_mut-whole-requires-after_bounds g c κs within =
    let raw = c.requires-raw in
    let ready = c.requires.blocks in
    let clock = c.requires.daemon in
    (((search (rules, raw.1.1.1.0, raw.1.1.1.0.owned, raw.1.1.1.0.leaving, raw.1.1.1.1.0, raw.1.1.1.1.1.0, raw.1.1.1.1.1.1), search (rules, raw.1.1.1.0, raw.1.1.1.0.owned, raw.1.1.1.0.leaving, raw.1.1.1.1.0, raw.1.1.1.1.1.0, raw.1.1.1.1.1.1), search (rules, raw.1.1.1.0, raw.1.1.1.0.owned, raw.1.1.1.0.leaving, raw.1.1.1.1.0, raw.1.1.1.1.1.0, raw.1.1.1.1.1.1), ready), (search (rules, raw.1.1.1.0, raw.1.1.1.0.owned, raw.1.1.1.0.leaving, raw.1.1.1.1.0, raw.1.1.1.1.1.0, raw.1.1.1.1.1.1), search (rules, raw.1.1.1.0, raw.1.1.1.0.owned, raw.1.1.1.0.leaving, raw.1.1.1.1.0, raw.1.1.1.1.1.0, raw.1.1.1.1.1.1), search (rules, raw.1.1.1.0, raw.1.1.1.0.owned, raw.1.1.1.0.leaving, raw.1.1.1.1.0, raw.1.1.1.1.1.0, raw.1.1.1.1.1.1))), (search (rules, raw.1.1.1.0, raw.1.1.1.0.owned, raw.1.1.1.0.leaving, raw.1.1.1.1.0, raw.1.1.1.1.1.0, raw.1.1.1.1.1.1), search (rules, raw.1.1.1.0, raw.1.1.1.0.owned, raw.1.1.1.0.leaving, raw.1.1.1.1.0, raw.1.1.1.1.1.0, raw.1.1.1.1.1.1), search (rules, raw.1.1.1.0, raw.1.1.1.0.owned, raw.1.1.1.0.leaving, raw.1.1.1.1.0, raw.1.1.1.1.1.0, raw.1.1.1.1.1.1), clock))

-- no turn was asked for
pub returns-then-turns-eq0-clause-daemon : goal.returns-then-turns-eq0-clause-daemon
returns-then-turns-eq0-clause-daemon g c = turned-none (g.K.Calls.kernel c.args.kernel.now) c.args.daemon.now c.args.turns c.if-turns-eq0.true c.requires.daemon
