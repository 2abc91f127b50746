use Rattle.vm_core.proofs.Served.{no-access}
use Rattle.vm_core.proofs.state.VmState.try_call.Goals as goal

-- Another call.
pub try_other-requires-clause-other : goal.try_other-requires-clause-other
try_other-requires-clause-other g c = no-access c.args.call.now c.in_default.not-Load c.in_default.not-Store
