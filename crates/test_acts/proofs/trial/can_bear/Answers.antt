use Rattle.std.proofs.Common.{sym, subst}
use Rattle.seg_ops.specs.vm_world.Events.{MayBear}
use Rattle.lane_driver.proofs.MayGo.{bears-none}
use Rattle.test_acts.proofs.trial.can_bear.Goals as goal

pub returns-in-Fork : goal.returns-in-Fork
returns-in-Fork c is = subst (MayBear c.args.state.now c.args.process) (sym c.in-Fork.is) (c.may_bear.ensures.0 is)

pub returns-in_default : goal.returns-in_default
returns-in_default c is = bears-none c.args.state.now c.args.process c.args.call.now c.in_default.not-Fork
