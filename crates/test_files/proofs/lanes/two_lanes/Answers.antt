use Rattle.std.proofs.Common.{subst}
use Rattle.lane_driver.specs.Lanes.{AreLaneCalls}
use Rattle.test_files.specs.Lanes.{MayBeLane}
use Rattle.test_files.proofs.LaneLemmas.{two-lanes}
use Rattle.test_files.proofs.lanes.two_lanes.Goals as goal

pub new-requires-2-clause-calls : goal.new-requires-2-clause-calls
new-requires-2-clause-calls c = subst AreLaneCalls c.as_slice.ensures.value (c.may_make.ensures c.if-not-may_make.false).made

pub new-requires-3-clause-calls : goal.new-requires-3-clause-calls
new-requires-3-clause-calls c = subst AreLaneCalls c.as_slice-else-not-may_make.ensures.value (c.may_make-else-not-may_make.ensures c.if-not-may_make-2.false).made

pub returns : goal.returns
returns c = two-lanes c.args.state.now c.requires.0 _ _ c.new-2.result c.new-3.result c.requires.1 c.new-2.ensures.lane c.new-3.ensures.lane
    (subst (MayBeLane c.args.state.now 0) c.as_slice.ensures.value (c.may_make.ensures c.if-not-may_make.false))
    (subst (MayBeLane c.args.state.now 1) c.as_slice-else-not-may_make.ensures.value (c.may_make-else-not-may_make.ensures c.if-not-may_make-2.false))
