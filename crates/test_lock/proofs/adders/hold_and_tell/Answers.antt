use Rattle.test_lock.proofs.adders.hold_and_tell.Goals as goal

pub add-requires-clause-out : goal.add-requires-clause-out
add-requires-clause-out g c = c.loop.invariant.0

pub add-requires-clause-held : goal.add-requires-clause-held
add-requires-clause-held g c = c.loop.invariant.2
