use Rattle.test_lock.proofs.adders.wait_for_sum.Goals as goal

pub look-there-requires-clause-out : goal.look-there-requires-clause-out
look-there-requires-clause-out g c = c.loop.invariant.0

pub look-there-requires-clause-held : goal.look-there-requires-clause-held
look-there-requires-clause-held g c = c.loop.invariant.2
