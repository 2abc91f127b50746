use Rattle.test_files.proofs.LaneLemmas.{driven-on}
use Rattle.test_files.proofs.lanes.Driven.drive.Goals as goal

pub drive-requires-clause-fits : goal.drive-requires-clause-fits
drive-requires-clause-fits c = c.self.invariant.fits

pub drive-requires-clause-seats : goal.drive-requires-clause-seats
drive-requires-clause-seats c = c.self.invariant.own

pub drive-requires-clause-may : goal.drive-requires-clause-may
drive-requires-clause-may c = c.self.invariant.may

pub invariant_of-self : goal.invariant_of-self
invariant_of-self c = driven-on c.self.inside.state c.drive.new.state c.self.inside.lanes c.drive.new.lanes c.self.invariant c.drive.ensures.fits c.drive.ensures.seats c.drive.ensures.may

pub invariant_of-self-2 : goal.invariant_of-self-2
invariant_of-self-2 c = driven-on c.self.inside.state c.drive.new.state c.self.inside.lanes c.drive.new.lanes c.self.invariant c.drive.ensures.fits c.drive.ensures.seats c.drive.ensures.may
