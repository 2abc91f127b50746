use Rattle.test_files.proofs.lanes.Driven.new.Goals as goal

pub invariant_of-result : goal.invariant_of-result
invariant_of-result c = c.in_ok-lanes.ensures
