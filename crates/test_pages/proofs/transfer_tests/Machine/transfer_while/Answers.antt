use Rattle.test_pages.proofs.TripLemmas.{ready_again}
use Rattle.test_pages.proofs.transfer_tests.Machine.transfer_while.Goals as goal

pub invariant_of-self : goal.invariant_of-self
invariant_of-self c = record { ready = ready_again c.args.self.now.store.bays c.transfer_while.new.store.bays c.transfer_while.ensures.there c.args.self.now.ready }
