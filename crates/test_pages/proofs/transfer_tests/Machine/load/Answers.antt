use Rattle.test_pages.proofs.TripLemmas.{ready_again}
use Rattle.test_pages.proofs.transfer_tests.Machine.load.Goals as goal

pub invariant_of-self : goal.invariant_of-self
invariant_of-self c = record { ready = ready_again c.args.self.now.store.bays c.load_byte.new.store.bays c.load_byte.ensures.there c.args.self.now.ready }
