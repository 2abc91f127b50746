use Rattle.test_pages.proofs.TripLemmas.{ready_again}
use Rattle.test_pages.proofs.transfer_tests.Machine.push.Goals as goal

pub invariant_of-self : goal.invariant_of-self
invariant_of-self c = record { ready = ready_again c.args.self.now.store.bays c.push_out.new.store.bays c.push_out.ensures.there c.args.self.now.ready }
