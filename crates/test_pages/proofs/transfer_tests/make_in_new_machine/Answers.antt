use Rattle.test_pages.proofs.TripLemmas.{ready_still}
use Rattle.test_pages.proofs.transfer_tests.make_in_new_machine.Goals as goal

pub into_disks-disks-requires : goal.into_disks-disks-requires
into_disks-disks-requires c = ready_still c.make_all.new.machine.store.bays c.make_all.new.machine.ready
