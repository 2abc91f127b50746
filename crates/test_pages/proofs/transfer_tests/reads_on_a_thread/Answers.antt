use Rattle.test_pages.proofs.transfer_tests.reads_on_a_thread.Goals as goal

pub ready-requires : goal.ready-requires
ready-requires g c = (c.requires.there c.in-Some.place.disk c.in-Some.place.block c.in-Some.ensures.0 c.in-Some.ensures.1).there

pub read_on_a_thread-requires-clause-there : goal.read_on_a_thread-requires-clause-there
read_on_a_thread-requires-clause-there g c = c.requires.there c.in-Some.place.disk c.in-Some.place.block c.in-Some.ensures.0 c.in-Some.ensures.1
