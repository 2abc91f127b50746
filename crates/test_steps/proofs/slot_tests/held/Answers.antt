use Rattle.std.proofs.Common.{sym, ◌∙◌}
use Rattle.seg_ops.proofs.vm_world.Counts.{held-used, used-below}
use Rattle.test_steps.proofs.slot_tests.held.Goals as goal

pub count-requires : goal.count-requires
count-requires c = used-below c.args.world.now.anon.counts c.in_ok-slot.slot (held-used c.args.world.now.anon c.args.world.now.maps c.args.map c.args.place c.in_ok-slot.slot c.requires.fits.memory.counts (sym c.get.ensures ∙ c.in_ok-slot.was))
