use Rattle.vm_core.specs.page_store.Bays.{bay_at}
use Rattle.vm_core.proofs.kernel_close.Fills.{whole-seen}
use Rattle.run_kernel.specs.Played.{left_seen}
use Rattle.run_kernel.proofs.Leaves.{is-left, swap-seen}
use Rattle.run_kernel.proofs.Returned.{Closes}
use Rattle.run_kernel.proofs.closing.close_kernel.Given.{Over}
use Rattle.run_kernel.proofs.closing.close_kernel.Goals as goal
use Rattle.run_kernel.proofs.closing.close_kernel.Goals.{After-look_at}

closes : (g : Over) (c : After-look_at g) → Closes c.args.state (left_seen g.D.Disk.seen c.finish-finished.result)
closes g c = record {
  entries = c.finish-finished.ensures.history;
  counts = c.finish-finished.ensures.counts;
  closed = c.finish-finished.ensures.closed;
  fault = c.finish-finished.ensures.fault;
  left = c.finish-finished.ensures.left;
  marks = c.finish-finished.ensures.marks;
  disks = c.finish-finished.ensures.disks;
  swap = swap-seen g.D.Disk.seen c.finish-finished.result.swap (bay_at c.args.state.memory.world.store.bays 8) c.finish-finished.ensures.swap;
  files = c.finish-finished.ensures.files;
  whole = whole-seen g.D.Disk.seen g.met.D.Disk.has_blocks c.finish-finished.result.disks.items;
  sound = c.look_at.ensures.sound;
  few = c.look_at.ensures.few;
}

pub returns-clause-left : goal.returns-clause-left
returns-clause-left g c = λ plan F disks swap files start st played.
    let at = (goal.at.returns-clause-left g c).After-look_at in
    is-left plan F disks swap files start c.args.state c.args.is_whole (left_seen g.D.Disk.seen c.finish-finished.result) st played (closes g at)
