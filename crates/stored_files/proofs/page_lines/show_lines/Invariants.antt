use Rattle.std.specs.Prelude.{◌≡◌}
use Rattle.block_device.specs.DiskSeen.{failures_told}
use Rattle.stored_files.specs.Showing.{LinesSoFar, shown_info}
use Rattle.stored_files.proofs.page_lines.show_lines.Given as goal

abbrev pub invariant-loop-page : goal.invariant-loop-page
invariant-loop-page g l = record {
  so_far : LinesSoFar (shown_info l.files l.file) l.page (g.K.Sink.seen l.fn.out) (g.K.Sink.seen l.out) (g.P.PageDisk.numbered l.fn.disk) (g.P.PageDisk.numbered l.disk);
  steady : (g.K.Sink.seen l.out).faults ≡ (g.K.Sink.seen l.fn.out).faults;
  failures : failures_told (g.P.PageDisk.numbered l.disk).1 ≡ failures_told (g.P.PageDisk.numbered l.fn.disk).1;
}
