use Rattle.std.specs.Prelude.{◌≡◌}
use Rattle.std.proofs.Common.{map}
use Rattle.stored_files.specs.Written.{infos_made}
use Rattle.stored_files.specs.Showing.{FilesSoFar}
use Rattle.stored_files.specs.Uncut.{counts_of}
use Rattle.stored_files.proofs.showing.show_files.Given as goal

abbrev pub invariant-loop-file : goal.invariant-loop-file
invariant-loop-file g l = record {
  so_far : FilesSoFar l.heading (infos_made l.files) l.file (g.K.Sink.seen l.fn.out) (g.K.Sink.seen l.out) (map g.P.PageDisk.numbered l.fn.disks) (map g.P.PageDisk.numbered l.disks);
  steady : (g.K.Sink.seen l.out).faults ≡ (g.K.Sink.seen l.fn.out).faults;
  failures : counts_of (map g.P.PageDisk.numbered l.disks) ≡ counts_of (map g.P.PageDisk.numbered l.fn.disks);
}
