use Rattle.std.proofs.Common.{inl, inr, refl, ◌∙◌}
use Rattle.page_store.specs.Bays.{pairs_seen}
use Rattle.volume_files.proofs.DiskLists.{have-written}
use Rattle.volume_files.proofs.stored_files.WrittenTexts.{wrote_nothing}
use Rattle.run_report.proofs.closed_files.report.Goals as goal

pub show_report-requires-clause-disks : goal.show_report-requires-clause-disks
show_report-requires-clause-disks g c =
    have-written c.args.files.now (pairs_seen g.D.Disk.seen c.args.disks.now) (pairs_seen g.D.Disk.seen c.write_tables.new.disks) c.write_tables.ensures.keeps c.requires.disks

pub returns-in-Err-Fault-clause-ends : goal.returns-in-Err-Fault-clause-ends
returns-in-Err-Fault-clause-ends g c = inr (inl (record {
  fault = c.in-Err-Fault.fault;
  counted = (rw c.in-Err-Fault.field-0-is at c.in-Err-Fault.ensures.stop).0;
  writes = c.write_tables.ensures.keeps;
  tables = (rw c.in-Err-Fault.field-0-is at c.in-Err-Fault.ensures.stop).1;
  ends = c.tell_fault.ensures.ends;
}))

pub returns-in-Err-Memory-clause-ends : goal.returns-in-Err-Memory-clause-ends
returns-in-Err-Memory-clause-ends g c = inr (inr (record {
  memory = refl;
  writes = c.write_tables.ensures.keeps;
  tables = inl (rw c.in-Err-Memory.field-0-is at c.in-Err-Memory.ensures.stop);
  wrote = wrote_nothing (g.K.Sink.seen c.args.out.now);
}))

pub returns-in-Ok-clause-ends : goal.returns-in-Ok-clause-ends
returns-in-Ok-clause-ends g c = inl (record {
  mid = pairs_seen g.D.Disk.seen c.write_tables.new.disks;
  writes = c.write_tables.ensures.keeps;
  tables = c.in-Ok.ensures.tables;
  reads = c.show_report.ensures.reads;
  uncounted = λ quiet. c.show_report.ensures.uncounted quiet ∙ c.in-Ok.ensures.uncounted;
  ends = c.show_report.ensures.ends;
})
