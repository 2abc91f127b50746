use Rattle.block_device.specs.Counts.{HasRisen}
use Rattle.disk_mirror.specs.MirrorLook.{mirror_look}
use Rattle.disk_mirror.proofs.MirrorLemmas.{each_writes, first_failed, second_failed}
use Rattle.disk_mirror.proofs.mirror.MirrorDisk.write.Goals as goal

pub returns-clause-writes : goal.returns-clause-writes
returns-clause-writes g c =
    let m = c.args.self.now in
    let law = g.met.D.Disk.has_blocks in
    let outcomes = c.write_each-on_a.result in
    each_writes g.D.Disk.seen (mirror_look m) (mirror_look c.write_each-on_a.new.self) c.args.block c.args.from.now outcomes.0 outcomes.1 c.answer_of.result
    (law m.a) (law m.b) m.equal m.marks_a c.requires.block c.answer_of.ensures c.write_each-on_a.ensures

pub returns-clause-both : goal.returns-clause-both
returns-clause-both g c =
    let seen = g.D.Disk.seen in
    let old = mirror_look c.args.self.now in
    let new = mirror_look c.write_each-on_a.new.self in
    let each = c.write_each-on_a.ensures in
    let outcomes = c.write_each-on_a.result in
    record {
      on_a = outcomes.0;
      on_b = outcomes.1;
      each = each;
      answer = c.answer_of.ensures;
      failed_a = first_failed (HasRisen (seen old.a).faults (seen new.a).faults) outcomes.0 outcomes.1 c.answer_of.result c.answer_of.ensures each.wrote_a.cause.failed;
      failed_b = second_failed (HasRisen (seen old.b).faults (seen new.b).faults) outcomes.0 outcomes.1 c.answer_of.result c.answer_of.ensures each.wrote_b.cause.failed;
    }
