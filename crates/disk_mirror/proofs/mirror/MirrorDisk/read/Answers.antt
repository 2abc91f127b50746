use Rattle.std.proofs.Common.{◌≡◌, ◌∙◌, ap, sym, true, false}
use Rattle.disk_mirror.specs.MirrorSeen.{is_fresh}
use Rattle.disk_mirror.specs.MirrorLook.{mirror_look}
use Rattle.disk_mirror.proofs.MirrorLemmas.{given_reads, failed_reads, then_reads}
use Rattle.disk_mirror.proofs.mirror.MirrorDisk.read.Goals as goal

pub returns-then-read_first-clause-reads : goal.returns-then-read_first-clause-reads
returns-then-read_first-clause-reads g c =
    let m = c.args.self.now in
    given_reads g.D.Disk.seen (mirror_look m) (mirror_look c.read_first.new.self) c.args.block c.read_first.new.into m.marks_a c.requires.block c.if-read_first.ensures

pub returns-then-not-get-clause-reads : goal.returns-then-not-get-clause-reads
returns-then-not-get-clause-reads g c =
    let m = c.args.self.now in
    let none : is_fresh m.fresh_b c.args.block ≡ false = sym (c.if-not-get.ensures ∙ ap (λ marks. is_fresh marks c.args.block) c.if-read_first.ensures.marks_b) in
    failed_reads g.D.Disk.seen (mirror_look m) (mirror_look c.read_first.new.self) c.args.block c.read_first.new.into m.marks_a c.requires.block m.somewhere none c.if-read_first.ensures

pub returns-clause-reads : goal.returns-clause-reads
returns-clause-reads g c =
    let m = c.args.self.now in
    let also : is_fresh m.fresh_b c.args.block ≡ true = sym (c.if-not-get.ensures ∙ ap (λ marks. is_fresh marks c.args.block) c.if-read_first.ensures.marks_b) in
    then_reads g.D.Disk.seen (mirror_look m) (mirror_look c.read_first.new.self) c.args.block c.read_first.new.into m.marks_a c.requires.block
    c.read.new.self c.read.new.into c.read.result also m.same c.if-read_first.ensures c.read.ensures
