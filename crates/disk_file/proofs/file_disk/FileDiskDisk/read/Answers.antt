use Rattle.std.proofs.Common.{◌*◌, ◌∙◌, ap, refl, arith}
use Rattle.std.specs.Prelude.{is_err}
use Rattle.disk_file.specs.FileDiskLook.{file_disk_seen}
use Rattle.disk_file.specs.FileDiskSeen.{FileDiskSeen, after_transfer}
use Rattle.disk_file.proofs.TransferLemmas.{reads}
use Rattle.disk_file.proofs.file_disk.FileDiskDisk.read.Goals as goal

pub returns-clause-reads : goal.returns-clause-reads
returns-clause-reads g c =
    let asked = c.read_file-moved in
    reads (file_disk_seen c.args.self.now) (file_disk_seen c.settle.new.self) (file_disk_seen asked.new.self).bytes c.args.block (4096 * c.args.block) _ _ c.settle.result
    refl c.requires.block (let kept = asked.auto.into in let full = c.requires.size in omega (arith, kept, full)) asked.ensures.reads c.settle.ensures.whole
    (c.settle.ensures.new ∙ ap (λ (d : FileDiskSeen). after_transfer d (is_err c.settle.result)) asked.ensures.rest)

pub returns-clause-file : goal.returns-clause-file
returns-clause-file g c = ap (λ (d : FileDiskSeen). d.bytes) c.settle.ensures.new ∙ c.read_file-moved.ensures.reads.kept
