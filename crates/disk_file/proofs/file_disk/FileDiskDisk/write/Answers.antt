use Rattle.std.proofs.Common.{◌*◌, ◌∙◌, ap, refl, arith}
use Rattle.std.specs.Prelude.{is_err}
use Rattle.disk_file.specs.FileDiskLook.{file_disk_seen}
use Rattle.disk_file.specs.FileDiskSeen.{FileDiskSeen, after_transfer}
use Rattle.disk_file.proofs.TransferLemmas.{puts_piece, writes}
use Rattle.disk_file.proofs.file_disk.FileDiskDisk.write.Goals as goal

pub returns-clause-writes : goal.returns-clause-writes
returns-clause-writes g c =
    let asked = c.write_file-moved in
    writes (file_disk_seen c.args.self.now) (file_disk_seen c.settle.new.self) (file_disk_seen asked.new.self).bytes c.args.block (4096 * c.args.block) _ _ c.settle.result
    refl c.requires.block c.requires.size c.args.self.now.within (g.met.F.BlockFile.are_bytes asked.new.self.file) asked.ensures.writes c.settle.ensures.whole
    (c.settle.ensures.new ∙ ap (λ (d : FileDiskSeen). after_transfer d (is_err c.settle.result)) asked.ensures.rest)

pub returns-clause-file : goal.returns-clause-file
returns-clause-file g c =
    let asked = c.write_file-moved in
    let put = puts_piece (file_disk_seen c.args.self.now).bytes (file_disk_seen asked.new.self).bytes (4096 * c.args.block) _ _ asked.ensures.writes in
    (put.0, (let short = put.1 in let full = c.requires.size in omega (arith, short, full)), ap (λ (d : FileDiskSeen). d.bytes) c.settle.ensures.new ∙ put.2)
