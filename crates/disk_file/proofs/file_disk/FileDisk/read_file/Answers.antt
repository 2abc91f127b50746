use Rattle.std.proofs.Common.{◌*◌}
use Rattle.disk_file.proofs.TransferLemmas.{read_reaches}
use Rattle.disk_file.proofs.file_disk.FileDisk.read_file.Goals as goal

pub invariant_of-self : goal.invariant_of-self
invariant_of-self g c =
    let d = c.args.self.now in
    record { within = read_reaches (g.F.BlockFile.bytes d.file) _ c.offset_of.result (4096 * d.blocks) _ _ c.read_at.ensures d.within }
