use Rattle.std.proofs.Common.{ℕ, List, length, ◌+◌, ◌*◌, ◌≤◌, arith}
use Rattle.disk_file.proofs.TransferLemmas.{if_told, write_reaches}
use Rattle.disk_file.proofs.file_disk.FileDisk.write_file.Goals as goal

pub write_at-requires : goal.write_at-requires
write_at-requires g c =
    let d = c.args.self.now in
    if_told (λ (all : List ℕ). c.offset_of.result + length c.args.from.now ≤ length all) (g.F.BlockFile.bytes d.file)
    (λ all is. let long = d.within all is in let inside = c.requires.block in let full = c.requires.size in let at = c.offset_of.ensures in omega (arith, long, inside, full, at))

pub invariant_of-self : goal.invariant_of-self
invariant_of-self g c =
    let d = c.args.self.now in
    record {
      within = write_reaches (g.F.BlockFile.bytes d.file) _ c.offset_of.result (4096 * d.blocks) _ _ c.write_at.ensures
          (let inside = c.requires.block in let full = c.requires.size in let at = c.offset_of.ensures in omega (arith, inside, full, at)) d.within;
    }
