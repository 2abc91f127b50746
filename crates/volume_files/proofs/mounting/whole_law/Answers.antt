use Rattle.volume_files.proofs.mounting.whole_law.Goals as goal

pub returns : goal.returns
returns g c = g.met.D.Disk.has_blocks
