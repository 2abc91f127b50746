use Rattle.volume_files.proofs.DiskCounts.{count-handed}
use Rattle.run_opening.proofs.ready.stop_untraced.Goals as goal

pub returns-clause-count : goal.returns-clause-count
returns-clause-count g c =
    count-handed g.D.Disk.seen c.args.attached.disks.items c.args.attached.swap c.into_disks.result.items c.into_swap.result c.into_disks.ensures c.into_swap.ensures
