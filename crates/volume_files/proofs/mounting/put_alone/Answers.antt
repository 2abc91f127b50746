use Rattle.std.proofs.Common.{◌≡◌, ◌++◌, Option, append-nil, map, subst, sym}
use Rattle.std.specs.Option.{option_to_list}
use Rattle.block_device.specs.declared.numbered.NumberedDisk.{NumberedDisk}
use Rattle.joined_disk.specs.JoinedSeen.{joined_seen}
use Rattle.stored_files.specs.Written.{numbered_seen}
use Rattle.volume_files.specs.Mounting.{volumes_seen}
use Rattle.volume_files.proofs.MountVolume.{alone_is, pushed_as}
use Rattle.volume_files.proofs.mounting.put_alone.Goals as goal

pub returns-in-Some-clause-items : goal.returns-in-Some-clause-items
returns-in-Some-clause-items g c =
    let seen = g.D.Disk.seen in
    subst (λ (o : Option (NumberedDisk _)). volumes_seen seen c.push_reserved.new.self.items ≡ volumes_seen seen c.args.disks.now.items ++ map (numbered_seen seen) (option_to_list o)) (sym c.in-Some.is)
    (pushed_as (numbered_seen (joined_seen seen)) c.args.disks.now.items c.push_reserved.new.self.items c.alone.result (numbered_seen seen c.in-Some.disk) c.push_reserved.ensures.items
    (alone_is seen c.in-Some.disk c.alone.result c.alone.ensures.stands c.alone.ensures.number))

pub returns-in-None-clause-items : goal.returns-in-None-clause-items
returns-in-None-clause-items g c =
    let seen = g.D.Disk.seen in
    subst (λ (o : Option (NumberedDisk _)). volumes_seen seen c.args.disks.now.items ≡ volumes_seen seen c.args.disks.now.items ++ map (numbered_seen seen) (option_to_list o)) (sym c.in-None.is)
    (sym (append-nil (volumes_seen seen c.args.disks.now.items)))
