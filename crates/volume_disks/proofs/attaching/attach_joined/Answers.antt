use Rattle.std.specs.Prelude.{Some}
use Rattle.std.proofs.Common.{refl, sym, ◌∙◌}
use Rattle.volume_disks.specs.Singles.{single_seen}
use Rattle.volume_disks.specs.Volumes.{IsDiskFor}
use Rattle.volume_disks.specs.declared.volume_spec.VolumeSpec.TheVariants.{Joined}
use Rattle.volume_disks.proofs.VolumeLemmas.{disk_behind, unpaired, volume_made}
use Rattle.volume_disks.proofs.attaching.attach_joined.Goals as goal
use Rattle.volume_disks.proofs.attaching.attach_joined.Given.{Over}
use Rattle.volume_disks.proofs.attaching.attach_joined.Goals.{After-size_fault}

-- the two disks that were attached
first : (g : Over) (c : After-size_fault g) → IsDiskFor (single_seen g.R.D.Disk.seen) (g.R.Rack.seen c.args.rack.now).holds c.args.first.now c.in-Ok.disk
first g c = let a = c.in-Ok.ensures in record { number = a.attached.0; attached = a.attached.1; single = a.single; once = refl; unfailed = a.unfailed }

second : (g : Over) (c : After-size_fault g) → IsDiskFor (single_seen g.R.D.Disk.seen) (g.R.Rack.seen c.args.rack.now).holds c.args.second.now c.in-Ok-attach_single.disk
second g c =
    let b = c.in-Ok-attach_single.ensures in
    disk_behind (single_seen g.R.D.Disk.seen) (g.R.Rack.seen c.args.rack.now).holds (g.R.Rack.seen c.attach_single.new.rack).holds c.args.second.now c.in-Ok-attach_single.disk
    (c.attach_single.ensures.others c.args.second.now c.requires) b.attached.0 b.attached.1 b.single refl b.unfailed

pub returns-in-None-clause-ok : goal.returns-in-None-clause-ok
returns-in-None-clause-ok g c =
    let at = (goal.at.returns-in-None-clause-ok g c).After-size_fault in
    volume_made (single_seen g.R.D.Disk.seen) g.P.Pairing.pairs (g.R.Rack.seen c.args.rack.now).holds (Joined c.args.first.now c.args.second.now c.args.mirror) c.in-Ok.disk (Some c.in-Ok-attach_single.disk)
    (first g at) (c.in-Ok-attach_single.disk, refl, second g at, sym c.size_fault.ensures ∙ c.in-None.is) c.paired.result c.paired.ensures.stands c.paired.ensures.number

pub returns-in-None-clause-err : goal.returns-in-None-clause-err
returns-in-None-clause-err g c =
    let at = (goal.at.returns-in-None-clause-err g c).After-size_fault in
    unpaired (single_seen g.R.D.Disk.seen) (g.R.Rack.seen c.args.rack.now) (g.R.Rack.seen c.attach_single-2.new.rack) c.args.first.now c.args.second.now c.args.mirror c.in-Ok.disk c.in-Ok-attach_single.disk
    (first g at) (second g at) (c.in-Ok-attach_single.ensures.steady ∙ c.in-Ok.ensures.steady) (sym c.size_fault.ensures ∙ c.in-None.is) c.paired.result c.paired.ensures.back
