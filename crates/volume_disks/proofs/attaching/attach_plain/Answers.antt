use Rattle.std.specs.Prelude.{None, Ok}
use Rattle.std.proofs.Common.{refl}
use Rattle.volume_disks.specs.Singles.{single_seen}
use Rattle.volume_disks.specs.declared.volume_spec.VolumeSpec.TheVariants.{Plain}
use Rattle.volume_disks.proofs.VolumeLemmas.{volume_made}
use Rattle.volume_disks.proofs.attaching.attach_plain.Goals as goal

pub returns-in-Ok-clause-ok : goal.returns-in-Ok-clause-ok
returns-in-Ok-clause-ok g c =
    let o = c.in-Ok.ensures in
    volume_made {E = Unit {0}} (single_seen g.R.D.Disk.seen) g.P.Pairing.pairs (g.R.Rack.seen c.args.rack.now).holds (Plain c.args.spec.now) c.in-Ok.disk None
    (record { number = o.attached.0; attached = o.attached.1; single = o.single; once = refl; unfailed = o.unfailed }) refl (Ok c.alone.result) c.alone.ensures.stands c.alone.ensures.number
